use Rattle.std.proofs.Common.{◌≡◌, take}
use Rattle.tora_drive.specs.Records.{routes_of}
use Rattle.tora_drive.proofs.records.routes.Given as goal

abbrev pub invariant-loop-n : goal.invariant-loop-n
invariant-loop-n g l = l.routes.items ≡ routes_of (g.S.Simulator.world l.sim) (take l.n-index l.nodes) l.dests
