use Rattle.std.proofs.Common.{◌≡◌, ◌++◌, take}
use Rattle.tora_drive.specs.Records.{routes_at}
use Rattle.tora_drive.proofs.records.put_routes.Given as goal

abbrev pub invariant-loop-d : goal.invariant-loop-d
invariant-loop-d g l = l.routes.items ≡ l.initial.routes.items ++ routes_at (g.S.Simulator.world l.sim) (take l.d-index l.dests) l.n
