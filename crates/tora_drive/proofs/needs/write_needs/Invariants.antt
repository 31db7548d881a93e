use Rattle.std.proofs.Common.{◌≡◌, ◌++◌, string_bytes, take}
use Rattle.tora_drive.specs.DriveText.{needs_text}
use Rattle.tora_drive.proofs.needs.write_needs.Given as goal

abbrev pub invariant-loop-n : goal.invariant-loop-n
invariant-loop-n g l = string_bytes l.out ≡ string_bytes l.initial.out ++ needs_text (g.S.Simulator.world l.sim) (take l.n-index l.nodes) l.dests
