use Rattle.std.proofs.Common.{◌≡◌, ◌++◌, string_bytes, take}
use Rattle.std.specs.List.{flat_map}
use Rattle.tora_drive.specs.DriveText.{need_line}
use Rattle.tora_drive.proofs.needs.write_needs_of.Given as goal

abbrev pub invariant-loop-d : goal.invariant-loop-d
invariant-loop-d g l = string_bytes l.out ≡ string_bytes l.initial.out ++ flat_map (need_line (g.S.Simulator.world l.sim) l.n) (take l.d-index l.dests)
