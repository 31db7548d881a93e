use Rattle.std.proofs.Common.{◌≡◌, take}
use Rattle.tora_script.specs.Marks.{with_marks}
use Rattle.tora_script.proofs.world_simulator.put_marks.Given as goal

abbrev pub invariant-loop-mark : goal.invariant-loop-mark
invariant-loop-mark l = l.topology ≡ with_marks l.initial.topology (take l.mark-index l.marks)
