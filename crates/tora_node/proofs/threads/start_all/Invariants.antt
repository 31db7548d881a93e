use Rattle.std.proofs.Common.{◌≡◌, ◌++◌}
use Rattle.std.specs.Prelude.{map}
use Rattle.std.specs.Vec.Iter.{into_iter_items}
use Rattle.tora_node.specs.Threads.{begun_by}
use Rattle.tora_node.proofs.threads.start_all.Given as goal

abbrev pub invariant-loop-task : goal.invariant-loop-task
invariant-loop-task g l = map begun_by l.handles.items ++ into_iter_items l.task-iterator ≡ into_iter_items l.initial.task-iterator
