use Rattle.std.proofs.Common.{◌≡◌, ◌++◌, List}
use Rattle.std.specs.Prelude.{map}
use Rattle.std.specs.Vec.Iter.{into_iter_items}
use Rattle.tora_node.specs.Threads.{Each, begun_by}
use Rattle.tora_node.proofs.threads.join_all.Given as goal

abbrev pub invariant-loop-handle : goal.invariant-loop-handle
invariant-loop-handle g l =
    (done : List _) × (done ++ map begun_by (into_iter_items l.handle-iterator) ≡ map begun_by (into_iter_items l.initial.handle-iterator)) × Each g.T.Task.leaves done l.rests.items
