use Rattle.std.proofs.Common.{◌++◌, ◌∷◌, [], List, sym, subst}
use Rattle.std.specs.Vec.Iter.{into_iter_items}
use Rattle.tora_node.specs.Threads.{Each, begun_by}
use Rattle.tora_node.proofs.Lists.{each_more}
use Rattle.tora_node.proofs.Runs.{one_more}
use Rattle.tora_node.proofs.threads.join_all.Goals as goal

pub loop-handle-preserved : goal.loop-handle-preserved
loop-handle-preserved g c =
    let was = c.loop-handle.invariant in
    let task = begun_by c.in-Some.handle in (
      was.0 ++ task ∷ [],
      one_more begun_by was.0 (into_iter_items c.loop-handle.handle-iterator) (into_iter_items c.next.new.self) c.in-Some.handle _ c.in-Some.ensures.steps.0 was.1,
      subst (λ (l : List _). Each g.T.Task.leaves (was.0 ++ task ∷ []) l) (sym c.in-Ok.ensures.items)
          (each_more g.T.Task.leaves was.0 c.loop-handle.rests.items task c.join-rest.result was.2 c.join-rest.ensures),
    )
