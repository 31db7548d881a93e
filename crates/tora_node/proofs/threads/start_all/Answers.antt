use Rattle.std.proofs.Common.{◌∙◌, ◌++◌, sym, ap}
use Rattle.std.specs.Prelude.{map}
use Rattle.std.specs.Vec.Iter.{into_iter_items}
use Rattle.tora_node.specs.Threads.{begun_by}
use Rattle.tora_node.proofs.Lists.{gone_over, made_over}
use Rattle.tora_node.proofs.threads.start_all.Goals as goal

pub loop-task-init : goal.loop-task-init
loop-task-init g c = ap (λ l. map begun_by l ++ into_iter_items c.into_iter-task-iterator.result) c.requires

pub loop-task-preserved : goal.loop-task-preserved
loop-task-preserved g c =
    let same = ap (λ p. p.0.value) c.in-Ok.ensures.ok ∙ c.of.ensures in
    let more = made_over begun_by c.loop-task.handles.items c.in-Ok.handle (into_iter_items c.loop-task.task-iterator) (into_iter_items c.next.new.self) c.in-Some.task _ c.in-Some.ensures.steps.0 same c.loop-task.invariant in
    ap (λ l. map begun_by l ++ into_iter_items c.next.new.self) c.in-Ok-push.ensures.items ∙ more

pub returns : goal.returns
returns g c =
    let at = c.loop-task in
    let left = sym at.task-iterator.rest.ok.0 ∙ c.in-None.ensures.steps.0 in
    gone_over (map begun_by at.handles.items) (into_iter_items at.task-iterator) c.args.tasks.items left (at.invariant ∙ c.into_iter-task-iterator.ensures.into_iter_gives.0)
