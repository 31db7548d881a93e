use Rattle.std.proofs.Common.{◌≡◌, ◌∙◌, ◌++◌, ◌∷◌, [], List, refl, sym, ap, subst, arith}
use Rattle.std.specs.Vec.Iter.{into_iter_items}
use Rattle.tora_lane.specs.LaneRule.{items_of}
use Rattle.tora_lane.specs.Out.{SendEnd}
use Rattle.tora_lane.specs.Ports.{CoreEnd}
use Rattle.tora_node.specs.declared.link_task.LinkRest.{LinkRest}
use Rattle.tora_node.specs.declared.link_task.Outcome.{Outcome}
use Rattle.tora_node.specs.Threads.{Each, HasEnds, IsSettled, outcome_of}
use Rattle.tora_node.proofs.Lists.{each_long, each_more, goes_over, map_more}
use Rattle.tora_node.proofs.settle.settle_links.Goals as goal

pub loop-rest-init : goal.loop-rest-init
loop-rest-init c =
    let links = c.into_iter-rest-iterator.ensures.into_iter_gives.0 in
    let outs = c.into_iter-outs.ensures.rest in
    let ends : Each (HasEnds c.args.port.now.lane) (into_iter_items c.into_iter-rest-iterator.result) (into_iter_items c.into_iter-outs.result) =
    subst (λ (p : List LinkRest × List SendEnd). Each (HasEnds c.args.port.now.lane) p.0 p.1) (λ i. (sym links i, sym outs i)) c.requires.ends in
    record {
      left = c.into_iter-outs.result.rest.ok.0 ∙ sym (each_long _ _ _ ends) ∙ sym c.into_iter-rest-iterator.result.rest.ok.0;
      same = refl;
      ends = ends;
      done = ([], [], refl, refl, tt, c.requires.new);
    }

pub loop-rest-preserved : goal.loop-rest-preserved
loop-rest-preserved c =
    let h = c.loop-rest.invariant in
    let d = h.done in
    let x = c.in-Some.rest in
    let out = c.in-Some-next.out in
    let a = c.in-Some.ensures.steps in
    let b = c.in-Some-next.ensures.cases in
    let s = c.settle.ensures.settled in
    let w = c.settle_out.ensures in
    let ends : Each (HasEnds c.args.port.now.lane) (x ∷ into_iter_items c.next.new.self) (out ∷ into_iter_items c.next-in-loop-rest.new.self) =
    subst (λ (p : List LinkRest × List SendEnd). Each (HasEnds c.args.port.now.lane) p.0 p.1) (λ i. (a.0 i, b.0 i)) h.ends in
    let one : IsSettled c.args.port.now.taken x out = (s.0, subst (λ (p : CoreEnd). items_of x.hub.port.seat p.taken ++ s.0 ≡ x.hub.port.put) h.same s.1, w.0, w.1) in
    record {
      left = omega (arith, a.1, b.1, h.left);
      same = c.settle.ensures.same ∙ h.same;
      ends = ends.1;
      done = (
        d.0 ++ x ∷ [],
        d.1 ++ out ∷ [],
        goes_over d.0 (into_iter_items c.loop-rest.rest-iterator) (into_iter_items c.next.new.self) x _ a.0 d.2,
        goes_over d.1 (into_iter_items c.loop-rest.outs) (into_iter_items c.next-in-loop-rest.new.self) out _ b.0 d.3,
        each_more (IsSettled c.args.port.now.taken) d.0 d.1 x out d.4 one,
        c.in-Ok.ensures.items ∙ ap (λ (l : List Outcome). l ++ x.outcome ∷ []) d.5 ∙ sym (map_more outcome_of d.0 x),
      );
    }
