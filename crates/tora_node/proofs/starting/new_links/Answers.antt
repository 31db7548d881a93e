use Rattle.std.proofs.Common.{◌∙◌, ◌++◌, ◌∷◌, [], length, refl, sym, ap, subst, arith}
use Rattle.std.specs.Prelude.{map}
use Rattle.std.specs.Vec.Iter.{into_iter_items}
use Rattle.tora_node.specs.LinkRuns.{link_ended, link_made, wire_made, OpenedOn}
use Rattle.tora_node.specs.NewLinks.{IsOpened}
use Rattle.tora_node.specs.Threads.{Each}
use Rattle.tora_node.proofs.Lists.{each_more, goes_over, gone_over, made_over}
use Rattle.tora_node.proofs.Openings.{life_failed}
use Rattle.tora_node.proofs.Runs.{all_done, did_not_open}
use Rattle.tora_node.proofs.starting.new_links.Goals as goal

pub loop-new-init : goal.loop-new-init
loop-new-init g c =
    let none = c.new-links.ensures.items in
    let ends = c.into_iter-new-iterator.ensures.into_iter_gives.0 in
    let long = c.into_iter-new-iterator.result.rest.ok.0 in
    record {
      disks = c.into_iter-disks.result.rest.ok.0 ∙ ap length c.into_iter-disks.ensures.rest ∙ c.requires.disks ∙ sym (ap length ends) ∙ sym long;
      wires = c.into_iter-wires.result.rest.ok.0 ∙ ap length c.into_iter-wires.ensures.rest ∙ c.requires.wires ∙ sym (ap length ends) ∙ sym long;
      made = ap (λ l. map link_made l ++ map link_ended (into_iter_items c.into_iter-new-iterator.result)) none;
      opened = ([], subst (λ l. Each (OpenedOn {disk = g.D.Disk} {wire = g.W.Wire} (IsOpened g.D.Disk.syncs g.D.Disk.reads g.D.Disk.writes)) [] l) (sym none) tt, refl);
      wired = ap (λ l. map wire_made l ++ into_iter_items c.into_iter-wires.result) none;
    }

pub loop-new-preserved : goal.loop-new-preserved
loop-new-preserved g c =
    let h = c.loop-new.invariant in
    let links = c.loop-new.links.items in
    let link = c.in-Ok.link in
    let one = c.in-Ok.ensures.made in
    let more = c.in-Ok-push.ensures.items in
    let a = c.in-Some.ensures.steps in
    let b = c.in-Some-next.ensures.cases in
    let w = c.in-Some-next-2.ensures.cases in
    record {
      disks = omega (arith, a.1, b.1, h.disks);
      wires = omega (arith, a.1, w.1, h.wires);
      made =
          ap (λ l. map link_made l ++ map link_ended (into_iter_items c.next.new.self)) more
          ∙ made_over link_made links link (map link_ended (into_iter_items c.loop-new.new-iterator)) (map link_ended (into_iter_items c.next.new.self)) (link_ended c.in-Some.new) _ (ap (map link_ended) a.0) one.0 h.made;
      opened = (
        h.opened.0 ++ c.in-Some-next.disk ∷ [],
        subst (λ l. Each (OpenedOn {disk = g.D.Disk} {wire = g.W.Wire} (IsOpened g.D.Disk.syncs g.D.Disk.reads g.D.Disk.writes)) (h.opened.0 ++ c.in-Some-next.disk ∷ []) l) (sym more)
            (each_more (OpenedOn {disk = g.D.Disk} {wire = g.W.Wire} (IsOpened g.D.Disk.syncs g.D.Disk.reads g.D.Disk.writes)) h.opened.0 links c.in-Some-next.disk link h.opened.1 one.2),
        goes_over h.opened.0 (into_iter_items c.loop-new.disks) (into_iter_items c.next-in-loop-new.new.self) c.in-Some-next.disk _ b.0 h.opened.2,
      );
      wired =
          ap (λ l. map wire_made l ++ into_iter_items c.next-in-loop-new-2.new.self) more
          ∙ made_over wire_made links link (into_iter_items c.loop-new.wires) (into_iter_items c.next-in-loop-new-2.new.self) c.in-Some-next-2.wire _ w.0 one.1 h.wired;
    }

pub returns-in-Err-clause-fault : goal.returns-in-Err-clause-fault
returns-in-Err-clause-fault g c =
    let at = c.loop-new in
    let done = map link_made at.links.items in
    let made = at.invariant.made ∙ ap (map link_ended) c.into_iter-new-iterator.ensures.into_iter_gives.0 in (
      length done,
      link_ended c.in-Some.new,
      did_not_open link_ended done (into_iter_items at.new-iterator) (into_iter_items c.next.new.self) c.in-Some.new (map link_ended c.args.ends.items) c.in-Some.ensures.steps.0 made,
      sym c.peer-peer.ensures.peer,
    )

pub returns-in-Err-clause-failed : goal.returns-in-Err-clause-failed
returns-in-Err-clause-failed g c =
    let at = c.loop-new in
    let o = at.invariant.opened in
    let links = at.invariant.made ∙ ap (map link_ended) c.into_iter-new-iterator.ensures.into_iter_gives.0 in
    let disks = o.2 ∙ c.into_iter-disks.ensures.rest in
    life_failed (IsOpened g.D.Disk.syncs g.D.Disk.reads g.D.Disk.writes) o.0 at.links.items o.1 (into_iter_items at.disks) _ c.in-Some-next.disk c.args.disks.items c.in-Some-next.ensures.cases.0 disks
    (map link_ended (into_iter_items at.new-iterator)) (map link_ended (into_iter_items c.next.new.self)) (link_ended c.in-Some.new) (map link_ended c.args.ends.items) (ap (map link_ended) c.in-Some.ensures.steps.0) links
    _ _ (sym c.peer-peer.ensures.peer) c.in-Err.ensures.failed

pub returns-clause-made : goal.returns-clause-made
returns-clause-made g c =
    let at = c.loop-new in
    let made = at.invariant.made ∙ ap (map link_ended) c.into_iter-new-iterator.ensures.into_iter_gives.0 in
    all_done link_ended (map link_made at.links.items) (into_iter_items at.new-iterator) (map link_ended c.args.ends.items) (sym at.new-iterator.rest.ok.0 ∙ c.in-None.ensures.steps.0) made

pub returns-clause-wired : goal.returns-clause-wired
returns-clause-wired g c =
    let at = c.loop-new in
    gone_over (map wire_made at.links.items) (into_iter_items at.wires) _ (sym at.wires.rest.ok.0 ∙ at.invariant.wires ∙ c.in-None.ensures.steps.0) at.invariant.wired ∙ c.into_iter-wires.ensures.rest

pub returns-clause-opened : goal.returns-clause-opened
returns-clause-opened g c =
    let at = c.loop-new in
    let o = at.invariant.opened in
    let all = gone_over o.0 (into_iter_items at.disks) _ (sym at.disks.rest.ok.0 ∙ at.invariant.disks ∙ c.in-None.ensures.steps.0) o.2 ∙ c.into_iter-disks.ensures.rest in
    subst (λ ds. Each (OpenedOn {disk = g.D.Disk} {wire = g.W.Wire} (IsOpened g.D.Disk.syncs g.D.Disk.reads g.D.Disk.writes)) ds at.links.items) all o.1
