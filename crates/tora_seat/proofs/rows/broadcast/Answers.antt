use Rattle.std.proofs.Common.{◌≡◌, ◌+◌, ◌<◌, suc, length, set, None, ap, subst, ◌∙◌, arith}
use Rattle.tora_core.specs.Numbers.{has_repeat}
use Rattle.tora_seat.specs.Serving.{after_broadcast}
use Rattle.tora_seat.specs.declared.rows.LinkRow.{LinkRow}
use Rattle.tora_seat.proofs.Goings.{Going, sent_of, sent_at, sents_cons, sents_nil, going_more, going_all}
use Rattle.tora_seat.proofs.Marks.{ends_more, ends_row}
use Rattle.tora_seat.proofs.rows.broadcast.Goals as goal

pub loop-place-preserved : goal.loop-place-preserved
loop-place-preserved g c =
    let h = c.loop-place.invariant in
    let i = c.loop-place.place in
    let rows = c.loop-place.rows in
    let d : LinkRow = record { neighbour = 0; current = None; pending = None } in
    let lt : i < length rows = omega (arith, c.loop-place.auto.rows, c.loop-place-test.true) in
    let one : suc i ≡ i + 1 = omega arith in record {
      same_count = c.send-is_over.ensures.count ∙ h.same_count;
      going = subst (λ j. Going g.O.OutLanes.did_offer (λ answers ks. after_broadcast answers c.args.packet.now ks) c.args.rows.now c.args.outs.now j (set rows i c.send-is_over.new.row) c.send-is_over.new.outs) one
          (going_more g.O.OutLanes.did_offer (λ answers ks. after_broadcast answers c.args.packet.now ks) (sent_of c.args.packet.now) (sents_cons c.args.packet.now) c.args.rows.now c.args.outs.now i rows c.loop-place.outs (set rows i c.send-is_over.new.row) c.send-is_over.new.outs d lt h.going
          (sent_at g.O.OutLanes.did_offer c.args.packet.now rows i d c.loop-place.outs c.send-is_over.new.row c.send-is_over.new.outs lt (ap has_repeat h.going.same ∙ c.requires.different) c.send-is_over.ensures.sends));
      ends = ends_more c.loop-place.is_over c.send-is_over.result c.args.rows.now rows (set rows i c.send-is_over.new.row) h.ends (ends_row c.send-is_over.result rows i d c.send-is_over.new.row lt c.send-is_over.ensures.ends);
    }

pub returns-clause-goes : goal.returns-clause-goes
returns-clause-goes g c =
    let at_end : c.loop-place.place ≡ length c.args.rows.now = omega (arith, c.loop-place.auto.place-end, c.loop-place.auto.rows, c.loop-place-test.false) in
    going_all g.O.OutLanes.did_offer (λ answers ks. after_broadcast answers c.args.packet.now ks) (sents_nil c.args.packet.now) c.args.rows.now c.args.outs.now c.loop-place.place c.loop-place.rows c.loop-place.outs at_end c.loop-place.invariant.going
