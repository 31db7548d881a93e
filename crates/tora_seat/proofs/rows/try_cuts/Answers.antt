use Rattle.std.proofs.Common.{◌≡◌, ◌+◌, ◌<◌, ◌||◌, suc, length, take, set, None, ap, sym, subst, ◌∙◌, arith}
use Rattle.std.specs.Prelude.{is_some}
use Rattle.tora_core.specs.Numbers.{has_repeat}
use Rattle.tora_seat.specs.Serving.{after_cuts_tried}
use Rattle.tora_seat.specs.declared.rows.LinkRow.{LinkRow}
use Rattle.tora_seat.proofs.Goings.{Going, cut_of, cut_at, cuts_cons, cuts_nil, going_more, going_all}
use Rattle.tora_seat.specs.Rows.{any_pending}
use Rattle.tora_seat.proofs.Marks.{left_more, left_all}
use Rattle.tora_seat.proofs.rows.try_cuts.Goals as goal

pub loop-place-preserved : goal.loop-place-preserved
loop-place-preserved g c =
    let h = c.loop-place.invariant in
    let i = c.loop-place.place in
    let rows = c.loop-place.rows in
    let d : LinkRow = record { neighbour = 0; current = None; pending = None } in
    let lt : i < length rows = omega (arith, c.loop-place.auto.rows, c.loop-place-test.true) in
    let one : suc i ≡ i + 1 = omega arith in record {
      same_count = c.try_cut.ensures.count ∙ h.same_count;
      going = subst (λ j. Going g.O.OutLanes.did_offer after_cuts_tried c.args.rows.now c.args.outs.now j (set rows i c.try_cut.new.row) c.try_cut.new.outs) one
          (going_more g.O.OutLanes.did_offer after_cuts_tried cut_of cuts_cons c.args.rows.now c.args.outs.now i rows c.loop-place.outs (set rows i c.try_cut.new.row) c.try_cut.new.outs d lt h.going
          (cut_at g.O.OutLanes.did_offer rows i d c.loop-place.outs c.try_cut.new.row c.try_cut.new.outs lt (ap has_repeat h.going.same ∙ c.requires.different) c.try_cut.ensures.tries));
      left = ap (λ b. c.loop-place.is_left || b) c.is_some-is_left.ensures ∙ ap (λ b. b || is_some c.try_cut.new.row.pending) h.left ∙ sym (left_more rows i c.try_cut.new.row lt)
          ∙ ap (λ n. any_pending (take n (set rows i c.try_cut.new.row))) one;
    }

pub returns-clause-goes : goal.returns-clause-goes
returns-clause-goes g c =
    let at_end : c.loop-place.place ≡ length c.args.rows.now = omega (arith, c.loop-place.auto.place-end, c.loop-place.auto.rows, c.loop-place-test.false) in
    going_all g.O.OutLanes.did_offer after_cuts_tried cuts_nil c.args.rows.now c.args.outs.now c.loop-place.place c.loop-place.rows c.loop-place.outs at_end c.loop-place.invariant.going

pub returns-clause-left : goal.returns-clause-left
returns-clause-left g c =
    let rows = c.loop-place.rows in
    let at_end : c.loop-place.place ≡ length rows = omega (arith, c.loop-place.auto.place-end, c.loop-place.auto.rows, c.loop-place-test.false) in
    c.loop-place.invariant.left ∙ ap (λ n. any_pending (take n rows)) at_end ∙ left_all rows
