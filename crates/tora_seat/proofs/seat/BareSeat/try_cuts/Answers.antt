use Rattle.std.proofs.Common.{◌≡◌, false, refl, sym, ap, ◌∙◌, arith}
use Rattle.std.proofs.lemmas.List.{with_items_is}
use Rattle.tora_seat.specs.Serving.{after_cuts_tried}
use Rattle.tora_seat.specs.Rows.{SeatView, any_pending, serving_at}
use Rattle.tora_seat.proofs.Marks.{none_pending, cuts_none}
use Rattle.tora_seat.proofs.Steps.{seat_from, seat_still, rows_goes}
use Rattle.tora_seat.proofs.seat.BareSeat.try_cuts.Goals as goal

pub returns-then-self-clause-goes : goal.returns-then-self-clause-goes
returns-then-self-clause-goes g c =
    let i = c.self.inside in
    let s : SeatView = record { core = i.core; rows = i.rows.items; inputs = i.inputs.items; stepped = i.stepped; answer = i.answer } in
    seat_from g.O.OutLanes.did_offer after_cuts_tried c.args.now s _ c.args.outs.now _ c.try_cuts-self-inside.new.outs c.self.view_is
    (rows_goes g.O.OutLanes.did_offer after_cuts_tried c.args.now s c.args.outs.now c.deref_mut.result.now _ c.try_cuts-self-inside.new.rows c.try_cuts-self-inside.new.outs c.self.invariant.neighbours c.deref_mut.ensures.value
    (with_items_is i.rows c.try_cuts-self-inside.new.rows (omega (arith, c.try_cuts-self-inside.auto.rows, c.deref_mut.ensures.len))) c.try_cuts-self-inside.ensures.goes)

pub returns-else-self-clause-goes : goal.returns-else-self-clause-goes
returns-else-self-clause-goes g c =
    let s = c.args.self.now in
    let none : any_pending s.rows ≡ false = ap (λ (x : SeatView). any_pending x.rows) (sym c.self.view_is) ∙ c.self.invariant.none_pending c.if-self.false in
    seat_still g.O.OutLanes.did_offer after_cuts_tried c.args.now s c.args.outs.now s refl (λ answers before. cuts_none answers s.core.neighbours (serving_at c.args.now s before) (none_pending s.rows none))
