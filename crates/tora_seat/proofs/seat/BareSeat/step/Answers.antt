use Rattle.std.proofs.Common.{inl, is_some, ap, sym, ◌∙◌, arith}
use Rattle.std.proofs.lemmas.List.{with_items_is}
use Rattle.tora_seat.specs.Serving.{after_step}
use Rattle.tora_seat.specs.Rows.{SeatView}
use Rattle.tora_core.specs.CoreRun.{CoreView, refusal_of}
use Rattle.tora_core.proofs.AfterInputs.{same-neighbours}
use Rattle.tora_seat.proofs.Steps.{seat_from, not_refused, is_refused, step_took, step_refused}
use Rattle.tora_seat.proofs.Marks.{steps_quietly}
use Rattle.tora_seat.proofs.seat.BareSeat.step.Goals as goal

pub returns-in-Ok-clause-goes : goal.returns-in-Ok-clause-goes
returns-in-Ok-clause-goes g c =
    let i = c.self.inside in
    let input = c.args.input.now in
    let now = c.args.now in
    let s : SeatView = record { core = i.core; rows = i.rows.items; inputs = i.inputs.items; stepped = i.stepped; answer = i.answer } in
    seat_from g.O.OutLanes.did_offer (λ answers ks. after_step answers ks input now) now s _ c.args.outs.now _ c.broadcast_all-is_over.new.outs c.self.view_is
    (step_took g.O.OutLanes.did_offer input now s c.args.outs.now c.broadcast_all-is_over.new.outs c.step_into.new.self c.deref_mut.result.now _ c.broadcast_all-is_over.new.rows _ c.as_slice.result.now
    (not_refused _ _ c.in-Ok.ensures.refused) c.in-Ok.ensures.core (ap (λ (x : CoreView). x.neighbours) c.in-Ok.ensures.core ∙ same-neighbours i.core input now)
    (c.as_slice.ensures.value ∙ c.in-Ok.ensures.sends) c.deref_mut.ensures.value
    (with_items_is i.rows c.broadcast_all-is_over.new.rows (omega (arith, c.broadcast_all-is_over.auto.rows, c.deref_mut.ensures.len)))
    c.push_reserved.ensures.items c.self.invariant.neighbours c.broadcast_all-is_over.ensures.goes)

pub returns-in-Err-clause-goes : goal.returns-in-Err-clause-goes
returns-in-Err-clause-goes g c =
    let i = c.self.inside in
    let input = c.args.input.now in
    let now = c.args.now in
    let s : SeatView = record { core = i.core; rows = i.rows.items; inputs = i.inputs.items; stepped = i.stepped; answer = i.answer } in
    seat_from g.O.OutLanes.did_offer (λ answers ks. after_step answers ks input now) now s _ c.args.outs.now _ c.args.outs.now c.self.view_is
    (step_refused g.O.OutLanes.did_offer input now s c.args.outs.now c.step_into.new.self c.in-Err.error (is_refused _ _ c.in-Err.error c.in-Err.ensures.refused) c.in-Err.ensures.unchanged)

pub returns-in-Ok-clause-quietly : goal.returns-in-Ok-clause-quietly
returns-in-Ok-clause-quietly g c =
    let i = c.self.inside in
    let input = c.args.input.now in
    let now = c.args.now in
    let s : SeatView = record { core = i.core; rows = i.rows.items; inputs = i.inputs.items; stepped = i.stepped; answer = i.answer } in
    steps_quietly c.broadcast_all-is_over.result input now s c.args.self.now c.step_into.new.self c.deref_mut.result.now _ c.broadcast_all-is_over.new.rows _ c.self.view_is
    (not_refused _ _ c.in-Ok.ensures.refused) c.in-Ok.ensures.core c.deref_mut.ensures.value
    (with_items_is i.rows c.broadcast_all-is_over.new.rows (omega (arith, c.broadcast_all-is_over.auto.rows, c.deref_mut.ensures.len)))
    c.broadcast_all-is_over.ensures.ends

pub returns-in-Err-clause-quietly : goal.returns-in-Err-clause-quietly
returns-in-Err-clause-quietly g c =
    inl (ap (λ (x : SeatView). is_some (refusal_of x.core c.args.input.now)) (sym c.self.view_is) ∙ ap is_some (is_refused _ _ c.in-Err.error c.in-Err.ensures.refused))
