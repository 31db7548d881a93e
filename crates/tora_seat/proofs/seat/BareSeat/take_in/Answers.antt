use Rattle.std.proofs.Common.{ap, length, sym, ◌∙◌}
use Rattle.tora_seat.specs.Serving.{after_settling}
use Rattle.tora_seat.specs.Rows.{SeatView, serving_at}
use Rattle.tora_seat.proofs.Steps.{input_goes, seat_still, settling_done}
use Rattle.tora_seat.proofs.Marks.{settled_step}
use Rattle.tora_seat.proofs.seat.BareSeat.take_in.Goals as goal

pub note_settled-requires : goal.note_settled-requires
note_settled-requires g c =
    settled_step c.step-is_quiet.result c.args.input.now c.args.self.now c.step-is_quiet.new.self c.step-is_quiet.ensures.quietly c.if-is_quiet.true c.step-is_quiet.ensures.goes.same (c.requires.settled c.if-is_settled.true)

pub returns-then-is_settled-clause-goes : goal.returns-then-is_settled-clause-goes
returns-then-is_settled-clause-goes g c =
    let d = g.O.OutLanes.did_offer in
    let now = c.args.now in
    let new = c.step-is_quiet.new.self in
    let none = settled_step c.step-is_quiet.result c.args.input.now c.args.self.now new c.step-is_quiet.ensures.quietly c.if-is_quiet.true c.step-is_quiet.ensures.goes.same (c.requires.settled c.if-is_settled.true) in
    input_goes d c.args.input.now now c.args.self.now c.args.outs.now new c.step-is_quiet.new.outs c.note_settled.new.self c.step-is_quiet.new.outs c.step-is_quiet.ensures.goes
    (seat_still d (λ answers ks. after_settling (length ks) answers ks now) now new c.step-is_quiet.new.outs c.note_settled.new.self (ap (λ (x : SeatView). x.core.neighbours) c.note_settled.ensures)
    (λ answers before. settling_done (length new.core.neighbours) answers new.core.neighbours now (serving_at now new before) none ∙ ap (λ x. serving_at now x before) (sym c.note_settled.ensures)))

pub returns-else-is_quiet-clause-goes : goal.returns-else-is_quiet-clause-goes
returns-else-is_quiet-clause-goes g c =
    input_goes g.O.OutLanes.did_offer c.args.input.now c.args.now c.args.self.now c.args.outs.now c.step-is_quiet.new.self c.step-is_quiet.new.outs c.settle.new.self c.settle.new.outs
    c.step-is_quiet.ensures.goes c.settle.ensures.goes
