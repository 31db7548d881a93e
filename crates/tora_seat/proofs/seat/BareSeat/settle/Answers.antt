use Rattle.std.proofs.Common.{◌≡◌, ◌<◌, length, ap, sym, ◌∙◌, subst, arith}
use Rattle.tora_seat.specs.Serving.{after_settling}
use Rattle.tora_seat.specs.Rows.{SeatView}
use Rattle.tora_seat.specs.Bodies.{SeatGoes}
use Rattle.tora_seat.proofs.Steps.{rounds_more, rounds_done, rounds_all}
use Rattle.tora_seat.proofs.seat.BareSeat.settle.Goals as goal

pub returns-in-None-clause-goes : goal.returns-in-None-clause-goes
returns-in-None-clause-goes g c =
    subst (λ x. SeatGoes g.O.OutLanes.did_offer (λ answers ks. after_settling (length ks) answers ks c.args.now) c.args.now c.args.self.now c.args.outs.now x c.loop-round.outs) (sym c.note_settled.ensures)
    (rounds_done g.O.OutLanes.did_offer c.args.now c.args.self.now c.args.outs.now c.loop-round._round c.loop-round.self c.loop-round.outs (sym c.first_cut.ensures ∙ c.in-None.is) c.loop-round.invariant.rounds)

pub loop-round-preserved : goal.loop-round-preserved
loop-round-preserved g c =
    let h = c.loop-round.invariant in
    let most : length c.neighbours-most.result.now ≡ length c.args.self.now.core.neighbours = ap length c.neighbours-most.ensures ∙ ap (λ (x : SeatView). length x.core.neighbours) c.self.view_is in
    let lt : c.loop-round._round < length c.args.self.now.core.neighbours = omega (arith, c.loop-round-test.true, most) in record {
      same_count = c.step.ensures.count ∙ h.same_count;
      few = omega (arith, c.step.ensures.stepped, h.few);
      rounds = rounds_more g.O.OutLanes.did_offer c.args.now c.args.self.now c.args.outs.now c.loop-round._round c.loop-round.self c.loop-round.outs c.step.new.self c.step.new.outs c.in-Some.k lt (sym c.first_cut.ensures ∙ c.in-Some.is) h.rounds c.step.ensures.goes;
    }

pub returns-clause-goes : goal.returns-clause-goes
returns-clause-goes g c =
    let most : length c.neighbours-most.result.now ≡ length c.args.self.now.core.neighbours = ap length c.neighbours-most.ensures ∙ ap (λ (x : SeatView). length x.core.neighbours) c.self.view_is in
    let at_end : c.loop-round._round ≡ length c.args.self.now.core.neighbours = omega (arith, c.loop-round-test.false, c.loop-round.auto._round-end, most) in
    rounds_all g.O.OutLanes.did_offer c.args.now c.args.self.now c.args.outs.now c.loop-round._round c.loop-round.self c.loop-round.outs at_end c.loop-round.invariant.rounds
