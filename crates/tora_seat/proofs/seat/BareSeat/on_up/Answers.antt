use Rattle.std.proofs.Common.{Some, [], ap}
use Rattle.tora_core.specs.declared.Input.TheVariants as In
use Rattle.tora_seat.specs.Serving.{Serving, with_current, after_input, after_old_down, after_up}
use Rattle.tora_seat.specs.Rows.{SeatView}
use Rattle.tora_seat.proofs.Steps.{seat_still, seat_then}
use Rattle.tora_seat.proofs.Marks.{settled_up}
use Rattle.tora_seat.proofs.seat.BareSeat.on_up.Goals as goal

pub take_in-requires-clause-settled : goal.take_in-requires-clause-settled
take_in-requires-clause-settled g c = λ e.
    settled_up c.on_old_end.new.self c.set_current.new.self c.args.peer.id c.args.life c.set_current.ensures.rest (ap (λ (v : Serving). v.seat.current) (c.set_current.ensures.set c.args.now [])) (c.is_settled-is_settled.ensures e)

pub returns-clause-goes : goal.returns-clause-goes
returns-clause-goes g c =
    let k = c.args.peer.id in
    let life = c.args.life in
    let now = c.args.now in
    let d = g.O.OutLanes.did_offer in
    let a = c.on_old_end.new.self in
    let outs = c.on_old_end.new.outs in
    seat_then d (λ answers ks v. after_old_down answers ks k now v (v.seat.current k)) (λ answers ks. after_up answers ks k life now) now c.args.self.now c.args.outs.now a outs c.take_in.new.self c.take_in.new.outs
    c.on_old_end.ensures.goes
    (seat_then d (λ answers ks v. with_current v k (Some life)) (λ answers ks. after_input answers ks (In.LinkUp k) now) now a outs c.set_current.new.self outs c.take_in.new.self c.take_in.new.outs
    (seat_still d (λ answers ks v. with_current v k (Some life)) now a outs c.set_current.new.self (ap (λ (x : SeatView). x.core.neighbours) c.set_current.ensures.rest) (λ answers before. c.set_current.ensures.set now before))
    c.take_in.ensures.goes)
