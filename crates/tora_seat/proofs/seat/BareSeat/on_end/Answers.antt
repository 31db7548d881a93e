use Rattle.std.proofs.Common.{None, [], ap}
use Rattle.tora_core.specs.declared.Input.TheVariants as In
use Rattle.tora_seat.specs.Serving.{Serving, with_current, after_input}
use Rattle.tora_seat.specs.Rows.{SeatView}
use Rattle.tora_seat.proofs.Steps.{seat_still, seat_then}
use Rattle.tora_seat.proofs.Marks.{settled_down}
use Rattle.tora_seat.proofs.seat.BareSeat.on_end.Goals as goal

pub take_in-requires-clause-settled : goal.take_in-requires-clause-settled
take_in-requires-clause-settled g c = λ e.
    settled_down c.args.self.now c.set_current.new.self c.args.peer.id c.set_current.ensures.rest (ap (λ (v : Serving). v.seat.current) (c.set_current.ensures.set c.args.now [])) (c.is_settled-is_settled.ensures e)

pub returns-clause-goes : goal.returns-clause-goes
returns-clause-goes g c =
    let k = c.args.peer.id in
    let now = c.args.now in
    seat_then g.O.OutLanes.did_offer (λ answers ks v. with_current v k None) (λ answers ks. after_input answers ks (In.LinkDown k) now) now c.args.self.now c.args.outs.now c.set_current.new.self c.args.outs.now c.take_in.new.self c.take_in.new.outs
    (seat_still g.O.OutLanes.did_offer (λ answers ks v. with_current v k None) now c.args.self.now c.args.outs.now c.set_current.new.self (ap (λ (x : SeatView). x.core.neighbours) c.set_current.ensures.rest) (λ answers before. c.set_current.ensures.set now before))
    c.take_in.ensures.goes
