use Rattle.std.proofs.Common.{true, true≢false}
use Rattle.tora_seat.specs.Rows.{SeatView}
use Rattle.tora_seat.proofs.Seats.{forget_seat, seat_set, forget_serves}
use Rattle.tora_seat.proofs.seat.BareSeat.set_pending.Goals as goal

pub invariant_of-self : goal.invariant_of-self
invariant_of-self c =
    let i = c.self.inside in
    let s : SeatView = record { core = i.core; rows = i.rows.items; inputs = i.inputs.items; stepped = i.stepped; answer = i.answer } in
    seat_set i.core i.rows.items _ _ _ _ true c.self.invariant (forget_seat s c.args.self.now c.args.place c.args.k _ c.index_mut-row.result.now c.args.life c.self.view_is c.self.invariant c.requires c.index_mut-row.ensures.value)
    (λ e. absurd (true≢false e))

pub returns-clause-set : goal.returns-clause-set
returns-clause-set c =
    let i = c.self.inside in
    let s : SeatView = record { core = i.core; rows = i.rows.items; inputs = i.inputs.items; stepped = i.stepped; answer = i.answer } in
    forget_serves s c.args.self.now _ c.args.k c.args.life c.self.view_is (forget_seat s c.args.self.now c.args.place c.args.k _ c.index_mut-row.result.now c.args.life c.self.view_is c.self.invariant c.requires c.index_mut-row.ensures.value)
