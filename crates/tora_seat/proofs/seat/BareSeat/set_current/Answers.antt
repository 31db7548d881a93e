use Rattle.std.proofs.Common.{◌∙◌}
use Rattle.tora_seat.specs.Rows.{SeatView}
use Rattle.tora_seat.proofs.Seats.{set_seat, seat_set, set_pending, set_serves}
use Rattle.tora_seat.proofs.seat.BareSeat.set_current.Goals as goal

pub invariant_of-self : goal.invariant_of-self
invariant_of-self c =
    let i = c.self.inside in
    let s : SeatView = record { core = i.core; rows = i.rows.items; inputs = i.inputs.items; stepped = i.stepped; answer = i.answer } in
    seat_set i.core i.rows.items _ _ _ _ i.has_pending c.self.invariant (set_seat s c.args.self.now c.args.place c.args.k _ c.index_mut-row.result.now c.args.life c.self.view_is c.self.invariant c.requires c.index_mut-row.ensures.value)
    (λ e. set_pending s c.args.self.now c.args.place c.args.k _ c.index_mut-row.result.now c.args.life c.self.view_is c.self.invariant c.requires c.index_mut-row.ensures.value ∙ c.self.invariant.none_pending e)

pub returns-clause-set : goal.returns-clause-set
returns-clause-set c =
    let i = c.self.inside in
    let s : SeatView = record { core = i.core; rows = i.rows.items; inputs = i.inputs.items; stepped = i.stepped; answer = i.answer } in
    set_serves s c.args.self.now _ c.args.k c.args.life c.self.view_is (set_seat s c.args.self.now c.args.place c.args.k _ c.index_mut-row.result.now c.args.life c.self.view_is c.self.invariant c.requires c.index_mut-row.ensures.value)
