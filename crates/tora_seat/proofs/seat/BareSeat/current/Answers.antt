use Rattle.std.proofs.Common.{◌≡◌, None, slice_get, subst, ◌∙◌, sym, MatchOption}
use Rattle.tora_seat.specs.Rows.{SeatView, current_of}
use Rattle.tora_seat.proofs.Seats.{current_some, current_none, no_life}
use Rattle.tora_seat.proofs.seat.BareSeat.current.Goals as goal

pub returns-in-Some : goal.returns-in-Some
returns-in-Some c =
    let i = c.self.inside in
    let s : SeatView = record { core = i.core; rows = i.rows.items; inputs = i.inputs.items; stepped = i.stepped; answer = i.answer } in
    let row = c.in-Some.row in
    subst (λ (x : SeatView). MatchOption (slice_get x.core.neighbours c.args.place) (row.current ≡ None) (λ k. row.current ≡ current_of x.rows k)) c.self.view_is
    (current_some c.deref.result.now s c.args.place row _ c.self.invariant c.deref.ensures.value (sym c.row_at.ensures ∙ c.in-Some.is))

pub returns-in-None : goal.returns-in-None
returns-in-None c =
    let i = c.self.inside in
    let s : SeatView = record { core = i.core; rows = i.rows.items; inputs = i.inputs.items; stepped = i.stepped; answer = i.answer } in
    subst (λ (x : SeatView). MatchOption (slice_get x.core.neighbours c.args.place) (no_life ≡ None) (λ k. None ≡ current_of x.rows k)) c.self.view_is
    (current_none c.deref.result.now s c.args.place _ c.self.invariant c.deref.ensures.value (sym c.row_at.ensures ∙ c.in-None.is))
