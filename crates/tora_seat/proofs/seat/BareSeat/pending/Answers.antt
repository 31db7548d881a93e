use Rattle.std.proofs.Common.{◌≡◌, None, slice_get, subst, ◌∙◌, sym, MatchOption}
use Rattle.tora_seat.specs.Rows.{SeatView, pending_of}
use Rattle.tora_seat.proofs.Seats.{pending_some, pending_none, no_life}
use Rattle.tora_seat.proofs.seat.BareSeat.pending.Goals as goal

pub returns-in-Some : goal.returns-in-Some
returns-in-Some c =
    let i = c.self.inside in
    let s : SeatView = record { core = i.core; rows = i.rows.items; inputs = i.inputs.items; stepped = i.stepped; answer = i.answer } in
    let row = c.in-Some.row in
    subst (λ (x : SeatView). MatchOption (slice_get x.core.neighbours c.args.place) (row.pending ≡ None) (λ k. row.pending ≡ pending_of x.rows k)) c.self.view_is
    (pending_some c.deref.result.now s c.args.place row _ c.self.invariant c.deref.ensures.value (sym c.row_at.ensures ∙ c.in-Some.is))

pub returns-in-None : goal.returns-in-None
returns-in-None c =
    let i = c.self.inside in
    let s : SeatView = record { core = i.core; rows = i.rows.items; inputs = i.inputs.items; stepped = i.stepped; answer = i.answer } in
    subst (λ (x : SeatView). MatchOption (slice_get x.core.neighbours c.args.place) (no_life ≡ None) (λ k. None ≡ pending_of x.rows k)) c.self.view_is
    (pending_none c.deref.result.now s c.args.place _ c.self.invariant c.deref.ensures.value (sym c.row_at.ensures ∙ c.in-None.is))
