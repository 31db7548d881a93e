use Rattle.std.proofs.Common.{ap, ◌∙◌}
use Rattle.tora_core.specs.Numbers.{has_repeat}
use Rattle.tora_seat.specs.Serving.{first_cut}
use Rattle.tora_seat.specs.Rows.{SeatView, state_of, first_cut_of}
use Rattle.tora_seat.proofs.Seats.{cut_is}
use Rattle.tora_seat.proofs.seat.BareSeat.first_cut.Goals as goal

pub returns : goal.returns
returns c =
    let s = c.self.inside in
    let v : SeatView = record { core = s.core; rows = s.rows.items; inputs = s.inputs.items; stepped = s.stepped; answer = s.answer } in
    c.first_cut.ensures ∙ ap (first_cut_of s.core) c.deref.ensures.value
    ∙ cut_is s.core s.rows.items (ap has_repeat c.self.invariant.neighbours ∙ c.self.invariant.different)
    ∙ ap (first_cut (state_of v)) c.self.invariant.neighbours
    ∙ ap (λ (x : SeatView). first_cut (state_of x) x.core.neighbours) c.self.view_is
