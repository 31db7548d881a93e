use Rattle.std.proofs.Common.{ap, ◌∙◌}
use Rattle.tora_seat.specs.Rows.{SeatView}
use Rattle.tora_seat.proofs.CutOffers.{place_so}
use Rattle.tora_seat.proofs.seat.BareSeat.place.Goals as goal

pub returns : goal.returns
returns c = place_so c.args.k c.neighbours.result.now c.args.self.now.core.neighbours c.place_in.result c.place_in.ensures (c.neighbours.ensures ∙ ap (λ (x : SeatView). x.core.neighbours) c.self.view_is)
