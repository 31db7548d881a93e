use Rattle.std.proofs.Common.{◌≡◌, length, map, ap, ◌∙◌, arith}
use Rattle.tora_seat.specs.Rows.{new_row}
use Rattle.tora_seat.proofs.Seats.{new_seat}
use Rattle.tora_seat.proofs.seat.BareSeat.new.Goals as goal

pub invariant_of-result : goal.invariant_of-result
invariant_of-result c =
    let many : length c.neighbours.result.now ≡ length c.args.core.neighbours = ap length c.neighbours.ensures in
    new_seat c.args.core c.in_ok-rows.rows.items _ c.me-me.ensures.kept (c.in_ok-rows.ensures ∙ ap (map new_row) c.neighbours-2.ensures) (omega (arith, many, c.in_ok-inputs.ensures.exact))
