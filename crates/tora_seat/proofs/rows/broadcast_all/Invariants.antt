use Rattle.std.proofs.Common.{◌≡◌}
use Rattle.tora_seat.specs.Bodies.{EndsLives}
use Rattle.tora_seat.proofs.Goings.{Sending}
use Rattle.tora_seat.proofs.rows.broadcast_all.Given as goal

abbrev pub invariant-loop-packet : goal.invariant-loop-packet
invariant-loop-packet g l = record {
  same_count : g.O.OutLanes.count l.outs ≡ g.O.OutLanes.count l.fn.outs;
  sending : Sending g.O.OutLanes.did_offer l.fn.packets l.fn.rows l.fn.outs l.packet-index l.rows l.outs;
  ends : EndsLives l.is_over l.fn.rows l.rows;
}
