use Rattle.std.proofs.Common.{◌≡◌}
use Rattle.tora_seat.specs.Serving.{after_broadcast}
use Rattle.tora_seat.specs.Bodies.{EndsLives}
use Rattle.tora_seat.proofs.Goings.{Going}
use Rattle.tora_seat.proofs.rows.broadcast.Given as goal

abbrev pub invariant-loop-place : goal.invariant-loop-place
invariant-loop-place g l = record {
  same_count : g.O.OutLanes.count l.outs ≡ g.O.OutLanes.count l.fn.outs;
  going : Going g.O.OutLanes.did_offer (λ answers ks. after_broadcast answers l.fn.packet ks) l.fn.rows l.fn.outs l.place l.rows l.outs;
  ends : EndsLives l.is_over l.fn.rows l.rows;
}
