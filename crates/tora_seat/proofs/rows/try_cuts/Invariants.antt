use Rattle.std.proofs.Common.{◌≡◌, take}
use Rattle.tora_seat.specs.Serving.{after_cuts_tried}
use Rattle.tora_seat.specs.Rows.{any_pending}
use Rattle.tora_seat.proofs.Goings.{Going}
use Rattle.tora_seat.proofs.rows.try_cuts.Given as goal

abbrev pub invariant-loop-place : goal.invariant-loop-place
invariant-loop-place g l = record {
  same_count : g.O.OutLanes.count l.outs ≡ g.O.OutLanes.count l.fn.outs;
  going : Going g.O.OutLanes.did_offer after_cuts_tried l.fn.rows l.fn.outs l.place l.rows l.outs;
  left : l.is_left ≡ any_pending (take l.place l.rows);
}
