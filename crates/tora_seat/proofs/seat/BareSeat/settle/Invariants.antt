use Rattle.std.proofs.Common.{◌≡◌, ◌≤◌, ◌+◌, length}
use Rattle.tora_seat.proofs.Steps.{Rounds}
use Rattle.tora_seat.proofs.seat.BareSeat.settle.Given as goal

abbrev pub invariant-loop-round : goal.invariant-loop-round
invariant-loop-round g l = record {
  same_count : g.O.OutLanes.count l.outs ≡ g.O.OutLanes.count l.fn.outs;
  few : length l.self.inputs ≤ length l.fn.self.inputs + l._round;
  rounds : Rounds g.O.OutLanes.did_offer l.now l.fn.self l.fn.outs l._round l.self l.outs;
}
