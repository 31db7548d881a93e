use Rattle.std.proofs.Common.{◌≡◌, ◌≤◌, length, None}
use Rattle.tora_seat.specs.Rows.{state_of}
use Rattle.tora_node.specs.StatusLines.{told_in}
use Rattle.tora_node.proofs.Served.{Ran}
use Rattle.tora_node.proofs.core_thread.run_core.Given as goal

abbrev pub invariant-loop : goal.invariant-loop
invariant-loop g l = record {
  faultless : l.end.fault ≡ None;
  lanes : length l.end.seat.core.neighbours ≤ g.O.OutLanes.count l.end.outs;
  neighbours : l.end.seat.core.neighbours ≡ l.fn.seat.core.neighbours;
  lane : l.end.port.lane ≡ l.fn.port.lane;
  ran : Ran g.O.OutLanes.did_offer l.fn.seat.core.neighbours (state_of l.fn.seat) l.fn.outs l.fn.port.taken (g.W.Write.contents l.fn.writer) (state_of l.end.seat) l.end.outs l.end.port.taken (g.W.Write.contents l.writer) (told_in l.watch);
}
