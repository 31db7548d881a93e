use Rattle.std.proofs.Common.{◌≡◌, length}
use Rattle.tora_neighbour.specs.Calls.{PutsSome}
use Rattle.tora_neighbour.proofs.Further.{ToldSoFar}
use Rattle.tora_neighbour.proofs.turn_parts.put_events.Given as goal

abbrev pub invariant-loop-event : goal.invariant-loop-event
invariant-loop-event g l = record {
  settings : l.end.settings ≡ l.fn.end.settings;
  told : ToldSoFar l.fn.end.state (g.H.Hub.puts l.fn.hub) l.fn.now l.end.state (g.H.Hub.puts l.hub);
  calls : PutsSome g.H.Hub.did_put l.fn.now l.fn.hub told.told l.hub;
  takes : g.H.Hub.takes l.hub ≡ g.H.Hub.takes l.fn.hub;
}

abbrev pub decreases-loop-event : goal.decreases-loop-event
decreases-loop-event g l = length l.end.state.events
