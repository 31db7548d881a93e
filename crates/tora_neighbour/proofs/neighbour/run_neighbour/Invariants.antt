use Rattle.tora_neighbour.specs.declared.turn_parts.TheConstants.{MOST_FAILURES}
use Rattle.std.proofs.Common.{◌≡◌, ◌<◌, List, None}
use Rattle.tora_neighbour.specs.Datagrams.{RoseBy}
use Rattle.tora_neighbour.specs.Tally.{first_tally}
use Rattle.tora_neighbour.specs.Turns.{Turn, AreTurns, AreBeats, AreRead, ticks_of, IsRow, calls_failed, tally_after}
use Rattle.tora_neighbour.specs.Traffic.{Traffic, outside}
use Rattle.tora_neighbour.specs.Calls.{AreCalls}
use Rattle.tora_neighbour.specs.Causes.{IsReady}
use Rattle.tora_neighbour.proofs.neighbour.run_neighbour.Given as goal

abbrev pub invariant-loop : goal.invariant-loop
invariant-loop g l = record {
  settings : l.link.end.settings ≡ l.fn.link.end.settings;
  ready : IsReady l.link.end.state l.link.file.numbers;
  row : l.course.row < MOST_FAILURES;
  failed : l.link.file.numbers.failed ≡ l.fn.link.file.numbers.failed;
  disk : g.D.Disk.failures l.link.file.disk ≡ g.D.Disk.failures l.fn.link.file.disk;
  failures : RoseBy l.course.row (g.W.Wire.failures l.fn.link.wire) (g.W.Wire.failures l.link.wire);
  so_far :
      (turns : List Turn)
      × AreTurns l.fn.link.end.settings l.fn.link.end.state turns l.link.end.state
      × AreBeats None turns l.course.last_beat
      × (l.course.tally ≡ tally_after first_tally turns)
      × Traffic (outside g.H.Hub.puts g.H.Hub.takes g.W.Wire.tells g.W.Wire.coming g.W.Wire.tries l.fn.link l.fn.hub) turns (outside g.H.Hub.puts g.H.Hub.takes g.W.Wire.tells g.W.Wire.coming g.W.Wire.tries l.link l.hub)
      × AreCalls g.H.Hub.did_take g.H.Hub.did_put g.W.Wire.did_send g.W.Wire.did_receive l.fn.hub l.fn.link.wire turns l.hub l.link.wire
      × AreRead g.C.Clock.did_tell l.fn.clock (ticks_of turns) l.clock
      × IsRow 0 (calls_failed turns) l.course.row;
}
