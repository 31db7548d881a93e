use Rattle.tora_neighbour.specs.declared.turn_parts.TheConstants.{MOST_FAILURES}
use Rattle.std.proofs.Common.{◌≡◌, ◌++◌, ℕ, ◌<◌, List, IsTrue}
use Rattle.std.specs.Prelude.{map, Result, is_err}
use Rattle.tora_frame.specs.FrameParts.{FrameParts}
use Rattle.tora_frame.specs.FrameGrammar.{frame_spelling}
use Rattle.tora_neighbour.specs.Datagrams.{RoseBy}
use Rattle.tora_neighbour.specs.Calls.{SendsSome}
use Rattle.tora_neighbour.specs.Turns.{after_frames, AreDue, IsRow}
use Rattle.tora_neighbour.specs.declared.wire.WireError.{WireError}
use Rattle.tora_neighbour.proofs.turn_parts.send_frames.Given as goal

abbrev pub invariant-loop : goal.invariant-loop
invariant-loop g l = record {
  tells : IsTrue (g.W.Wire.tells l.wire) → IsTrue (g.W.Wire.tells l.fn.wire);
  coming : IsTrue (g.W.Wire.tells l.wire) → g.W.Wire.coming l.wire ≡ g.W.Wire.coming l.fn.wire;
  row : l.row < MOST_FAILURES;
  failures : (base : ℕ) → RoseBy l.fn.row base (g.W.Wire.failures l.fn.wire) → RoseBy l.row base (g.W.Wire.failures l.wire);
  sent :
      (frames : List FrameParts)
      × (answers : List (Result (Unit {0}) WireError))
      × AreDue l.fn.end.settings l.fn.end.state l.fn.now frames
      × (l.end ≡ record l.fn.end { state = after_frames l.fn.end.settings l.fn.end.state l.fn.now frames })
      × (IsTrue (g.W.Wire.tells l.wire) → g.W.Wire.tries l.wire ≡ g.W.Wire.tries l.fn.wire ++ map frame_spelling frames)
      × SendsSome g.W.Wire.did_send l.fn.wire frames answers l.wire
      × IsRow l.fn.row (map is_err answers) l.row;
}
