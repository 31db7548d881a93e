-- How a link end receives a datagram. The reading of a datagram is its frame, or why it is not one.
use Rattle.std.specs.Prelude.{ℕ, List, take, Option, Some, None, Result, Ok, Err}
use Rattle.tora_frame.specs.declared.FrameError.{FrameError}
use Rattle.tora_frame.specs.FrameParts.{FrameParts}
use Rattle.tora_frame.specs.FrameGrammar.{frame_reading}
use Rattle.tora_arq.specs.Settings.{Settings}
use Rattle.tora_arq.specs.LinkEnd.{EndState, verdict_of, after_frame}
use Rattle.tora_neighbour.specs.declared.intake.Intake.{Intake}
use Rattle.tora_neighbour.specs.declared.intake.Intake.TheVariants.{Bad, Seen}
use Rattle.tora_neighbour.specs.declared.wire.WireError.{WireError}

abbrev pub Reading : Type 0
Reading = Result FrameParts FrameError

-- a frame is passed to the end, other bytes are not
abbrev pub intake_of : Settings → EndState → ℕ → Reading → Intake
intake_of s e now (Ok frame) = Seen (verdict_of s e frame now)
intake_of s e now (Err error) = Bad error

abbrev pub after_reading : Settings → EndState → ℕ → Reading → EndState
after_reading s e now (Ok frame) = after_frame s e frame now
after_reading s e now (Err error) = e

-- the result of passing on a datagram, if one was received
abbrev pub intake_in : Settings → EndState → ℕ → Option Reading → Option Intake
intake_in s e now None = None
intake_in s e now (Some reading) = Some (intake_of s e now reading)

abbrev pub after_came : Settings → EndState → ℕ → Option Reading → EndState
after_came s e now None = e
after_came s e now (Some reading) = after_reading s e now reading

-- the reading of the datagram that a receive returned, if one was made: n bytes at the front of the buffer, or nothing
abbrev pub came_in : Option (Result (Option ℕ) WireError) → List ℕ → Option Reading
came_in None buffer = None
came_in (Some (Ok (Some n))) buffer = Some (frame_reading (take n buffer))
came_in (Some (Ok None)) buffer = None
came_in (Some (Err error)) buffer = None
