-- What a neighbour's thread does with its link end in each turn.
use Rattle.std.specs.Prelude.{◌≡◌, ℕ, suc, ◌<◌, ◌≤◌, Bool, true, false, nat_le, if◌then◌else◌, List, [], ◌∷◌, ◌++◌}
use Rattle.std.specs.Prelude.{length, map, Option, Some, None, Result, is_err, IsTrue, IsFalse}
use Rattle.std.specs.List.{flat_map}
use Rattle.tora_frame.specs.FrameParts.{FrameParts}
use Rattle.tora_arq.specs.declared.link_event.LinkEvent.{LinkEvent}
use Rattle.tora_arq.specs.Settings.{Settings, ticks_passed}
use Rattle.tora_arq.specs.LinkEnd.{EndState, is_closed, bound_life, after_open, after_tick, frame_due, after_transmit}
use Rattle.tora_arq.specs.LinkFacts.{list_of}
use Rattle.tora_neighbour.specs.declared.turn_stages.TheConstants.{BEAT_TICKS}
use Rattle.tora_neighbour.specs.declared.intake.Intake.{Intake}
use Rattle.tora_neighbour.specs.declared.tally.Tally.{Tally}
use Rattle.tora_neighbour.specs.declared.turn_parts.TheConstants.{MOST_FAILURES}
use Rattle.tora_neighbour.specs.declared.wire.WireError.{WireError}
use Rattle.tora_neighbour.specs.Intake.{Reading, came_in, intake_in, after_came}
use Rattle.tora_neighbour.specs.Tally.{counted_in}
use Rattle.tora_neighbour.specs.declared.ending.Ending.{Ending}
use Rattle.tora_neighbour.specs.declared.ending.Ending.TheVariants.{NoNumber, Broken, Refused}
use Rattle.tora_neighbour.specs.declared.ending.BrokenAt.TheVariants.{Send, Receive}
use Rattle.tora_seat.specs.declared.cargo.Cargo.{Cargo}
use Rattle.tora_seat.specs.declared.TheConstants.{MOST_CARGOES}
use Rattle.tora_seat.specs.Between.{after_cargo, after_cut_of_bound}

-- A turn, at one tick: what the link end received in it, and what the end returned.
pub record Turn : Type 0 where
  pub now : ℕ
  pub opened : Option ℕ  -- the session number that was drawn for a closed end
  pub cargoes : List Cargo  -- the outbound messages that were taken for the link
  pub sent : List FrameParts  -- the frames that the end returned to be sent
  pub answers : List (Result (Unit {0}) WireError)  -- the result of each send
  pub answer : Option (Result (Option ℕ) WireError)  -- the result of the receive, if one was made
  pub buffer : List ℕ  -- the buffer after the receive
  pub intake : Option Intake  -- the result of passing the received datagram to the end, if there was one
  pub told : List LinkEvent  -- the events that the end returned and that were put
  pub refused : Option LinkEvent  -- the event that the end returned and that was refused
  pub beat : Bool  -- whether a beat was put

-- the reading of the datagram that was received in the turn
abbrev pub came_of : Turn → Option Reading
came_of t = came_in t.answer t.buffer

-- ---- the effect of each part of a turn on the end

abbrev pub after_opening : EndState → Option ℕ → ℕ → EndState
after_opening e None now = e
after_opening e (Some life) now = after_open e life now

abbrev pub after_cargoes : EndState → List Cargo → EndState
after_cargoes e [] = e
after_cargoes e (cargo ∷ cargoes) = after_cargoes (after_cargo e cargo) cargoes

-- the end after a poll for each of these frames
abbrev pub after_frames : Settings → EndState → ℕ → List FrameParts → EndState
after_frames s e now [] = e
after_frames s e now (frame ∷ frames) = after_frames s (after_transmit s e now) now frames

-- the end after a closed one was opened and the tick was passed to it
abbrev pub when_ticked : Settings → EndState → Turn → EndState
when_ticked s e t = after_tick s (after_opening e t.opened t.now) t.now

-- the end after the outbound messages were taken
abbrev pub when_served : Settings → EndState → Turn → EndState
when_served s e t = after_cargoes (when_ticked s e t) t.cargoes

-- the end after the frames were sent
abbrev pub when_sent : Settings → EndState → Turn → EndState
when_sent s e t = after_frames s (when_served s e t) t.now t.sent

-- the end after the poll that returned no frame
abbrev pub when_none_due : Settings → EndState → Turn → EndState
when_none_due s e t = after_transmit s (when_sent s e t) t.now

-- the end after a datagram was received, if there was one
abbrev pub when_heard : Settings → EndState → Turn → EndState
when_heard s e t = after_came s (when_none_due s e t) t.now (came_of t)

-- ---- the conditions on a turn

-- a number is drawn exactly if the end is closed, and it is above the number of the end's last session
abbrev pub IsOpening : EndState → Option ℕ → Type 0
IsOpening e None = IsFalse (is_closed e)
IsOpening e (Some life) = IsTrue (is_closed e) × (e.last_life < life)

-- each of these frames is the first one due when it is polled
abbrev pub AreDue : Settings → EndState → ℕ → List FrameParts → Type 0
AreDue s e now [] = Unit {0}
AreDue s e now (frame ∷ frames) = (frame_due s e now ≡ Some frame) × AreDue s (after_transmit s e now) now frames

-- the beginning of a turn: the opening, the outbound messages, and the frames that were sent before a possible failure
pub record Begins (s : Settings) (e : EndState) (t : Turn) : Type 0 where
  pub opening : IsOpening e t.opened
  pub most : length t.cargoes ≤ MOST_CARGOES
  pub due : AreDue s (when_served s e t) t.now t.sent

-- the waiting events are put one after another: all of them, or up to one that is refused
pub record Tells (e : EndState) (told : List LinkEvent) (refused : Option LinkEvent) (after : EndState) : Type 0 where
  pub left : List LinkEvent
  pub events : e.events ≡ (told ++ list_of refused) ++ left
  pub all : refused ≡ None → left ≡ []
  pub after_is : after ≡ record e { events = left }

-- a whole turn: outbound messages, then frames until none is due, then one receive, which returns at most one datagram,
-- then all events
pub record IsTurn (s : Settings) (e : EndState) (t : Turn) (after : EndState) : Type 0 where
  pub begins : Begins s e t
  pub none_due : frame_due s (when_sent s e t) t.now ≡ None
  pub heard : t.intake ≡ intake_in s (when_none_due s e t) t.now (came_of t)
  pub tells : Tells (when_heard s e t) t.told t.refused after
  pub accepted : t.refused ≡ None

-- ---- beats

-- no beat was put before, or ten ticks have passed since the last one
abbrev pub is_beat_due : Option ℕ → ℕ → Bool
is_beat_due None now = true
is_beat_due (Some last) now = nat_le BEAT_TICKS (ticks_passed last now)

abbrev pub beat_after : Option ℕ → Turn → Option ℕ
beat_after last t = if t.beat then Some t.now else last

-- a beat is put in each turn in which one is due
abbrev pub AreBeats : Option ℕ → List Turn → Option ℕ → Type 0
AreBeats last [] after = after ≡ last
AreBeats last (t ∷ turns) after = (t.beat ≡ is_beat_due last t.now) × AreBeats (beat_after last t) turns after

-- ---- ticks

-- each of these ticks is from a reading of the clock of its own, one after another
abbrev pub AreRead : {C : Type 0} → (C → ℕ → C → Type 0) → C → List ℕ → C → Type 0
AreRead tell clock [] after = after ≡ clock
AreRead {C = C} tell clock (tick ∷ ticks) after = (between : C) × tell clock tick between
    × AreRead tell between ticks after

abbrev pub ticks_of : List Turn → List ℕ
ticks_of turns = map (λ t. t.now) turns

-- ---- the tally

-- each datagram that was received is counted
abbrev pub tally_after : Tally → List Turn → Tally
tally_after tally [] = tally
tally_after tally (t ∷ turns) = tally_after (counted_in t.intake tally) turns

-- ---- how the last turn ends

-- a turn in which the end received nothing and returned nothing
abbrev pub idle_turn : ℕ → Turn
idle_turn now = record {
  now = now;
  opened = None;
  cargoes = [];
  sent = [];
  answers = [];
  answer = None;
  buffer = [];
  intake = None;
  told = [];
  refused = None;
  beat = false;
}

-- the file draws no number, and nothing else is done
pub record EndsWithNoNumber (e : EndState) (t : Turn) (after : EndState) : Type 0 where
  pub closed : IsTrue (is_closed e)
  pub nothing : t ≡ idle_turn t.now
  pub after_is : after ≡ e

-- the wire has failed a hundred times in a row: the bound session is cut, and the events that are left are put
pub record EndsBroken (e : EndState) (t : Turn) (after : EndState) : Type 0 where
  pub nothing_came : came_of t ≡ None
  pub nothing_heard : t.intake ≡ None
  pub tells : Tells (after_cut_of_bound e (bound_life e)) t.told t.refused after
  pub no_beat : IsFalse t.beat

pub record EndsBrokenAtReceive (s : Settings) (e : EndState) (t : Turn) (after : EndState) : Type 0 where
  pub begins : Begins s e t
  pub none_due : frame_due s (when_sent s e t) t.now ≡ None
  pub broken : EndsBroken (when_none_due s e t) t after

pub record EndsBrokenAtSend (s : Settings) (e : EndState) (t : Turn) (after : EndState) : Type 0 where
  pub begins : Begins s e t
  pub broken : EndsBroken (when_sent s e t) t after

-- an event is refused, or the beat after all events is
pub record EndsRefused (s : Settings) (last_beat : Option ℕ) (e : EndState) (t : Turn) (after : EndState) : Type 0 where
  pub begins : Begins s e t
  pub none_due : frame_due s (when_sent s e t) t.now ≡ None
  pub heard : t.intake ≡ intake_in s (when_none_due s e t) t.now (came_of t)
  pub tells : Tells (when_heard s e t) t.told t.refused after
  pub no_beat : IsFalse t.beat
  pub due : t.refused ≡ None → IsTrue (is_beat_due last_beat t.now)

-- the last turn, by its ending; the last beat is the one before this turn
abbrev pub IsLastTurn : Settings → Option ℕ → EndState → Turn → Ending → EndState → Type 0
IsLastTurn s last_beat e t (NoNumber error) after = EndsWithNoNumber e t after
IsLastTurn s last_beat e t (Broken Send) after = EndsBrokenAtSend s e t after
IsLastTurn s last_beat e t (Broken Receive) after = EndsBrokenAtReceive s e t after
IsLastTurn s last_beat e t Refused after = EndsRefused s last_beat e t after

-- ---- failures in a row

-- whether the receive failed, if one was made
abbrev pub failed_receive : Option (Result (Option ℕ) WireError) → List Bool
failed_receive None = []
failed_receive (Some answer) = is_err answer ∷ []

abbrev pub failed_calls : List (Result (Unit {0}) WireError) → Option (Result (Option ℕ) WireError) → List Bool
failed_calls answers answer = map is_err answers ++ failed_receive answer

abbrev pub calls_failed : List Turn → List Bool
calls_failed turns = flat_map (λ t. failed_calls t.answers t.answer) turns

-- how many of the last calls in a row failed, after one more call
abbrev pub row_after : Bool → ℕ → ℕ
row_after failed row = if failed then suc row else 0

-- after these calls, this many in a row have failed; no call is made after a hundred failures in a row
abbrev pub IsRow : ℕ → List Bool → ℕ → Type 0
IsRow row [] after = after ≡ row
IsRow row (failed ∷ calls) after = (row < MOST_FAILURES) × IsRow (row_after failed row) calls after

-- exactly a broken wire ends with a hundred failures in a row
abbrev pub EndsInRow : Ending → ℕ → Type 0
EndsInRow (NoNumber error) row = row < MOST_FAILURES
EndsInRow (Broken at) row = row ≡ MOST_FAILURES
EndsInRow Refused row = row < MOST_FAILURES

-- ---- runs

-- whole turns, one after another
abbrev pub AreTurns : Settings → EndState → List Turn → EndState → Type 0
AreTurns s e [] after = after ≡ e
AreTurns s e (t ∷ turns) after = (between : EndState) × IsTurn s e t between × AreTurns s between turns after

-- whole turns, and then the last one, which may end early
pub record IsTurnRun (s : Settings) (e : EndState) (turns : List Turn) (last : Turn) (ending : Ending)
    (after : EndState) : Type 0 where
  pub before : EndState
  pub turns_are : AreTurns s e turns before
  pub last_beat : Option ℕ
  pub beats_are : AreBeats None turns last_beat
  pub last_is : IsLastTurn s last_beat before last ending after
  pub row : ℕ
  pub calls_are : IsRow 0 (calls_failed (turns ++ last ∷ [])) row
  pub row_is : EndsInRow ending row
