-- The room that a link end needs for events and for out-of-order packets.
use Rattle.std.specs.Prelude.{◌≡◌, ℕ, ◌+◌, ◌<◌, ◌≤◌, ◌⊎◌, [], length}
use Rattle.tora_frame.specs.declared.parts.Body.{Body}
use Rattle.tora_frame.specs.declared.parts.Body.TheVariants.{Hello, Data, Ack}
use Rattle.tora_frame.specs.FrameParts.{FrameParts}
use Rattle.tora_arq.specs.declared.TheConstants.{WINDOW, EVENT_PLACES}
use Rattle.tora_arq.specs.declared.phase.Phase.{Phase}
use Rattle.tora_arq.specs.declared.phase.Phase.TheVariants.{Closed, Unbound, Bound}
use Rattle.tora_arq.specs.LinkEnd.{EndState}
use Rattle.tora_arq.specs.EndRange.{HasRoom}

-- there is room for all events and all out-of-order packets that there may be
pub record HasLists (places early : ℕ) : Type 0 where
  pub events : EVENT_PLACES ≤ places
  pub held : WINDOW ≤ early

-- packets numbered from `number` on are within the window and not ahead of the next number, no packet is held, and
-- there is room for an event for each
pub record AreNext (places furthest number count : ℕ) (e : EndState) : Type 0 where
  pub room : length e.events + count ≤ places
  pub next : number ≤ e.accepted + 1
  pub within : number + count ≤ furthest + 1
  pub none : e.held ≡ []
  pub ahead : e.accepted ≤ furthest

-- there is room for a window of out-of-order packets, or none of the packets may have to be held
abbrev pub HasRoomFor : (places early furthest number count : ℕ) → EndState → Type 0
HasRoomFor places early furthest number count e =
    ((WINDOW ≤ early) × HasRoom places WINDOW furthest e) ⊎ AreNext places furthest number count e

-- there is room for the packets of a frame in a bound session
abbrev pub HasBodyRoom : (places early : ℕ) → Body → EndState → Type 0
HasBodyRoom places early Hello e = Unit {0}
HasBodyRoom places early (Data number count packets) e = HasRoomFor places early (e.accepted + WINDOW) number
    (length packets.items) e
HasBodyRoom places early (Ack count) e = Unit {0}

-- there is room for the packets of a frame that may bind a session
abbrev pub HasFirstRoom : (places early : ℕ) → Body → EndState → Type 0
HasFirstRoom places early Hello e = Unit {0}
HasFirstRoom places early (Data number count packets) e = (length e.events + 1 + WINDOW < places) × (WINDOW ≤ early)
HasFirstRoom places early (Ack count) e = Unit {0}

-- there is room for the packets of a frame, none of which may have to be held
abbrev pub HasNextRoom : (places : ℕ) → Body → EndState → Phase → Type 0
HasNextRoom places Hello e phase = Unit {0}
HasNextRoom places (Ack count) e phase = Unit {0}
HasNextRoom places (Data number count packets) e Closed = Unit {0}
HasNextRoom places (Data number count packets) e (Unbound own) = ⊥
HasNextRoom places (Data number count packets) e (Bound life) = AreNext places (e.accepted + WINDOW) number
    (length packets.items) e

pub record HasFrameRoom (places : ℕ) (f : FrameParts) (e : EndState) : Type 0 where
  pub place : length e.events < places
  pub body : HasNextRoom places f.body e e.phase

-- a bound end has a place for the event that its session ended
abbrev pub HasEventPlaceIn : (places : ℕ) → EndState → Phase → Type 0
HasEventPlaceIn places e Closed = Unit {0}
HasEventPlaceIn places e (Unbound own) = Unit {0}
HasEventPlaceIn places e (Bound life) = length e.events < places

abbrev pub HasEventPlace : (places : ℕ) → EndState → Type 0
HasEventPlace places e = HasEventPlaceIn places e e.phase
