-- The invariants of every link end.
use Rattle.std.specs.Prelude.{◌≡◌, ℕ, ◌+◌, ◌<◌, ◌≤◌, List, [], ◌∷◌, length, drop, Option}
use Rattle.tora_packet.specs.declared.Packet.{Packet}
use Rattle.tora_frame.specs.declared.parts.TheConstants.{GREATEST_NUMBER}
use Rattle.tora_frame.specs.declared.parts.Body.{Body}
use Rattle.tora_frame.specs.declared.parts.Body.TheVariants.{Hello, Data, Ack}
use Rattle.tora_frame.specs.FrameParts.{IsLifeNumber}
use Rattle.tora_arq.specs.declared.TheConstants.{WINDOW, EVENT_PLACES}
use Rattle.tora_arq.specs.declared.life.Life.{Life}
use Rattle.tora_arq.specs.declared.link_event.LinkEvent.{LinkEvent}
use Rattle.tora_arq.specs.declared.phase.Phase.{Phase}
use Rattle.tora_arq.specs.declared.phase.Phase.TheVariants.{Closed, Unbound, Bound}
use Rattle.tora_arq.specs.declared.queued_packet.QueuedPacket.{QueuedPacket}
use Rattle.tora_arq.specs.Settings.{Settings, IsLink, IsTimes}
use Rattle.tora_arq.specs.LinkEnd.{EndState}

-- a link end: its settings and its state
pub record LinkEndView : Type 0 where
  pub settings : Settings
  pub state : EndState

abbrev pub link_end_of : Settings → EndState → LinkEndView
link_end_of settings state = record { settings = settings; state = state }

-- a DATA frame has at least one packet, and its packets have numbers up to 2^62
abbrev pub IsNumbered : Body → Type 0
IsNumbered Hello = Unit {0}
IsNumbered (Data number count packets) =
    (0 < length packets.items) × (number + length packets.items ≤ GREATEST_NUMBER + 1)
IsNumbered (Ack count) = Unit {0}

-- this many places for events suffice for the packets up to the number `furthest`, and no packet beyond that number is
-- held
pub record HasRoom (places window furthest : ℕ) (e : EndState) : Type 0 where
  pub room : length e.events + furthest < places + e.accepted
  pub near : furthest ≤ e.accepted + window
  pub held : e.accepted + length e.held ≤ furthest

-- packets that were never transmitted
abbrev pub AreUntried : List QueuedPacket → Type 0
AreUntried [] = Unit {0}
AreUntried (q ∷ queue) = (q.tries ≡ 0) × AreUntried queue

-- the own number of an open end is that of its last session
pub record IsOwnNumber (last own : ℕ) : Type 0 where
  pub number : IsLifeNumber own
  pub latest : own ≡ last

-- a bound session: the peer's number is the one noted, and there is a place for the event that the session ended
pub record IsBoundLife (last heard : ℕ) (events : List LinkEvent) (life : Life) : Type 0 where
  pub own : IsOwnNumber last life.own
  pub peer : IsLifeNumber life.peer
  pub noted : heard ≡ life.peer
  pub room : length events < EVENT_PLACES

abbrev pub IsPhase : ℕ → ℕ → List LinkEvent → Phase → Type 0
IsPhase last heard events Closed = Unit {0}
IsPhase last heard events (Unbound own) = IsOwnNumber last own
IsPhase last heard events (Bound life) = IsBoundLife last heard events life

-- at most 2^62 packets are submitted in a session, and the packets beyond the window were never transmitted
pub record IsQueue (window acknowledged : ℕ) (queue : List QueuedPacket) : Type 0 where
  pub submitted : acknowledged + length queue ≤ GREATEST_NUMBER
  pub untried : AreUntried (drop window queue)

pub record IsRange (s : Settings) (phase : Phase) (heard last acknowledged accepted : ℕ) (queue : List QueuedPacket)
    (held : List (Option Packet)) (events : List LinkEvent) : Type 0 where
  pub link : IsLink s.me s.peer
  pub times : IsTimes s.times
  pub window : s.window ≡ WINDOW
  pub in_phase : IsPhase last heard events phase
  pub noted : heard ≤ GREATEST_NUMBER
  pub opened : last ≤ GREATEST_NUMBER
  pub waiting : IsQueue s.window acknowledged queue
  pub delivered : accepted + length held ≤ GREATEST_NUMBER
  pub held_within : length held ≤ s.window
  pub room : length events ≤ EVENT_PLACES

abbrev pub IsEndState : Settings → EndState → Type 0
IsEndState s e = IsRange s e.phase e.heard e.last_life e.acknowledged e.accepted e.queue e.held e.events
