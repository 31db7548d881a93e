-- What holds for every run of a link end: a list of calls from the first state on.
use Rattle.std.specs.Prelude.{◌≡◌, ℕ, suc, ◌+◌, ◌<◌, ◌≤◌, ◌==◌, if◌then◌else◌, List, [], ◌∷◌, ◌++◌, map, length, Option}
use Rattle.std.specs.Prelude.{Some, None, Contains}
use Rattle.tora_packet.specs.declared.Packet.{Packet}
use Rattle.tora_frame.specs.declared.parts.Body.{Body}
use Rattle.tora_frame.specs.declared.parts.Body.TheVariants.{Hello, Data, Ack}
use Rattle.tora_frame.specs.FrameParts.{FrameParts}
use Rattle.tora_arq.specs.declared.life.Life.{Life}
use Rattle.tora_arq.specs.declared.link_event.LinkEvent.{LinkEvent}
use Rattle.tora_arq.specs.declared.link_event.LinkEvent.TheVariants.{Up, Deliver, Down}
use Rattle.tora_arq.specs.declared.phase.Phase.{Phase}
use Rattle.tora_arq.specs.declared.phase.Phase.TheVariants.{Closed, Unbound, Bound}
use Rattle.tora_arq.specs.Lives.{life_of, is_same_life}
use Rattle.tora_arq.specs.Settings.{Settings}
use Rattle.tora_arq.specs.LinkEnd.{EndState, first_end, count_of}
use Rattle.tora_arq.specs.LinkFacts.{LinkCall, after_call, IsPossible, frame_sent_by, event_given_by, events_queued}
use Rattle.tora_arq.specs.LinkFacts.{packet_submitted, IsFrameOf, AreFrom, IsPacketAt, HasNumber, Carries}
use Rattle.tora_arq.specs.LinkFacts.{packets_delivered, list_of}
use Rattle.tora_arq.specs.LinkFacts.LinkCall.{Frame, Submit}

-- ---- runs

-- a frame that was passed in, with the own number that the end had then; None if the end was closed
pub record FrameHandedIn : Type 0 where
  pub own : Option ℕ
  pub frame : FrameParts

-- a packet that was submitted in a session
pub record Submission : Type 0 where
  pub life : Life
  pub packet : Packet

-- a run: the state of the end, and everything that went through it, in order
pub record LinkRun : Type 0 where
  pub state : EndState
  pub frames : List FrameHandedIn
  pub submitted : List Submission
  pub events : List LinkEvent  -- the events that were queued
  pub given : List LinkEvent  -- the events that were polled
  pub sent : List FrameParts

abbrev pub first_run : LinkRun
first_run = record {
  state = first_end;
  frames = [];
  submitted = [];
  events = [];
  given = [];
  sent = [];
}

abbrev pub own_number_in : Phase → Option ℕ
own_number_in Closed = None
own_number_in (Unbound own) = Some own
own_number_in (Bound life) = Some life.own

abbrev pub frames_handed_in : EndState → LinkCall → List FrameHandedIn
frames_handed_in e (Frame frame now) = record { own = own_number_in e.phase; frame = frame } ∷ []
frames_handed_in e call = []

abbrev pub submission_of : Life → Packet → Submission
submission_of life packet = record { life = life; packet = packet }

-- the packets that a call submits, with the session that it names
abbrev pub submissions : EndState → LinkCall → List Submission
submissions e (Submit life packet) = map (submission_of life) (packet_submitted e (Submit life packet))
submissions e call = []

abbrev pub run_after : Settings → LinkRun → LinkCall → LinkRun
run_after s run call = record {
  state = after_call s run.state call;
  frames = run.frames ++ frames_handed_in run.state call;
  submitted = run.submitted ++ submissions run.state call;
  events = run.events ++ events_queued s run.state call;
  given = run.given ++ list_of (event_given_by run.state call);
  sent = run.sent ++ list_of (frame_sent_by s run.state call);
}

abbrev pub run_after_all : Settings → LinkRun → List LinkCall → LinkRun
run_after_all s run [] = run
run_after_all s run (call ∷ calls) = run_after_all s (run_after s run call) calls

-- each call is allowed when it is made
abbrev pub AreAllPossible : Settings → LinkRun → List LinkCall → Type 0
AreAllPossible s run [] = Unit {0}
AreAllPossible s run (call ∷ calls) = IsPossible run.state call × AreAllPossible s (run_after s run call) calls

-- the run of these calls of a new end
abbrev pub run_of : Settings → List LinkCall → LinkRun
run_of s calls = run_after_all s first_run calls

-- a statement holds for every run of allowed calls of a new end
abbrev pub EveryRun : (Settings → LinkRun → Type 0) → Type 0
EveryRun Holds = (s : Settings) (calls : List LinkCall) → AreAllPossible s first_run calls → Holds s (run_of s calls)

-- a statement holds for every run of allowed calls of a new end after which it is bound to a session
abbrev pub EveryBoundRun : (Settings → LinkRun → Life → Type 0) → Type 0
EveryBoundRun Holds = EveryRun (λ s run. (life : Life) → run.state.phase ≡ Bound life → Holds s run life)

-- ---- what went through an end in one session

abbrev pub packets_submitted : Life → List Submission → List Packet
packets_submitted life [] = []
packets_submitted life (x ∷ xs) = (if is_same_life life x.life then x.packet ∷ [] else []) ++ packets_submitted life xs

-- a frame of this session was passed in while the end had the session's own number
pub record WasHandedIn (s : Settings) (frames : List FrameHandedIn) (life : Life) (handed : FrameHandedIn) : Type 0
  where
    pub among : Contains frames handed
    pub own : handed.own ≡ Some life.own
    pub of_life : IsFrameOf s life handed.frame

-- the packet at this place came in a DATA frame of the session, under its number
pub record CameAt (s : Settings) (frames : List FrameHandedIn) (life : Life) (place : ℕ) (packet : Packet) : Type 0
  where
    pub handed : FrameHandedIn
    pub was : WasHandedIn s frames life handed
    pub carries : Carries handed.frame.body (suc place) packet

-- these packets are the first ones, in order and without a gap
abbrev pub AreFromFirst : (ℕ → Packet → Type 0) → List Packet → Type 0
AreFromFirst Is packets = AreFrom Is 0 packets

-- the count came in a frame of the session
pub record CountCame (s : Settings) (frames : List FrameHandedIn) (life : Life) (count : ℕ) : Type 0 where
  pub handed : FrameHandedIn
  pub was : WasHandedIn s frames life handed
  pub count_is : count_of handed.frame.body ≡ count

-- for each bound session, a frame of that session was passed in
abbrev pub AreAllTold : Settings → List FrameHandedIn → List LinkEvent → Type 0
AreAllTold s frames [] = Unit {0}
AreAllTold s frames (Up life ∷ events) = ((handed : FrameHandedIn) × WasHandedIn s frames life handed)
    × AreAllTold s frames events
AreAllTold s frames (Deliver life packet ∷ events) = AreAllTold s frames events
AreAllTold s frames (Down life reason ∷ events) = AreAllTold s frames events

-- how many sessions with this own number were bound
abbrev pub times_bound : ℕ → List LinkEvent → ℕ
times_bound own [] = 0
times_bound own (Up life ∷ events) = (if life.own == own then 1 else 0) + times_bound own events
times_bound own (Deliver life packet ∷ events) = times_bound own events
times_bound own (Down life reason ∷ events) = times_bound own events

-- a DATA frame carries packets submitted in the session under their numbers, and a count of at most the packets
-- delivered in it
pub record IsDataOfRun (run : LinkRun) (life : Life) (number count : ℕ) (packets : List Packet) : Type 0 where
  pub first : 0 < number
  pub packets_are : (place : ℕ) (packet : Packet) → HasNumber number packets (suc place) packet
      → IsPacketAt (packets_submitted life run.submitted) place packet
  pub count_is : count ≤ length (packets_delivered life run.events)

-- a frame carries packets submitted in the session, if it is a DATA frame, and a count of packets delivered in it
abbrev pub IsBodyOfRun : LinkRun → Life → Body → Type 0
IsBodyOfRun run life Hello = Unit {0}
IsBodyOfRun run life (Data number count packets) = IsDataOfRun run life number count packets.items
IsBodyOfRun run life (Ack count) = count ≤ length (packets_delivered life run.events)

-- a frame carries packets and a count of the session that its header names
abbrev pub IsFrameOfRun : LinkRun → FrameParts → Type 0
IsFrameOfRun run f = IsBodyOfRun run (life_of f.header.life f.header.heard) f.body

-- two frames of one session of an end
pub record IsOfOneLife (f g : FrameParts) : Type 0 where
  pub own : f.header.life ≡ g.header.life
  pub peer : f.header.heard ≡ g.header.heard

-- every try of a number in a session carries the same packet
abbrev pub IsSameAtEachTry : List FrameParts → Type 0
IsSameAtEachTry sent =
    (f g : FrameParts) (number : ℕ) (packet other : Packet) → Contains sent f → Contains sent g → IsOfOneLife f g
    → Carries f.body number packet → Carries g.body number other
    → packet ≡ other
