-- What holds for every call of a link end.
use Rattle.std.specs.Prelude.{◌≡◌, ◌≢◌, ℕ, suc, ◌+◌, ◌<◌, ◌≤◌, ◌⊎◌, if◌then◌else◌, List, [], ◌∷◌, ◌++◌, map, length}
use Rattle.std.specs.Prelude.{drop, slice_get, Option, Some, None, Result, Ok, Err}
use Rattle.tora_packet.specs.declared.Packet.{Packet}
use Rattle.tora_frame.specs.declared.parts.Body.{Body}
use Rattle.tora_frame.specs.declared.parts.Body.TheVariants.{Hello, Data, Ack}
use Rattle.tora_frame.specs.FrameParts.{FrameParts}
use Rattle.tora_arq.specs.declared.life.Life.{Life}
use Rattle.tora_arq.specs.declared.reason.Reason.{Reason}
use Rattle.tora_arq.specs.declared.link_event.LinkEvent.{LinkEvent}
use Rattle.tora_arq.specs.declared.link_event.LinkEvent.TheVariants.{Up, Deliver, Down}
use Rattle.tora_arq.specs.declared.submit_error.SubmitError.{SubmitError}
use Rattle.tora_arq.specs.declared.phase.Phase.{Phase}
use Rattle.tora_arq.specs.declared.phase.Phase.TheVariants.{Closed, Unbound, Bound}
use Rattle.tora_arq.specs.Lives.{is_same_life}
use Rattle.tora_arq.specs.Settings.{Settings}
use Rattle.tora_arq.specs.SendQueue.{packets_in}
use Rattle.tora_arq.specs.LinkEnd.{EndState, count_of, after_open, after_frame, after_tick, submit_answer, after_submit}
use Rattle.tora_arq.specs.LinkEnd.{after_cut, first_event, after_poll_event, frame_sent, frame_due, after_transmit}

-- ---- calls

pub data LinkCall : Type 0 where
  Open : (life now : ℕ) → LinkCall
  Frame : (frame : FrameParts) (now : ℕ) → LinkCall
  Tick : (now : ℕ) → LinkCall
  Submit : (life : Life) (packet : Packet) → LinkCall
  PollEvent : LinkCall
  Transmit : (now : ℕ) → LinkCall
  Cut : (life : Life) → LinkCall

abbrev pub after_call : Settings → EndState → LinkCall → EndState
after_call s e (Open life now) = after_open e life now
after_call s e (Frame frame now) = after_frame s e frame now
after_call s e (Tick now) = after_tick s e now
after_call s e (Submit life packet) = after_submit e life packet
after_call s e PollEvent = after_poll_event e
after_call s e (Transmit now) = after_transmit s e now
after_call s e (Cut life) = after_cut e life

-- a call that is allowed: only a closed end is opened, with a number above its last one
abbrev pub IsPossible : EndState → LinkCall → Type 0
IsPossible e (Open life now) = (e.phase ≡ Closed) × (e.last_life < life)
IsPossible e call = Unit {0}

-- a statement about settings, state, call and next state holds for every allowed call in every state
abbrev pub EveryCall : (Settings → EndState → LinkCall → EndState → Type 0) → Type 0
EveryCall Holds =
    (s : Settings) (e : EndState) (call : LinkCall) → IsPossible e call → Holds s e call (after_call s e call)

-- the frame that a call returns
abbrev pub frame_sent_by : Settings → EndState → LinkCall → Option FrameParts
frame_sent_by s e (Transmit now) = frame_due s e now
frame_sent_by s e call = None

-- the event that a call returns
abbrev pub event_given_by : EndState → LinkCall → Option LinkEvent
event_given_by e PollEvent = first_event e
event_given_by e call = None

-- the events that are left in the queue after a call has returned its event
abbrev pub events_left : EndState → LinkCall → List LinkEvent
events_left e PollEvent = drop 1 e.events
events_left e call = e.events

-- the events that a call appends to the queue
abbrev pub events_queued : Settings → EndState → LinkCall → List LinkEvent
events_queued s e call = drop (length (events_left e call)) (after_call s e call).events

-- the packet, if the end took it
abbrev pub packet_where_ok : Packet → Result (Unit {0}) SubmitError → List Packet
packet_where_ok packet (Ok done) = packet ∷ []
packet_where_ok packet (Err error) = []

-- the packet that a call submits
abbrev pub packet_submitted : EndState → LinkCall → List Packet
packet_submitted e (Submit life packet) = packet_where_ok packet (submit_answer e life packet)
packet_submitted e call = []

-- ---- invariants of every call

-- an unbound end: nothing was submitted, transmitted or accepted in the session of its own number
pub record IsUnboundEnd (e : EndState) (own : ℕ) : Type 0 where
  pub number : own ≡ e.last_life
  pub queue : e.queue ≡ []
  pub acknowledged : e.acknowledged ≡ 0
  pub transmitted : e.transmitted ≡ 0
  pub accepted : e.accepted ≡ 0
  pub held : e.held ≡ []

-- a bound end: transmitted packets were submitted, and at most a window of packets is held
pub record IsBoundEnd (s : Settings) (e : EndState) (life : Life) : Type 0 where
  pub number : life.own ≡ e.last_life
  pub heard : e.heard ≡ life.peer
  pub acknowledged : e.acknowledged ≤ e.transmitted
  pub transmitted : e.transmitted ≤ e.acknowledged + length e.queue
  pub held : length e.held ≤ s.window

abbrev pub IsEndIn : Settings → EndState → Phase → Type 0
IsEndIn s e Closed = (e.queue ≡ []) × (e.held ≡ [])
IsEndIn s e (Unbound own) = IsUnboundEnd e own
IsEndIn s e (Bound life) = IsBoundEnd s e life

abbrev pub IsEnd : Settings → EndState → Type 0
IsEnd s e = IsEndIn s e e.phase

-- ---- sessions

-- a frame of a session: from the peer to this end, with both numbers of the session
pub record IsFrameOf (s : Settings) (life : Life) (f : FrameParts) : Type 0 where
  pub sender : f.header.sender ≡ s.peer
  pub receiver : f.header.receiver ≡ s.me
  pub peer : f.header.life ≡ life.peer
  pub own : f.header.heard ≡ life.own

-- the call passes in a frame of this session
abbrev pub HandsInFrameOf : Settings → Life → LinkCall → Type 0
HandsInFrameOf s life (Frame frame now) = IsFrameOf s life frame
HandsInFrameOf s life call = ⊥

-- the call opens the end with this number
abbrev pub OpensWith : ℕ → LinkCall → Type 0
OpensWith own (Open life now) = own ≡ life
OpensWith own call = ⊥

-- a bound end stays bound to its session, or closes
abbrev pub StaysOrCloses : Life → Phase → Type 0
StaysOrCloses life after = (after ≡ Bound life) ⊎ (after ≡ Closed)

-- an end that is bound now was bound before, or had the session's own number and receives a frame with both numbers
abbrev pub WasBoundOrBinds : Settings → Life → LinkCall → Phase → Type 0
WasBoundOrBinds s life call before = (before ≡ Bound life) ⊎ ((before ≡ Unbound life.own) × HandsInFrameOf s life call)

-- an unbound end had its own number before, or was closed and is opened with it
abbrev pub WasUnboundOrOpens : ℕ → LinkCall → Phase → Type 0
WasUnboundOrOpens own call before = (before ≡ Unbound own) ⊎ ((before ≡ Closed) × OpensWith own call)

-- ---- frames sent, and packets submitted

-- these packets have the numbers from this one on, in order and without a gap
abbrev pub AreFrom : (ℕ → Packet → Type 0) → ℕ → List Packet → Type 0
AreFrom Is place [] = Unit {0}
AreFrom Is place (packet ∷ packets) = Is place packet × AreFrom Is (suc place) packets

-- the packet at this place of the list; the packet at place 0 has the number 1
abbrev pub IsPacketAt : List Packet → ℕ → Packet → Type 0
IsPacketAt packets place packet = slice_get packets place ≡ Some packet

-- a DATA frame carries packets of the queue within the window, the number of the first one, and the count of accepted
-- packets
pub record IsDataSent (s : Settings) (e : EndState) (number count : ℕ) (packets : List Packet) : Type 0 where
  pub place : ℕ
  pub within : place + length packets ≤ s.window
  pub number_is : number ≡ suc (e.acknowledged + place)
  pub packets_are : AreFrom (IsPacketAt (packets_in e.queue)) place packets
  pub count_is : count ≡ e.accepted

abbrev pub IsBodySent : Settings → EndState → Body → Type 0
IsBodySent s e Hello = Unit {0}
IsBodySent s e (Data number count packets) = IsDataSent s e number count packets.items
IsBodySent s e (Ack count) = count ≡ e.accepted

-- the frames that an end may send: none if closed, a HELLO with its own and the noted number, or frames of the session
abbrev pub IsFrameSentIn : Settings → EndState → FrameParts → Phase → Type 0
IsFrameSentIn s e f Closed = ⊥
IsFrameSentIn s e f (Unbound own) = f ≡ frame_sent s f.header.version own e.heard Hello
IsFrameSentIn s e f (Bound life) = (f ≡ frame_sent s f.header.version life.own life.peer f.body) × IsBodySent s e f.body

abbrev pub IsFrameSent : Settings → EndState → FrameParts → Type 0
IsFrameSent s e f = IsFrameSentIn s e f e.phase

-- the packets of the queue are the submitted ones that are not acknowledged
pub record IsQueueOf (submitted : List Packet) (e : EndState) : Type 0 where
  pub acknowledged : e.acknowledged ≤ length submitted
  pub transmitted : e.transmitted ≤ length submitted
  pub waiting : packets_in e.queue ≡ drop e.acknowledged submitted

-- the packet with this number, among packets numbered in sequence from a first number
abbrev pub HasNumber : ℕ → List Packet → ℕ → Packet → Type 0
HasNumber first packets number packet = (place : ℕ) × (number ≡ first + place) × (slice_get packets place ≡ Some packet)

-- a DATA frame carries the packet with this number
abbrev pub Carries : Body → ℕ → Packet → Type 0
Carries Hello number packet = ⊥
Carries (Data first count packets) number packet = HasNumber first packets.items number packet
Carries (Ack count) number packet = ⊥

-- a DATA frame carries submitted packets under their numbers, and the count of accepted packets
pub record IsDataOf (submitted : List Packet) (accepted number count : ℕ) (packets : List Packet) : Type 0 where
  pub first : 0 < number
  pub packets_are : (place : ℕ) (packet : Packet) → HasNumber number packets (suc place) packet
      → IsPacketAt submitted place packet
  pub count_is : count ≡ accepted

-- a frame carries submitted packets under their numbers, if it is a DATA frame, and the count of accepted packets
abbrev pub IsBodyOf : List Packet → ℕ → Body → Type 0
IsBodyOf submitted accepted Hello = Unit {0}
IsBodyOf submitted accepted (Data number count packets) = IsDataOf submitted accepted number count packets.items
IsBodyOf submitted accepted (Ack count) = count ≡ accepted

-- ---- packets delivered

-- each held packet is the one of its place; the first place is that of the next packet
abbrev pub AreHeld : (ℕ → Packet → Type 0) → ℕ → List (Option Packet) → Type 0
AreHeld Is place [] = Unit {0}
AreHeld Is place (None ∷ held) = AreHeld Is (suc place) held
AreHeld Is place (Some packet ∷ held) = Is place packet × AreHeld Is (suc place) held

-- each packet of a DATA frame is the one of its number
abbrev pub BodyTells : (ℕ → Packet → Type 0) → Body → Type 0
BodyTells Is body = (place : ℕ) (packet : Packet) → Carries body (suc place) packet → Is place packet

-- if the call passes in a DATA frame of this session, each packet in it is the one of its number
abbrev pub CallTells : (ℕ → Packet → Type 0) → Settings → Life → LinkCall → Type 0
CallTells Is s life (Frame frame now) = IsFrameOf s life frame → BodyTells Is frame.body
CallTells Is s life call = Unit {0}

-- the packets of one session among events
abbrev pub packets_delivered : Life → List LinkEvent → List Packet
packets_delivered life [] = []
packets_delivered life (Up other ∷ events) = packets_delivered life events
packets_delivered life (Deliver other packet ∷ events) = (if is_same_life life other then packet ∷ []
    else []) ++ packets_delivered life events
packets_delivered life (Down other reason ∷ events) = packets_delivered life events

-- these packets are the next ones, each once; the packets held afterwards are the ones of their places
pub record DeliversNext (Is : ℕ → Packet → Type 0) (before after : EndState) (packets : List Packet) : Type 0 where
  pub accepted : after.accepted ≡ before.accepted + length packets
  pub next : AreFrom Is before.accepted packets
  pub held : AreHeld Is after.accepted after.held

-- ---- events

-- an option as a list of at most one item
abbrev pub list_of : {A : Type 0} → Option A → List A
list_of None = []
list_of (Some x) = x ∷ []

-- the events while one bound session replaces another: Up when it is bound, then its packets, and Down when it ends
abbrev pub AreEventsBetween : Option Life → Option Life → List LinkEvent → Type 0
AreEventsBetween None None events = events ≡ []
AreEventsBetween None (Some life) events = (packets : List Packet) × (events ≡ Up life ∷ map (Deliver life) packets)
AreEventsBetween (Some life) None events = (reason : Reason) × (events ≡ Down life reason ∷ [])
AreEventsBetween (Some life) (Some next) events = (life ≡ next) × (packets : List Packet)
    × (events ≡ map (Deliver life) packets)

-- the events lead from one bound session to another: Up comes first, then only packets of that session, and Down last
abbrev pub Leads : Option Life → List LinkEvent → Option Life → Type 0
Leads now [] after = now ≡ after
Leads None (Up life ∷ events) after = Leads (Some life) events after
Leads None (Deliver life packet ∷ events) after = ⊥
Leads None (Down life reason ∷ events) after = ⊥
Leads (Some now) (Up life ∷ events) after = ⊥
Leads (Some now) (Deliver life packet ∷ events) after = (life ≡ now) × Leads (Some now) events after
Leads (Some now) (Down life reason ∷ events) after = (life ≡ now) × Leads None events after

-- none of these events is of this session
abbrev pub AreOfOthers : Life → List LinkEvent → Type 0
AreOfOthers life [] = Unit {0}
AreOfOthers life (Up other ∷ events) = (life ≢ other) × AreOfOthers life events
AreOfOthers life (Deliver other packet ∷ events) = (life ≢ other) × AreOfOthers life events
AreOfOthers life (Down other reason ∷ events) = (life ≢ other) × AreOfOthers life events

-- no event of a session comes after its Down
abbrev pub AreOverByDown : List LinkEvent → Type 0
AreOverByDown [] = Unit {0}
AreOverByDown (Up life ∷ events) = AreOverByDown events
AreOverByDown (Deliver life packet ∷ events) = AreOverByDown events
AreOverByDown (Down life reason ∷ events) = AreOfOthers life events × AreOverByDown events

-- each session that is bound has an own number above that of the one before
abbrev pub AreRising : ℕ → List LinkEvent → Type 0
AreRising number [] = Unit {0}
AreRising number (Up life ∷ events) = (number < life.own) × AreRising life.own events
AreRising number (Deliver life packet ∷ events) = AreRising number events
AreRising number (Down life reason ∷ events) = AreRising number events

-- ---- counts

-- the call passes in a frame of this session with this count
abbrev pub IsCountOfCall : Settings → Life → ℕ → LinkCall → Type 0
IsCountOfCall s life count (Frame frame now) = IsFrameOf s life frame × (count_of frame.body ≡ count)
IsCountOfCall s life count call = ⊥

-- the count of acknowledged packets stays, or becomes the count in a frame of the session; it is at most the count of
-- transmitted packets
pub record Acknowledges (s : Settings) (life : Life) (call : LinkCall) (before after : EndState) : Type 0 where
  pub stays : before.acknowledged ≤ after.acknowledged
  pub transmitted : after.acknowledged ≤ after.transmitted
  pub told : (after.acknowledged ≡ before.acknowledged) ⊎ IsCountOfCall s life after.acknowledged call
