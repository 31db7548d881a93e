-- The end of a neighbour link as a table: state, input, condition, and result. Each case of a `data` is a row.
use Rattle.std.specs.Prelude.{◌≡◌, ◌≢◌, ◌⊎◌, ℕ, suc, ◌+◌, ◌-◌, ◌<◌, ◌≤◌, max, true, false, ◌||◌, List, [], ◌∷◌, ◌++◌}
use Rattle.std.specs.Prelude.{map, take, length, slice_get, Option, Some, None, Result, Ok, Err, Contains, drop}
use Rattle.std.specs.List.{AllByRecursion}
use Rattle.tora_packet.specs.PacketParts.{UpdateParts}
use Rattle.tora_packet.specs.declared.Packet.{Packet}
use Rattle.tora_packet.specs.declared.Packet.TheVariants.{Upd}
use Rattle.tora_frame.specs.declared.parts.TheConstants.{GREATEST_NUMBER, MOST_PACKETS}
use Rattle.tora_frame.specs.declared.parts.Version.{Version}
use Rattle.tora_frame.specs.declared.parts.Version.TheVariants.{One, Two}
use Rattle.tora_frame.specs.declared.parts.Header.{Header}
use Rattle.tora_frame.specs.declared.parts.Body.{Body}
use Rattle.tora_frame.specs.declared.parts.Body.TheVariants.{Hello, Data, Ack}
use Rattle.tora_frame.specs.FrameParts.{FrameParts, batch}
use Rattle.tora_arq.specs.declared.TheConstants.{EVENT_PLACES, PLACES_OF_A_FRAME, QUEUE_PLACES}
use Rattle.tora_arq.specs.declared.life.Life.{Life}
use Rattle.tora_arq.specs.declared.verdict.Verdict.{Verdict}
use Rattle.tora_arq.specs.declared.verdict.Verdict.TheVariants.{Accepted, Repeated, Ahead, Stale, Foreign, Busy}
use Rattle.tora_arq.specs.declared.reason.Reason.{Reason}
use Rattle.tora_arq.specs.declared.reason.Reason.TheVariants as Because
use Rattle.tora_arq.specs.declared.link_event.LinkEvent.{LinkEvent}
use Rattle.tora_arq.specs.declared.link_event.LinkEvent.TheVariants.{Up, Deliver, Down}
use Rattle.tora_arq.specs.declared.submit_error.SubmitError.{SubmitError}
use Rattle.tora_arq.specs.declared.submit_error.SubmitError.TheVariants as Refusal
use Rattle.tora_arq.specs.declared.phase.Phase.{Phase}
use Rattle.tora_arq.specs.declared.phase.Phase.TheVariants.{Closed, Unbound, Bound}
use Rattle.tora_arq.specs.declared.queued_packet.QueuedPacket.{QueuedPacket}
use Rattle.tora_arq.specs.declared.times.Times.{Times}
use Rattle.tora_arq.specs.Lives.{life_of}
use Rattle.tora_arq.specs.Settings.{Settings, ticks_passed}
use Rattle.tora_arq.specs.Held.{hold_at, first_held}
use Rattle.tora_arq.specs.SendQueue.{packets_in, untried, retried}
use Rattle.tora_arq.specs.LinkEnd.{EndState, is_two, count_of, frame_sent}

-- ---- terms of the table

-- the frame carries this packet
abbrev pub HasPacket : Body → Packet → Type 0
HasPacket Hello packet = ⊥
HasPacket (Data number count packets) packet = Contains packets.items packet
HasPacket (Ack count) packet = ⊥

-- the frame is from the peer to this node, in a version that the end speaks, and its updates have the sender's own
-- height
pub record IsFromPeer (s : Settings) (h : Header) (body : Body) : Type 0 where
  pub sender : h.sender ≡ s.peer
  pub receiver : h.receiver ≡ s.me
  pub version : h.version ≡ Two → s.version ≡ Two
  pub updates : (u : UpdateParts) → HasPacket body (Upd u) → u.height.id ≡ h.sender

-- as many places for events are free as a frame may need
abbrev pub HasPlaces : EndState → Type 0
HasPlaces e = length e.events + PLACES_OF_A_FRAME ≤ EVENT_PLACES

-- the end after a frame of the peer in this version at this tick
abbrev pub heard_now : EndState → Version → ℕ → EndState
heard_now e version now = record e { speaks_two = is_two version || e.speaks_two; last_hearing = now }

-- the end after a DATA frame with this count
abbrev pub heard_data : EndState → Version → ℕ → ℕ → EndState
heard_data e version count now = record (heard_now e version now) {
  queue = drop (count - e.acknowledged) e.queue;
  acknowledged = max e.acknowledged count;
  owes_ack = true;
}

-- the end after its session has ended
abbrev pub ended : EndState → Life → Reason → EndState
ended e life reason = record e {
  phase = Closed;
  queue = [];
  held = [];
  events = e.events ++ Down life reason ∷ [];
  owes_hello = false;
  owes_old_hello = false;
  owes_ack = false;
}

-- the end after a session has begun: nothing was transmitted, accepted or held in it
abbrev pub begun : EndState → Life → EndState
begun e life = record e {
  phase = Bound life;
  heard = life.peer;
  queue = [];
  acknowledged = 0;
  transmitted = 0;
  accepted = 0;
  held = [];
  events = e.events ++ Up life ∷ [];
}

-- ---- what an end receives

-- an unbound end binds the session with the peer's number that it had noted, or with a greater one
pub data Binds (e : EndState) (own : ℕ) (h : Header) (now : ℕ) : EndState → Type 0 where
  noted_life_begins : h.life ≡ e.heard → Binds e own h now (heard_now (begun e (life_of own h.life)) h.version now)
  newer_life_begins : e.heard < h.life
      → Binds e own h now (record (begun e (life_of own h.life)) {
        speaks_two = is_two h.version;
        owes_hello = true;
        last_hearing = now;
      })

-- the verdict on a DATA frame, by the next number to deliver, the frame's first number, and the one after its last
pub data IsJudged (next first behind : ℕ) : Verdict → Type 0 where
  all_were_accepted : behind ≤ next → IsJudged next first behind Repeated
  next_is_among_them : first ≤ next → next < behind → IsJudged next first behind Accepted
  all_are_ahead : next < first → IsJudged next first behind Ahead

-- the held packets up to the first gap, and the places from there on
pub record IsRun (held : List (Option Packet)) (packets : List Packet) (rest : List (Option Packet)) : Type 0 where
  pub held_is : held ≡ map Some packets ++ rest
  pub gap : first_held rest ≡ None

-- one packet of a DATA frame, by its number; `furthest` is the last number of the window when the frame arrived
pub data TakesPacket (life : Life) (furthest : ℕ) (e : EndState) (number : ℕ) (packet : Packet) : EndState
    → Type 0 where
  was_accepted : number ≤ e.accepted → TakesPacket life furthest e number packet e
  is_too_far : e.accepted < number → furthest < number → TakesPacket life furthest e number packet e
  -- the packet is held at its place, and the packets up to the first gap are delivered
  is_taken : {packets : List Packet} {rest : List (Option Packet)} → e.accepted < number → number ≤ furthest
      → IsRun (hold_at (number - suc e.accepted) packet e.held) packets rest
      → TakesPacket life furthest e number packet (record e {
        events = e.events ++ map (Deliver life) packets;
        accepted = e.accepted + length packets;
        held = rest;
      })

-- packets numbered in sequence from this number on, one after another
pub data TakesPackets (life : Life) (furthest : ℕ) : EndState → ℕ → List Packet → EndState → Type 0 where
  no_packet : {e : EndState} {number : ℕ} → TakesPackets life furthest e number [] e
  first_packet : {e between after : EndState} {number : ℕ} {packet : Packet} {packets : List Packet}
      → TakesPacket life furthest e number packet between → TakesPackets life furthest between (suc number) packets
      after
      → TakesPackets life furthest e number (packet ∷ packets) after

-- a frame that passes cases 1 and 2
pub data HearsIn (s : Settings) (e : EndState) (h : Header) (now : ℕ) : Phase → Body → Verdict → EndState → Type 0 where
  closed : {body : Body} → HearsIn s e h now Closed body Stale e
  -- the end is unbound, and the frame does not carry its own number
  no_hello_unechoed : {own : ℕ} {body : Body} → h.heard ≢ own → body ≢ Hello
      → HearsIn s e h now (Unbound own) body Stale e
  hello_of_older_life : {own : ℕ} → h.heard ≢ own → h.life < e.heard → HearsIn s e h now (Unbound own) Hello Stale e
  hello_of_noted_life : {own : ℕ} → h.heard ≢ own → h.life ≡ e.heard
      → HearsIn s e h now (Unbound own) Hello Accepted (record e { speaks_two = is_two h.version || e.speaks_two })
  hello_of_newer_life : {own : ℕ} → h.heard ≢ own → e.heard < h.life
      → HearsIn s e h now (Unbound own) Hello Accepted (record e {
        heard = h.life;
        speaks_two = is_two h.version;
        owes_hello = true;
      })
  -- the end is unbound, and the frame carries its own number
  counts_before_binding : {own : ℕ} {body : Body} → h.heard ≡ own → 0 < count_of body
      → HearsIn s e h now (Unbound own) body Foreign e
  echo_of_older_life : {own : ℕ} {body : Body} → h.heard ≡ own → count_of body ≡ 0 → h.life < e.heard
      → HearsIn s e h now (Unbound own) body Stale e
  hello_binds : {own : ℕ} {bound : EndState} → h.heard ≡ own → Binds e own h now bound
      → HearsIn s e h now (Unbound own) Hello Accepted bound
  ack_binds : {own : ℕ} {bound : EndState} → h.heard ≡ own → Binds e own h now bound
      → HearsIn s e h now (Unbound own) (Ack 0) Accepted bound
  data_binds : {own number : ℕ} {packets : List Packet} {verdict : Verdict} {bound after : EndState} → h.heard ≡ own
      → Binds e own h now bound
      → IsJudged 1 number (number + length packets) verdict
      → TakesPackets (life_of own h.life) s.window (record bound { owes_ack = true }) number packets after
      → HearsIn s e h now (Unbound own) (Data number 0 (batch packets)) verdict after
  -- the end is bound, and the frame has another session number of the peer
  newer_life : {life : Life} {body : Body} → life.peer < h.life →
      HearsIn s e h now (Bound life) body Accepted (ended e life Because.NewPeer)
  older_life : {life : Life} {body : Body} → h.life < life.peer → HearsIn s e h now (Bound life) body Stale e
  -- the frame has the bound session number of the peer, but not the end's own number
  unechoed : {life : Life} {body : Body} → h.life ≡ life.peer → h.heard ≢ life.own
      → HearsIn s e h now (Bound life) body Stale e
  -- both numbers match
  counts_too_many : {life : Life} {body : Body} → h.life ≡ life.peer → h.heard ≡ life.own
      → e.transmitted < count_of body
      → HearsIn s e h now (Bound life) body Foreign e
  hello : {life : Life} → h.life ≡ life.peer → h.heard ≡ life.own
      → HearsIn s e h now (Bound life) Hello Accepted (heard_now e h.version now)
  ack_of_more : {life : Life} {count : ℕ} → h.life ≡ life.peer → h.heard ≡ life.own → e.acknowledged < count
      → count ≤ e.transmitted
      → HearsIn s e h now (Bound life) (Ack count) Accepted (record (heard_now e h.version now) {
        queue = drop (count - e.acknowledged) e.queue;
        acknowledged = count;
      })
  ack_of_no_more : {life : Life} {count : ℕ} → h.life ≡ life.peer → h.heard ≡ life.own → count ≤ e.acknowledged
      → count ≤ e.transmitted
      → HearsIn s e h now (Bound life) (Ack count) Repeated (heard_now e h.version now)
  data_comes : {life : Life} {number count : ℕ} {packets : List Packet} {verdict : Verdict} {after : EndState}
      → h.life ≡ life.peer → h.heard ≡ life.own → count ≤ e.transmitted
      → IsJudged (suc e.accepted) number (number + length packets) verdict
      → TakesPackets life (e.accepted + s.window) (heard_data e h.version count now) number packets after
      → HearsIn s e h now (Bound life) (Data number count (batch packets)) verdict after

-- a frame with this header and body arrives at this tick
pub data Hears (s : Settings) (e : EndState) (h : Header) (body : Body) (now : ℕ) : Verdict → EndState → Type 0 where
  not_from_peer : ¬ IsFromPeer s h body → Hears s e h body now Foreign e
  no_places : IsFromPeer s h body → ¬ HasPlaces e → Hears s e h body now Busy e
  looked_at : {verdict : Verdict} {after : EndState} → IsFromPeer s h body → HasPlaces e
      → HearsIn s e h now e.phase body verdict after
      → Hears s e h body now verdict after

-- ---- what an end does

-- the end is opened with a number; the events that were not polled stay
pub data Opens (e : EndState) (life now : ℕ) : EndState → Type 0 where
  opened : e.phase ≡ Closed → e.last_life < life → Opens e life now (record e {
    phase = Unbound life;
    heard = 0;
    last_life = life;
    queue = [];
    acknowledged = 0;
    transmitted = 0;
    accepted = 0;
    held = [];
    speaks_two = false;
    owes_hello = true;
    owes_old_hello = false;
    owes_ack = false;
    last_hello = None;
    last_hearing = now;
  })

-- the packet was tried `tries` times, the last time at least `retry` ticks ago
pub record IsGivenUp (times : Times) (now : ℕ) (q : QueuedPacket) : Type 0 where
  pub tried : times.tries ≤ q.tries
  pub long_ago : times.retry ≤ ticks_passed q.last_try now

abbrev pub HasGivenUp : Settings → EndState → ℕ → Type 0
HasGivenUp s e now = (q : QueuedPacket) × Contains e.queue q × IsGivenUp s.times now q

-- no frame of the peer came for `silent` ticks, or a packet is given up
abbrev pub IsSilent : Settings → EndState → ℕ → Type 0
IsSilent s e now = (s.times.silent ≤ ticks_passed e.last_hearing now) ⊎ HasGivenUp s e now

-- a tick passes
pub data Ticks (s : Settings) (e : EndState) (now : ℕ) : EndState → Type 0 where
  tick_unbound : ((life : Life) → e.phase ≢ Bound life) → Ticks s e now e
  tick_heard : (life : Life) → e.phase ≡ Bound life → ¬ IsSilent s e now → Ticks s e now e
  tick_silent : (life : Life) → e.phase ≡ Bound life → IsSilent s e now → Ticks s e now (ended e life Because.Silent)

-- how many packets were submitted in this session
abbrev pub submitted : EndState → ℕ
submitted e = e.acknowledged + length e.queue

-- a packet is submitted in a session
pub data Submits (e : EndState) (life : Life) (packet : Packet) : Result (Unit {0}) SubmitError → EndState
    → Type 0 where
  of_another_life : e.phase ≢ Bound life → Submits e life packet (Err (Refusal.WrongLife packet)) e
  numbers_are_spent : e.phase ≡ Bound life → GREATEST_NUMBER ≤ submitted e
      → Submits e life packet (Err Refusal.Spent) (ended e life Because.Spent)
  queue_is_full : e.phase ≡ Bound life → submitted e < GREATEST_NUMBER → QUEUE_PLACES ≤ length e.queue
      → Submits e life packet (Err Refusal.Full) (ended e life Because.Full)
  packet_waits : e.phase ≡ Bound life → submitted e < GREATEST_NUMBER → length e.queue < QUEUE_PLACES
      → Submits e life packet (Ok tt) (record e { queue = e.queue ++ untried packet ∷ [] })

-- a session is cut
pub data Cuts (e : EndState) (life : Life) : EndState → Type 0 where
  cut_another_life : e.phase ≢ Bound life → Cuts e life e
  cut_bound_life : e.phase ≡ Bound life → Cuts e life (ended e life Because.Cut)

-- ---- what an end reports

-- a HELLO of version 2 was sent, none of version 1 has followed, and the peer is not known to speak version 2
abbrev pub IsOldHelloDue : EndState → Type 0
IsOldHelloDue e = (e.owes_old_hello ≡ true) × (e.speaks_two ≡ false)

-- a HELLO is owed, or `hello` ticks have passed since the last one
abbrev pub IsHelloDue : Settings → EndState → ℕ → Type 0
IsHelloDue s e now =
    (e.owes_hello ≡ true) ⊎ ((last : ℕ) × (e.last_hello ≡ Some last) × (s.times.hello ≤ ticks_passed last now))

-- the packet was never transmitted, or fewer than `tries` times and the last time at least `retry` ticks ago
abbrev pub IsDue : Times → ℕ → QueuedPacket → Type 0
IsDue times now q = (q.tries ≡ 0) ⊎ ((q.tries < times.tries) × (times.retry ≤ ticks_passed q.last_try now))

abbrev pub IsNotDue : Times → ℕ → QueuedPacket → Type 0
IsNotDue times now q = ¬ IsDue times now q

-- no further packet goes into the frame: the frame is full, the window ends, or the next packet is not due
pub data AreAll (times : Times) (now most window many reached : ℕ) (behind : List QueuedPacket) : Type 0 where
  frame_is_full : many ≡ most → AreAll times now most window many reached behind
  window_ends : reached ≡ window → AreAll times now most window many reached behind
  next_is_not_due : ((q : QueuedPacket) → slice_get behind 0 ≡ Some q → IsNotDue times now q)
      → AreAll times now most window many reached behind

-- the first packet due within the window, and the due packets that follow it directly, as many as a frame carries
pub record AreDue (times : Times) (now most window : ℕ) (queue before due behind : List QueuedPacket) : Type 0 where
  pub queue_is : queue ≡ before ++ due ++ behind
  pub before_are_not : AllByRecursion (IsNotDue times now) before
  pub are : AllByRecursion (IsDue times now) due
  pub some : 0 < length due
  pub within : length before + length due ≤ window
  pub at_most : length due ≤ most
  pub all : AreAll times now most window (length due) (length before + length due) behind

-- no packet within the window is due
abbrev pub NoneIsDue : Times → ℕ → ℕ → List QueuedPacket → Type 0
NoneIsDue times now window queue = AllByRecursion (IsNotDue times now) (take window queue)

-- the version of DATA frames and ACKs, by the mark, and how many packets such a DATA frame may carry
pub data Speaks (e : EndState) : Version → ℕ → Type 0 where
  one_packet : e.speaks_two ≡ false → Speaks e One 1
  sixteen_packets : e.speaks_two ≡ true → Speaks e Two MOST_PACKETS

-- the two session numbers in the frames of an open end: its own, and the one noted or bound
pub data Names (e : EndState) : Phase → ℕ → ℕ → Type 0 where
  of_unbound : {own : ℕ} → Names e (Unbound own) own e.heard
  of_bound : {life : Life} → Names e (Bound life) life.own life.peer

-- the first frame due
pub data TellsIn (s : Settings) (e : EndState) (now : ℕ) : Phase → Option FrameParts → EndState → Type 0 where
  closed_tells_nothing : TellsIn s e now Closed None e
  -- the end is open
  old_hello_is_due : {phase : Phase} {own heard : ℕ} → Names e phase own heard → IsOldHelloDue e
      → TellsIn s e now phase (Some (frame_sent s One own heard Hello)) (record e { owes_old_hello = false })
  hello_is_due : {phase : Phase} {own heard : ℕ} → Names e phase own heard → ¬ IsOldHelloDue e → IsHelloDue s e now
      → TellsIn s e now phase (Some (frame_sent s s.version own heard Hello))
      (record e { owes_hello = false; owes_old_hello = is_two s.version; last_hello = Some now })
  -- no HELLO is due
  unbound_tells_nothing : {own : ℕ} → ¬ IsOldHelloDue e → ¬ IsHelloDue s e now → TellsIn s e now (Unbound own) None e
  data_is_due : {life : Life} {version : Version} {most : ℕ} {before due behind : List QueuedPacket} → ¬ IsOldHelloDue e
      → ¬ IsHelloDue s e now
      → Speaks e version most → AreDue s.times now most s.window e.queue before due behind
      → TellsIn s e now (Bound life)
      (Some (frame_sent s version life.own life.peer (Data (suc (e.acknowledged + length before)) e.accepted
      (batch (packets_in due)))))
      (record e {
        queue = before ++ map (λ q. retried q now) due ++ behind;
        transmitted = max e.transmitted (e.acknowledged + (length before + length due));
        owes_ack = false;
      })
  ack_is_due : {life : Life} {version : Version} {most : ℕ} → ¬ IsOldHelloDue e → ¬ IsHelloDue s e now
      → NoneIsDue s.times now s.window e.queue → e.owes_ack ≡ true → Speaks e version most
      → TellsIn s e now (Bound life) (Some (frame_sent s version life.own life.peer (Ack e.accepted)))
      (record e { owes_ack = false })
  bound_tells_nothing : {life : Life} → ¬ IsOldHelloDue e → ¬ IsHelloDue s e now
      → NoneIsDue s.times now s.window e.queue → e.owes_ack ≡ false → TellsIn s e now (Bound life) None e

-- the frame due at this tick, and the end after the frame is sent
abbrev pub Tells : Settings → EndState → ℕ → Option FrameParts → EndState → Type 0
Tells s e now frame after = TellsIn s e now e.phase frame after

-- the event that is polled, and the end after that
pub data Gives (e : EndState) : Option LinkEvent → EndState → Type 0 where
  no_event_waits : e.events ≡ [] → Gives e None e
  oldest_event : {event : LinkEvent} {events : List LinkEvent} → e.events ≡ event ∷ events
      → Gives e (Some event) (record e { events = events })
