-- The end of a neighbour link: the effect of each call.
use Rattle.std.specs.Prelude.{ℕ, suc, ◌+◌, ◌-◌, max, Bool, true, false, not, nat_lt, nat_le, ◌==◌, ◌||◌, ◌&&◌}
use Rattle.std.specs.Prelude.{if◌then◌else◌, List, [], ◌∷◌, ◌++◌, length, drop, slice_get, Option, Some, None, Result}
use Rattle.std.specs.Prelude.{Ok, Err}
use Rattle.std.specs.List.{list_any}
use Rattle.tora_packet.specs.declared.Packet.{Packet}
use Rattle.tora_packet.specs.declared.Packet.TheVariants.{Qry, Upd, Clr}
use Rattle.tora_frame.specs.declared.parts.TheConstants.{GREATEST_NUMBER, MOST_PACKETS}
use Rattle.tora_frame.specs.declared.parts.Version.{Version}
use Rattle.tora_frame.specs.declared.parts.Version.TheVariants.{One, Two}
use Rattle.tora_frame.specs.declared.parts.Body.{Body}
use Rattle.tora_frame.specs.declared.parts.Body.TheVariants.{Hello, Data, Ack}
use Rattle.tora_frame.specs.FrameParts.{FrameParts, batch, frame_of}
use Rattle.tora_arq.specs.declared.TheConstants.{EVENT_PLACES, PLACES_OF_A_FRAME, QUEUE_PLACES}
use Rattle.tora_arq.specs.declared.life.Life.{Life}
use Rattle.tora_arq.specs.declared.verdict.Verdict.{Verdict}
use Rattle.tora_arq.specs.declared.verdict.Verdict.TheVariants.{Accepted, Repeated, Ahead, Stale, Foreign, Busy}
use Rattle.tora_arq.specs.declared.reason.Reason.{Reason}
use Rattle.tora_arq.specs.declared.reason.Reason.TheVariants as Because
use Rattle.tora_arq.specs.declared.link_event.LinkEvent.{LinkEvent}
use Rattle.tora_arq.specs.declared.link_event.LinkEvent.TheVariants.{Up, Deliver, Down}
use Rattle.tora_arq.specs.declared.submit_error.SubmitError.{SubmitError}
use Rattle.tora_arq.specs.declared.submit_error.SubmitError.TheVariants as Refusal
use Rattle.tora_arq.specs.declared.phase.Phase.{Phase}
use Rattle.tora_arq.specs.declared.phase.Phase.TheVariants.{Closed, Unbound, Bound}
use Rattle.tora_arq.specs.declared.queued_packet.QueuedPacket.{QueuedPacket}
use Rattle.tora_arq.specs.Lives.{life_of, is_same_life}
use Rattle.tora_arq.specs.Settings.{Settings, ticks_passed}
use Rattle.tora_arq.specs.Held.{hold_at}
use Rattle.tora_arq.specs.SendQueue.{untried, has_given_up, DueBatch, first_due}

pub record EndState : Type 0 where
  pub phase : Phase  -- closed, or open with an own number: unbound, or bound to a session
  pub heard : ℕ  -- the greatest session number of the peer noted in this session, 0 for none
  pub last_life : ℕ  -- the own number of the last session, 0 before the first
  pub queue : List QueuedPacket  -- the packets submitted and not acknowledged
  pub acknowledged : ℕ  -- how many packets of this session the peer has acknowledged
  pub transmitted : ℕ  -- the greatest number of a packet that was transmitted in this session
  pub accepted : ℕ  -- how many packets of the peer were delivered in this session
  pub held : List (Option Packet)  -- the out-of-order packets, by place; the first place is that of the next number
  pub events : List LinkEvent  -- the events that were not polled, of all sessions
  pub speaks_two : Bool  -- the mark that the peer speaks version 2
  pub owes_hello : Bool
  pub owes_old_hello : Bool  -- the last HELLO was of version 2 and none of version 1 has followed it
  pub owes_ack : Bool
  pub last_hello : Option ℕ  -- the tick of the last HELLO, not counting those of version 1 after version 2
  pub last_hearing : ℕ  -- the tick of the peer's last frame in this session

abbrev pub first_end : EndState
first_end = record {
  phase = Closed;
  heard = 0;
  last_life = 0;
  queue = [];
  acknowledged = 0;
  transmitted = 0;
  accepted = 0;
  held = [];
  events = [];
  speaks_two = false;
  owes_hello = false;
  owes_old_hello = false;
  owes_ack = false;
  last_hello = None;
  last_hearing = 0;
}

-- ---- questions about an end

abbrev pub is_closed_in : Phase → Bool
is_closed_in Closed = true
is_closed_in (Unbound own) = false
is_closed_in (Bound life) = false

abbrev pub is_closed : EndState → Bool
is_closed e = is_closed_in e.phase

abbrev pub life_in : Phase → Option Life
life_in Closed = None
life_in (Unbound own) = None
life_in (Bound life) = Some life

-- the bound session, if there is one
abbrev pub bound_life : EndState → Option Life
bound_life e = life_in e.phase

-- ---- a session begins and ends

-- a new session with an own number; the events that were not polled stay
abbrev pub after_open : EndState → ℕ → ℕ → EndState
after_open e life now = record {
  phase = Unbound life;
  heard = 0;
  last_life = life;
  queue = [];
  acknowledged = 0;
  transmitted = 0;
  accepted = 0;
  held = [];
  events = e.events;
  speaks_two = false;
  owes_hello = true;
  owes_old_hello = false;
  owes_ack = false;
  last_hello = None;
  last_hearing = now;
}

abbrev pub with_event : EndState → LinkEvent → EndState
with_event e event = record e { events = e.events ++ event ∷ [] }

-- the bound session ends, and the end closes
abbrev pub after_end : EndState → Life → Reason → EndState
after_end e life reason = record (with_event e (Down life reason)) {
  phase = Closed;
  queue = [];
  held = [];
  owes_hello = false;
  owes_old_hello = false;
  owes_ack = false;
}

-- a session is bound, and nothing was transmitted or accepted in it; the mark stays if the number was noted before
abbrev pub after_bind : EndState → Life → EndState
after_bind e life = record (with_event e (Up life)) {
  phase = Bound life;
  heard = life.peer;
  queue = [];
  acknowledged = 0;
  transmitted = 0;
  accepted = 0;
  held = [];
  speaks_two = (e.heard == life.peer) && e.speaks_two;
  owes_hello = e.owes_hello || not (e.heard == life.peer);
}

-- ---- versions

abbrev pub is_two : Version → Bool
is_two One = false
is_two Two = true

-- a frame of this version is accepted: version 2 sets the mark
abbrev pub passed : EndState → Version → EndState
passed e version = record e { speaks_two = is_two version || e.speaks_two }

-- the version of the DATA frames and ACKs of an end
abbrev pub data_version : EndState → Version
data_version e = if e.speaks_two then Two else One

-- how many packets a DATA frame of a version carries at most
abbrev pub most_packets : Version → ℕ
most_packets One = 1
most_packets Two = MOST_PACKETS

-- ---- a frame arrives: the first of seven cases that applies

-- the count that a frame acknowledges
abbrev pub count_of : Body → ℕ
count_of Hello = 0
count_of (Data number count packets) = count
count_of (Ack count) = count

-- an update with the height of a node other than the sender
abbrev pub is_update_of_another : ℕ → Packet → Bool
is_update_of_another sender (Qry q) = false
is_update_of_another sender (Upd u) = not (u.height.id == sender)
is_update_of_another sender (Clr c) = false

abbrev pub has_update_of_another : ℕ → Body → Bool
has_update_of_another sender Hello = false
has_update_of_another sender (Data number count packets) = list_any (is_update_of_another sender) packets.items
has_update_of_another sender (Ack count) = false

-- the frame is of version 2, and the end speaks only version 1
abbrev pub is_unknown : Version → Version → Bool
is_unknown One version = is_two version
is_unknown Two version = false

-- case 1: not from the peer, not for this node, of a version that the end does not speak, or an update of another node
abbrev pub is_foreign : Settings → FrameParts → Bool
is_foreign s f =
    not (f.header.sender == s.peer) || not (f.header.receiver == s.me)
    || (is_unknown s.version f.header.version || has_update_of_another f.header.sender f.body)

-- case 2: fewer places for events are free than a frame may need
abbrev pub is_busy : EndState → Bool
is_busy e = nat_lt (EVENT_PLACES - length e.events) PLACES_OF_A_FRAME

-- case 5, at an unbound end: only a HELLO counts; a greater number is noted, and an equal one changes at most the mark
abbrev pub on_life_told : EndState → Version → ℕ → Body → Verdict × EndState
on_life_told e version life Hello =
    if nat_lt life e.heard then (Stale, e)
    else if life == e.heard then (Accepted, passed e version)
    else (Accepted, record e { heard = life; speaks_two = is_two version; owes_hello = true })
on_life_told e version life (Data number count packets) = (Stale, e)
on_life_told e version life (Ack count) = (Stale, e)

-- case 7: packets up to the acknowledged count leave the queue
abbrev pub after_acknowledgement : EndState → ℕ → ℕ → EndState
after_acknowledgement e count now = record e {
  queue = drop (count - e.acknowledged) e.queue;
  acknowledged = max e.acknowledged count;
  last_hearing = now;
}

-- the next packet is delivered; `held` are the out-of-order packets after it
abbrev pub after_delivery : EndState → Life → Packet → List (Option Packet) → EndState
after_delivery e life packet held = record (with_event e (Deliver life packet)) {
  accepted = suc e.accepted;
  held = held;
}

-- the held packets are delivered up to the first gap
unfoldable pub after_release : Life → EndState → List (Option Packet) → EndState
after_release life e [] = e
after_release life e (None ∷ held) = e
after_release life e (Some packet ∷ held) = after_release life (after_delivery e life packet held) held

abbrev pub after_hold : EndState → ℕ → Packet → EndState
after_hold e number packet = record e { held = hold_at (number - suc e.accepted) packet e.held }

-- case 7, each packet of a DATA frame: skipped if accepted before, held and delivered in order if within the window,
-- and dropped if beyond it; `furthest` is the last number of the window when the frame arrived
unfoldable pub after_packet : Life → ℕ → EndState → ℕ → Packet → EndState
after_packet life furthest e number packet =
    if nat_le number e.accepted then e
    else if nat_le number furthest then after_release life (after_hold e number packet)
    (after_hold e number packet).held
    else e

-- packets numbered in sequence from this number on
unfoldable pub after_packets : Life → ℕ → EndState → ℕ → List Packet → EndState
after_packets life furthest e number [] = e
after_packets life furthest e number (packet ∷ packets) = after_packets life furthest
    (after_packet life furthest e number packet) (suc number) packets

-- the verdict by the first and the last number: all packets were accepted before, the next one is among them, or all of
-- them are ahead of the next one
abbrev pub verdict_of_numbers : ℕ → ℕ → ℕ → Verdict
verdict_of_numbers accepted first last =
    if nat_le last accepted then Repeated
    else if nat_le first (suc accepted) then Accepted
    else Ahead

-- case 7, a DATA frame
unfoldable pub on_data : ℕ → EndState → Life → ℕ → List Packet → Verdict × EndState
on_data window e life number packets = (
  verdict_of_numbers e.accepted number (number + length packets - 1),
  after_packets life (e.accepted + window) e number packets,
)

-- case 7: both numbers match; `binds` says whether this frame bound the session
unfoldable pub on_matched : ℕ → EndState → Life → Bool → ℕ → Body → Verdict × EndState
on_matched window e life binds now Hello = (Accepted, record e { last_hearing = now })
on_matched window e life binds now (Data number count packets) =
    on_data window (record (after_acknowledgement e count now) { owes_ack = true }) life number packets.items
on_matched window e life binds now (Ack count) =
    ((if binds || nat_lt e.acknowledged count then Accepted else Repeated), after_acknowledgement e count now)

-- cases 3 to 7
unfoldable pub on_frame_in : ℕ → EndState → FrameParts → ℕ → Phase → Verdict × EndState
on_frame_in window e f now Closed = (Stale, e)
on_frame_in window e f now (Unbound own) =
    if f.header.heard == own then
    if nat_lt 0 (count_of f.body) then (Foreign, e)
    else if nat_lt f.header.life e.heard then (Stale, e)
    else on_matched window (passed (after_bind e (life_of own f.header.life)) f.header.version)
    (life_of own f.header.life) true now f.body
    else on_life_told e f.header.version f.header.life f.body
on_frame_in window e f now (Bound life) =
    if nat_lt life.peer f.header.life then (Accepted, after_end e life Because.NewPeer)
    else if nat_lt f.header.life life.peer then (Stale, e)
    else if f.header.heard == life.own then
    if nat_lt e.transmitted (count_of f.body) then (Foreign, e)
    else on_matched window (passed e f.header.version) life false now f.body
    else (Stale, e)

unfoldable pub on_frame : Settings → EndState → FrameParts → ℕ → Verdict × EndState
on_frame s e f now =
    if is_foreign s f then (Foreign, e)
    else if is_busy e then (Busy, e)
    else on_frame_in s.window e f now e.phase

abbrev pub verdict_of : Settings → EndState → FrameParts → ℕ → Verdict
verdict_of s e f now = (on_frame s e f now).0

abbrev pub after_frame : Settings → EndState → FrameParts → ℕ → EndState
after_frame s e f now = (on_frame s e f now).1

-- ---- time passes

abbrev pub is_silent : Settings → EndState → ℕ → Bool
is_silent s e now = nat_le s.times.silent (ticks_passed e.last_hearing now) || has_given_up s.times now e.queue

abbrev pub after_tick_in : Settings → EndState → ℕ → Phase → EndState
after_tick_in s e now Closed = e
after_tick_in s e now (Unbound own) = e
after_tick_in s e now (Bound life) = if is_silent s e now then after_end e life Because.Silent else e

unfoldable pub after_tick : Settings → EndState → ℕ → EndState
after_tick s e now = after_tick_in s e now e.phase

-- ---- a packet is submitted, a session is cut

-- the session is not the bound one, 2^62 packets were submitted in it, the queue is full, or there is room
abbrev pub on_submit_in : EndState → Life → Packet → Phase → Result (Unit {0}) SubmitError × EndState
on_submit_in e life packet Closed = (Err (Refusal.WrongLife packet), e)
on_submit_in e life packet (Unbound own) = (Err (Refusal.WrongLife packet), e)
on_submit_in e life packet (Bound current) =
    if not (is_same_life life current) then (Err (Refusal.WrongLife packet), e)
    else if nat_le GREATEST_NUMBER (e.acknowledged + length e.queue) then (
      Err Refusal.Spent,
      after_end e current
          Because.Spent,
    )
    else if nat_le QUEUE_PLACES (length e.queue) then (Err Refusal.Full, after_end e current Because.Full)
    else (Ok tt, record e { queue = e.queue ++ untried packet ∷ [] })

unfoldable pub on_submit : EndState → Life → Packet → Result (Unit {0}) SubmitError × EndState
on_submit e life packet = on_submit_in e life packet e.phase

abbrev pub submit_answer : EndState → Life → Packet → Result (Unit {0}) SubmitError
submit_answer e life packet = (on_submit e life packet).0

abbrev pub after_submit : EndState → Life → Packet → EndState
after_submit e life packet = (on_submit e life packet).1

abbrev pub after_cut_in : EndState → Life → Phase → EndState
after_cut_in e life Closed = e
after_cut_in e life (Unbound own) = e
after_cut_in e life (Bound current) = if is_same_life life current then after_end e current Because.Cut else e

unfoldable pub after_cut : EndState → Life → EndState
after_cut e life = after_cut_in e life e.phase

-- ---- events and frames to poll

abbrev pub first_event : EndState → Option LinkEvent
first_event e = slice_get e.events 0

abbrev pub after_poll_event : EndState → EndState
after_poll_event e = record e { events = drop 1 e.events }

abbrev pub has_hello_passed : Settings → Option ℕ → ℕ → Bool
has_hello_passed s None now = false
has_hello_passed s (Some last) now = nat_le s.times.hello (ticks_passed last now)

-- a HELLO is owed, or `hello` ticks have passed since the last one
abbrev pub is_hello_due : Settings → EndState → ℕ → Bool
is_hello_due s e now = e.owes_hello || has_hello_passed s e.last_hello now

-- a HELLO of version 2 was sent and none of version 1 since, and the peer is not known to speak version 2
abbrev pub is_old_hello_due : EndState → Bool
is_old_hello_due e = e.owes_old_hello && not e.speaks_two

-- a frame of this end
abbrev pub frame_sent : Settings → Version → ℕ → ℕ → Body → FrameParts
frame_sent s version life heard body =
    frame_of (record { version = version; sender = s.me; receiver = s.peer; life = life; heard = heard }) body

abbrev pub is_hello_body : Body → Bool
is_hello_body Hello = true
is_hello_body (Data _ _ _) = false
is_hello_body (Ack _) = false

-- there is a frame, and it is a HELLO
abbrev pub is_hello : Option FrameParts → Bool
is_hello None = false
is_hello (Some frame) = is_hello_body frame.body

-- the end after a HELLO of the newest version; if that is version 2, one of version 1 may be due next
abbrev pub after_hello : Settings → EndState → ℕ → EndState
after_hello s e now = record e { owes_hello = false; owes_old_hello = is_two s.version; last_hello = Some now }

abbrev pub after_old_hello : EndState → EndState
after_old_hello e = record e { owes_old_hello = false }

-- the first HELLO due: of version 1 if one has to follow version 2, else of the newest version; or else `other`
abbrev pub on_hello : Settings → EndState → ℕ → ℕ → ℕ → Option FrameParts × EndState → Option FrameParts × EndState
on_hello s e own heard now other =
    if is_old_hello_due e then (Some (frame_sent s One own heard Hello), after_old_hello e)
    else if is_hello_due s e now then (Some (frame_sent s s.version own heard Hello), after_hello s e now)
    else other

-- no HELLO is due: the first packets due, or an owed ACK
abbrev pub on_transmit_due : Settings → EndState → Life → Option DueBatch → Option FrameParts × EndState
on_transmit_due s e life (Some due) = (
  Some (frame_sent s (data_version e) life.own life.peer (Data due.number e.accepted (batch due.packets))),
  record e {
    queue = due.queue;
    transmitted = max e.transmitted (due.number + length due.packets - 1);
    owes_ack = false;
  },
)
on_transmit_due s e life None =
    if e.owes_ack
    then (Some (frame_sent s (data_version e) life.own life.peer (Ack e.accepted)), record e { owes_ack = false })
    else (None, e)

-- the packets that are due at an end
abbrev pub due_of : Settings → EndState → ℕ → Option DueBatch
due_of s e now = first_due s.times now (most_packets (data_version e)) (suc e.acknowledged) s.window e.queue

unfoldable pub on_transmit_in : Settings → EndState → ℕ → Phase → Option FrameParts × EndState
on_transmit_in s e now Closed = (None, e)
on_transmit_in s e now (Unbound own) = on_hello s e own e.heard now (None, e)
on_transmit_in s e now (Bound life) = on_hello s e life.own life.peer now (on_transmit_due s e life (due_of s e now))

unfoldable pub on_transmit : Settings → EndState → ℕ → Option FrameParts × EndState
on_transmit s e now = on_transmit_in s e now e.phase

-- the first frame due
abbrev pub frame_due : Settings → EndState → ℕ → Option FrameParts
frame_due s e now = (on_transmit s e now).0

abbrev pub after_transmit : Settings → EndState → ℕ → EndState
after_transmit s e now = (on_transmit s e now).1
