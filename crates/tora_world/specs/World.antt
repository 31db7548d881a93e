-- The simulated world: all nodes, their links and all datagrams, and the effect of each event.
use Rattle.std.specs.Prelude.{ℕ, zero, suc, ◌==◌, ◌&&◌, Bool, true, false, not, is_some, nat_lt, if◌then◌else◌, List}
use Rattle.std.specs.Prelude.{[], ◌∷◌, ◌++◌, length, slice_get, Option, Some, None}
use Rattle.tora_packet.specs.declared.Packet.{Packet}
use Rattle.tora_frame.specs.FrameParts.{FrameParts}
use Rattle.tora_arq.specs.declared.life.Life.{Life}
use Rattle.tora_arq.specs.declared.times.Times.{Times}
use Rattle.tora_arq.specs.declared.link_event.LinkEvent.{LinkEvent}
use Rattle.tora_arq.specs.Settings.{Settings, settings_of}
use Rattle.tora_arq.specs.LinkEnd.{EndState, first_end, is_closed, after_open, after_frame, after_tick, first_event}
use Rattle.tora_arq.specs.LinkEnd.{after_poll_event, frame_due, after_transmit}
use Rattle.tora_core.specs.declared.Input.{Input}
use Rattle.tora_life.specs.declared.state.DiskCall.TheVariants as Disk
use Rattle.tora_life.specs.declared.state.DiskCall.{DiskCall}
use Rattle.tora_life.specs.State.{fresh_state, after_crash}
use Rattle.tora_life.specs.declared.tags.Owner.{Owner}
use Rattle.tora_life.specs.LifeRun.{LifeDisk, opened, state_in, after_event, drawn_by}
use Rattle.tora_life.specs.LifeRun.LifeEvent.{Draw as DrawsNumber, Arm as ArmsDisk, Restart as OpensAnew}
use Rattle.tora_seat.specs.Between.{what_of, after_cargo}
use Rattle.tora_seat.specs.declared.what.What.{What}
use Rattle.tora_seat.specs.declared.what.What.TheVariants as Tells
use Rattle.tora_seat.specs.declared.item.Item.{Item}
use Rattle.tora_seat.specs.declared.cargo.Cargo.{Cargo}
use Rattle.tora_seat.specs.Serving.{SeatState, Parcel, Answers, Serving, put_one, serving_of, put_to, stepped_from}
use Rattle.tora_seat.specs.declared.TheConstants.{MOST_ITEMS, MOST_CARGOES}
use Rattle.tora_world.specs.declared.event.Event.{Event}
use Rattle.tora_world.specs.declared.event.Event.TheVariants.{Need, Tick, Open, Pull, Transmit, Deliver, Pump, CoreTurn}
use Rattle.tora_world.specs.declared.event.Event.TheVariants.{Arm, Restart}
use Rattle.tora_world.specs.declared.call.Call.{Call}
use Rattle.tora_world.specs.declared.call.Call.TheVariants as Fails
use Rattle.tora_world.specs.declared.sim_error.SimError.{SimError}
use Rattle.tora_world.specs.declared.sim_error.SimError.TheVariants as Refused
use Rattle.tora_world.specs.Topology.{Topology, version_at, neighbours_of, is_node, is_link, new_core}
use Rattle.tora_world.specs.Lists.{packets_of, parcels_in}
use Rattle.tora_world.specs.LinkMachine.{put_at}
use Rattle.tora_seat.specs.Offers.{place_of}

-- the outcome of sending a datagram
pub data Sending : Type 0 where
  Goes : Sending
  IsLost : Sending
  IsGone : Sending

-- the armed calls of a node
pub record Arms : Type 0 where
  pub sending : Sending
  pub receive : Bool

pub record World : Type 0 where
  pub topology : Topology
  pub times : Times  -- the times of every link end
  pub clock : ℕ
  pub seats : ℕ → SeatState  -- for each node, its core with the sessions of its links
  pub ends : ℕ → ℕ → EndState  -- for each node and each neighbour, the link end
  pub files : ℕ → ℕ → LifeDisk  -- the life file of each link end, or the disk of one that did not open
  pub items : ℕ → List Item  -- the queue into each core
  pub counts : ℕ → ℕ → ℕ  -- how many items each seat of a node has put since its last restart
  pub cargoes : ℕ → ℕ → List Cargo  -- the queue from each core to each neighbour
  pub arms : ℕ → Arms
  pub datagrams : List FrameParts  -- all that were ever sent
  pub put : ℕ → ℕ → List Cargo  -- all outbound messages that were ever put into each such queue
  pub inputs : ℕ → List (Input × ℕ)  -- the inputs that each core accepted since its node's last restart
  pub steps : ℕ → ℕ → List Parcel  -- the packets that were ever taken from each neighbour

-- ---- the first world

abbrev pub first_seat : Topology → ℕ → SeatState
first_seat t n = record { core = new_core t n; current = λ k. None; pending = λ k. None }

-- the owner of the life file of a link end
abbrev pub owner_of : ℕ → ℕ → Owner
owner_of n k = record { node = n; peer = k }

abbrev pub first_world : Topology → Times → World
first_world t times = record {
  topology = t;
  times = times;
  clock = 0;
  seats = first_seat t;
  ends = λ n k. first_end;
  files = λ n k. opened (owner_of n k) (fresh_state []);
  items = λ n. [];
  counts = λ n seat. 0;
  cargoes = λ n k. [];
  arms = λ n. record { sending = Goes; receive = false };
  datagrams = [];
  put = λ n k. [];
  inputs = λ n. [];
  steps = λ n k. [];
}

-- ---- questions about a world

abbrev pub settings : World → ℕ → ℕ → Settings
settings w n k = settings_of (version_at w.topology n) n k w.times

abbrev pub neighbours : World → ℕ → List ℕ
neighbours w n = neighbours_of w.topology n

-- the seat of the commands comes after those of the links
abbrev pub command_seat : World → ℕ → ℕ
command_seat w n = length (neighbours w n)

-- the packets that the core of a put into the queue to b in a session, as a's end writes it
abbrev pub sent_packets : World → ℕ → ℕ → Life → List Packet
sent_packets w a b life = packets_of life (parcels_in (w.put a b))

-- the packets of a that the core of b took in a session, as b's end writes it
abbrev pub taken_packets : World → ℕ → ℕ → Life → List Packet
taken_packets w b a life = packets_of life (w.steps b a)

-- the datagram with this number, counted from 1
abbrev pub datagram : World → ℕ → Option FrameParts
datagram w zero = None
datagram w (suc place) = slice_get w.datagrams place

-- ---- why an event is refused

abbrev pub is_empty : {A : Type 0} → List A → Bool
is_empty [] = true
is_empty (x ∷ xs) = false

-- there is room for one more item
abbrev pub has_room : World → ℕ → Bool
has_room w n = nat_lt (length (w.items n)) MOST_ITEMS

abbrev pub unless_possible : Bool → Option SimError
unless_possible possible = if possible then None else Some Refused.NotPossible

abbrev pub at_node : World → ℕ → Bool → Option SimError
at_node w n possible = if is_node w.topology n then unless_possible possible else Some Refused.NoNode

abbrev pub at_link : World → ℕ → ℕ → Bool → Option SimError
at_link w n k possible = if is_link w.topology n k then unless_possible possible else Some Refused.NoNode

-- the tick at which an event happens
abbrev pub tick_of : World → Event → ℕ
tick_of w Tick = suc w.clock
tick_of w (Need n d) = w.clock
tick_of w (Open n k) = w.clock
tick_of w (Pull n k) = w.clock
tick_of w (Transmit n k) = w.clock
tick_of w (Deliver i) = w.clock
tick_of w (Pump n k) = w.clock
tick_of w (CoreTurn n) = w.clock
tick_of w (Arm n call) = w.clock
tick_of w (Restart n torn) = w.clock

-- what the simulator fixes for an event, and other runs may choose: the clock after it, the tick of each link end and
-- each item, and the result of each offer
pub record Choice : Type 0 where
  pub clock : ℕ
  pub now : ℕ → ℕ → ℕ
  pub stamp : ℕ
  pub answers : Answers

-- why the event is refused with these ticks, if it is
abbrev pub refusal_by : Choice → World → Event → Option SimError
refusal_by c w (Need n d) = at_node w n (has_room w n)
refusal_by c w Tick = None
refusal_by c w (Open n k) = at_link w n k (is_closed (w.ends n k))
refusal_by c w (Pull n k) = at_link w n k (not (is_empty (w.cargoes n k)))
refusal_by c w (Transmit n k) = at_link w n k (is_some (frame_due (settings w n k) (w.ends n k) (c.now n k)))
refusal_by c w (Deliver i) = if is_some (datagram w i) then None else Some Refused.NoDatagram
refusal_by c w (Pump n k) = at_link w n k (not (is_empty (w.ends n k).events) && has_room w n)
refusal_by c w (CoreTurn n) = at_node w n (not (is_empty (w.items n)))
refusal_by c w (Arm n call) = at_node w n true
refusal_by c w (Restart n torn) = at_node w n true

-- ---- what an event does

abbrev pub with_end : World → ℕ → ℕ → EndState → World
with_end w n k e = record w { ends = put_at w.ends n k e }

-- one more item in the queue into the core of n
abbrev pub with_item : World → ℕ → ℕ → ℕ → What → World
with_item w n seat now what = record w {
  items = put_one w.items n (w.items n ++ record {
    seat = seat;
    number = suc (w.counts n seat);
    now = now;
    what = what;
  } ∷ []);
  counts = put_at w.counts n seat (suc (w.counts n seat));
}

-- a closed end is opened with the number that its life file draws, if it draws one
abbrev pub open_with : EndState → ℕ → List ℕ → EndState
open_with e now [] = e
open_with e now (number ∷ none) = after_open e number now

abbrev pub after_opening : World → Choice → ℕ → ℕ → World
after_opening w c n k = record w {
  ends = put_at w.ends n k (open_with (w.ends n k) (c.now n k) (drawn_by DrawsNumber (w.files n k)));
  files = put_at w.files n k (after_event DrawsNumber (w.files n k));
}

abbrev pub after_pull : World → ℕ → ℕ → List Cargo → World
after_pull w n k [] = w
after_pull w n k (cargo ∷ cargoes) = record w {
  ends = put_at w.ends n k (after_cargo (w.ends n k) cargo);
  cargoes = put_at w.cargoes n k cargoes;
}

abbrev pub with_datagram : Sending → List FrameParts → FrameParts → List FrameParts
with_datagram Goes datagrams f = datagrams ++ f ∷ []
with_datagram IsLost datagrams f = datagrams
with_datagram IsGone datagrams f = datagrams ++ f ∷ []

-- the first frame due is sent, unless the send is armed to lose it
abbrev pub after_sending : World → ℕ → ℕ → EndState → Option FrameParts → World
after_sending w n k e None = w
after_sending w n k e (Some f) = record w {
  ends = put_at w.ends n k e;
  datagrams = with_datagram (w.arms n).sending w.datagrams f;
  arms = put_one w.arms n (record (w.arms n) { sending = Goes });
}

-- a datagram is passed to its receiver, unless the receive is armed to fail
abbrev pub after_receiving : World → Choice → Option FrameParts → World
after_receiving w c None = w
after_receiving w c (Some f) =
    if (w.arms f.header.receiver).receive
    then record w { arms = put_one w.arms f.header.receiver (record (w.arms f.header.receiver) { receive = false }) }
    else with_end w f.header.receiver f.header.sender (after_frame (settings w f.header.receiver f.header.sender)
    (w.ends f.header.receiver f.header.sender) f (c.now f.header.receiver f.header.sender))

-- the first event of a link end goes into the queue, from the seat of its neighbour
abbrev pub after_pump : World → Choice → ℕ → ℕ → Option LinkEvent → World
after_pump w c n k None = w
after_pump w c n k (Some event) = with_item (with_end w n k (after_poll_event (w.ends n k))) n
    (place_of k (neighbours w n)) c.stamp (what_of event)

-- the node's seat and queues after an item was served
abbrev pub after_serving : World → ℕ → List Item → Serving → World
after_serving w n items v = record w {
  seats = put_one w.seats n v.seat;
  items = put_one w.items n items;
  cargoes = put_one w.cargoes n (λ k. w.cargoes n k ++ put_to k v.offers);
  put = put_one w.put n (λ k. w.put n k ++ put_to k v.offers);
  inputs = put_one w.inputs n (w.inputs n ++ v.inputs);
  steps = put_one w.steps n (λ k. w.steps n k ++ stepped_from k v.steps);
}

abbrev pub after_turn : World → Choice → ℕ → List Item → World
after_turn w c n [] = w
after_turn w c n (item ∷ items) = after_serving w n items (serving_of c.answers (neighbours w n) (w.seats n) item)

-- the life file of a's end towards k is one of node n's files, and there is such a link
abbrev pub is_file_of : World → ℕ → ℕ → ℕ → Bool
is_file_of w n a k = (a == n) && is_link w.topology a k

-- the next call of this kind of each life file of a node fails
abbrev pub with_armed_files : World → ℕ → DiskCall → World
with_armed_files w n call = record w {
  files = λ a k. if is_file_of w n a k then after_event (ArmsDisk call)
      (w.files a k) else w.files a k;
}

abbrev pub after_arming : World → ℕ → Call → World
after_arming w n Fails.SendLost = record w { arms = put_one w.arms n (record (w.arms n) { sending = IsLost }) }
after_arming w n Fails.SendGone = record w { arms = put_one w.arms n (record (w.arms n) { sending = IsGone }) }
after_arming w n Fails.Receive = record w { arms = put_one w.arms n (record (w.arms n) { receive = true }) }
after_arming w n Fails.Read = with_armed_files w n Disk.Read
after_arming w n Fails.Write = with_armed_files w n Disk.Write
after_arming w n Fails.Sync = with_armed_files w n Disk.Sync

-- a life file that a crash left is opened
abbrev pub reopened : Option (List ℕ) → LifeDisk → LifeDisk
reopened torn disk = after_event (OpensAnew (after_crash torn (state_in disk))) disk

-- the core, the ends and the queues are new, and the life files are opened
abbrev pub after_restart : World → ℕ → Option (List ℕ) → World
after_restart w n torn = record w {
  seats = put_one w.seats n (first_seat w.topology n);
  ends = λ a k. if a == n then first_end else w.ends a k;
  files = λ a k. if is_file_of w n a k then reopened torn (w.files a k) else w.files a k;
  items = put_one w.items n [];
  counts = put_one w.counts n (λ seat. 0);
  cargoes = put_one w.cargoes n (λ k. []);
  inputs = put_one w.inputs n [];
}

-- the effect of an event that is not refused
unfoldable pub effect_by : Choice → World → Event → World
effect_by c w (Need n d) = with_item w n (command_seat w n) c.stamp (Tells.Need d)
effect_by c w Tick = record w { clock = c.clock; ends = λ n k. after_tick (settings w n k) (w.ends n k) (c.now n k) }
effect_by c w (Open n k) = after_opening w c n k
effect_by c w (Pull n k) = after_pull w n k (w.cargoes n k)
effect_by c w (Transmit n k) = after_sending w n k (after_transmit (settings w n k) (w.ends n k) (c.now n k))
    (frame_due (settings w n k) (w.ends n k) (c.now n k))
effect_by c w (Deliver i) = after_receiving w c (datagram w i)
effect_by c w (Pump n k) = after_pump w c n k (first_event (w.ends n k))
effect_by c w (CoreTurn n) = after_turn w c n (w.items n)
effect_by c w (Arm n call) = after_arming w n call
effect_by c w (Restart n torn) = after_restart w n torn

-- the world after any event; a refused one has no effect
unfoldable pub world_by : Choice → World → Event → World
world_by c w event = if is_some (refusal_by c w event) then w else effect_by c w event

-- ---- the simulator's own choice: its clock for every tick, and an outbound message is put if its queue has room

abbrev pub own_answers : World → ℕ → Answers
own_answers w n offers k = nat_lt (length (w.cargoes n k ++ put_to k offers)) MOST_CARGOES

abbrev pub node_of : Event → ℕ
node_of (CoreTurn n) = n
node_of Tick = 0
node_of (Need n d) = n
node_of (Open n k) = n
node_of (Pull n k) = n
node_of (Transmit n k) = n
node_of (Deliver i) = 0
node_of (Pump n k) = n
node_of (Arm n call) = n
node_of (Restart n torn) = n

abbrev pub own_choice : World → Event → Choice
own_choice w event = record {
  clock = tick_of w event;
  now = λ n k. tick_of w event;
  stamp = tick_of w event;
  answers = own_answers w (node_of event);
}

abbrev pub refusal_of : World → Event → Option SimError
refusal_of w event = refusal_by (own_choice w event) w event

abbrev pub world_after : World → Event → World
world_after w event = world_by (own_choice w event) w event

abbrev pub world_after_all : World → List Event → World
world_after_all w [] = w
world_after_all w (event ∷ events) = world_after_all (world_after w event) events
