-- The table of docs/simulation.md as a relation: a case for each event and each outcome, with the changes, and with
-- everything else unchanged.
use Rattle.std.specs.Prelude.{◌≡◌, ◌≢◌, ◌↔◌, ◌⊎◌, ℕ, suc, ◌+◌, ◌<◌, ◌≤◌, Bool, true, false, List, [], ◌∷◌, ◌++◌, length}
use Rattle.std.specs.Prelude.{Option, Some, None}
use Rattle.tora_packet.specs.declared.Packet.{Packet}
use Rattle.tora_frame.specs.FrameParts.{FrameParts}
use Rattle.tora_arq.specs.declared.life.Life.{Life}
use Rattle.tora_arq.specs.declared.reason.Reason.{Reason}
use Rattle.tora_arq.specs.declared.link_event.LinkEvent.{LinkEvent}
use Rattle.tora_arq.specs.declared.link_event.LinkEvent.TheVariants as Link
use Rattle.tora_arq.specs.declared.phase.Phase.TheVariants.{Closed}
use Rattle.tora_arq.specs.LinkEnd.{first_end, after_open, after_frame, after_tick, after_submit, after_cut, first_event}
use Rattle.tora_arq.specs.LinkEnd.{after_poll_event, frame_due, after_transmit}
use Rattle.tora_core.specs.Numbers.{has_number}
use Rattle.tora_life.specs.declared.state.DiskCall.TheVariants as Disk
use Rattle.tora_life.specs.State.{after_crash}
use Rattle.tora_life.specs.LifeRun.{state_in, after_event, drawn_by}
use Rattle.tora_life.specs.LifeRun.LifeEvent.{Draw as DrawsNumber, Arm as ArmsDisk, Restart as OpensAnew}
use Rattle.tora_seat.specs.declared.what.What.{What}
use Rattle.tora_seat.specs.declared.what.What.TheVariants as Tells
use Rattle.tora_seat.specs.declared.item.Item.{Item}
use Rattle.tora_seat.specs.declared.cargo.Cargo.{Cargo}
use Rattle.tora_seat.specs.declared.cargo.Cargo.TheVariants as Gives
use Rattle.tora_seat.specs.Serving.{Offer, serving_of, put_to}
use Rattle.tora_seat.specs.declared.TheConstants.{MOST_ITEMS, MOST_CARGOES}
use Rattle.tora_world.specs.declared.event.Event.{Event}
use Rattle.tora_world.specs.declared.event.Event.TheVariants.{Need, Tick, Open, Pull, Transmit, Deliver, Pump, CoreTurn}
use Rattle.tora_world.specs.declared.event.Event.TheVariants.{Arm, Restart}
use Rattle.tora_world.specs.declared.call.Call.TheVariants as Fails
use Rattle.tora_world.specs.declared.sim_error.SimError.{SimError}
use Rattle.tora_world.specs.declared.sim_error.SimError.TheVariants as Refused
use Rattle.tora_world.specs.Topology.{is_node, is_link}
use Rattle.tora_world.specs.World.{World, Choice, Goes, IsLost, IsGone, first_seat, settings, neighbours, command_seat}
use Rattle.tora_world.specs.Frames.{Clock, Seats, Ends, Files, Items, Counts, Cargoes, Armed, Datagrams, Put, Inputs}
use Rattle.tora_world.specs.Frames.{Steps, AllElse, ChangesAt, ChangesAtEnd, ChangesFiles, PutsItem, LeavesServed}

-- ---- terms of the rows

-- the node or the link that an event names exists
abbrev pub is_there : World → Event → Bool
is_there w (Need n d) = is_node w.topology n
is_there w Tick = true
is_there w (Open n k) = is_link w.topology n k
is_there w (Pull n k) = is_link w.topology n k
is_there w (Transmit n k) = is_link w.topology n k
is_there w (Deliver i) = true
is_there w (Pump n k) = is_link w.topology n k
is_there w (CoreTurn n) = is_node w.topology n
is_there w (Arm n call) = is_node w.topology n
is_there w (Restart n torn) = is_node w.topology n

-- a node's queue has room for one more item
abbrev pub HasRoom : World → ℕ → Type 0
HasRoom w n = length (w.items n) < MOST_ITEMS

abbrev pub IsFull : World → ℕ → Type 0
IsFull w n = MOST_ITEMS ≤ length (w.items n)

-- the datagram with this number among all ever sent, counted from 1
pub record IsDatagram (w : World) (i : ℕ) (f : FrameParts) : Type 0 where
  pub before : List FrameParts
  pub behind : List FrameParts
  pub all : w.datagrams ≡ before ++ f ∷ behind
  pub number : i ≡ suc (length before)

-- the seat of neighbour k is its place among the neighbours, counted from 0
pub record IsSeatOf (k : ℕ) (neighbours : List ℕ) (seat : ℕ) : Type 0 where
  pub before : List ℕ
  pub behind : List ℕ
  pub all : neighbours ≡ before ++ k ∷ behind
  pub first : has_number k before ≡ false
  pub place : seat ≡ length before

-- the item that reports an event of a link end: a session that came up, a packet, a session that went down
pub data IsTold : LinkEvent → What → Type 0 where
  up_told : {life : Life} → IsTold (Link.Up life) (Tells.Up life)
  packet_told : {life : Life} {packet : Packet} → IsTold (Link.Deliver life packet) (Tells.Packet life packet)
  down_told : {life : Life} {reason : Reason} → IsTold (Link.Down life reason) (Tells.Down life reason)

-- ---- the conditions under which an event is not possible

abbrev pub IsImpossible : Choice → World → Event → Type 0
IsImpossible c w (Need n d) = IsFull w n
IsImpossible c w Tick = ⊥
IsImpossible c w (Open n k) = (w.ends n k).phase ≢ Closed
IsImpossible c w (Pull n k) = w.cargoes n k ≡ []
IsImpossible c w (Transmit n k) = frame_due (settings w n k) (w.ends n k) (c.now n k) ≡ None
IsImpossible c w (Deliver i) = ⊥
IsImpossible c w (Pump n k) = (first_event (w.ends n k) ≡ None) ⊎ IsFull w n
IsImpossible c w (CoreTurn n) = w.items n ≡ []
IsImpossible c w (Arm n call) = ⊥
IsImpossible c w (Restart n torn) = ⊥

-- why an event is refused
pub data IsRefusedBy (c : Choice) (w : World) : Event → SimError → Type 0 where
  no_node : {event : Event} → is_there w event ≡ false → IsRefusedBy c w event Refused.NoNode
  no_datagram : {i : ℕ} → (i ≡ 0) ⊎ (length w.datagrams < i) → IsRefusedBy c w (Deliver i) Refused.NoDatagram
  not_possible : {event : Event} → is_there w event ≡ true → IsImpossible c w event
      → IsRefusedBy c w event Refused.NotPossible

-- ---- the table

-- the event leads to this world, with these ticks and these results of offers
pub data IsStepBy (c : Choice) (w : World) : Event → World → Type 0 where
  -- a refused event changes nothing
  refused : {event : Event} {error : SimError} {after : World} → IsRefusedBy c w event error → AllElse [] w after
      → IsStepBy c w event after
  -- need: its item is in the queue, from the seat of the commands
  needed : {n d : ℕ} {after : World} → is_node w.topology n ≡ true → HasRoom w n
      → PutsItem w n (command_seat w n) c.stamp (Tells.Need d) after
      → AllElse (Items ∷ Counts ∷ []) w after → IsStepBy c w (Need n d) after
  -- tick: the clock and every link end advance
  ticked : {after : World} → after.clock ≡ c.clock → ((n k : ℕ) →
      after.ends n k ≡ after_tick (settings w n k) (w.ends n k) (c.now n k))
      → AllElse (Clock ∷ Ends ∷ []) w after → IsStepBy c w Tick after
  -- open: a closed end is opened with the number that its life file draws
  opened : {n k number : ℕ} {none : List ℕ} {after : World} → is_link w.topology n k ≡ true
      → (w.ends n k).phase ≡ Closed
      → drawn_by DrawsNumber (w.files n k) ≡ number ∷ none
      → ChangesAtEnd n k (after_open (w.ends n k) number (c.now n k)) w.ends after.ends
      → ChangesAtEnd n k (after_event DrawsNumber (w.files n k)) w.files after.files
      → AllElse (Ends ∷ Files ∷ []) w after → IsStepBy c w (Open n k) after
  -- open, if no number is drawn because the file is not open or a call of its disk fails: the end stays closed
  stays_closed : {n k : ℕ} {after : World} → is_link w.topology n k ≡ true → (w.ends n k).phase ≡ Closed
      → drawn_by DrawsNumber (w.files n k) ≡ []
      → ChangesAtEnd n k (after_event DrawsNumber (w.files n k)) w.files after.files
      → AllElse (Files ∷ []) w after → IsStepBy c w (Open n k) after
  -- pull: the first outbound message leaves the queue; a packet is submitted, a cut cuts its session
  packet_pulled : {n k : ℕ} {life : Life} {packet : Packet} {cargoes : List Cargo} {after : World}
      → is_link w.topology n k ≡ true
      → w.cargoes n k ≡ Gives.Packet life packet ∷ cargoes
      → ChangesAtEnd n k (after_submit (w.ends n k) life packet) w.ends after.ends
      → ChangesAtEnd n k cargoes w.cargoes after.cargoes
      → AllElse (Ends ∷ Cargoes ∷ []) w after → IsStepBy c w (Pull n k) after
  cut_pulled : {n k : ℕ} {life : Life} {cargoes : List Cargo} {after : World} → is_link w.topology n k ≡ true
      → w.cargoes n k ≡ Gives.Cut life ∷ cargoes
      → ChangesAtEnd n k (after_cut (w.ends n k) life) w.ends after.ends
      → ChangesAtEnd n k cargoes w.cargoes after.cargoes
      → AllElse (Ends ∷ Cargoes ∷ []) w after → IsStepBy c w (Pull n k) after
  -- transmit: the first frame due is sent
  sent : {n k : ℕ} {f : FrameParts} {after : World} → is_link w.topology n k ≡ true
      → frame_due (settings w n k) (w.ends n k) (c.now n k) ≡ Some f → (w.arms n).sending ≡ Goes
      → ChangesAtEnd n k (after_transmit (settings w n k) (w.ends n k) (c.now n k)) w.ends after.ends
      → after.datagrams ≡ w.datagrams ++ f ∷ []
      → AllElse (Ends ∷ Datagrams ∷ []) w after → IsStepBy c w (Transmit n k) after
  -- transmit, if the send is armed to fail: the frame is lost, or is sent nevertheless; the try counts in both cases,
  -- and the armed failure is used up
  send_lost : {n k : ℕ} {f : FrameParts} {after : World} → is_link w.topology n k ≡ true
      → frame_due (settings w n k) (w.ends n k) (c.now n k) ≡ Some f → (w.arms n).sending ≡ IsLost
      → ChangesAtEnd n k (after_transmit (settings w n k) (w.ends n k) (c.now n k)) w.ends after.ends
      → ChangesAt n (record { sending = Goes; receive = (w.arms n).receive }) w.arms after.arms
      → AllElse (Ends ∷ Armed ∷ []) w after → IsStepBy c w (Transmit n k) after
  send_gone : {n k : ℕ} {f : FrameParts} {after : World} → is_link w.topology n k ≡ true
      → frame_due (settings w n k) (w.ends n k) (c.now n k) ≡ Some f → (w.arms n).sending ≡ IsGone
      → ChangesAtEnd n k (after_transmit (settings w n k) (w.ends n k) (c.now n k)) w.ends after.ends
      → after.datagrams ≡ w.datagrams ++ f ∷ []
      → ChangesAt n (record { sending = Goes; receive = (w.arms n).receive }) w.arms after.arms
      → AllElse (Ends ∷ Armed ∷ Datagrams ∷ []) w after → IsStepBy c w (Transmit n k) after
  -- deliver: the datagram is passed to the end for which it is
  received : {i : ℕ} {f : FrameParts} {after : World} → IsDatagram w i f → (w.arms f.header.receiver).receive ≡ false
      → ChangesAtEnd f.header.receiver f.header.sender (after_frame (settings w f.header.receiver f.header.sender)
      (w.ends f.header.receiver f.header.sender) f (c.now f.header.receiver f.header.sender)) w.ends after.ends
      → AllElse (Ends ∷ []) w after → IsStepBy c w (Deliver i) after
  -- deliver, if the receive is armed to fail: nothing is passed on, and the armed failure is used up
  receive_failed : {i : ℕ} {f : FrameParts} {after : World} → IsDatagram w i f
      → (w.arms f.header.receiver).receive ≡ true
      → ChangesAt f.header.receiver (record { sending = (w.arms f.header.receiver).sending; receive = false }) w.arms
      after.arms
      → AllElse (Armed ∷ []) w after → IsStepBy c w (Deliver i) after
  -- pump: the first event of the end leaves it, and its item is in the queue, from the seat of the neighbour
  pumped : {n k seat : ℕ} {event : LinkEvent} {what : What} {after : World} → is_link w.topology n k ≡ true
      → first_event (w.ends n k) ≡ Some event → HasRoom w n → IsTold event what → IsSeatOf k (neighbours w n) seat
      → ChangesAtEnd n k (after_poll_event (w.ends n k)) w.ends after.ends
      → PutsItem w n seat c.stamp what after
      → AllElse (Ends ∷ Items ∷ Counts ∷ []) w after → IsStepBy c w (Pump n k) after
  -- turn: the core takes the first item of its queue and serves it, and the outbound messages go into the queues to its
  -- neighbours
  turned : {n : ℕ} {item : Item} {items : List Item} {after : World} → is_node w.topology n ≡ true
      → w.items n ≡ item ∷ items
      → LeavesServed w n items (serving_of c.answers (neighbours w n) (w.seats n) item) after
      → AllElse (Seats ∷ Items ∷ Cargoes ∷ Put ∷ Inputs ∷ Steps ∷ []) w after → IsStepBy c w (CoreTurn n) after
  -- arm: the next send, the next delivery, or the next call of each life file of the node fails
  send_lost_armed : {n : ℕ} {after : World} → is_node w.topology n ≡ true
      → ChangesAt n (record { sending = IsLost; receive = (w.arms n).receive }) w.arms after.arms
      → AllElse (Armed ∷ []) w after → IsStepBy c w (Arm n Fails.SendLost) after
  send_gone_armed : {n : ℕ} {after : World} → is_node w.topology n ≡ true
      → ChangesAt n (record { sending = IsGone; receive = (w.arms n).receive }) w.arms after.arms
      → AllElse (Armed ∷ []) w after → IsStepBy c w (Arm n Fails.SendGone) after
  receive_armed : {n : ℕ} {after : World} → is_node w.topology n ≡ true
      → ChangesAt n (record { sending = (w.arms n).sending; receive = true }) w.arms after.arms
      → AllElse (Armed ∷ []) w after → IsStepBy c w (Arm n Fails.Receive) after
  read_armed : {n : ℕ} {after : World} → is_node w.topology n ≡ true
      → ChangesFiles n (after_event (ArmsDisk Disk.Read)) w after
      → AllElse (Files ∷ []) w after → IsStepBy c w (Arm n Fails.Read) after
  write_armed : {n : ℕ} {after : World} → is_node w.topology n ≡ true
      → ChangesFiles n (after_event (ArmsDisk Disk.Write)) w after
      → AllElse (Files ∷ []) w after → IsStepBy c w (Arm n Fails.Write) after
  sync_armed : {n : ℕ} {after : World} → is_node w.topology n ≡ true
      → ChangesFiles n (after_event (ArmsDisk Disk.Sync)) w after
      → AllElse (Files ∷ []) w after → IsStepBy c w (Arm n Fails.Sync) after
  -- restart: the core, the ends and the queues are new, and the life files are opened after a crash; armed calls stay
  -- armed
  restarted : {n : ℕ} {torn : Option (List ℕ)} {after : World} → is_node w.topology n ≡ true
      → ChangesAt n (first_seat w.topology n) w.seats after.seats
      → ChangesAt n (λ k. first_end) w.ends after.ends
      → ChangesAt n [] w.items after.items
      → ChangesAt n (λ seat. 0) w.counts after.counts
      → ChangesAt n (λ k. []) w.cargoes after.cargoes
      → ChangesAt n [] w.inputs after.inputs
      → ChangesFiles n (λ disk. after_event (OpensAnew (after_crash torn (state_in disk))) disk) w after
      → AllElse (Seats ∷ Ends ∷ Files ∷ Items ∷ Counts ∷ Cargoes ∷ Inputs ∷ []) w after
      → IsStepBy c w (Restart n torn) after

-- ---- the simulator's own choice

-- an event has the tick of the clock, and a Tick has the one after it
abbrev pub IsTickOf : World → Event → ℕ → Type 0
IsTickOf w event now = (event ≡ Tick → now ≡ suc w.clock) × (event ≢ Tick → now ≡ w.clock)

pub record IsOwnChoice (w : World) (event : Event) (c : Choice) : Type 0 where
  pub clock : IsTickOf w event c.clock
  pub now : (n k : ℕ) → IsTickOf w event (c.now n k)
  pub stamp : IsTickOf w event c.stamp
  -- a queue takes an outbound message if it has room, counting the messages that the same turn has put there before
  pub answers : (n : ℕ) → event ≡ CoreTurn n → (offers : List Offer) (k : ℕ) → (c.answers offers k ≡ true)
      ↔ (length (w.cargoes n k) + length (put_to k offers) < MOST_CARGOES)

-- the event leads to this world in the simulator
abbrev pub IsStep : World → Event → World → Type 0
IsStep w event after = (c : Choice) × IsOwnChoice w event c × IsStepBy c w event after

-- the simulator refuses the event, for this cause
abbrev pub IsRefused : World → Event → SimError → Type 0
IsRefused w event error = (c : Choice) × IsOwnChoice w event c × IsRefusedBy c w event error
