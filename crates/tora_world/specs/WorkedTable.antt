-- Rows of the table, computed: uneven sessions, torn slots, armed calls, queues at their limits, and ticks.
use Rattle.std.specs.Prelude.{◌≡◌, ℕ, true, ◌++◌, List, [], ◌∷◌, length, map, Option, Some, None}
use Rattle.tora_arq.specs.declared.life.Life.{Life}
use Rattle.tora_arq.specs.declared.phase.Phase.TheVariants.{Closed, Bound}
use Rattle.tora_arq.specs.declared.queued_packet.QueuedPacket.{QueuedPacket}
use Rattle.tora_arq.specs.LinkEnd.{EndState, first_end, after_open, after_bind}
use Rattle.tora_seat.specs.declared.cargo.Cargo.{Cargo}
use Rattle.tora_seat.specs.declared.cargo.Cargo.TheVariants as Gives
use Rattle.tora_seat.specs.declared.what.What.TheVariants as Tells
use Rattle.tora_core.specs.declared.erasure.Erasure.TheVariants.{Plain}
use Rattle.tora_world.specs.declared.event.Event.{Event}
use Rattle.tora_world.specs.declared.event.Event.TheVariants.{Need, Tick, Open, Pull, Transmit, Deliver, Pump, CoreTurn}
use Rattle.tora_world.specs.declared.event.Event.TheVariants.{Arm, Restart}
use Rattle.tora_world.specs.declared.call.Call.TheVariants as Fails
use Rattle.tora_world.specs.declared.sim_error.SimError.TheVariants as Refused
use Rattle.tora_world.specs.Topology.{Topology}
use Rattle.tora_arq.specs.Lives.{reversed}
use Rattle.tora_world.specs.World.{World, IsLost, first_world, refusal_of, world_after, world_after_all}
use Rattle.tora_world.specs.Worked.{start, times, life, update, binding, meeting, met}
use Rattle.tora_world.specs.WorkedEvents.{after, copies, with_items}
use Rattle.tora_world.specs.Walks.{exact_in, walk_of}

-- ---- pull: a session whose numbers differ

abbrev pub uneven : Life
uneven = record { own = 3; peer = 7 }

-- an end that was opened with 3 at tick 0, and is bound to the peer's 7
abbrev pub uneven_end : EndState
uneven_end = after_bind (after_open first_end 3 0) uneven

-- every end is in this state, and this outbound message waits in each queue
abbrev pub with_cargo : Cargo → World
with_cargo cargo = record start { ends = λ n k. uneven_end; cargoes = λ n k. cargo ∷ [] }

abbrev pub pulled : Cargo → EndState
pulled cargo = (world_after (with_cargo cargo) (Pull 1 2)).ends 1 2

pub record Pulls : Type 0 where
  pub cut : (pulled (Gives.Cut uneven)).phase ≡ Closed
  pub other_cut : (pulled (Gives.Cut (reversed uneven))).phase ≡ Bound uneven
  pub packet : length (pulled (Gives.Packet uneven update)).queue ≡ 1
  pub other_packet : (pulled (Gives.Packet (reversed uneven) update)).queue ≡ []

-- ---- restart: torn slots, and calls that are armed

-- the slot with the bound 900
abbrev pub slot_of_900 : List ℕ
slot_of_900 = 0 ∷ 0 ∷ 0 ∷ 0 ∷ 0 ∷ 0 ∷ 3 ∷ 132 ∷ 255 ∷ 255 ∷ 255 ∷ 255 ∷ 255 ∷ 255 ∷ 252 ∷ 123 ∷ []

-- the number with which the end is opened, after a slot was written and not synced and a restart left these bytes of it
abbrev pub number_after : Option (List ℕ) → ℕ
number_after torn = ((after (Arm 1 Fails.Sync ∷ Open 1 2 ∷ Restart 1 torn ∷ Open 1 2 ∷ [])).ends 1 2).last_life

pub record Crashes : Type 0 where
  pub torn : number_after (Some slot_of_900) ≡ 901
  pub as_before : number_after None ≡ 1
  -- armed calls stay armed: a send, a receive, and a write of the life file, so that no number is drawn
  pub send_armed : ((after (Arm 1 Fails.SendLost ∷ Restart 1 None ∷ [])).arms 1).sending ≡ IsLost
  pub receive_armed : ((after (Arm 1 Fails.Receive ∷ Restart 1 None ∷ [])).arms 1).receive ≡ true
  pub write_armed : ((after (Arm 1 Fails.Write ∷ Restart 1 None ∷ Open 1 2 ∷ [])).ends 1 2).phase ≡ Closed
  -- a read fails when the file is opened again: the file is not open, and the end stays closed until the next restart
  pub not_read : ((after (Arm 1 Fails.Read ∷ Restart 1 None ∷ Open 1 2 ∷ [])).ends 1 2).phase ≡ Closed
  pub read_again : ((after (Arm 1 Fails.Read ∷ Restart 1 None ∷ Restart 1 None ∷ Open 1 2 ∷ [])).ends 1 2).last_life ≡ 1

-- ---- pump: the limit of the queue, and the tick of the item

-- each end has an event, and this many items wait in each queue
abbrev pub with_events : ℕ → World
with_events n = record (with_items n) { ends = λ a b. uneven_end }

-- both ends are bound, two ticks pass, and the session that came up is put
abbrev pub up_at_two : List Event
up_at_two = Open 1 2 ∷ Open 2 1 ∷ Transmit 1 2 ∷ Deliver 1 ∷ Transmit 2 1 ∷ Deliver 2 ∷ Tick ∷ Tick ∷ Pump 1 2 ∷ []

pub record Pumps : Type 0 where
  pub room : refusal_of (with_events 1023) (Pump 1 2) ≡ None
  pub no_room : refusal_of (with_events 1024) (Pump 1 2) ≡ Some Refused.NotPossible
  pub item : (after up_at_two).items 1 ≡ record { seat = 0; number = 1; now = 2; what = Tells.Up life } ∷ []

-- ---- transmit: a send that is lost counts as a try

abbrev pub tries_in : List QueuedPacket → List ℕ
tries_in queue = map (λ q. q.tries) queue

-- the update of node 1 is submitted; its send is armed to fail, and it is sent
abbrev pub lost_update : List Event
lost_update = binding ++ CoreTurn 1 ∷ Pull 1 2 ∷ Arm 1 Fails.SendLost ∷ Transmit 1 2 ∷ []

pub record Tries : Type 0 where
  pub before : tries_in ((after (binding ++ CoreTurn 1 ∷ Pull 1 2 ∷ [])).ends 1 2).queue ≡ 0 ∷ []
  pub lost : tries_in ((after lost_update).ends 1 2).queue ≡ 1 ∷ []
  pub none_sent : length (after lost_update).datagrams ≡ 3

-- ---- turn: room in the queues out of the core

-- nodes 1 and 2, and the destinations 2 and 3
abbrev pub pair_of_two : Topology
pair_of_two = record {
  links = record { a = 1; b = 2 } ∷ [];
  destinations = 2 ∷ 3 ∷ [];
  olds = [];
  erasure = Plain;
  choices = [];
}

-- node 1 needs both, and a session comes up: so its core sends an update and a query in one turn
abbrev pub two_needs : List Event
two_needs = Need 1 3 ∷ CoreTurn 1 ∷ binding

-- before that turn this many outbound messages wait in each queue
abbrev pub with_waiting : ℕ → World
with_waiting n = record (world_after_all (first_world pair_of_two times) two_needs) {
  cargoes = λ a b.
      copies n (Gives.Cut life);
}

abbrev pub turned_with : ℕ → World
turned_with n = world_after (with_waiting n) (CoreTurn 1)

pub record Rooms : Type 0 where
  -- there is room for both packets, or for one: then the second is returned, and its session ends
  pub both : length ((turned_with 254).cargoes 1 2) ≡ 256
  pub stays : ((turned_with 254).seats 1).current 2 ≡ Some life
  pub one : length ((turned_with 255).cargoes 1 2) ≡ 256
  pub ends : ((turned_with 255).seats 1).current 2 ≡ None

-- ---- tick: every end, and the clock

-- at clock 49 every end is bound, and received its last frame at tick 0
abbrev pub silent_ends : World
silent_ends = record start { clock = 49; ends = λ n k. uneven_end }

pub record Ticks : Type 0 where
  pub first : ((world_after silent_ends Tick).ends 1 2).phase ≡ Closed
  pub second : ((world_after silent_ends Tick).ends 2 1).phase ≡ Closed
  pub not_before : ((world_after (record silent_ends { clock = 48 }) Tick).ends 2 1).phase ≡ Bound uneven

-- ---- the laws of runs are not vacuous

-- the ACK of the update is delivered
abbrev pub acknowledging : List Event
acknowledging = meeting ++ Transmit 2 1 ∷ Deliver 5 ∷ []

pub record Meetings : Type 0 where
  pub accepted : ((after meeting).ends 2 1).accepted ≡ 1
  pub unknown : ((after meeting).ends 1 2).acknowledged ≡ 0
  pub acknowledged : ((after acknowledging).ends 1 2).acknowledged ≡ 1
  pub exact : exact_in met 2 ≡ true
  pub walk : walk_of met 1 2 ≡ Some (1 ∷ 2 ∷ [])
