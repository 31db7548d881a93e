-- Examples of single events, computed: armed calls, full queues, refused events, the clock, and a restart.
use Rattle.std.specs.Prelude.{◌≡◌, ℕ, zero, suc, ◌++◌, true, false, List, [], ◌∷◌, length, Some, None}
use Rattle.tora_arq.specs.declared.phase.Phase.TheVariants.{Closed}
use Rattle.tora_arq.specs.LinkEnd.{first_end}
use Rattle.tora_seat.specs.declared.item.Item.{Item}
use Rattle.tora_seat.specs.declared.cargo.Cargo.TheVariants as Gives
use Rattle.tora_seat.specs.declared.what.What.TheVariants as Tells
use Rattle.tora_world.specs.declared.event.Event.{Event}
use Rattle.tora_world.specs.declared.event.Event.TheVariants.{Need, Tick, Open, Pull, Transmit, Deliver, Pump, CoreTurn}
use Rattle.tora_world.specs.declared.event.Event.TheVariants.{Arm, Restart}
use Rattle.tora_world.specs.declared.call.Call.TheVariants as Fails
use Rattle.tora_world.specs.declared.sim_error.SimError.TheVariants as Refused
use Rattle.tora_world.specs.World.{World, Goes, first_seat, sent_packets, taken_packets, own_answers, refusal_of}
use Rattle.tora_world.specs.World.{world_after_all}
use Rattle.tora_world.specs.Worked.{pair, start, life, update, binding, meeting}

abbrev pub copies : {A : Type 0} → ℕ → A → List A
copies zero x = []
copies (suc n) x = x ∷ copies n x

-- the world after these events of nodes 1 and 2
abbrev pub after : List Event → World
after events = world_after_all start events

-- ---- calls that are armed to fail

-- the datagram of an armed send is lost, and the armed failure is used up
pub record SendIsLost (w : World) : Type 0 where
  pub none : w.datagrams ≡ []
  pub used : w.arms 1 ≡ record { sending = Goes; receive = false }

pub record ArmedCalls : Type 0 where
  pub lost : SendIsLost (after (Open 1 2 ∷ Arm 1 Fails.SendLost ∷ Transmit 1 2 ∷ []))
  pub gone : length (after (Open 1 2 ∷ Arm 1 Fails.SendGone ∷ Transmit 1 2 ∷ [])).datagrams ≡ 1
  -- an armed receive returns nothing, and the next one returns a datagram: node 2 has noted node 1's number
  pub not_received : ((after (Open 1 2 ∷ Open 2 1 ∷ Transmit 1 2 ∷ Arm 2 Fails.Receive ∷ Deliver 1 ∷ [])).ends 2
      1).heard ≡ 0
  pub received : ((after (Open 1 2 ∷ Open 2 1 ∷ Transmit 1 2 ∷ Arm 2 Fails.Receive ∷ Deliver 1 ∷ Deliver 1 ∷ [])).ends 2
      1).heard ≡ 1
  -- if a write or a sync of the life file fails, no number is drawn and the end stays closed
  pub not_written : ((after (Arm 1 Fails.Write ∷ Open 1 2 ∷ [])).ends 1 2).phase ≡ Closed
  pub not_synced : ((after (Arm 1 Fails.Sync ∷ Open 1 2 ∷ [])).ends 1 2).phase ≡ Closed

-- ---- queues

abbrev pub item_of : ℕ → Item
item_of number = record { seat = 1; number = number; now = 1; what = Tells.Need 2 }

-- this many outbound messages wait in each queue from a core, and this many items in each queue into a core
abbrev pub with_cargoes : ℕ → World
with_cargoes n = record start { cargoes = λ a b. copies n (Gives.Cut life) }

abbrev pub with_items : ℕ → World
with_items n = record start { items = λ a. copies n (item_of 1) }

pub record Lanes : Type 0 where
  -- an outbound message is put if fewer than 256 wait
  pub put : own_answers (with_cargoes 255) 1 [] 2 ≡ true
  pub handed_back : own_answers (with_cargoes 256) 1 [] 2 ≡ false
  -- an item is put if fewer than 1,024 wait
  pub room : refusal_of (with_items 1023) (Need 1 2) ≡ None
  pub no_room : refusal_of (with_items 1024) (Need 1 2) ≡ Some Refused.NotPossible
  -- the seat of the commands comes after those of the links; an item has its number in that seat, and the tick at which
  -- it was put
  pub needs : (after (Tick ∷ Need 1 2 ∷ Need 1 2 ∷ [])).items 1 ≡ item_of 1 ∷ item_of 2 ∷ []
  pub clock : (after (Tick ∷ Tick ∷ [])).clock ≡ 2

-- ---- events that are refused

pub record AreRefused : Type 0 where
  pub no_node : refusal_of start (Need 3 2) ≡ Some Refused.NoNode
  pub no_link : refusal_of start (Open 1 1) ≡ Some Refused.NoNode
  pub no_datagram : refusal_of start (Deliver 1) ≡ Some Refused.NoDatagram
  pub no_first_datagram : refusal_of start (Deliver 0) ≡ Some Refused.NoDatagram
  pub not_closed : refusal_of (after (Open 1 2 ∷ [])) (Open 1 2) ≡ Some Refused.NotPossible
  pub no_cargo : refusal_of start (Pull 1 2) ≡ Some Refused.NotPossible
  pub no_frame : refusal_of start (Transmit 1 2) ≡ Some Refused.NotPossible
  pub no_event : refusal_of start (Pump 1 2) ≡ Some Refused.NotPossible
  pub no_item : refusal_of start (CoreTurn 1) ≡ Some Refused.NotPossible

-- ---- a restart

-- a session is current at node 1, an outbound message waits in its queue, and an item waits for its core
abbrev pub waiting : World
waiting = after (binding ++ CoreTurn 1 ∷ Need 1 2 ∷ [])

abbrev pub restarted : World
restarted = after (binding ++ CoreTurn 1 ∷ Need 1 2 ∷ Restart 1 None ∷ [])

-- the core, the end and the queues are new; the record of what was sent and taken is unchanged
pub record StartsAnew : Type 0 where
  pub current_before : (waiting.seats 1).current 2 ≡ Some life
  pub cargo_before : waiting.cargoes 1 2 ≡ Gives.Packet life update ∷ []
  pub items_before : length (waiting.items 1) ≡ 1
  pub seat : restarted.seats 1 ≡ first_seat pair 1
  pub endpoint : restarted.ends 1 2 ≡ first_end
  pub cargoes : restarted.cargoes 1 2 ≡ []
  pub items : restarted.items 1 ≡ []
  pub counts : restarted.counts 1 1 ≡ 0
  pub sent : sent_packets restarted 1 2 life ≡ update ∷ []
  -- the record of what was taken is also unchanged if the node that took it restarts
  pub taken : taken_packets (after (meeting ++ Restart 2 None ∷ [])) 2 1 life ≡ update ∷ []
