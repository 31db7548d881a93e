-- No packet that an end holds or delivers is an update of a node other than the peer.
use Rattle.std.specs.Prelude.{◌≡◌, ℕ, false, List, Option, Some, None}
use Rattle.std.specs.List.{AllByRecursion}
use Rattle.tora_packet.specs.declared.Packet.{Packet}
use Rattle.tora_arq.specs.declared.link_event.LinkEvent.{LinkEvent}
use Rattle.tora_arq.specs.declared.link_event.LinkEvent.TheVariants.{Up, Deliver, Down}
use Rattle.tora_arq.specs.Settings.{Settings}
use Rattle.tora_arq.specs.LinkEnd.{EndState, is_update_of_another}

-- a place without a packet, or with a packet that is not an update of another node
abbrev pub IsSlotOfPeer : ℕ → Option Packet → Type 0
IsSlotOfPeer peer None = Unit {0}
IsSlotOfPeer peer (Some packet) = is_update_of_another peer packet ≡ false

-- an event without a packet, or with a packet that is not an update of another node
abbrev pub IsEventOfPeer : ℕ → LinkEvent → Type 0
IsEventOfPeer peer (Up life) = Unit {0}
IsEventOfPeer peer (Deliver life packet) = is_update_of_another peer packet ≡ false
IsEventOfPeer peer (Down life reason) = Unit {0}

abbrev pub AreEventsOfPeer : ℕ → List LinkEvent → Type 0
AreEventsOfPeer peer events = AllByRecursion (IsEventOfPeer peer) events

-- no packet that an end holds or has queued as an event is an update of a node other than the peer
pub record IsOfPeer (s : Settings) (e : EndState) : Type 0 where
  pub held : AllByRecursion (IsSlotOfPeer s.peer) e.held
  pub events : AreEventsOfPeer s.peer e.events
