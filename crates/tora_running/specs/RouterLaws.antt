-- What holds for every program that embeds routers.
use Rattle.std.specs.Prelude.{◌≡◌, ℕ, ◌==◌, true, false, if◌then◌else◌, List, [], ◌∷◌, Some, Err}
use Rattle.tora_packet.specs.declared.Packet.{Packet}
use Rattle.tora_frame.specs.declared.parts.Version.TheVariants.{Two}
use Rattle.tora_arq.specs.declared.life.Life.{Life}
use Rattle.tora_arq.specs.declared.times.Times.{Times}
use Rattle.tora_arq.specs.EndRange.{LinkEndView, link_end_of}
use Rattle.tora_arq.specs.LinkEnd.{EndState, first_end}
use Rattle.tora_arq.specs.Lives.{reversed}
use Rattle.tora_core.specs.Numbers.{has_repeat}
use Rattle.tora_core.specs.declared.errors.StepError.{StepError}
use Rattle.tora_core.specs.declared.errors.StepError.TheVariants as Fault
use Rattle.tora_core.specs.CoreRun.{core_after_all, has_destination}
use Rattle.tora_router.specs.declared.link.Link.{Link}
use Rattle.tora_router.specs.Router.{need_result}
use Rattle.tora_world.specs.Topology.{Topology, IsWithinLimits, version_at, neighbours_of, new_core, is_node, is_link}
use Rattle.tora_world.specs.Lists.{Begins, packets_of, parcels_in}
use Rattle.tora_world.specs.Gaps.{broadcast_from}
use Rattle.tora_world.specs.Walks.{AreIds}
use Rattle.tora_world.specs.World.{World, first_world}
use Rattle.tora_running.specs.Network.{Network, Part, first_network, after_parts, settings_at, neighbours_at, IsRun}
use Rattle.tora_running.specs.Laws.{IsOfWorld}
use Rattle.tora_running.specs.Hosts.{Hosts, HostedCall, first_hosts, after_calls, IsHosted}

-- what `Router::new` ensures: no neighbour is named twice, and every link end speaks version 2
pub record IsOfRouters (t : Topology) : Type 0 where
  pub apart : (n : ℕ) → has_repeat (neighbours_of t n) ≡ false
  pub two : (n : ℕ) → version_at t n ≡ Two

-- a statement holds for the hosts after any calls, over any such topology and with any times of the link ends
abbrev pub AllHosts : (Topology → Times → Hosts → Type 0) → Type 0
AllHosts Holds =
    (t : Topology) (times : Times) (calls : List HostedCall) → IsOfRouters t
    → IsHosted t times (first_hosts t times) calls
    → Holds t times (after_calls calls (first_hosts t times))

-- ---- the world

-- these links have these ends, in the order of the neighbours
abbrev pub AreEnds : (ℕ → LinkEndView) → List ℕ → List Link → Type 0
AreEnds end [] [] = Unit {0}
AreEnds end [] (link ∷ links) = ⊥
AreEnds end (k ∷ neighbours) [] = ⊥
AreEnds end (k ∷ neighbours) (link ∷ links) = (link.end ≡ end k) × AreEnds end neighbours links

-- the network has the cores, link ends and records of the routers, and nothing waits in its queues
pub record IsNetworkOf (t : Topology) (times : Times) (hosts : Hosts) (w : Network) : Type 0 where
  pub topology : w.topology ≡ t
  pub times_are : w.times ≡ times
  pub seats : (n : ℕ) → w.seats n ≡ (hosts n).router.seat
  pub ends : (n : ℕ) → AreEnds (λ k. link_end_of (settings_at w n k) (w.ends n k)) (neighbours_at w n)
      (hosts n).router.links
  pub items : (n : ℕ) → w.items n ≡ []
  pub cargoes : (n k : ℕ) → w.cargoes n k ≡ []
  pub frames : (n k : ℕ) → w.frames n k ≡ (hosts n).history.frames k
  pub put : (n k : ℕ) → w.put n k ≡ (hosts n).history.put k
  pub inputs : (n : ℕ) → w.inputs n ≡ (hosts n).history.inputs
  pub steps : (n k : ℕ) → w.steps n k ≡ (hosts n).history.steps k

-- some run of parts leads to such a network, and some schedule of the free world to such a world
pub record AreAWorld (t : Topology) (times : Times) (hosts : Hosts) : Type 0 where
  pub parts : List Part
  pub run : IsRun (first_network t times) parts
  pub same : IsNetworkOf t times hosts (after_parts parts (first_network t times))
  pub world : IsOfWorld t times (after_parts parts (first_network t times))

-- ---- consequences

-- the packets that the core of a passed to the link end of b in a session, as a's end writes it
abbrev pub packets_sent : Hosts → ℕ → ℕ → Life → List Packet
packets_sent hosts a b life = packets_of life (parcels_in ((hosts a).history.put b))

-- the packets of a that the core of b took in a session, as b's end writes it
abbrev pub packets_taken : Hosts → ℕ → ℕ → Life → List Packet
packets_taken hosts b a life = packets_of life ((hosts b).history.steps a)

-- what was taken in a session is a prefix of what was sent in it
abbrev pub TakenBeginsSent : Hosts → Type 0
TakenBeginsSent hosts =
    (a b : ℕ) (life : Life) → Begins (packets_taken hosts b a (reversed life)) (packets_sent hosts a b life)

-- each core has the state that TORA's rules give for the inputs accepted since its router was made
abbrev pub CoresFollow : Topology → Hosts → Type 0
CoresFollow t hosts = (n : ℕ) → (hosts n).router.seat.core ≡ core_after_all (new_core t n) (hosts n).history.inputs

-- what the core of n has broadcast to k since their link came up last
abbrev pub packets_broadcast : Topology → Hosts → ℕ → ℕ → List Packet
packets_broadcast t hosts n k = broadcast_from k (new_core t n) (hosts n).history.inputs []

-- while a session is current at a core, all that the core broadcast since its link came up was sent in it
abbrev pub IsWithoutGap : Topology → Hosts → Type 0
IsWithoutGap t hosts =
    IsWithinLimits t → (n k : ℕ) (life : Life) → is_link t n k ≡ true → (hosts n).router.seat.current k ≡ Some life
    → packets_sent hosts n k life ≡ packets_broadcast t hosts n k

-- `need` returns an error only for a destination that is not in the table, and that is the error
abbrev pub RefusesOnlyUnknown : Topology → Hosts → Type 0
RefusesOnlyUnknown t hosts =
    (n d now : ℕ) (error : StepError) → is_node t n ≡ true → need_result (hosts n).router d now ≡ Err error
    → (has_destination d (hosts n).router.seat.core.views ≡ false) × (error ≡ Fault.UnknownDestination)

-- ---- heights, walks and rest

-- the link end towards a neighbour
abbrev pub end_to : ℕ → List Link → EndState
end_to k [] = first_end
end_to k (link ∷ links) = if link.end.settings.peer == k then link.end.state else end_to k links

-- A world with the cores and link ends of the routers and with empty queues. Everything else is that of a first world,
-- and no definition below uses it.
abbrev pub shown : Topology → Times → Hosts → World
shown t times hosts = record (first_world t times) {
  seats = λ n. (hosts n).router.seat;
  ends = λ n k. end_to k (hosts n).router.links;
}

-- a statement about that world holds if the topology is not refused within some limits and has valid node numbers
abbrev pub HoldsOfSound : (World → Type 0) → Topology → Times → Hosts → Type 0
HoldsOfSound Holds t times hosts = IsWithinLimits t → AreIds t → Holds (shown t times hosts)
