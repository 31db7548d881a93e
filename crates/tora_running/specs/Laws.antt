-- What holds for every run of running nodes.
use Rattle.std.specs.Prelude.{◌≡◌, ℕ, ◌+◌, ◌≤◌, ◌&&◌, true, not, if◌then◌else◌, List, [], ◌∷◌, Some}
use Rattle.tora_height.specs.Height.{Quintuple}
use Rattle.tora_packet.specs.declared.Packet.{Packet}
use Rattle.tora_frame.specs.FrameParts.{FrameParts}
use Rattle.tora_arq.specs.declared.life.Life.{Life}
use Rattle.tora_arq.specs.declared.times.Times.{Times}
use Rattle.tora_core.specs.CoreRun.{core_after_all}
use Rattle.tora_world.specs.Topology.{Topology, IsWithinLimits, new_core, is_link}
use Rattle.tora_world.specs.Lists.{Begins, IsIn}
use Rattle.tora_arq.specs.Lives.{reversed}
use Rattle.tora_world.specs.World.{World, first_world}
use Rattle.tora_world.specs.FreeWorld.{Schedule, after_schedule}
use Rattle.tora_world.specs.Law.{is_bound_to}
use Rattle.tora_world.specs.Gaps.{broadcast_from}
use Rattle.tora_world.specs.Refusals.{OnlyNeedsAreRefused}
use Rattle.tora_world.specs.Rest.{IsAtRest, EntriesAreHeights, LacksHeight, IsReached}
use Rattle.tora_world.specs.Walks.{height_at, IsExact, Arrives, AreIds}
use Rattle.tora_running.specs.Network.{Network, Part, first_network, after_part, after_parts, IsRun, packets_sent}
use Rattle.tora_running.specs.Network.{packets_taken}

-- a statement holds for the network after any run of parts, over any topology and with any times of the link ends
abbrev pub EveryNetwork : (Topology → Times → Network → Type 0) → Type 0
EveryNetwork Holds =
    (t : Topology) (times : Times) (parts : List Part) → IsRun (first_network t times) parts
    → Holds t times (after_parts parts (first_network t times))

-- the world agrees with the network, and each frame that was sent is one of its datagrams
pub record IsWorldOf (network : Network) (w : World) : Type 0 where
  pub topology : w.topology ≡ network.topology
  pub times : w.times ≡ network.times
  pub seats : w.seats ≡ network.seats
  pub ends : w.ends ≡ network.ends
  pub items : w.items ≡ network.items
  pub counts : w.counts ≡ network.counts
  pub cargoes : w.cargoes ≡ network.cargoes
  pub put : w.put ≡ network.put
  pub inputs : w.inputs ≡ network.inputs
  pub steps : w.steps ≡ network.steps
  pub datagrams : (n k : ℕ) (frame : FrameParts) → IsIn frame (network.frames n k) → IsIn frame w.datagrams

-- some schedule of the free world leads to that world
abbrev pub IsOfWorld : Topology → Times → Network → Type 0
IsOfWorld t times network = (es : Schedule) × IsWorldOf network (after_schedule es (first_world t times))

-- what was taken in a session is a prefix of what was sent in it
abbrev pub TakenBeginsSent : Network → Type 0
TakenBeginsSent w = (a b : ℕ) (life : Life) → Begins (packets_taken w b a (reversed life)) (packets_sent w a b life)

-- how many parts of a run bind the end of n towards k to this session
abbrev pub times_bound : ℕ → ℕ → Life → List Part → Network → ℕ
times_bound n k life [] w = 0
times_bound n k life (part ∷ parts) w =
    (if is_bound_to life ((after_part w part).ends n k).phase && not (is_bound_to life (w.ends n k).phase) then 1
    else 0)
    + times_bound n k life parts (after_part w part)

-- each end binds each pair of numbers at most once, over all starts of its node
abbrev pub BindsOnce : Type 0
BindsOnce =
    (t : Topology) (times : Times) (parts : List Part) → IsRun (first_network t times) parts
    → (n k : ℕ) (life : Life) → times_bound n k life parts (first_network t times) ≤ 1

-- each core has the state that TORA's rules give for the inputs accepted since its node's last start
abbrev pub CoresFollow : Topology → Network → Type 0
CoresFollow t w = (n : ℕ) → (w.seats n).core ≡ core_after_all (new_core t n) (w.inputs n)

-- what the core of n has broadcast to k since their link came up last
abbrev pub packets_broadcast : Topology → Network → ℕ → ℕ → List Packet
packets_broadcast t w n k = broadcast_from k (new_core t n) (w.inputs n) []

-- while a session is current at a core, all that the core broadcast since its link came up was sent in it
abbrev pub IsWithoutGap : Topology → Network → Type 0
IsWithoutGap t w =
    IsWithinLimits t → (n k : ℕ) (life : Life) → is_link t n k ≡ true → (w.seats n).current k ≡ Some life
    → packets_sent w n k life ≡ packets_broadcast t w n k

-- a world that agrees with the network. Its clock, life files, datagrams and armed calls are those of a first world,
-- and no definition below uses them
abbrev pub shown : Network → World
shown w = record (first_world w.topology w.times) {
  seats = w.seats;
  ends = w.ends;
  items = w.items;
  counts = w.counts;
  cargoes = w.cargoes;
  put = w.put;
  inputs = w.inputs;
  steps = w.steps;
}

-- a core refuses only the need of a destination that is not in its table, and for that cause
abbrev pub RefusesOnlyNeeds : Network → Type 0
RefusesOnlyNeeds w = OnlyNeedsAreRefused (shown w)

-- a statement about that world holds if the topology is not refused within some limits and has valid node numbers
abbrev pub HoldsOfSound : (World → Type 0) → Topology → Network → Type 0
HoldsOfSound Holds t w = IsWithinLimits t → AreIds t → Holds (shown w)

-- if each entry for a destination that is not NULL is the neighbour's height, the hops from a node with a height arrive
abbrev pub WalksArrive : World → Type 0
WalksArrive w = (d n : ℕ) (height : Quintuple) → IsExact w d → height_at w n d ≡ Some (Some height) → Arrives w n d

-- at rest, each entry is NULL or the neighbour's height, or the neighbour has no height
abbrev pub RestingEntriesAreHeights : World → Type 0
RestingEntriesAreHeights w = IsAtRest w → EntriesAreHeights w

-- at rest, the hops from a node with a height arrive, if every node that is reachable from it over links has a height
abbrev pub RestingRoutesArrive : World → Type 0
RestingRoutesArrive w =
    IsAtRest w → (d n : ℕ) (height : Quintuple) → height_at w n d ≡ Some (Some height)
    → ((k : ℕ) → IsReached w d n k → ¬ LacksHeight w k d) → Arrives w n d
