-- Exact entries for a destination, and the walk along next hops.
use Rattle.std.specs.Prelude.{◌≡◌, ◌≢◌, ℕ, zero, suc, ◌≤◌, ◌==◌, Bool, true, false, if◌then◌else◌, List, [], ◌∷◌}
use Rattle.std.specs.Prelude.{length, Option, Some, None, option_map}
use Rattle.std.specs.List.{list_all, AllByRecursion}
use Rattle.std.specs.Ordering.{is_eq}
use Rattle.tora_height.specs.Height.{Quintuple}
use Rattle.tora_height.specs.HeightOrder.{IsLower, height_cmp}
use Rattle.tora_packet.specs.PacketParts.{IsId}
use Rattle.tora_arq.specs.declared.times.Times.{Times}
use Rattle.tora_core.specs.CoreRun.{height_of, entry_of, hop_of}
use Rattle.tora_world.specs.Topology.{Topology, Link, IsWithinLimits, nodes_in, neighbours_of, is_node}
use Rattle.tora_world.specs.World.{World, first_world}
use Rattle.tora_world.specs.FreeWorld.{Schedule, after_schedule}

-- ---- values of a node

-- the height of a node for a destination, and its next hop; None if there is no such node or destination
abbrev pub height_at : World → ℕ → ℕ → Option (Option Quintuple)
height_at w n d = if is_node w.topology n then height_of (w.seats n).core d else None

abbrev pub hop_at : World → ℕ → ℕ → Option ℕ
hop_at w n d = if is_node w.topology n then hop_of (w.seats n).core d else None

-- the entry of a neighbour for a destination; None also if the link is not up
abbrev pub entry_at : World → ℕ → ℕ → ℕ → Option (Option Quintuple)
entry_at w n k d = if is_node w.topology n then entry_of (w.seats n).core d k else None

-- ---- exact entries

-- every entry for the destination that is not NULL is the neighbour's current height
abbrev pub IsExact : World → ℕ → Type 0
IsExact w d =
    (n k : ℕ) (height : Quintuple) → entry_at w n k d ≡ Some (Some height) → height_at w k d ≡ Some (Some height)

-- a node has this height
abbrev pub is_height : Quintuple → Option (Option Quintuple) → Bool
is_height height None = false
is_height height (Some None) = false
is_height height (Some (Some other)) = is_eq (height_cmp height other)

-- the entry is NULL, or the neighbour's height, or does not exist
abbrev pub is_exact_entry : Option (Option Quintuple) → Option (Option Quintuple) → Bool
is_exact_entry None height = true
is_exact_entry (Some None) height = true
is_exact_entry (Some (Some entry)) height = is_height entry height

abbrev pub is_exact_node : World → ℕ → ℕ → Bool
is_exact_node w d n = list_all (λ k. is_exact_entry (entry_at w n k d) (height_at w k d)) (neighbours_of w.topology n)

-- whether the entries of all nodes are exact, by comparing them with their neighbours' heights
abbrev pub exact_in : World → ℕ → Bool
exact_in w d = list_all (is_exact_node w d) (nodes_in w.topology.links)

-- ---- walks

-- these nodes come after node n, each the next hop of the one before it; only the last one is the destination
abbrev pub LeadsOn : World → ℕ → ℕ → List ℕ → Type 0
LeadsOn w d n [] = n ≡ d
LeadsOn w d n (k ∷ nodes) = (n ≢ d) × (hop_at w n d ≡ Some k) × LeadsOn w d k nodes

-- the nodes on the way from n to the destination, both included
abbrev pub IsWalk : World → ℕ → ℕ → List ℕ → Type 0
IsWalk w n d [] = ⊥
IsWalk w n d (m ∷ nodes) = (m ≡ n) × LeadsOn w d n nodes

-- the walk of at most this many hops, if there is one
abbrev pub walk_within : ℕ → World → ℕ → ℕ → Option (List ℕ)
walk_within zero w n d = if n == d then Some (n ∷ []) else None
walk_within (suc hops) w n d = if n == d then Some (n ∷ []) else elim (hop_at w n d)
    [ None ↦ None | Some k ↦ option_map (λ nodes. n ∷ nodes) (walk_within hops w k d) ]

-- the walk of at most as many hops as there are nodes
abbrev pub walk_of : World → ℕ → ℕ → Option (List ℕ)
walk_of w n d = walk_within (length (nodes_in w.topology.links)) w n d

-- ---- the law

-- the height of one node is lower than that of another
pub record IsBelow (w : World) (d k n : ℕ) : Type 0 where
  pub low : Quintuple
  pub high : Quintuple
  pub lower : height_at w k d ≡ Some (Some low)
  pub upper : height_at w n d ≡ Some (Some high)
  pub order : IsLower low high

-- each of these nodes is below the one before it, and the first is below n
abbrev pub FallsFrom : World → ℕ → ℕ → List ℕ → Type 0
FallsFrom w d n [] = Unit {0}
FallsFrom w d n (k ∷ nodes) = IsBelow w d k n × FallsFrom w d k nodes

-- the hops from n reach the destination, each to a lower height, in at most as many hops as there are nodes; they are
-- the computed walk
pub record Arrives (w : World) (n d : ℕ) : Type 0 where
  pub after : List ℕ
  pub leads : LeadsOn w d n after
  pub within : length after ≤ length (nodes_in w.topology.links)
  pub falls : FallsFrom w d n after
  pub walk : walk_of w n d ≡ Some (n ∷ after)

-- the nodes and destinations of the topology have numbers in range
pub record AreIds (t : Topology) : Type 0 where
  pub links : AllByRecursion (λ (link : Link). IsId link.a × IsId link.b) t.links
  pub destinations : AllByRecursion IsId t.destinations

-- a statement holds for every world that events reach over a topology that is not refused within some limits
abbrev pub EveryWorld : (World → Type 0) → Type 0
EveryWorld Holds =
    (t : Topology) (times : Times) (es : Schedule) → IsWithinLimits t → AreIds t
    → Holds (after_schedule es (first_world t times))
