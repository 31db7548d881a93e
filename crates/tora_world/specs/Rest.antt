-- Worlds at rest, in which no message is pending, and the entries, next hops and walks in them.
use Rattle.std.specs.Prelude.{◌≡◌, ◌≢◌, ◌⊎◌, ℕ, ◌≤◌, ◌&&◌, Bool, true, false, if◌then◌else◌, List, [], ◌∷◌, length}
use Rattle.std.specs.Prelude.{Option, Some, None, option_map}
use Rattle.std.specs.List.{list_all}
use Rattle.tora_height.specs.Height.{Quintuple}
use Rattle.tora_arq.specs.declared.life.Life.{Life}
use Rattle.tora_arq.specs.Lives.{is_same_life, reversed}
use Rattle.tora_arq.specs.LinkEnd.{bound_life}
use Rattle.tora_seat.specs.Serving.{is_current}
use Rattle.tora_world.specs.Topology.{nodes_in, neighbours_of, is_node, is_link}
use Rattle.tora_world.specs.World.{World, is_empty}
use Rattle.tora_world.specs.Walks.{height_at, hop_at, entry_at, IsBelow}

-- ---- at rest

-- the session in which a link is up at the core of n; None if it is not up or there is no such link
abbrev pub life_at : World → ℕ → ℕ → Option Life
life_at w n k = if is_link w.topology n k then (w.seats n).current k else None

-- nothing waits in the queue to a link end or in the end, and all packets submitted to it are acknowledged
pub record IsIdleEnd (w : World) (n k : ℕ) : Type 0 where
  pub cargoes : w.cargoes n k ≡ []
  pub events : (w.ends n k).events ≡ []
  pub queue : (w.ends n k).queue ≡ []

-- the link is up at both cores in one session, in which the end is bound, or at neither core
pub record IsInOneLife (w : World) (n k : ℕ) : Type 0 where
  pub same : life_at w n k ≡ option_map reversed (life_at w k n)
  pub bound : (life : Life) → life_at w n k ≡ Some life → bound_life (w.ends n k) ≡ Some life

-- no item, outbound message or event waits, no submitted packet is unacknowledged, and each link is up at both ends or
-- at neither. HELLOs and repeated ACKs may still be due, and old datagrams may still be delivered.
pub record IsAtRest (w : World) : Type 0 where
  pub items : (n : ℕ) → is_node w.topology n ≡ true → w.items n ≡ []
  pub idle : (n k : ℕ) → is_link w.topology n k ≡ true → IsIdleEnd w n k
  pub lives : (n k : ℕ) → is_link w.topology n k ≡ true → IsInOneLife w n k

-- ---- the test for rest

abbrev pub is_idle_end : World → ℕ → ℕ → Bool
is_idle_end w n k = is_empty (w.cargoes n k) && is_empty (w.ends n k).events && is_empty (w.ends n k).queue

-- both cores have the same session, in which the end is bound, or neither core has one
abbrev pub is_one_life : Option Life → Option Life → Option Life → Bool
is_one_life None None bound = true
is_one_life None (Some other) bound = false
is_one_life (Some life) None bound = false
is_one_life (Some life) (Some other) bound = is_same_life life (reversed other) && is_current life bound

abbrev pub is_link_at_rest : World → ℕ → ℕ → Bool
is_link_at_rest w n k = is_idle_end w n k && is_one_life (life_at w n k) (life_at w k n) (bound_life (w.ends n k))

abbrev pub is_node_at_rest : World → ℕ → Bool
is_node_at_rest w n = is_empty (w.items n) && list_all (is_link_at_rest w n) (neighbours_of w.topology n)

-- every node and each of its links passes the test
abbrev pub rests : World → Bool
rests w = list_all (is_node_at_rest w) (nodes_in w.topology.links)

-- ---- entries at rest

-- a node has no height
abbrev pub LacksHeight : World → ℕ → ℕ → Type 0
LacksHeight w k d = height_at w k d ≡ Some None

-- an entry for a neighbour whose link is up is NULL, or the neighbour's height, or the neighbour has no height
abbrev pub EntriesAreHeights : World → Type 0
EntriesAreHeights w = (n k d : ℕ) (entry : Quintuple) → entry_at w n k d ≡ Some (Some entry)
    → (height_at w k d ≡ Some (Some entry)) ⊎ LacksHeight w k d

-- ---- next hops

-- these nodes come after node n, each the next hop of the one before it
abbrev pub FollowsHops : World → ℕ → ℕ → List ℕ → Type 0
FollowsHops w d n [] = Unit {0}
FollowsHops w d n (k ∷ nodes) = (n ≢ d) × (hop_at w n d ≡ Some k) × FollowsHops w d k nodes

-- these nodes come after node n by next hops, each lower than the one before it, up to the destination or to a node
-- that has no height
abbrev pub GoesDown : World → ℕ → ℕ → List ℕ → Type 0
GoesDown w d n [] = n ≡ d
GoesDown w d n (k ∷ nodes) = (n ≢ d) × (hop_at w n d ≡ Some k) × ((IsBelow w d k n × GoesDown w d k nodes)
    ⊎ (LacksHeight w k d × (nodes ≡ [])))

-- the next hop of a node has a lower height, or has none
pub record HopsDown (w : World) (d n : ℕ) : Type 0 where
  pub hop : ℕ
  pub next : hop_at w n d ≡ Some hop
  pub lower : IsBelow w d hop n ⊎ LacksHeight w hop d

-- the hops from n reach the destination or a node without a height in at most as many hops as there are nodes
pub record ComesDown (w : World) (n d : ℕ) : Type 0 where
  pub after : List ℕ
  pub goes : GoesDown w d n after
  pub within : length after ≤ length (nodes_in w.topology.links)

-- each of these nodes has a height
abbrev pub HaveHeights : World → ℕ → List ℕ → Type 0
HaveHeights w d [] = Unit {0}
HaveHeights w d (k ∷ nodes) = (LacksHeight w k d → ⊥) × HaveHeights w d nodes

abbrev pub last_of : ℕ → List ℕ → ℕ
last_of n [] = n
last_of n (k ∷ nodes) = last_of k nodes

-- ---- components

-- the nodes that are reachable from n over links, each of which is up at the node from which it is followed
pub data IsReached (w : World) (d n : ℕ) : ℕ → Type 0 where
  itself : IsReached w d n n
  further : {j k : ℕ} {entry : Option Quintuple} → IsReached w d n j → entry_at w j k d ≡ Some entry → IsReached w d n k
