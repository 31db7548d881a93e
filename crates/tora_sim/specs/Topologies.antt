-- The given links and destinations.
use Rattle.std.specs.Prelude.{◌≡◌, ℕ, ◌+◌, ◌==◌, ◌<◌, ◌≤◌, ◌||◌, Bool, List, [], ◌∷◌, ◌++◌, length, map, None}
use Rattle.std.specs.Prelude.{if◌then◌else◌}
use Rattle.std.specs.List.{All, list_any}
use Rattle.tora_core.specs.declared.erasure.Erasure.{Erasure}
use Rattle.tora_core.specs.declared.erasure.Erasure.TheVariants.{Plain}
use Rattle.tora_core.specs.Numbers.{has_number}
use Rattle.tora_world.specs.Topology.{Topology, Link, topology_fault_within, greatest_limits, nodes_in, with_node}
use Rattle.tora_world.specs.declared.limits.TheConstants.{GREATEST_NODES}

abbrev pub link_in : ℕ × ℕ → Link
link_in ends = record { a = ends.0; b = ends.1 }

abbrev pub links_in : List (ℕ × ℕ) → List Link
links_in links = map link_in links

abbrev pub topology_of : List (ℕ × ℕ) → List ℕ → Topology
topology_of links destinations = record {
  links = links_in links;
  destinations = destinations;
  olds = [];
  erasure = Plain;
  choices = [];
}

-- the topology with other nodes that speak only version 1 of frames
abbrev pub with_olds : Topology → List ℕ → Topology
with_olds t olds = record t { olds = olds }

-- the topology with another treatment of erased levels and other choices of single nodes
abbrev pub with_choices : Topology → Erasure → List (ℕ × Erasure) → Topology
with_choices t erasure choices = record t { erasure = erasure; choices = choices }

-- one more node that speaks only version 1
abbrev pub with_old : ℕ → List ℕ → List ℕ
with_old n olds = if has_number n olds then olds else olds ++ n ∷ []

-- the nodes that do not speak only version 1
abbrev pub others : List ℕ → List ℕ → List ℕ
others olds [] = []
others olds (n ∷ nodes) = if has_number n olds then others olds nodes else n ∷ others olds nodes

-- a link names the number
abbrev pub is_named : ℕ → List (ℕ × ℕ) → Bool
is_named n links = list_any (λ p. (p.0 == n) || (p.1 == n)) links

-- the list with the other end of a link of the node added
abbrev pub with_end : ℕ → Link → List ℕ → List ℕ
with_end n link ends =
    if link.a == n then with_node link.b ends
    else if link.b == n then with_node link.a ends
    else ends

-- no number is 0
pub record AreNumbers (t : Topology) : Type 0 where
  pub links : All (λ (link : Link). (0 < link.a) × (0 < link.b)) t.links
  pub destinations : All (λ d. 0 < d) t.destinations

pub record IsTopology (t : Topology) : Type 0 where
  pub numbers : AreNumbers t
  pub sound : topology_fault_within greatest_limits t ≡ None
  pub old_nodes : length t.olds + length (others t.olds (nodes_in t.links)) ≤ GREATEST_NODES
