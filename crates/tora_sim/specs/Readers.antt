-- The readers of a simulated world.
use Rattle.std.specs.Prelude.{ℕ, Bool, false, if◌then◌else◌, List, map}
use Rattle.std.specs.List.{flat_map}
use Rattle.tora_core.specs.CoreRun.{flag_of}
use Rattle.tora_world.specs.Topology.{Topology, nodes_in, neighbours_of, is_node}
use Rattle.tora_world.specs.World.{World}

-- the link ends at a node, by ascending neighbour
abbrev pub ends_at : Topology → ℕ → List (ℕ × ℕ)
ends_at t n = map (λ k. (n, k)) (neighbours_of t n)

-- the link ends, by ascending node and then neighbour
abbrev pub ends_in : Topology → List (ℕ × ℕ)
ends_in t = flat_map (ends_at t) (nodes_in t.links)

-- whether the core of a node requires a route to a destination
abbrev pub flag_at : World → ℕ → ℕ → Bool
flag_at w n d = if is_node w.topology n then flag_of (w.seats n).core d else false
