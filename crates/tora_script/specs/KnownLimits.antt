-- Limits within which it is known that a topology exists.
use Rattle.std.specs.Prelude.{ℕ, ◌==◌, ◌&&◌, Bool, true, false, List, Option, Some, None}
use Rattle.tora_world.specs.declared.limits.Limits.{Limits}
use Rattle.tora_script.specs.Simulator.{has_topology}

abbrev pub is_same_limits : Limits → Limits → Bool
is_same_limits a b = (a.neighbours == b.neighbours) && (a.destinations == b.destinations) && (a.nodes == b.nodes)

-- limits are known, and they are these
abbrev pub are_limits : Option Limits → Limits → Bool
are_limits None limits = false
are_limits (Some same) limits = is_same_limits same limits

-- if limits are known, there is a topology of these links and destinations within them
abbrev pub has_known_topology : Option Limits → List (ℕ × ℕ) → List ℕ → Bool
has_known_topology None links dests = true
has_known_topology (Some limits) links dests = has_topology limits links dests
