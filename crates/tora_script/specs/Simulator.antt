-- The first world of a simulator.
use Rattle.std.specs.Prelude.{◌≡◌, ℕ, ◌<◌, Bool, not, is_some, if◌then◌else◌, List, [], Option, Some, None, Result, Ok}
use Rattle.std.specs.Prelude.{Err}
use Rattle.std.specs.List.{All}
use Rattle.tora_arq.specs.declared.times.Times.{Times}
use Rattle.tora_core.specs.declared.erasure.Erasure.{Erasure}
use Rattle.tora_core.specs.declared.errors.CoreError.{CoreError}
use Rattle.tora_core.specs.declared.errors.CoreError.TheVariants.{Memory, TooMany, Repeated, OwnId}
use Rattle.tora_world.specs.declared.limits.Limits.{Limits}
use Rattle.tora_world.specs.Topology.{Topology, nodes_in, topology_fault_within}
use Rattle.tora_world.specs.World.{World, first_world}
use Rattle.tora_sim.specs.Topologies.{topology_of, with_choices}
use Rattle.tora_script.specs.declared.node_marks.Mark.{Mark}
use Rattle.tora_script.specs.declared.setup.WorldOptions.{WorldOptions}
use Rattle.tora_script.specs.Marks.{with_marks}

-- there is a topology of these links and destinations within the limits
abbrev pub has_topology : Limits → List (ℕ × ℕ) → List ℕ → Bool
has_topology limits links dests = not (is_some (topology_fault_within limits (topology_of links dests)))

-- the topology of these links and destinations, in which all nodes treat erased levels in this way, except as the lines
-- about single nodes say
abbrev pub mixed_topology : Erasure → List (ℕ × ℕ) → List ℕ → List Mark → Topology
mixed_topology erasure links dests marks = with_marks (with_choices (topology_of links dests) erasure []) marks

-- the first world of these links, destinations and lines about single nodes, with these times of each link end; None if
-- there is no such topology within the limits
unfoldable pub started : WorldOptions → List (ℕ × ℕ) → List ℕ → List Mark → Times → Option World
started options links dests marks times = if is_some (topology_fault_within options.limits (topology_of links dests))
    then None else Some (first_world (mixed_topology options.erasure links dests marks) times)

-- no number of a link is 0
abbrev pub ArePairs : List (ℕ × ℕ) → Type 0
ArePairs links = All (λ p. (0 < p.0) × (0 < p.1)) links

-- no number is 0
abbrev pub AreIds : List ℕ → Type 0
AreIds numbers = All (λ n. 0 < n) numbers

-- The first world of the topology was made, or it is refused for this cause, or memory ran out.
abbrev pub Starts : {S : Type 0} → (S → World) → WorldOptions → List (ℕ × ℕ) → List ℕ → List Mark → Times
    → Result S CoreError → Type 0
Starts world options links dests marks times (Ok sim) = started options links dests marks times ≡ Some (world sim)
Starts world options links dests marks times (Err Memory) = Unit {0}
Starts world options links dests marks times (Err TooMany) = topology_fault_within options.limits
    (topology_of links dests) ≡ Some TooMany
Starts world options links dests marks times (Err Repeated) = topology_fault_within options.limits
    (topology_of links dests) ≡ Some Repeated
Starts world options links dests marks times (Err OwnId) = topology_fault_within options.limits
    (topology_of links dests) ≡ Some OwnId

-- the nodes of a world, in ascending order
abbrev pub nodes_of : World → List ℕ
nodes_of w = nodes_in w.topology.links
