-- The lines about single nodes, directly after the links.
use Rattle.std.specs.Prelude.{ℕ, filter_map, List, [], ◌∷◌, ◌++◌, Option, Some, None, if◌then◌else◌, fold}
use Rattle.tora_core.specs.declared.erasure.Erasure.{Erasure}
use Rattle.tora_world.specs.Topology.{Topology, is_node}
use Rattle.tora_sim.specs.Topologies.{with_olds, with_old}
use Rattle.tora_script.specs.declared.node_marks.Mark.{Mark}
use Rattle.tora_script.specs.declared.node_marks.Mark.TheVariants.{Old, Erases}

-- the node that the line is about
abbrev pub marked : Mark → ℕ
marked (Old n) = n
marked (Erases n erasure) = n

-- the node and its choice of erasure, if the line is an `erasure` line
abbrev pub choice_in : Mark → Option (ℕ × Erasure)
choice_in (Old n) = None
choice_in (Erases n erasure) = Some (n, erasure)

abbrev pub choices_in : List Mark → List (ℕ × Erasure)
choices_in marks = filter_map choice_in marks

-- the topology, in which the link ends of this node speak only version 1; unchanged if there is no such node
abbrev pub with_old_node : Topology → ℕ → Topology
with_old_node t n = if is_node t n then with_olds t (with_old n t.olds) else t

-- the topology with this node's choice of erasure; unchanged if there is no such node
abbrev pub with_choice : Topology → ℕ → Erasure → Topology
with_choice t n erasure = if is_node t n then record t { choices = t.choices ++ (n, erasure) ∷ [] } else t

abbrev pub with_mark : Topology → Mark → Topology
with_mark t (Old n) = with_old_node t n
with_mark t (Erases n erasure) = with_choice t n erasure

abbrev pub with_marks : Topology → List Mark → Topology
with_marks t marks = fold with_mark t marks
