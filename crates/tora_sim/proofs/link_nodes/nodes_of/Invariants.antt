use Rattle.std.proofs.Common.{◌≡◌, ◌≤◌, length}
use Rattle.tora_sim.proofs.Named.{nodes_from}
use Rattle.tora_sim.proofs.link_nodes.nodes_of.Given as goal

-- the nodes of the links so far
abbrev pub invariant-loop-left : goal.invariant-loop-left
invariant-loop-left l = record {
  within : l.left ≤ length l.links;
  nodes : l.nodes.items ≡ nodes_from l.links l.left;
}

abbrev pub decreases-loop-left : goal.decreases-loop-left
decreases-loop-left l = l.left
