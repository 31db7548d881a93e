use Rattle.std.proofs.Common.{◌≡◌, ◌≤◌, length}
use Rattle.tora_sim.proofs.Named.{ends_from}
use Rattle.tora_sim.proofs.link_nodes.has_many_neighbours.Given as goal

-- the other ends of the links so far
abbrev pub invariant-loop-left : goal.invariant-loop-left
invariant-loop-left l = record {
  within : l.left ≤ length l.links;
  ends : l.ends.items ≡ ends_from l.n l.links l.left;
}

abbrev pub decreases-loop-left : goal.decreases-loop-left
decreases-loop-left l = l.left
