use Rattle.std.proofs.Common.{◌≡◌, ◌≤◌, false, length, drop}
use Rattle.tora_world.specs.Topology.{has_repeated_link}
use Rattle.tora_sim.specs.Topologies.{links_in}
use Rattle.tora_sim.proofs.duplicates.some_link_stands_again.Given as goal

-- no link so far is named again later
abbrev pub invariant-loop-left : goal.invariant-loop-left
invariant-loop-left l = record {
  within : l.left ≤ length l.links;
  none : has_repeated_link (links_in (drop l.left l.links)) ≡ false;
}

abbrev pub decreases-loop-left : goal.decreases-loop-left
decreases-loop-left l = l.left
