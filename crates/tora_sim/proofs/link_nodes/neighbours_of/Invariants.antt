use Rattle.std.proofs.Common.{◌≡◌, ◌+◌, ◌≤◌, length, drop}
use Rattle.tora_core.specs.Numbers.{ascending}
use Rattle.tora_world.specs.Topology.{other_ends}
use Rattle.tora_sim.specs.Topologies.{links_in}
use Rattle.tora_sim.proofs.Sound.{sorted_on}
use Rattle.tora_sim.proofs.link_nodes.neighbours_of.Given as goal

-- the other ends of the remaining links, added to those so far, are all neighbours
abbrev pub invariant-loop-link : goal.invariant-loop-link
invariant-loop-link l = record {
  room : length l.neighbours.items + length (other_ends l.n (links_in (drop l.link-index l.links))) ≤ 255;
  all : sorted_on l.neighbours.items (other_ends l.n (links_in (drop l.link-index l.links))) ≡ ascending (other_ends l.n (links_in l.links));
}
