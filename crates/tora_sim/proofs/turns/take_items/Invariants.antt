use Rattle.std.proofs.Common.{◌≡◌, ◌-◌, ℕ, List}
use Rattle.std.specs.Prelude.{slice_index_or}
use Rattle.tora_frame.specs.FrameParts.{FrameParts}
use Rattle.tora_arq.specs.declared.times.Times.{Times}
use Rattle.tora_world.specs.Topology.{Topology}
use Rattle.tora_sim.specs.Keyed.{IsFirst}
use Rattle.tora_sim.specs.Nodes.{NodeView, is_of}
use Rattle.tora_sim.specs.Store.{IsStore, state_of}
use Rattle.tora_sim.specs.Taking.{AreTaken}
use Rattle.tora_sim.proofs.TakenItems.{Goes}
use Rattle.tora_sim.proofs.turns.take_items.Given as goal

abbrev pub invariant-loop : goal.invariant-loop
invariant-loop l = record {
  taken : AreTaken l.fn.node l.fn.links.items l.node l.links.items;
  goes : (t : Topology) (times : Times) (clock : ℕ) (nodes : List NodeView) (ds : List FrameParts) (n home : ℕ) → IsStore (state_of t times clock nodes l.fn.links.items ds) → IsFirst (is_of n) nodes home → l.fn.node ≡ slice_index_or nodes home l.fn.node
      → Goes t times clock nodes l.fn.links.items ds n home l.most l.node l.links.items l.some (l.most - l.counter);
}
