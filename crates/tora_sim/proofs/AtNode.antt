-- From the store of a simulator to one node and its index.
use Rattle.std.proofs.Common.{◌≡◌, ℕ, List, Some, ap, ◌∙◌, length, slice_get}
use Rattle.std.specs.Prelude.{slice_index_or}
use Rattle.tora_frame.specs.FrameParts.{FrameParts}
use Rattle.tora_arq.specs.declared.times.Times.{Times}
use Rattle.tora_world.specs.Topology.{Topology, neighbours_of}
use Rattle.tora_sim.specs.Keyed.{IsFirst}
use Rattle.tora_sim.specs.Links.{LinkView}
use Rattle.tora_sim.specs.Nodes.{NodeView, is_of}
use Rattle.tora_sim.specs.Store.{state_of, IsStore, IsNodeOf, AreEndsOf, node_at}
use Rattle.tora_sim.proofs.Needs.{node_place, is_there, of_node, named}

-- node n is stored as x at the index i
pub record IsAt (t : Topology) (nodes : List NodeView) (links : List LinkView) (n i : ℕ) (x : NodeView) : Type 0 where
  pub place : slice_get nodes i ≡ Some x
  pub there : node_at nodes n ≡ Some x
  pub node : x.node ≡ n
  pub kept : IsNodeOf t x
  pub ends : AreEndsOf t links x
  pub neighbours : x.seat.core.neighbours ≡ neighbours_of t n
  pub count : x.count ≡ length (neighbours_of t n)

pub is_at_place : (t : Topology) (times : Times) (clock : ℕ) (nodes : List NodeView) (links : List LinkView) (ds : List FrameParts) → IsStore (state_of t times clock nodes links ds)
    → (n i : ℕ) (x : NodeView) → IsFirst (is_of n) nodes i → x ≡ slice_index_or nodes i x → IsAt t nodes links n i x
is_at_place t times clock nodes links ds h n i x first read =
    let place = node_place t times clock nodes links ds h n i x first read in
    let node = named t times clock nodes links ds h n i x first read in
    let kept = of_node t times clock nodes links ds h n i x first read in
    record {
      place = place;
      there = is_there t times clock nodes links ds h n i x first read;
      node = node;
      kept = kept;
      ends = h.each_ends i x place;
      neighbours = kept.neighbours ∙ ap (neighbours_of t) node;
      count = kept.count ∙ ap (λ m. length (neighbours_of t m)) node;
    }
