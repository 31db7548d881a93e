-- The neighbours and link ends of a node, by its core.
use Rattle.std.proofs.Common.{◌≡◌, ◌∙◌, sym, ap, ℕ, [], map, get_or, Some, None, eqb-true, find}
use Rattle.std.specs.Prelude.{is_some}
use Rattle.std.proofs.lemmas.Option.{slice_get-get_or}
use Rattle.tora_core.specs.Numbers.{ascending}
use Rattle.tora_world.specs.Topology.{neighbours_of}
use Rattle.tora_world.proofs.SoundTopology.{unnamed}
use Rattle.tora_sim.specs.Keyed.{IsFirst}
use Rattle.tora_sim.specs.Nodes.{NodeView, is_of}
use Rattle.tora_sim.specs.Store.{SimState, IsStore}
use Rattle.tora_sim.specs.Readers.{ends_at}

module _ (s : SimState) (h : IsStore s) (n : ℕ) where
  pub neighbours_there : (i : ℕ) (x : NodeView) → IsFirst (is_of n) s.nodes i → x ≡ get_or s.nodes i x → x.seat.core.neighbours ≡ neighbours_of s.topology n
  neighbours_there i x first is =
      let there = slice_get-get_or s.nodes i x first.within ∙ ap Some (sym is) in
      let same : x.node ≡ n = eqb-true x.node n (ap (is_of n) is ∙ first.here x) in
      (h.each_node i x there).neighbours ∙ ap (neighbours_of s.topology) same

  pub no_neighbours : find (is_of n) s.nodes ≡ None → neighbours_of s.topology n ≡ []
  no_neighbours none = ap ascending (unnamed n s.topology.links (h.nodes n ∙ ap is_some none))

  pub ends_there : (i : ℕ) (x : NodeView) → IsFirst (is_of n) s.nodes i → x ≡ get_or s.nodes i x → map (λ k. (n, k)) x.seat.core.neighbours ≡ ends_at s.topology n
  ends_there i x first is = ap (map (λ (k : ℕ). (n, k))) (neighbours_there i x first is)

  pub no_ends : find (is_of n) s.nodes ≡ None → ends_at s.topology n ≡ []
  no_ends none = ap (map (λ (k : ℕ). (n, k))) (no_neighbours none)
