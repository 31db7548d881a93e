-- The readers of one node for a trace.
use Rattle.std.proofs.Common.{◌≡◌, sym, ap, ◌∙◌, ℕ, get_or, Some}
use Rattle.std.specs.Prelude.{slice_get}
use Rattle.std.proofs.lemmas.Option.{slice_get-get_or}
use Rattle.tora_sim.specs.Keyed.{IsFirst}
use Rattle.tora_sim.specs.Nodes.{NodeView, is_of}
use Rattle.tora_sim.specs.Store.{SimState, node_at, items_in, inputs_in}
use Rattle.tora_sim.proofs.Keys.{found}

module _ (s : SimState) (n i : ℕ) (x : NodeView) (first : IsFirst (is_of n) s.nodes i) (is : x ≡ get_or s.nodes i x) where
  node_found : node_at s.nodes n ≡ Some x
  node_found = found (is_of n) s.nodes i x first (slice_get-get_or s.nodes i x first.within ∙ ap Some (sym is))

  pub item_found : slice_get x.items 0 ≡ slice_get (items_in (node_at s.nodes n)) 0
  item_found = sym (ap (λ o. slice_get (items_in o) 0) node_found)

  pub inputs_found : x.inputs ≡ inputs_in (node_at s.nodes n)
  inputs_found = sym (ap inputs_in node_found)
