-- Exact entries and walks in every world that events reach.
use Rattle.std.proofs.Common.{◌≡◌, ◌↔◌, ℕ, true, Some, sym, ap, ◌∙◌, subst}
use Rattle.tora_height.specs.Height.{Quintuple}
use Rattle.tora_arq.specs.declared.times.Times.{Times}
use Rattle.tora_world.specs.Topology.{Topology, is_node, IsWithinLimits}
use Rattle.tora_world.specs.World.{World, first_world}
use Rattle.tora_world.specs.FreeWorld.{Schedule, after_schedule}
use Rattle.tora_world.specs.Layers.{LinkLaws, LifeLaws, CoreLaws, RuleLaws}
use Rattle.tora_world.specs.Walks.{height_at, IsExact, exact_in, Arrives, AreIds}
use Rattle.tora_world.proofs.KeptCores.{IsKeeping, topology_kept, cores_kept}
use Rattle.tora_world.proofs.SoundCores.{node_id, keeping}
use Rattle.tora_world.proofs.Entries.{IsCoreOf, core_of_run}
use Rattle.tora_world.proofs.ExactEntries.{exact_is, is_exact}
use Rattle.tora_world.proofs.WalksDown.{arrives}

module _ (laws : LinkLaws) (lows : LifeLaws) (cores : CoreLaws) (rules : RuleLaws) (t : Topology) (times : Times) (es : Schedule) (accepted : IsWithinLimits t) (ids : AreIds t) where
  abbrev last : World
  last = after_schedule es (first_world t times)

  keeps : IsKeeping t
  keeps = keeping cores rules t accepted ids

  same : last.topology ≡ t
  same = topology_kept laws lows t keeps times es

  cores_of : (n : ℕ) → is_node last.topology n ≡ true → IsCoreOf last.topology n (last.seats n).core
  cores_of n there =
      let id = node_id t ids n (ap (λ (u : Topology). is_node u n) (sym same) ∙ there) in
      subst (λ (u : Topology). IsCoreOf u n (last.seats n).core) (sym same) (core_of_run cores t keeps n id (last.seats n).core (cores_kept laws lows t keeps times es n id))

  pub walks_of_run : (d n : ℕ) (height : Quintuple) → IsExact last d → height_at last n d ≡ Some (Some height) → Arrives last n d
  walks_of_run d n height exact e = arrives rules last cores_of d exact n height e

  pub exact_of_run : (d : ℕ) → (exact_in last d ≡ true) ↔ IsExact last d
  exact_of_run d = (exact_is rules last cores_of d, is_exact rules last d)
