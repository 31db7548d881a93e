-- Worlds at rest that events reach: their entries, and their walks.
use Rattle.std.proofs.Common.{◌≡◌, ◌≢◌, ℕ, true, List, [], Some, sym, ap, ◌∙◌, subst}
use Rattle.tora_height.specs.Height.{Quintuple}
use Rattle.tora_arq.specs.declared.times.Times.{Times}
use Rattle.tora_world.specs.Topology.{Topology, is_node, IsWithinLimits}
use Rattle.tora_world.specs.World.{World, first_world}
use Rattle.tora_world.specs.FreeWorld.{Schedule, after_schedule}
use Rattle.tora_world.specs.Layers.{LinkLaws, LifeLaws, CoreLaws, SeatLaws, RuleLaws}
use Rattle.tora_world.specs.Walks.{height_at, Arrives, AreIds}
use Rattle.tora_world.specs.Rest.{IsAtRest, LacksHeight, EntriesAreHeights, FollowsHops, HopsDown, ComesDown, HaveHeights, last_of, IsReached}
use Rattle.tora_world.proofs.KeptCores.{IsKeeping, topology_kept, cores_kept}
use Rattle.tora_world.proofs.SoundCores.{node_id, keeping}
use Rattle.tora_world.proofs.Entries.{IsCoreOf, core_of_run}
use Rattle.tora_world.proofs.EntriesAtRest.{entries_are_heights}
use Rattle.tora_world.proofs.WalksAtRest.{hops_down, comes_down, no_loop, arrives_at_rest}

module _ (laws : LinkLaws) (lows : LifeLaws) (cores : CoreLaws) (seats : SeatLaws) (rules : RuleLaws) (t : Topology) (times : Times) (es : Schedule) (accepted : IsWithinLimits t) (ids : AreIds t) where
  abbrev last : World
  last = after_schedule es (first_world t times)

  keeps : IsKeeping t
  keeps = keeping cores rules t accepted ids

  same : last.topology ≡ t
  same = topology_kept laws lows t keeps times es

  cores_of : (n : ℕ) → is_node last.topology n ≡ true → IsCoreOf last.topology n (last.seats n).core
  cores_of n there =
      let id = node_id t ids n (ap (λ (u : Topology). is_node u n) (sym same) ∙ there) in
      subst (λ (u : Topology). IsCoreOf u n (last.seats n).core) (sym same) (core_of_run cores t keeps n id (last.seats n).core (cores_kept laws lows t keeps times es n id))

  module _ (rest : IsAtRest last) where
    entries : EntriesAreHeights last
    entries = entries_are_heights laws lows cores seats rules t times es accepted ids rest

    pub hops_at_rest : (d n : ℕ) (height : Quintuple) → n ≢ d → height_at last n d ≡ Some (Some height) → HopsDown last d n
    hops_at_rest d n height other e = hops_down rules last cores_of d entries n height other e

    pub walks_at_rest : (d n : ℕ) (height : Quintuple) → height_at last n d ≡ Some (Some height) → ComesDown last n d
    walks_at_rest d n height e = comes_down rules last cores_of d entries n height e

    pub loops_at_rest : (d n : ℕ) (height : Quintuple) (nodes : List ℕ) → height_at last n d ≡ Some (Some height) → FollowsHops last d n nodes → HaveHeights last d nodes → last_of n nodes ≡ n → nodes ≡ []
    loops_at_rest d n height nodes e follows have back = no_loop rules last cores_of d entries n height nodes e follows have back

    pub routes_at_rest : (d n : ℕ) (height : Quintuple) → height_at last n d ≡ Some (Some height) → ((k : ℕ) → IsReached last d n k → ¬ LacksHeight last k d) → Arrives last n d
    routes_at_rest d n height e none = arrives_at_rest rules last cores_of d entries n none height e
