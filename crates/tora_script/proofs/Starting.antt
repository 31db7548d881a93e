-- The contracts of the simulator, in the form in which the engine requires them.
use Rattle.std.proofs.Common.{◌≡◌, ◌∙◌, inl, inr, refl, ap, arith, ℕ, ◌<◌, MatchBool, Bool, true, false, List, [], ◌∷◌, ◌++◌, Option, Some, None, is_some, if◌then◌else◌}
use Rattle.std.proofs.lemmas.List.Elements.{All-map}
use Rattle.tora_arq.specs.declared.times.Times.{Times}
use Rattle.tora_world.specs.declared.event.Event.{Event}
use Rattle.tora_core.specs.declared.erasure.Erasure.{Erasure}
use Rattle.tora_world.specs.declared.sim_error.SimError.{SimError}
use Rattle.tora_world.specs.declared.sim_error.SimError.TheVariants as Refused
use Rattle.tora_world.specs.Errors.{sim_error_number}
use Rattle.tora_script.specs.declared.node_marks.Mark.{Mark}
use Rattle.tora_script.specs.declared.setup.WorldOptions.{WorldOptions}
use Rattle.tora_world.specs.Topology.{Link, Topology, is_node, topology_fault_within}
use Rattle.tora_world.specs.World.{World, first_world, effect_by, own_choice, refusal_of, world_after, world_by}
use Rattle.tora_sim.specs.Topologies.{link_in, topology_of, AreNumbers}
use Rattle.tora_sim.specs.Steps.{IsRefused}
use Rattle.tora_script.specs.Marks.{with_choice}
use Rattle.tora_script.specs.Simulator.{ArePairs, AreIds, mixed_topology, started}

-- no number of the topology is 0
pub numbers_of : (links : List (ℕ × ℕ)) (dests : List ℕ) → ArePairs links → AreIds dests → AreNumbers (topology_of links dests)
numbers_of links dests pairs ids = record {
  links = All-map (λ (link : Link). (0 < link.a) × (0 < link.b)) link_in links pairs;
  destinations = ids;
}

-- a topology without a fault has a first world
pub started_as : (options : WorldOptions) (links : List (ℕ × ℕ)) (dests : List ℕ) (marks : List Mark) (times : Times) (w : World) → topology_fault_within options.limits (topology_of links dests) ≡ None → w ≡ first_world (mixed_topology options.erasure links dests marks) times → started options links dests marks times ≡ Some w
unfolding started
started_as options links dests marks times w sound made = rw (sound, made) refl

-- if there is no such node, the topology does not change
unmade : (b : Bool) (t made : Topology) → MatchBool b (Refused.NoNode ≡ Refused.Memory) (Refused.NoNode ≡ Refused.NoNode) → t ≡ (if b then made else t)
unmade true t made h = absurd cc
unmade false t made h = refl

pub not_chosen : (t new : Topology) (n : ℕ) (erasure : Erasure) → new ≡ t → MatchBool (is_node t n) (Refused.NoNode ≡ Refused.Memory) (Refused.NoNode ≡ Refused.NoNode) → new ≡ with_choice t n erasure
not_chosen t new n erasure same h = same ∙ unmade (is_node t n) t (record t { choices = t.choices ++ (n, erasure) ∷ [] }) h

-- a refused event does not change the world
left_by : {A : Type 0} (r : Option SimError) (e : SimError) (w x : A) → r ≡ Some e → w ≡ (if is_some r then w else x)
left_by r e w x is = rw is refl

-- an event that is refused for another cause than memory, which has the number 1, does not change the world
pub stays : (w after : World) (event : Event) (e : SimError) → 1 < sim_error_number e → IsRefused w event e after → after ≡ world_after w event
unfolding world_by
stays w after event e other refused = elim refused.cause [
  | inl none ↦ let one : sim_error_number e ≡ 1 = ap sim_error_number none.0 in absurd (omega arith)
  | inr cause ↦ refused.world ∙ left_by (refusal_of w event) e w (effect_by (own_choice w event) w event) cause
]

-- the cause of such an event is its refusal
pub is_cause : (w after : World) (event : Event) (e : SimError) → 1 < sim_error_number e → IsRefused w event e after → refusal_of w event ≡ Some e
is_cause w after event e other refused = elim refused.cause [
  | inl none ↦ let one : sim_error_number e ≡ 1 = ap sim_error_number none.0 in absurd (omega arith)
  | inr cause ↦ cause
]
