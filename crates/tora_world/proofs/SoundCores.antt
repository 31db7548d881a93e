-- The cores of a topology that is not refused keep the invariants of TORA's rules, whatever packets arrive.
use Rattle.std.proofs.Common.{◌≡◌, ℕ, ◌≤◌, ◌==◌, Bool, true, false, ◌||◌, List, [], ◌∷◌, length, None, Some, nat_lt, if◌then◌else◌, ap₂, ap, ◌∙◌, arith}
use Rattle.std.specs.List.{AllByRecursion}
use Rattle.std.proofs.lemmas.Bool.{cond_both}
use Rattle.std.proofs.lemmas.Bool.Decides.{nat_tests}
use Rattle.tora_packet.specs.PacketParts.{IsId}
use Rattle.tora_core.specs.declared.TheConstants.{GREATEST_NEIGHBOURS, MOST_DESTINATIONS}
use Rattle.tora_core.specs.Limits.{greatest_core_limits}
use Rattle.tora_core.specs.declared.errors.CoreError.TheVariants as Refusal
use Rattle.tora_core.specs.Numbers.{has_number, has_repeat, with_number}
use Rattle.tora_core.specs.CoreRun.{core_refusal_within}
use Rattle.tora_core.proofs.NumberLemmas.{all-has, all-with_number, all-ascending, length-ascending}
use Rattle.tora_world.specs.Topology.{erasure_at, Topology, Link, other_ends, neighbours_of, nodes_in, with_node, is_node, IsWithinLimits}
use Rattle.tora_world.specs.Walks.{AreIds}
use Rattle.tora_world.specs.Layers.{CoreLaws, RuleLaws}
use Rattle.tora_world.proofs.NeighboursApart.{neighbours_apart}
use Rattle.tora_world.proofs.SoundTopology.{IsSound, sound, others-apart, few-ends}
use Rattle.tora_world.proofs.KeptCores.{IsKeeping}

abbrev NamesNodes : Link → Type 0
NamesNodes link = IsId link.a × IsId link.b

ends_ids : (n : ℕ) (links : List Link) → AllByRecursion NamesNodes links → AllByRecursion IsId (other_ends n links)
ends_ids n [] all = tt
ends_ids n (link ∷ links) all =
    let rest = ends_ids n links all.1 in
    cond_both (link.a == n) (link.b ∷ other_ends n links) (if link.b == n then link.a ∷ other_ends n links else other_ends n links) (AllByRecursion IsId)
    (λ _. (all.0.1, rest))
    (λ _. cond_both (link.b == n) (link.a ∷ other_ends n links) (other_ends n links) (AllByRecursion IsId) (λ _. (all.0.0, rest)) (λ _. rest))

with_node_ids : (n : ℕ) (nodes : List ℕ) → IsId n → AllByRecursion IsId nodes → AllByRecursion IsId (with_node n nodes)
with_node_ids n nodes id all = cond_both (has_number n nodes) nodes (with_number n nodes) (AllByRecursion IsId) (λ _. all) (λ _. all-with_number IsId n nodes id all)

nodes_ids : (links : List Link) → AllByRecursion NamesNodes links → AllByRecursion IsId (nodes_in links)
nodes_ids [] all = tt
nodes_ids (link ∷ links) all = with_node_ids link.a (with_node link.b (nodes_in links)) all.0.0 (with_node_ids link.b (nodes_in links) all.0.1 (nodes_ids links all.1))

pub node_id : (t : Topology) → AreIds t → (n : ℕ) → is_node t n ≡ true → IsId n
node_id t ids n h = all-has IsId n (nodes_in t.links) (nodes_ids t.links ids.links) h

not_above : (most count : ℕ) → count ≤ most → nat_lt most count ≡ false
not_above most count le = grind (arith, nat_tests, le)

module _ (cores : CoreLaws) (rules : RuleLaws) (t : Topology) (accepted : IsWithinLimits t) (ids : AreIds t) where
  h : IsSound t
  h = sound t accepted

  near_ids : (n : ℕ) → AllByRecursion IsId (neighbours_of t n)
  near_ids n = all-ascending IsId (other_ends n t.links) (ends_ids n t.links ids.links)

  -- no node's core is refused within the greatest limits
  not_refused : (n : ℕ) → core_refusal_within GREATEST_NEIGHBOURS MOST_DESTINATIONS n (neighbours_of t n) t.destinations ≡ None
  not_refused n =
      let few : length (neighbours_of t n) ≤ GREATEST_NEIGHBOURS = let e = length-ascending (other_ends n t.links) in let f = few-ends t h n in omega arith in
      let apart : has_number n (neighbours_of t n) ≡ false = cores.members n (other_ends n t.links) ∙ others-apart n t.links h.others in
      ap₂ (λ (a b : Bool). if a || b then Some Refusal.TooMany else if has_repeat (neighbours_of t n) || has_repeat t.destinations then Some Refusal.Repeated else if has_number n (neighbours_of t n) then Some Refusal.OwnId else None)
      (not_above GREATEST_NEIGHBOURS (length (neighbours_of t n)) few) (not_above MOST_DESTINATIONS (length t.destinations) h.few_destinations)
      ∙ ap₂ (λ (a b : Bool). if a || b then Some Refusal.Repeated else if has_number n (neighbours_of t n) then Some Refusal.OwnId else None) (neighbours_apart cores t n accepted) h.destinations
      ∙ ap (λ (b : Bool). if b then Some Refusal.OwnId else None) apart

  pub keeping : IsKeeping t
  keeping = record {
    laws = λ n id is ok. rules.kept (erasure_at t n) greatest_core_limits n (neighbours_of t n) t.destinations is id (near_ids n) ids.destinations (not_refused n) ok;
    ids = λ n k there. all-has IsId k (neighbours_of t n) (near_ids n) there;
  }
