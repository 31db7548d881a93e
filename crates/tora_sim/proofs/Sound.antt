-- The other ends of a node's links, one link after another.
use Rattle.std.proofs.Common.{◌≡◌, ◌≢◌, sym, ap, ◌∙◌, ℕ, ◌+◌, ◌<◌, ◌≤◌, ◌==◌, false, List, ◌∷◌, length, drop, get_or, arith, if◌then◌else◌, eq-eqb}
use Rattle.std.specs.Prelude.{fold}
use Rattle.std.proofs.lemmas.Bool.Decides.{nat_tests}
use Rattle.std.proofs.lemmas.List.{at_drop_more}
use Rattle.tora_core.specs.Numbers.{with_number}
use Rattle.tora_world.specs.Topology.{other_ends}
use Rattle.tora_sim.specs.Topologies.{links_in}
use Rattle.tora_world.proofs.SoundTopology.{length-with_number}

-- ---- numbers that are inserted one after another

abbrev pub sorted_on : List ℕ → List ℕ → List ℕ
sorted_on acc ns = fold (λ sorted n. with_number n sorted) acc ns

-- one more number is inserted, and one fewer is left
pub neighbour-put : (acc new rest whole all : List ℕ) (k : ℕ) → new ≡ with_number k acc → whole ≡ k ∷ rest → length acc + length whole ≤ 255 → sorted_on acc whole ≡ all
    → (length new + length rest ≤ 255) × (sorted_on new rest ≡ all)
neighbour-put acc new rest whole all k put is room e =
    let a = ap length put in
    let b = ap length is in
    (omega (arith, length-with_number k acc), ap (λ xs. sorted_on xs rest) put ∙ sym (ap (sorted_on acc) is) ∙ e)

-- ---- the other ends of the links from an index on

pub ends-first : (n : ℕ) (links : List (ℕ × ℕ)) (i : ℕ) (d : ℕ × ℕ) → i < length links → (get_or links i d).0 ≡ n
    → other_ends n (links_in (drop i links)) ≡ (get_or links i d).1 ∷ other_ends n (links_in (drop (i + 1) links))
ends-first n links i d lt e =
    at_drop_more (λ xs. other_ends n (links_in xs)) links i d lt
    ∙ ap (λ p. if p then (get_or links i d).1 ∷ other_ends n (links_in (drop (i + 1) links)) else if (get_or links i d).1 == n then (get_or links i d).0 ∷ other_ends n (links_in (drop (i + 1) links)) else other_ends n (links_in (drop (i + 1) links)))
    (eq-eqb (get_or links i d).0 n e)

not-same : (m n : ℕ) → m ≢ n → (m == n) ≡ false
not-same m n e = grind (arith, nat_tests)

pub ends-second : (n : ℕ) (links : List (ℕ × ℕ)) (i : ℕ) (d : ℕ × ℕ) → i < length links → (get_or links i d).0 ≢ n → (get_or links i d).1 ≡ n
    → other_ends n (links_in (drop i links)) ≡ (get_or links i d).0 ∷ other_ends n (links_in (drop (i + 1) links))
ends-second n links i d lt ne e =
    at_drop_more (λ xs. other_ends n (links_in xs)) links i d lt
    ∙ ap (λ p. if p then (get_or links i d).1 ∷ other_ends n (links_in (drop (i + 1) links)) else if (get_or links i d).1 == n then (get_or links i d).0 ∷ other_ends n (links_in (drop (i + 1) links)) else other_ends n (links_in (drop (i + 1) links)))
    (not-same (get_or links i d).0 n ne)
    ∙ ap (λ p. if p then (get_or links i d).0 ∷ other_ends n (links_in (drop (i + 1) links)) else other_ends n (links_in (drop (i + 1) links)))
    (eq-eqb (get_or links i d).1 n e)

pub ends-neither : (n : ℕ) (links : List (ℕ × ℕ)) (i : ℕ) (d : ℕ × ℕ) → i < length links → (get_or links i d).0 ≢ n → (get_or links i d).1 ≢ n
    → other_ends n (links_in (drop i links)) ≡ other_ends n (links_in (drop (i + 1) links))
ends-neither n links i d lt ne other =
    at_drop_more (λ xs. other_ends n (links_in xs)) links i d lt
    ∙ ap (λ p. if p then (get_or links i d).1 ∷ other_ends n (links_in (drop (i + 1) links)) else if (get_or links i d).1 == n then (get_or links i d).0 ∷ other_ends n (links_in (drop (i + 1) links)) else other_ends n (links_in (drop (i + 1) links)))
    (not-same (get_or links i d).0 n ne)
    ∙ ap (λ p. if p then (get_or links i d).0 ∷ other_ends n (links_in (drop (i + 1) links)) else other_ends n (links_in (drop (i + 1) links)))
    (not-same (get_or links i d).1 n other)
