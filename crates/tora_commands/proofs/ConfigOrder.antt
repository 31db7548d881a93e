-- Links in another order: the same peers are repeated, and a core of them is refused for the same reason.
use Rattle.std.proofs.Common.{◌≡◌, ◌≢◌, ◌∙◌, add-one, refl, ap, sym, subst, arith, ℕ, zero, suc, ◌+◌, ◌<◌, ◌≤◌, ◌==◌, Bool, true, false, cond, ◌||◌, List, [], ◌∷◌, length, get_or, inl, inr, None}
use Rattle.std.specs.List.{sum_by}
use Rattle.std.specs.List.Sorted.{IsPermutation, IsNonDecreasingBy}
use Rattle.std.proofs.lemmas.Bool.{cases_Bool, eqb-true, eqb-false, or_parts}
use Rattle.std.proofs.lemmas.Bool.Decides.{nat_tests}
use Rattle.std.proofs.lemmas.List.{get_or-map, length-map}
use Rattle.std.proofs.lemmas.List.Sorted.{IsPermutation-refl, IsPermutation-sym, IsPermutation-map, sum_by_pushed, sum_by-IsPermutation, length_permutation, list_any-IsPermutation}
use Rattle.tora_core.specs.Numbers.{has_number, has_repeat}
use Rattle.tora_core.specs.CoreRun.{core_refusal}
use Rattle.tora_commands.specs.declared.configuration.LinkConfig.{LinkConfig}
use Rattle.tora_commands.specs.NodeConfig.{peers_of, IsAscending}

-- how often a number occurs in a list
abbrev one_if : ℕ → ℕ → ℕ
one_if n m = cond (m == n) 1 0

abbrev count : ℕ → List ℕ → ℕ
count n xs = sum_by (one_if n) xs

count-cons : (n x : ℕ) (xs : List ℕ) → count n (x ∷ xs) ≡ one_if n x + count n xs
count-cons n x xs = sum_by_pushed (one_if n) x xs (x ∷ xs) (IsPermutation-refl (x ∷ xs))

or_left : (a b : Bool) → (a || b) ≡ false → a ≡ false
or_left a b e = (or_parts a b e).0

or_right : (a b : Bool) → (a || b) ≡ false → b ≡ false
or_right a b e = (or_parts a b e).1

none_counted : (n : ℕ) (xs : List ℕ) → has_number n xs ≡ false → count n xs ≡ 0
none_counted n [] e = refl
none_counted n (x ∷ xs) e = rw (count-cons n x xs, or_left (x == n) (has_number n xs) e) (omega (arith, none_counted n xs (or_right (x == n) (has_number n xs) e)))

some_counted : (n : ℕ) (xs : List ℕ) → has_number n xs ≡ true → 1 ≤ count n xs
some_counted n [] e = absurd cc
some_counted n (x ∷ xs) e =
    elim (cases_Bool (x == n)) [
      | inl here ↦ rw (count-cons n x xs, here) (omega arith)
      | inr other ↦
          let later : has_number n xs ≡ true = sym (ap (λ (b : Bool). b || has_number n xs) other) ∙ e in
          rw (count-cons n x xs, other) (omega (arith, some_counted n xs later))
    ]

counted_once : (xs : List ℕ) → has_repeat xs ≡ false → (n : ℕ) → count n xs ≤ 1
counted_once [] e n = omega arith
counted_once (x ∷ xs) e n =
    elim (cases_Bool (x == n)) [
      | inl here ↦
          let none : has_number n xs ≡ false = subst (λ (m : ℕ). has_number m xs ≡ false) (eqb-true x n here) (or_left (has_number x xs) (has_repeat xs) e) in
          rw (count-cons n x xs, here, none_counted n xs none) (omega arith)
      | inr other ↦ rw (count-cons n x xs, other) (omega (arith, counted_once xs (or_right (has_number x xs) (has_repeat xs) e) n))
    ]

once_counted : (xs : List ℕ) → ((n : ℕ) → count n xs ≤ 1) → has_repeat xs ≡ false
once_counted [] once = refl
once_counted (x ∷ xs) once =
    elim (cases_Bool (has_number x xs)) [
      | inl there ↦
          let twice : count x (x ∷ xs) ≤ 1 = once x in
          let same : (x == x) ≡ true = grind (arith, nat_tests) in
          let split : count x (x ∷ xs) ≡ 1 + count x xs = count-cons x x xs ∙ ap (λ (b : Bool). cond b 1 0 + count x xs) same in
          absurd (omega (arith, some_counted x xs there, split, twice))
      | inr none ↦ rw none (once_counted xs (λ n. omega (arith, once n, count-cons n x xs)))
    ]

once_permuted : (xs ys : List ℕ) → IsPermutation xs ys → has_repeat xs ≡ false → has_repeat ys ≡ false
once_permuted xs ys moved e = once_counted ys (λ n. rw (sum_by-IsPermutation (one_if n) xs ys moved) (counted_once xs e n))

same_bool : (a b : Bool) → (a ≡ false → b ≡ false) → (b ≡ false → a ≡ false) → a ≡ b
same_bool true true f g = refl
same_bool true false f g = g refl
same_bool false true f g = sym (f refl)
same_bool false false f g = refl

repeat_permuted : (xs ys : List ℕ) → IsPermutation xs ys → has_repeat xs ≡ has_repeat ys
repeat_permuted xs ys moved = same_bool (has_repeat xs) (has_repeat ys) (once_permuted xs ys moved) (once_permuted ys xs (IsPermutation-sym xs ys moved))

peers_permuted : (xs ys : List LinkConfig) → IsPermutation xs ys → IsPermutation (peers_of xs) (peers_of ys)
peers_permuted xs ys moved = IsPermutation-map (λ (link : LinkConfig). link.peer) xs ys moved

-- the order of its neighbours does not matter to a core
pub refused_alike : (me : ℕ) (xs ys : List LinkConfig) (dests : List ℕ) → IsPermutation xs ys → core_refusal me (peers_of xs) dests ≡ core_refusal me (peers_of ys) dests
refused_alike me xs ys dests moved =
    let peers = peers_permuted xs ys moved in
    rw (length_permutation (peers_of xs) (peers_of ys) peers, repeat_permuted (peers_of xs) (peers_of ys) peers, list_any-IsPermutation (λ (m : ℕ). m == me) (peers_of xs) (peers_of ys) peers)

-- ---- ascending

absent : (n : ℕ) (xs : List ℕ) (i : ℕ) → has_number n xs ≡ false → i < length xs → get_or xs i 0 ≢ n
absent n [] i e below same = omega arith
absent n (x ∷ xs) zero e below same = eqb-false x n (or_left (x == n) (has_number n xs) e) same
absent n (x ∷ xs) (suc i) e below same = absent n xs i (or_right (x == n) (has_number n xs) e) (omega arith) same

apart : (xs : List ℕ) (i : ℕ) → has_repeat xs ≡ false → suc i < length xs → get_or xs (suc i) 0 ≢ get_or xs i 0
apart [] i e below same = omega arith
apart (x ∷ xs) zero e below same = absent x xs 0 (or_left (has_number x xs) (has_repeat xs) e) (omega arith) same
apart (x ∷ xs) (suc i) e below same = apart xs i (or_right (has_number x xs) (has_repeat xs) e) (omega arith) same

rises : (xs : List ℕ) (k : ℕ) → has_repeat xs ≡ false → k + 1 < length xs → get_or xs k 0 ≤ get_or xs (k + 1) 0 → get_or xs k 0 < get_or xs (k + 1) 0
rises xs k e below rising =
    let other : get_or xs (k + 1) 0 ≢ get_or xs k 0 = rw add-one (apart xs k e (omega arith)) in
    omega (arith, other)

accepted_once : (me : ℕ) (peers dests : List ℕ) → core_refusal me peers dests ≡ None → has_repeat peers ≡ false
accepted_once me peers dests accepted = grind (arith, accepted)

pub ascending : (me : ℕ) (xs ys : List LinkConfig) (dests : List ℕ) → core_refusal me (peers_of xs) dests ≡ None → IsPermutation xs ys → IsNonDecreasingBy (λ link. link.peer) ys → IsAscending (peers_of ys)
ascending me xs ys dests accepted moved rising k below =
    let peer : LinkConfig → ℕ = λ link. link.peer in
    let some : LinkConfig = record { peer = 0; local = 0; remote = 0 } in
    let long : length (peers_of ys) ≡ length ys = simp length-map in
    let once : has_repeat (peers_of ys) ≡ false = once_permuted (peers_of xs) (peers_of ys) (peers_permuted xs ys moved) (accepted_once me (peers_of xs) dests accepted) in
    let here : get_or (peers_of ys) k 0 ≡ peer (get_or ys k some) = get_or-map peer ys k some 0 (omega arith) in
    let next : get_or (peers_of ys) (k + 1) 0 ≡ peer (get_or ys (k + 1) some) = get_or-map peer ys (k + 1) some 0 (omega arith) in
    let steps : peer (get_or ys k some) ≤ peer (get_or ys (k + 1) some) = rising k (k + 1) some (omega arith) (omega arith) in
    rises (peers_of ys) k once below (rw (here, next) steps)
