-- The index of a number in a list in which each number is less than the next.
use Rattle.std.proofs.Common.{◌≡◌, sym, ap, subst, ◌∙◌, ℕ, ◌+◌, ◌-◌, ◌<◌, ◌≤◌, ◌==◌, true, false, nat_lt, cond, List, length, get_or, Some, None, Result, Ok, Err, MatchResult, ltb-true, ltb-false, lt-ltb, ltb, eq-eqb, arith, inl, inr}
use Rattle.std.specs.Result.{result_ok}
use Rattle.std.specs.List.{position, position_or_len}
use Rattle.std.specs.List.Sorted.{IsStrictlyIncreasing, IsBinarySearchResult}
use Rattle.std.specs.Ordering.{nat_cmp}
use Rattle.std.proofs.lemmas.Bool.{cases_Bool}
use Rattle.std.proofs.lemmas.Bool.Decides.{nat_tests}
use Rattle.std.proofs.lemmas.List.Kept.{AllPairs-from_increasing}
use Rattle.std.proofs.lemmas.List.Sorted.{searched}
use Rattle.std.proofs.lemmas.List.Sums.{position_or_len_is}

-- one more number, which is greater than the one before it
pub rising_on : (xs : List ℕ) (i : ℕ) → 0 < i → ((k : ℕ) → k + 1 < i → get_or xs k 0 < get_or xs (k + 1) 0) → nat_lt (get_or xs (i - 1) 0) (get_or xs i 0) ≡ true
    → (k : ℕ) → k + 1 < i + 1 → get_or xs k 0 < get_or xs (k + 1) 0
rising_on xs i some h here k lt = elim (cases_Bool (ltb (k + 1) i)) [
  | inl e ↦ h k (ltb-true (k + 1) i e)
  | inr e ↦ (let more : i ≤ k + 1 = ltb-false (k + 1) i e in
      let next : i ≡ k + 1 = omega arith in
      let last : i - 1 ≡ k = omega arith in
      subst (λ j. get_or xs k 0 < get_or xs j 0) next (subst (λ j. get_or xs j 0 < get_or xs i 0) last (ltb-true (get_or xs (i - 1) 0) (get_or xs i 0) here)))
]

less-apart : (m n : ℕ) → m < n → (m == n) ≡ false
less-apart m n lt = grind (arith, nat_tests)

more-apart : (m n : ℕ) → n < m → (m == n) ≡ false
more-apart m n lt = grind (arith, nat_tests)

not-below : (n : ℕ) → nat_lt n n ≡ false
not-below n = grind (arith, nat_tests)

up : (xs : List ℕ) → IsStrictlyIncreasing xs → (i j : ℕ) → i ≤ j → j < length xs → get_or xs i 0 ≤ get_or xs j 0
up xs rises i j le lt = elim (cases_Bool (ltb i j)) [
  | inl e ↦ (let less : get_or xs i 0 < get_or xs j 0 = AllPairs-from_increasing xs rises i j 0 (ltb-true i j e) lt in omega arith)
  | inr e ↦ (let more : j ≤ i = ltb-false i j e in
      let same : i ≡ j = omega arith in
      subst (λ k. get_or xs i 0 ≤ get_or xs k 0) same (omega arith))
]

pub place_found : (xs : List ℕ) (n : ℕ) (r : Result ℕ ℕ) → IsStrictlyIncreasing xs → IsBinarySearchResult (λ y. nat_cmp y n) xs r → result_ok r ≡ position (λ m. m == n) xs
place_found xs n r rises h = go r (searched xs n r h (up xs rises))
  where
    go : (r : Result ℕ ℕ) → MatchResult r (λ i. (i < length xs) × (get_or xs i 0 ≡ n)) (λ i. (i ≤ length xs) × ((k : ℕ) → k < i → get_or xs k 0 < n) × ((k : ℕ) → i ≤ k → k < length xs → n < get_or xs k 0))
        → result_ok r ≡ position (λ m. m == n) xs
    go (Ok i) found =
        let before : (k : ℕ) → k < i → (get_or xs k 0 == n) ≡ false = λ k lt.
        less-apart (get_or xs k 0) n (subst (λ m. get_or xs k 0 < m) found.1 (AllPairs-from_increasing xs rises k i 0 lt found.0)) in
        let at : position_or_len (λ m. m == n) xs ≡ i = position_or_len_is (λ m. m == n) xs i 0 (omega (arith, found.0)) before (λ _. eq-eqb (get_or xs i 0) n found.1) in
        sym (ap (λ (j : ℕ). cond (nat_lt j (length xs)) (Some j) None) at ∙ ap (λ b. cond b (Some i) None) (lt-ltb i (length xs) found.0))
    go (Err i) none =
        let each : (k : ℕ) → k < length xs → (get_or xs k 0 == n) ≡ false = λ k lt. elim (cases_Bool (ltb k i)) [
          | inl e ↦ less-apart (get_or xs k 0) n (none.1 k (ltb-true k i e))
          | inr e ↦ more-apart (get_or xs k 0) n (none.2 k (ltb-false k i e) lt)
        ] in
        let at : position_or_len (λ m. m == n) xs ≡ length xs = position_or_len_is (λ m. m == n) xs (length xs) 0 (omega arith) each (λ less. absurd (omega (arith, less))) in
        sym (ap (λ (j : ℕ). cond (nat_lt j (length xs)) (Some j) None) at ∙ ap (λ b. cond b (Some (length xs)) None) (not-below (length xs)))
