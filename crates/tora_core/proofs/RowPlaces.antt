-- The place of a neighbour among those whose links are up, and of its row in each view.
use Rattle.std.proofs.Common.{◌≡◌, ◌≢◌, refl, ap, sym, ◌∙◌, ℕ, suc, ◌+◌, ◌<◌, ◌==◌, Bool, true, false, not, ◌||◌, List, [], ◌∷◌, length, Option, Some, None, nat_lt, arith, subst}
use Rattle.std.specs.Prelude.{if◌then◌else◌, unwrap_or}
use Rattle.std.specs.List.{AllByRecursion, position, position_or_len}
use Rattle.std.proofs.lemmas.Bool.{cond_both}
use Rattle.std.proofs.lemmas.Bool.Decides.{nat_tests}
use Rattle.std.proofs.lemmas.List.Sums.{prefix_len-le-length}
use Rattle.tora_core.specs.declared.rows.Row.{Row}
use Rattle.tora_core.specs.Numbers.{IsAscending, has_number}
use Rattle.tora_core.specs.View.{View, neighbours_of}
use Rattle.tora_core.specs.Links.{IsOnlyPlace}
use Rattle.tora_core.specs.CoreRun.{is_of}
use Rattle.tora_core.specs.Kept.{destinations_of}
use Rattle.tora_core.proofs.NumberLemmas.{same-number, other-number}
use Rattle.tora_core.proofs.OwnViews.{none-passes, place-Some}

pub place-or-length : {X : Type 0} (p : X → Bool) (xs : List X) → unwrap_or (position p xs) (length xs) ≡ position_or_len p xs
place-or-length p xs =
    let within = prefix_len-le-length (λ x. not (p x)) xs in
    cond_both (nat_lt (position_or_len p xs) (length xs)) (Some (position_or_len p xs)) None (λ (o : Option ℕ). unwrap_or o (length xs) ≡ position_or_len p xs)
    (λ _. refl) (λ (e : nat_lt (position_or_len p xs) (length xs) ≡ false). grind (arith, nat_tests))

above-apart : (n : ℕ) (ns : List ℕ) → AllByRecursion (λ (m : ℕ). n < m) ns → AllByRecursion (λ (m : ℕ). m ≢ n) ns
above-apart n [] all = tt
above-apart n (m ∷ ns) all = let lt = all.0 in ((λ (e : m ≡ n). absurd (omega arith)), above-apart n ns all.1)

-- a number of an ascending list is at one place
pub only-of : (k : ℕ) (ns : List ℕ) → IsAscending ns → has_number k ns ≡ true → IsOnlyPlace k (position_or_len (λ n. n == k) ns) ns
only-of k [] asc has = absurd cc
only-of k (n ∷ ns) asc has = at (n == k) refl has (only-of k ns asc.1)
  where
    at : (b : Bool) → (n == k) ≡ b → (b || has_number k ns) ≡ true → (has_number k ns ≡ true → IsOnlyPlace k (position_or_len (λ m. m == k) ns) ns)
        → IsOnlyPlace k (if not b then 1 + position_or_len (λ m. m == k) ns else 0) (n ∷ ns)
    at true e h rest = let is : n ≡ k = same-number n k e in (is, subst (λ (x : ℕ). AllByRecursion (λ (m : ℕ). m ≢ x) ns) is (above-apart n ns asc.0))
    at false e h rest =
        let one : suc (position_or_len (λ m. m == k) ns) ≡ 1 + position_or_len (λ m. m == k) ns = omega arith in
        subst (λ (i : ℕ). IsOnlyPlace k i (n ∷ ns)) one (other-number n k e, rest h)

-- the place of a neighbour is that of its row
row-numbers : (k : ℕ) (rows : List Row) → position_or_len (λ (row : Row). row.neighbour == k) rows ≡ position_or_len (λ n. n == k) (neighbours_of rows)
row-numbers k [] = refl
row-numbers k (row ∷ rows) = ap (λ (n : ℕ). if not (row.neighbour == k) then 1 + n else 0) (row-numbers k rows)

pub length-rows : (rows : List Row) → length (neighbours_of rows) ≡ length rows
length-rows [] = refl
length-rows (row ∷ rows) = ap suc (length-rows rows)

-- a number at some place is in the list
has-within : (k : ℕ) (ns : List ℕ) → position_or_len (λ n. n == k) ns < length ns → has_number k ns ≡ true
has-within k [] lt = absurd (omega arith)
has-within k (n ∷ ns) lt = at (n == k) refl lt (has-within k ns)
  where
    at : (b : Bool) → (n == k) ≡ b → (if not b then 1 + position_or_len (λ m. m == k) ns else 0) < suc (length ns) → (position_or_len (λ m. m == k) ns < length ns → has_number k ns ≡ true)
        → (b || has_number k ns) ≡ true
    at true e within rest = refl
    at false e within rest = rest (omega arith)

-- the place of the row of a neighbour
pub row-only : (k i : ℕ) (rows : List Row) → IsAscending (neighbours_of rows) → position (λ (row : Row). row.neighbour == k) rows ≡ Some i
    → (i < length rows) × IsOnlyPlace k i (neighbours_of rows)
row-only k i rows asc e =
    let found = place-Some (λ (row : Row). row.neighbour == k) rows i e in
    let same = row-numbers k rows in
    let here : i ≡ position_or_len (λ n. n == k) (neighbours_of rows) = found.1 ∙ same in
    let count = length-rows rows in
    let first = found.0 in
    let within : position_or_len (λ n. n == k) (neighbours_of rows) < length (neighbours_of rows) = omega arith in
    let is = found.1 in
    (omega arith, subst (λ (n : ℕ). IsOnlyPlace k n (neighbours_of rows)) (sym here) (only-of k (neighbours_of rows) asc (has-within k (neighbours_of rows) within)))

others : (k : ℕ) (rows : List Row) → AllByRecursion (λ (row : Row). (row.neighbour == k) ≡ false) rows → AllByRecursion (λ (m : ℕ). m ≢ k) (neighbours_of rows)
others k [] all = tt
others k (row ∷ rows) all = (other-number row.neighbour k all.0, others k rows all.1)

-- a neighbour without a row has no place
pub row-none : (k : ℕ) (rows : List Row) → position (λ (row : Row). row.neighbour == k) rows ≡ None → AllByRecursion (λ (m : ℕ). m ≢ k) (neighbours_of rows)
row-none k rows e = others k rows (none-passes (λ (row : Row). row.neighbour == k) rows e)

-- the place of a destination is that of its view
place-names : (d : ℕ) (views : List View) → position_or_len (λ n. n == d) (destinations_of views) ≡ position_or_len (is_of d) views
place-names d [] = refl
place-names d (v ∷ views) = ap (λ (n : ℕ). if not (v.destination == d) then 1 + n else 0) (place-names d views)

length-names : (views : List View) → length (destinations_of views) ≡ length views
length-names [] = refl
length-names (v ∷ views) = ap suc (length-names views)

pub names-views : (d : ℕ) (views : List View) → position (λ n. n == d) (destinations_of views) ≡ position (is_of d) views
names-views d views =
    ap (λ (i : ℕ). if nat_lt i (length (destinations_of views)) then Some i else None) (place-names d views)
    ∙ ap (λ (n : ℕ). if nat_lt (position_or_len (is_of d) views) n then Some (position_or_len (is_of d) views) else None) (length-names views)
