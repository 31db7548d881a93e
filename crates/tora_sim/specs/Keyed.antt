-- Items that are found by a test that at most one of them passes.
use Rattle.std.specs.Prelude.{◌≡◌, ℕ, ◌<◌, Bool, true, false, List, length, slice_index_or}

-- the item at an index passes the test, and no item before it does
pub record IsFirst {A : Type 0} (p : A → Bool) (xs : List A) (i : ℕ) : Type 0 where
  pub within : i < length xs
  pub here : (d : A) → p (slice_index_or xs i d) ≡ true
  pub before : (j : ℕ) (d : A) → j < i → p (slice_index_or xs j d) ≡ false

-- the relation holds between each item and each later one
abbrev pub IsOrdered : {A : Type 0} → (A → A → Type 0) → List A → Type 0
IsOrdered {A} Before xs = (i j : ℕ) (d : A) → i < j → j < length xs
    → Before (slice_index_or xs i d) (slice_index_or xs j d)
