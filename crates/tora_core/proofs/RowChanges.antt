-- The effects of changes of rows.
use Rattle.std.proofs.Common.{◌≡◌, ◌≢◌, ◌↔◌, ◌⊎◌, inl, inr, refl, ap, sym, subst, ◌∙◌, ℕ, ℤ, ◌==◌, Bool, true, false, not, ◌&&◌, List, [], ◌∷◌, map, Option, Some, None, nat_lt}
use Rattle.std.specs.Prelude.{fold, option_map, if◌then◌else◌}
use Rattle.std.proofs.lemmas.Bool.{cond_both}
use Rattle.tora_height.specs.declared.level.Level.{Level}
use Rattle.tora_height.specs.Height.{Quintuple, level_of}
use Rattle.tora_core.specs.declared.rows.Row.{Row}
use Rattle.tora_core.specs.View.{View, all_cleared, all_erased, all_told, cleared_row, downstream_rows, erased_row, greatest_level, is_at, is_downstream, is_entry_at, known_heights, least_delta, lower_row_of, next_hop_of, row_with_entry, told_row, untold_row, with_entry, with_row, withdrawn_row, without_entry, without_row, without_told}
use Rattle.tora_core.specs.Reacts.{HasNoDownstream, IsDownstream, IsEntry, IsKnown, IsTold, IsUp, KnowsNone}
use Rattle.tora_core.proofs.NumberLemmas.{same-number, other-number, not-same}
use Rattle.tora_core.proofs.ReactsWords.{IsAmong, among-Contains, Contains-among, among-known, known-among, at-level, level-at, greatest-none, greatest-is_reached, delta-some, least-delta, is-same, lower-down}
use Rattle.tora_core.proofs.ReactsHop.{is_down, among-filter, filter-among, hop-is, lowest-none}

-- ---- rows with a property

-- some row of k has the property
abbrev HasRow : (Row → Type 0) → List Row → ℕ → Type 0
HasRow P rows k = (row : Row) × IsAmong row rows × (row.neighbour ≡ k) × P row

abbrev Told : Row → Type 0
Told row = row.told ≡ true

abbrev Tells : Quintuple → Row → Type 0
Tells h row = row.entry ≡ Some h

abbrev Any : Row → Type 0
Any row = Unit {0}

up-has : (v : View) (k : ℕ) → IsUp v k → HasRow Any v.rows k
up-has v k i = (i.0, among-Contains v.rows i.0 i.1, i.2, tt)

has-up : (v : View) (k : ℕ) → HasRow Any v.rows k → IsUp v k
has-up v k i = (i.0, Contains-among v.rows i.0 i.1, i.2)

entry-has : (v : View) (k : ℕ) (h : Quintuple) → IsEntry v k h → HasRow (Tells h) v.rows k
entry-has v k h i = (i.0, among-Contains v.rows i.0 i.1, i.2, i.3)

has-entry : (v : View) (k : ℕ) (h : Quintuple) → HasRow (Tells h) v.rows k → IsEntry v k h
has-entry v k h i = (i.0, Contains-among v.rows i.0 i.1, i.2, i.3)

told-has : (v : View) (k : ℕ) → IsTold v k → HasRow Told v.rows k
told-has v k i = (i.0, among-Contains v.rows i.0 i.1, i.2, i.3)

has-told : (v : View) (k : ℕ) → HasRow Told v.rows k → IsTold v k
has-told v k i = (i.0, Contains-among v.rows i.0 i.1, i.2, i.3)

-- ---- a new row

come : (new row : Row) (rows : List Row) → IsAmong row (with_row new rows) → (new ≡ row) ⊎ IsAmong row rows
come new row [] i = i
come new row (r ∷ rows) i =
    cond_both (nat_lt new.neighbour r.neighbour) (new ∷ r ∷ rows) (r ∷ with_row new rows) (λ (xs : List Row). IsAmong row xs → (new ≡ row) ⊎ IsAmong row (r ∷ rows))
    (λ _ j. j) (λ _ j. skip (come new row rows) j) i
  where
    skip : (IsAmong row (with_row new rows) → (new ≡ row) ⊎ IsAmong row rows) → (r ≡ row) ⊎ IsAmong row (with_row new rows) → (new ≡ row) ⊎ ((r ≡ row) ⊎ IsAmong row rows)
    skip f (inl e) = inr (inl e)
    skip f (inr j) = turn (f j)
      where
        turn : (new ≡ row) ⊎ IsAmong row rows → (new ≡ row) ⊎ ((r ≡ row) ⊎ IsAmong row rows)
        turn (inl e) = inl e
        turn (inr k) = inr (inr k)

came : (new row : Row) (rows : List Row) → (new ≡ row) ⊎ IsAmong row rows → IsAmong row (with_row new rows)
came new row [] i = i
came new row (r ∷ rows) i =
    cond_both (nat_lt new.neighbour r.neighbour) (new ∷ r ∷ rows) (r ∷ with_row new rows) (IsAmong row) (λ _. i) (λ _. skip i (came new row rows))
  where
    skip : (new ≡ row) ⊎ ((r ≡ row) ⊎ IsAmong row rows) → ((new ≡ row) ⊎ IsAmong row rows → IsAmong row (with_row new rows)) → (r ≡ row) ⊎ IsAmong row (with_row new rows)
    skip (inl e) f = inr (f (inl e))
    skip (inr (inl e)) f = inl e
    skip (inr (inr j)) f = inr (f (inr j))

has-come : (P : Row → Type 0) (new : Row) (rows : List Row) (k : ℕ) → HasRow P (with_row new rows) k → HasRow P rows k ⊎ ((new.neighbour ≡ k) × P new)
has-come P new rows k i = at (come new i.0 rows i.1)
  where
    at : (new ≡ i.0) ⊎ IsAmong i.0 rows → HasRow P rows k ⊎ ((new.neighbour ≡ k) × P new)
    at (inl e) = inr (ap (λ (r : Row). r.neighbour) e ∙ i.2, subst P (sym e) i.3)
    at (inr j) = inl (i.0, j, i.2, i.3)

come-has : (P : Row → Type 0) (new : Row) (rows : List Row) (k : ℕ) → HasRow P rows k ⊎ ((new.neighbour ≡ k) × P new) → HasRow P (with_row new rows) k
come-has P new rows k (inl i) = (i.0, came new i.0 rows (inr i.1), i.2, i.3)
come-has P new rows k (inr i) = (new, came new new rows (inl refl), i.0, i.1)

pub come-up : (v : View) (new : Row) (k : ℕ) → IsUp (record v { rows = with_row new v.rows }) k ↔ (IsUp v k ⊎ (new.neighbour ≡ k))
come-up v new k = (λ i. to (has-come Any new v.rows k (up-has (record v { rows = with_row new v.rows }) k i)), λ i. has-up (record v { rows = with_row new v.rows }) k (come-has Any new v.rows k (from i)))
  where
    to : HasRow Any v.rows k ⊎ ((new.neighbour ≡ k) × Any new) → IsUp v k ⊎ (new.neighbour ≡ k)
    to (inl i) = inl (has-up v k i)
    to (inr i) = inr i.0

    from : IsUp v k ⊎ (new.neighbour ≡ k) → HasRow Any v.rows k ⊎ ((new.neighbour ≡ k) × Any new)
    from (inl i) = inl (up-has v k i)
    from (inr i) = inr (i, tt)

pub come-entry : (v : View) (new : Row) (k : ℕ) (h : Quintuple) → IsEntry (record v { rows = with_row new v.rows }) k h ↔ (IsEntry v k h ⊎ ((new.neighbour ≡ k) × (new.entry ≡ Some h)))
come-entry v new k h =
    (λ i. to (has-come (Tells h) new v.rows k (entry-has (record v { rows = with_row new v.rows }) k h i)), λ i. has-entry (record v { rows = with_row new v.rows }) k h (come-has (Tells h) new v.rows k (from i)))
  where
    to : HasRow (Tells h) v.rows k ⊎ ((new.neighbour ≡ k) × Tells h new) → IsEntry v k h ⊎ ((new.neighbour ≡ k) × (new.entry ≡ Some h))
    to (inl i) = inl (has-entry v k h i)
    to (inr i) = inr i

    from : IsEntry v k h ⊎ ((new.neighbour ≡ k) × (new.entry ≡ Some h)) → HasRow (Tells h) v.rows k ⊎ ((new.neighbour ≡ k) × Tells h new)
    from (inl i) = inl (entry-has v k h i)
    from (inr i) = inr i

pub come-told : (v : View) (new : Row) (k : ℕ) → IsTold (record v { rows = with_row new v.rows }) k ↔ (IsTold v k ⊎ ((new.neighbour ≡ k) × (new.told ≡ true)))
come-told v new k =
    (λ i. to (has-come Told new v.rows k (told-has (record v { rows = with_row new v.rows }) k i)), λ i. has-told (record v { rows = with_row new v.rows }) k (come-has Told new v.rows k (from i)))
  where
    to : HasRow Told v.rows k ⊎ ((new.neighbour ≡ k) × Told new) → IsTold v k ⊎ ((new.neighbour ≡ k) × (new.told ≡ true))
    to (inl i) = inl (has-told v k i)
    to (inr i) = inr i

    from : IsTold v k ⊎ ((new.neighbour ≡ k) × (new.told ≡ true)) → HasRow Told v.rows k ⊎ ((new.neighbour ≡ k) × Told new)
    from (inl i) = inl (told-has v k i)
    from (inr i) = inr i

-- ---- a row that is removed

abbrev is_other : ℕ → Row → Bool
is_other j row = not (row.neighbour == j)

other-apart : (j : ℕ) (row : Row) → is_other j row ≡ true → row.neighbour ≢ j
other-apart j row e = other-number row.neighbour j (at (row.neighbour == j) e)
  where
    at : (b : Bool) → not b ≡ true → b ≡ false
    at true f = absurd cc
    at false f = refl

has-go : (P : Row → Type 0) (j k : ℕ) (rows : List Row) → HasRow P (without_row j rows) k → HasRow P rows k × (k ≢ j)
has-go P j k rows i =
    let x = among-filter (is_other j) rows i.0 i.1 in
    ((i.0, x.0, i.2, i.3), λ (e : k ≡ j). other-apart j i.0 x.1 (i.2 ∙ e))

go-has : (P : Row → Type 0) (j k : ℕ) (rows : List Row) → HasRow P rows k → k ≢ j → HasRow P (without_row j rows) k
go-has P j k rows i apart =
    (i.0, filter-among (is_other j) rows i.0 i.1 (ap not (not-same i.0.neighbour j (λ (e : i.0.neighbour ≡ j). apart (sym i.2 ∙ e)))), i.2, i.3)

pub go-up : (v : View) (j k : ℕ) → IsUp (record v { rows = without_row j v.rows }) k ↔ (IsUp v k × (k ≢ j))
go-up v j k = (
  λ i. let x = has-go Any j k v.rows (up-has (record v { rows = without_row j v.rows }) k i) in (has-up v k x.0, x.1),
  λ i. has-up (record v { rows = without_row j v.rows }) k (go-has Any j k v.rows (up-has v k i.0) i.1),
)

pub go-entry : (v : View) (j k : ℕ) (h : Quintuple) → IsEntry (record v { rows = without_row j v.rows }) k h ↔ (IsEntry v k h × (k ≢ j))
go-entry v j k h = (
  λ i. let x = has-go (Tells h) j k v.rows (entry-has (record v { rows = without_row j v.rows }) k h i) in (has-entry v k h x.0, x.1),
  λ i. has-entry (record v { rows = without_row j v.rows }) k h (go-has (Tells h) j k v.rows (entry-has v k h i.0) i.1),
)

pub go-told : (v : View) (j k : ℕ) → IsTold (record v { rows = without_row j v.rows }) k ↔ (IsTold v k × (k ≢ j))
go-told v j k = (
  λ i. let x = has-go Told j k v.rows (told-has (record v { rows = without_row j v.rows }) k i) in (has-told v k x.0, x.1),
  λ i. has-told (record v { rows = without_row j v.rows }) k (go-has Told j k v.rows (told-has v k i.0) i.1),
)

-- ---- rows that are changed

from-map : (f : Row → Row) (row : Row) (rows : List Row) → IsAmong row (map f rows) → (r : Row) × IsAmong r rows × (f r ≡ row)
from-map f row [] i = absurd i
from-map f row (r ∷ rows) (inl e) = (r, inl refl, e)
from-map f row (r ∷ rows) (inr j) = let x = from-map f row rows j in (x.0, inr x.1, x.2)

to-map : (f : Row → Row) (row : Row) (rows : List Row) → IsAmong row rows → IsAmong (f row) (map f rows)
to-map f row [] i = absurd i
to-map f row (r ∷ rows) (inl e) = inl (ap f e)
to-map f row (r ∷ rows) (inr j) = inr (to-map f row rows j)

-- a change that keeps the neighbours; P is a property of the rows after it, and Q of the rows before it
module _ (f : Row → Row) (same : (row : Row) → (f row).neighbour ≡ row.neighbour) where
  map-from : (P Q : Row → Type 0) → ((row : Row) → P (f row) → Q row) → (rows : List Row) (k : ℕ) → HasRow P (map f rows) k → HasRow Q rows k
  map-from P Q keep rows k i =
      let x = from-map f i.0 rows i.1 in
      (x.0, x.1, sym (same x.0) ∙ ap (λ (r : Row). r.neighbour) x.2 ∙ i.2, keep x.0 (subst P (sym x.2) i.3))

  map-to : (P Q : Row → Type 0) → ((row : Row) → Q row → P (f row)) → (rows : List Row) (k : ℕ) → HasRow Q rows k → HasRow P (map f rows) k
  map-to P Q keep rows k i = (f i.0, to-map f i.0 rows i.1, same i.0 ∙ i.2, keep i.0 i.3)

  pub same-up : (v : View) (k : ℕ) → IsUp (record v { rows = map f v.rows }) k ↔ IsUp v k
  same-up v k = (
    λ i. has-up v k (map-from Any Any (λ row _. tt) v.rows k (up-has (record v { rows = map f v.rows }) k i)),
    λ i. has-up (record v { rows = map f v.rows }) k (map-to Any Any (λ row _. tt) v.rows k (up-has v k i)),
  )

  pub same-entry : ((row : Row) → (f row).entry ≡ row.entry) → (v : View) (k : ℕ) (h : Quintuple) → IsEntry (record v { rows = map f v.rows }) k h ↔ IsEntry v k h
  same-entry keep v k h = (
    λ i. has-entry v k h (map-from (Tells h) (Tells h) (λ row e. sym (keep row) ∙ e) v.rows k (entry-has (record v { rows = map f v.rows }) k h i)),
    λ i. has-entry (record v { rows = map f v.rows }) k h (map-to (Tells h) (Tells h) (λ row e. keep row ∙ e) v.rows k (entry-has v k h i)),
  )

  pub same-told : ((row : Row) → (f row).told ≡ row.told) → (v : View) (k : ℕ) → IsTold (record v { rows = map f v.rows }) k ↔ IsTold v k
  same-told keep v k = (
    λ i. has-told v k (map-from Told Told (λ row e. sym (keep row) ∙ e) v.rows k (told-has (record v { rows = map f v.rows }) k i)),
    λ i. has-told (record v { rows = map f v.rows }) k (map-to Told Told (λ row e. keep row ∙ e) v.rows k (told-has v k i)),
  )

-- ---- marking all neighbours

pub told-told : (v : View) (k : ℕ) → IsTold (record v { rows = all_told v.rows }) k ↔ IsUp v k
told-told v k = (
  λ i. has-up v k (map-from told_row (λ row. refl) Told Any (λ row _. tt) v.rows k (told-has (record v { rows = all_told v.rows }) k i)),
  λ i. has-told (record v { rows = all_told v.rows }) k (map-to told_row (λ row. refl) Told Any (λ row _. refl) v.rows k (up-has v k i)),
)

-- ---- setting an entry

pub entry-number : (j : ℕ) (g : Quintuple) (row : Row) → (row_with_entry j g row).neighbour ≡ row.neighbour
entry-number j g row = cond_both (row.neighbour == j) (record row { entry = Some g }) row (λ (r : Row). r.neighbour ≡ row.neighbour) (λ _. refl) (λ _. refl)

pub entry-mark : (j : ℕ) (g : Quintuple) (row : Row) → (row_with_entry j g row).told ≡ row.told
entry-mark j g row = cond_both (row.neighbour == j) (record row { entry = Some g }) row (λ (r : Row). r.told ≡ row.told) (λ _. refl) (λ _. refl)

-- the entry of a row, which is the new one for neighbour j and otherwise the old one
abbrev Took : ℕ → Quintuple → Quintuple → Row → Type 0
Took j g h row = ((row.entry ≡ Some h) × (row.neighbour ≢ j)) ⊎ ((row.neighbour ≡ j) × (g ≡ h))

took-from : (j : ℕ) (g h : Quintuple) (row : Row) → Tells h (row_with_entry j g row) → Took j g h row
took-from j g h row e =
    cond_both (row.neighbour == j) (record row { entry = Some g }) row (λ (r : Row). r.entry ≡ Some h → Took j g h row)
    (λ t f. inr (same-number row.neighbour j t, cc)) (λ t f. inl (f, other-number row.neighbour j t)) e

took-to : (j : ℕ) (g h : Quintuple) (row : Row) → Took j g h row → Tells h (row_with_entry j g row)
took-to j g h row (inl x) = ap (λ b. (if b then record row { entry = Some g } else row).entry) (not-same row.neighbour j x.1) ∙ x.0
took-to j g h row (inr x) = ap (λ b. (if b then record row { entry = Some g } else row).entry) (is-same row.neighbour j x.0) ∙ ap Some x.1

pub take-entry : (v : View) (j k : ℕ) (g h : Quintuple) → IsEntry (record v { rows = with_entry j g v.rows }) k h ↔ ((IsEntry v k h × (k ≢ j)) ⊎ (IsUp v k × (k ≡ j) × (g ≡ h)))
take-entry v j k g h = (
  λ i. to (map-from (row_with_entry j g) (entry-number j g) (Tells h) (Took j g h) (took-from j g h) v.rows k (entry-has (record v { rows = with_entry j g v.rows }) k h i)),
  λ i. has-entry (record v { rows = with_entry j g v.rows }) k h (map-to (row_with_entry j g) (entry-number j g) (Tells h) (Took j g h) (took-to j g h) v.rows k (from i)),
)
  where
    to : HasRow (Took j g h) v.rows k → (IsEntry v k h × (k ≢ j)) ⊎ (IsUp v k × (k ≡ j) × (g ≡ h))
    to i = at i.3
      where
        at : Took j g h i.0 → (IsEntry v k h × (k ≢ j)) ⊎ (IsUp v k × (k ≡ j) × (g ≡ h))
        at (inl x) = inl (has-entry v k h (i.0, i.1, i.2, x.0), λ (e : k ≡ j). x.1 (i.2 ∙ e))
        at (inr x) = inr (has-up v k (i.0, i.1, i.2, tt), sym i.2 ∙ x.0, x.1)

    from : (IsEntry v k h × (k ≢ j)) ⊎ (IsUp v k × (k ≡ j) × (g ≡ h)) → HasRow (Took j g h) v.rows k
    from (inl x) = let i = entry-has v k h x.0 in (i.0, i.1, i.2, inl (i.3, λ (e : i.0.neighbour ≡ j). x.1 (sym i.2 ∙ e)))
    from (inr x) = let i = up-has v k x.0 in (i.0, i.1, i.2, inr (i.2 ∙ x.1, x.2))

-- ---- erasing

pub erased-number : (d : ℕ) (row : Row) → (erased_row d row).neighbour ≡ row.neighbour
erased-number d row = cond_both (row.neighbour == d) row (record row { entry = None }) (λ (r : Row). r.neighbour ≡ row.neighbour) (λ _. refl) (λ _. refl)

pub erased-mark : (d : ℕ) (row : Row) → (erased_row d row).told ≡ row.told
erased-mark d row = cond_both (row.neighbour == d) row (record row { entry = None }) (λ (r : Row). r.told ≡ row.told) (λ _. refl) (λ _. refl)

abbrev Spared : ℕ → Quintuple → Row → Type 0
Spared d h row = (row.entry ≡ Some h) × (row.neighbour ≡ d)

spared-from : (d : ℕ) (h : Quintuple) (row : Row) → Tells h (erased_row d row) → Spared d h row
spared-from d h row e =
    cond_both (row.neighbour == d) row (record row { entry = None }) (λ (r : Row). r.entry ≡ Some h → Spared d h row)
    (λ t f. (f, same-number row.neighbour d t)) (λ t f. absurd cc) e

spared-to : (d : ℕ) (h : Quintuple) (row : Row) → Spared d h row → Tells h (erased_row d row)
spared-to d h row x = ap (λ b. (if b then row else record row { entry = None }).entry) (is-same row.neighbour d x.1) ∙ x.0

pub erase-entry : (v : View) (d k : ℕ) (h : Quintuple) → IsEntry (record v { rows = all_erased d v.rows }) k h ↔ (IsEntry v k h × (k ≡ d))
erase-entry v d k h = (
  λ i. let x = map-from (erased_row d) (erased-number d) (Tells h) (Spared d h) (spared-from d h) v.rows k (entry-has (record v { rows = all_erased d v.rows }) k h i) in
      (has-entry v k h (x.0, x.1, x.2, x.3.0), sym x.2 ∙ x.3.1),
  λ i. let x = entry-has v k h i.0 in
      has-entry (record v { rows = all_erased d v.rows }) k h (map-to (erased_row d) (erased-number d) (Tells h) (Spared d h) (spared-to d h) v.rows k (x.0, x.1, x.2, (x.3, x.2 ∙ i.1))),
)

-- ---- clearing

pub cleared-number : (d : ℕ) (level : Level) (row : Row) → (cleared_row d level row).neighbour ≡ row.neighbour
cleared-number d level row = cond_both (not (row.neighbour == d) && is_entry_at level row.entry) (record row { entry = None }) row (λ (r : Row). r.neighbour ≡ row.neighbour) (λ _. refl) (λ _. refl)

pub cleared-mark : (d : ℕ) (level : Level) (row : Row) → (cleared_row d level row).told ≡ row.told
cleared-mark d level row = cond_both (not (row.neighbour == d) && is_entry_at level row.entry) (record row { entry = None }) row (λ (r : Row). r.told ≡ row.told) (λ _. refl) (λ _. refl)

abbrev Left : ℕ → Level → Quintuple → Row → Type 0
Left d level h row = (row.entry ≡ Some h) × ((row.neighbour ≡ d) ⊎ (level_of h ≢ level))

left-from : (d : ℕ) (level : Level) (h : Quintuple) (row : Row) → Tells h (cleared_row d level row) → Left d level h row
left-from d level h row e =
    cond_both (not (row.neighbour == d) && is_entry_at level row.entry) (record row { entry = None }) row (λ (r : Row). r.entry ≡ Some h → Left d level h row)
    (λ t f. absurd cc) (λ t f. (f, at (row.neighbour == d) refl (ap (λ (o : Option Quintuple). not (row.neighbour == d) && is_entry_at level o) (sym f) ∙ t))) e
  where
    at : (b : Bool) → (row.neighbour == d) ≡ b → (not b && is_at level h) ≡ false → (row.neighbour ≡ d) ⊎ (level_of h ≢ level)
    at true is t = inl (same-number row.neighbour d is)
    at false is t = inr (λ (s : level_of h ≡ level). let u = level-at level h s in absurd cc)

left-to : (d : ℕ) (level : Level) (h : Quintuple) (row : Row) → Left d level h row → Tells h (cleared_row d level row)
left-to d level h row x =
    ap (λ b. (if b then record row { entry = None } else row).entry) (ap (λ (o : Option Quintuple). not (row.neighbour == d) && is_entry_at level o) x.0 ∙ at x.1) ∙ x.0
  where
    none : (b : Bool) → (b && false) ≡ false
    none true = refl
    none false = refl

    off : (b : Bool) → is_at level h ≡ b → level_of h ≢ level → b ≡ false
    off true t apart = absurd (apart (at-level level h t))
    off false t apart = refl

    at : (row.neighbour ≡ d) ⊎ (level_of h ≢ level) → (not (row.neighbour == d) && is_at level h) ≡ false
    at (inl is) = ap (λ b. not b && is_at level h) (is-same row.neighbour d is)
    at (inr apart) = ap (λ b. not (row.neighbour == d) && b) (off (is_at level h) refl apart) ∙ none (not (row.neighbour == d))

pub clear-entry : (v : View) (d k : ℕ) (level : Level) (h : Quintuple) → IsEntry (record v { rows = all_cleared d level v.rows }) k h ↔ (IsEntry v k h × ((k ≡ d) ⊎ (level_of h ≢ level)))
clear-entry v d k level h = (
  λ i. let x = map-from (cleared_row d level) (cleared-number d level) (Tells h) (Left d level h) (left-from d level h) v.rows k (entry-has (record v { rows = all_cleared d level v.rows }) k h i) in
      (has-entry v k h (x.0, x.1, x.2, x.3.0), forth x.0 x.2 x.3.1),
  λ i. let x = entry-has v k h i.0 in
      has-entry (record v { rows = all_cleared d level v.rows }) k h (map-to (cleared_row d level) (cleared-number d level) (Tells h) (Left d level h) (left-to d level h) v.rows k (x.0, x.1, x.2, (x.3, back x.0 x.2 i.1))),
)
  where
    forth : (row : Row) → row.neighbour ≡ k → (row.neighbour ≡ d) ⊎ (level_of h ≢ level) → (k ≡ d) ⊎ (level_of h ≢ level)
    forth row e (inl f) = inl (sym e ∙ f)
    forth row e (inr f) = inr f

    back : (row : Row) → row.neighbour ≡ k → (k ≡ d) ⊎ (level_of h ≢ level) → (row.neighbour ≡ d) ⊎ (level_of h ≢ level)
    back row e (inl f) = inl (e ∙ f)
    back row e (inr f) = inr f

-- ---- withdrawing

pub withdrawn-number : (d j : ℕ) (row : Row) → (withdrawn_row d j row).neighbour ≡ row.neighbour
withdrawn-number d j row = cond_both ((row.neighbour == j) && not (row.neighbour == d)) (record row { entry = None }) row (λ (r : Row). r.neighbour ≡ row.neighbour) (λ _. refl) (λ _. refl)

pub withdrawn-mark : (d j : ℕ) (row : Row) → (withdrawn_row d j row).told ≡ row.told
withdrawn-mark d j row = cond_both ((row.neighbour == j) && not (row.neighbour == d)) (record row { entry = None }) row (λ (r : Row). r.told ≡ row.told) (λ _. refl) (λ _. refl)

abbrev Stays : ℕ → ℕ → Quintuple → Row → Type 0
Stays d j h row = (row.entry ≡ Some h) × ((row.neighbour ≡ d) ⊎ (row.neighbour ≢ j))

stays-from : (d j : ℕ) (h : Quintuple) (row : Row) → Tells h (withdrawn_row d j row) → Stays d j h row
stays-from d j h row e =
    cond_both ((row.neighbour == j) && not (row.neighbour == d)) (record row { entry = None }) row (λ (r : Row). r.entry ≡ Some h → Stays d j h row)
    (λ t f. absurd cc) (λ t f. (f, at (row.neighbour == j) (row.neighbour == d) refl refl t)) e
  where
    at : (a b : Bool) → (row.neighbour == j) ≡ a → (row.neighbour == d) ≡ b → (a && not b) ≡ false → (row.neighbour ≡ d) ⊎ (row.neighbour ≢ j)
    at a true x y t = inl (same-number row.neighbour d y)
    at false false x y t = inr (other-number row.neighbour j x)
    at true false x y t = absurd cc

stays-to : (d j : ℕ) (h : Quintuple) (row : Row) → Stays d j h row → Tells h (withdrawn_row d j row)
stays-to d j h row x = ap (λ b. (if b then record row { entry = None } else row).entry) (at x.1) ∙ x.0
  where
    none : (b : Bool) → (b && false) ≡ false
    none true = refl
    none false = refl

    at : (row.neighbour ≡ d) ⊎ (row.neighbour ≢ j) → ((row.neighbour == j) && not (row.neighbour == d)) ≡ false
    at (inl is) = ap (λ b. (row.neighbour == j) && not b) (is-same row.neighbour d is) ∙ none (row.neighbour == j)
    at (inr apart) = ap (λ b. b && not (row.neighbour == d)) (not-same row.neighbour j apart)

pub withdraw-entry : (v : View) (d j k : ℕ) (h : Quintuple) → IsEntry (record v { rows = without_entry d j v.rows }) k h ↔ (IsEntry v k h × ((k ≡ d) ⊎ (k ≢ j)))
withdraw-entry v d j k h = (
  λ i. let x = map-from (withdrawn_row d j) (withdrawn-number d j) (Tells h) (Stays d j h) (stays-from d j h) v.rows k (entry-has (record v { rows = without_entry d j v.rows }) k h i) in
      (has-entry v k h (x.0, x.1, x.2, x.3.0), forth x.0 x.2 x.3.1),
  λ i. let x = entry-has v k h i.0 in
      has-entry (record v { rows = without_entry d j v.rows }) k h (map-to (withdrawn_row d j) (withdrawn-number d j) (Tells h) (Stays d j h) (stays-to d j h) v.rows k (x.0, x.1, x.2, (x.3, back x.0 x.2 i.1))),
)
  where
    forth : (row : Row) → row.neighbour ≡ k → (row.neighbour ≡ d) ⊎ (row.neighbour ≢ j) → (k ≡ d) ⊎ (k ≢ j)
    forth row e (inl f) = inl (sym e ∙ f)
    forth row e (inr f) = inr (λ (q : k ≡ j). f (e ∙ q))

    back : (row : Row) → row.neighbour ≡ k → (k ≡ d) ⊎ (k ≢ j) → (row.neighbour ≡ d) ⊎ (row.neighbour ≢ j)
    back row e (inl f) = inl (e ∙ f)
    back row e (inr f) = inr (λ (q : row.neighbour ≡ j). f (sym e ∙ q))

-- ---- removing a mark

pub untold-number : (j : ℕ) (row : Row) → (untold_row j row).neighbour ≡ row.neighbour
untold-number j row = cond_both (row.neighbour == j) (record row { told = false }) row (λ (r : Row). r.neighbour ≡ row.neighbour) (λ _. refl) (λ _. refl)

pub untold-entry : (j : ℕ) (row : Row) → (untold_row j row).entry ≡ row.entry
untold-entry j row = cond_both (row.neighbour == j) (record row { told = false }) row (λ (r : Row). r.entry ≡ row.entry) (λ _. refl) (λ _. refl)

abbrev StaysTold : ℕ → Row → Type 0
StaysTold j row = (row.told ≡ true) × (row.neighbour ≢ j)

told-from : (j : ℕ) (row : Row) → Told (untold_row j row) → StaysTold j row
told-from j row e =
    cond_both (row.neighbour == j) (record row { told = false }) row (λ (r : Row). r.told ≡ true → StaysTold j row) (λ t f. absurd cc) (λ t f. (f, other-number row.neighbour j t)) e

told-to : (j : ℕ) (row : Row) → StaysTold j row → Told (untold_row j row)
told-to j row x = ap (λ b. (if b then record row { told = false } else row).told) (not-same row.neighbour j x.1) ∙ x.0

pub untell-told : (v : View) (j k : ℕ) → IsTold (record v { rows = without_told j v.rows }) k ↔ (IsTold v k × (k ≢ j))
untell-told v j k = (
  λ i. let x = map-from (untold_row j) (untold-number j) Told (StaysTold j) (told-from j) v.rows k (told-has (record v { rows = without_told j v.rows }) k i) in
      (has-told v k (x.0, x.1, x.2, x.3.0), λ (q : k ≡ j). x.3.1 (x.2 ∙ q)),
  λ i. let x = told-has v k i.0 in
      has-told (record v { rows = without_told j v.rows }) k (map-to (untold_row j) (untold-number j) Told (StaysTold j) (told-to j) v.rows k (x.0, x.1, x.2, (x.3, λ (q : x.0.neighbour ≡ j). i.1 (sym x.2 ∙ q)))),
)

-- ---- nothing is found

pub hop-none : (v : View) → (next_hop_of v ≡ None) ↔ HasNoDownstream v
hop-none v = (λ e k i. at (fold lower_row_of None (downstream_rows v)) refl e k i, λ none. back (next_hop_of v) refl none)
  where
    at : (o : Option Row) → fold lower_row_of None (downstream_rows v) ≡ o → option_map (λ row. row.neighbour) o ≡ None → (k : ℕ) → IsDownstream v k → ⊥
    at (Some m) is e k i = cc
    at None is e k i =
        let h : Quintuple = i.0 in
        let row : Row = i.1.0 in
        let has : row.entry ≡ Some h = i.1.3 in
        let down : is_down v row ≡ true = subst (λ (o : Option Quintuple). is_downstream v.height o ≡ true) (sym has) (lower-down v.height h i.2) in
        lowest-none (downstream_rows v) row is (filter-among (is_down v) v.rows row (among-Contains v.rows row i.1.1) down)

    back : (o : Option ℕ) → next_hop_of v ≡ o → HasNoDownstream v → o ≡ None
    back None e none = refl
    back (Some k) e none = let hop = hop-is v k e in absurd (none k (hop.entry, hop.known, hop.downstream))

pub level-none : (v : View) → (greatest_level (known_heights v) ≡ None) ↔ KnowsNone v
level-none v = (λ e h i. greatest-none (known_heights v) h e (known-among v h i), λ none. back (greatest_level (known_heights v)) refl none)
  where
    back : (o : Option Level) → greatest_level (known_heights v) ≡ o → KnowsNone v → o ≡ None
    back None e none = refl
    back (Some m) e none = let r = greatest-is_reached (known_heights v) m e in absurd (none r.0 (among-known v r.0 r.1))

pub delta-none : (v : View) (level : Level) → (least_delta level (known_heights v) ≡ None) ↔ ((h : Quintuple) → IsKnown v h → level_of h ≢ level)
delta-none v level =
    (λ e h i s. (delta-some level None (known_heights v) h e).1 (known-among v h i) (level-at level h s), λ none. back (least_delta level (known_heights v)) refl none)
  where
    back : (o : Option ℤ) → least_delta level (known_heights v) ≡ o → ((h : Quintuple) → IsKnown v h → level_of h ≢ level) → o ≡ None
    back None e none = refl
    back (Some m) e none = let r = (least-delta v level m e).known in absurd (none r.0 r.1 r.2)
