-- The stored values after each change of the rows.
use Rattle.std.proofs.Common.{◌≡◌, ◌≢◌, refl, ap, sym, subst, ◌∙◌, ℕ, zero, suc, ◌+◌, ◌<◌, ◌≤◌, ◌==◌, Bool, true, false, not, ◌||◌, ◌&&◌, List, [], ◌∷◌, ◌++◌, map, take, drop, length, Option, Some, None, is_none, is_some, nat_lt, arith}
use Rattle.std.specs.Prelude.{if◌then◌else◌, filter, fold, option_map, IfSome, slice_set, slice_index_or}
use Rattle.std.specs.List.{AllByRecursion, cons_option, list_any, refill}
use Rattle.std.specs.Ordering.{is_lt}
use Rattle.std.specs.declared.cmp.Ordering.{Ordering}
use Rattle.std.specs.declared.cmp.Ordering.TheVariants.{Less, Equal, Greater}
use Rattle.std.proofs.lemmas.Grind.{common_steps}
use Rattle.std.proofs.lemmas.Bool.{cond_both}
use Rattle.std.proofs.lemmas.List.{set-get_or, length-take-le, take-append-drop, take_more, take_more_set}
use Rattle.std.proofs.lemmas.List.Filters.{length-filter_more}
use Rattle.std.proofs.lemmas.Bool.Decides.{nat_tests}
use Rattle.tora_height.specs.declared.direction.Direction.{Direction}
use Rattle.tora_height.specs.declared.direction.Direction.TheVariants.{Undirected}
use Rattle.tora_height.specs.Height.{Quintuple}
use Rattle.tora_height.specs.HeightOrder.{direction_by, height_cmp, link_status}
use Rattle.tora_core.specs.declared.rows.Row.{Row}
use Rattle.tora_core.specs.View.{are_null, heights_of, is_downstream, least_height, lower_of, lower_row_of, neighbours_of, with_entry, without_row, is_told}
use Rattle.tora_core.specs.Links.{AreKept, IsLeastAt, IsLeastPlace, IsNotBelow, IsNull, IsOnlyPlace, LinkTable, directions_of, downstream_in, empty_place, entry_at, is_above, is_down, low_of, with_entry_at}
use Rattle.tora_core.proofs.NumberLemmas.{not-same}
use Rattle.tora_core.proofs.ReactsWords.{below-above, lt-not_gt, not-below}

pub refill-same : {X : Type 0} (n : ℕ) (xs ws : List X) → length ws ≡ n → refill n xs ws ≡ ws
refill-same n xs ws e = grind (arith, common_steps)

abbrev pub links_of : Option Quintuple → List Row → List ℕ → LinkTable
links_of own rows neighbours = record { own = own; rows = rows; neighbours = neighbours }

-- ---- heights

lt-not_lt : (a b : Quintuple) → is_lt (height_cmp a b) ≡ true → is_lt (height_cmp b a) ≡ false
lt-not_lt a b e = below-above b a ∙ lt-not_gt (height_cmp a b) e

-- a is below b, which is not above d
lt-upto : (a b d : Quintuple) → is_lt (height_cmp a b) ≡ true → is_lt (height_cmp d b) ≡ false → is_lt (height_cmp a d) ≡ true
lt-upto a b d e f = at (is_lt (height_cmp a d)) refl
  where
    at : (t : Bool) → is_lt (height_cmp a d) ≡ t → t ≡ true
    at true g = refl
    at false g = let h = not-below a d b g f in absurd cc

-- a is not above b, which is below d
upto-lt : (a b d : Quintuple) → is_lt (height_cmp b a) ≡ false → is_lt (height_cmp b d) ≡ true → is_lt (height_cmp a d) ≡ true
upto-lt a b d e f = at (is_lt (height_cmp a d)) refl
  where
    at : (t : Bool) → is_lt (height_cmp a d) ≡ t → t ≡ true
    at true g = refl
    at false g = let h = not-below b a d e g in absurd cc

lt-lt : (a b d : Quintuple) → is_lt (height_cmp a b) ≡ true → is_lt (height_cmp b d) ≡ true → is_lt (height_cmp a d) ≡ true
lt-lt a b d e f = lt-upto a b d e (lt-not_lt b d f)

-- ---- entries

above-not_below : (h : Quintuple) (o : Option Quintuple) → is_above h o ≡ true → is_downstream (Some h) o ≡ false
above-not_below h None e = refl
above-not_below h (Some g) e = lt-not_lt h g e

above-lower : (g h : Quintuple) (o : Option Quintuple) → is_lt (height_cmp g h) ≡ true → is_above h o ≡ true → is_above g o ≡ true
above-lower g h None low e = refl
above-lower g h (Some x) low e = lt-lt g h x low e

not_below-above : (g h : Quintuple) (o : Option Quintuple) → is_lt (height_cmp g h) ≡ true → is_downstream (Some h) o ≡ false → is_above g o ≡ true
not_below-above g h None low e = refl
not_below-above g h (Some x) low e = lt-upto g h x low e

not_below-lower : (g h : Quintuple) (o : Option Quintuple) → is_lt (height_cmp g h) ≡ true → is_downstream (Some h) o ≡ false → is_downstream (Some g) o ≡ false
not_below-lower g h o low e = above-not_below g o (not_below-above g h o low e)

all-not_below : (g h : Quintuple) (rows : List Row) → is_lt (height_cmp g h) ≡ true → AllByRecursion (IsNotBelow h) rows → AllByRecursion (IsNotBelow g) rows
all-not_below g h [] low all = tt
all-not_below g h (row ∷ rows) low all = (not_below-lower g h row.entry low all.0, all-not_below g h rows low all.1)

-- ---- all entries, and the least

null-are_null : (rows : List Row) → AllByRecursion IsNull rows → are_null rows ≡ true
null-are_null [] all = refl
null-are_null (row ∷ rows) all = ap (λ (o : Option Quintuple). is_none o && are_null rows) all.0 ∙ null-are_null rows all.1

and-false : (b : Bool) → (b && false) ≡ false
and-false true = refl
and-false false = refl

least-not_null : (place : ℕ) (h : Quintuple) (rows : List Row) → IsLeastAt place h rows → are_null rows ≡ false
least-not_null place h [] is = absurd is
least-not_null zero h (row ∷ rows) is = ap (λ (o : Option Quintuple). is_none o && are_null rows) is.0
least-not_null (suc place) h (row ∷ rows) is = ap (λ b. is_none row.entry && b) (least-not_null place h rows is.1) ∙ and-false (is_none row.entry)

pub nulls : (least : Option ℕ) (rows : List Row) → IsLeastPlace least rows → is_none least ≡ are_null rows
nulls None rows is = sym (null-are_null rows is)
nulls (Some place) rows is = sym (least-not_null place is.0 rows is.1)

pub least-within : (place : ℕ) (h : Quintuple) (rows : List Row) → IsLeastAt place h rows → place < length rows
least-within place h [] is = absurd is
least-within zero h (row ∷ rows) is = omega arith
least-within (suc place) h (row ∷ rows) is = let rest = least-within place h rows is.1 in omega arith

pub least-entry : (place : ℕ) (h : Quintuple) (rows : List Row) (d : Row) → IsLeastAt place h rows → (slice_index_or rows place d).entry ≡ Some h
least-entry place h [] d is = absurd is
least-entry zero h (row ∷ rows) d is = is.0
least-entry (suc place) h (row ∷ rows) d is = least-entry place h rows d is.1

not-itself : (h : Quintuple) → is_lt (height_cmp h h) ≡ false
not-itself h = at (is_lt (height_cmp h h)) refl
  where
    at : (b : Bool) → is_lt (height_cmp h h) ≡ b → b ≡ false
    at true e = let f = lt-not_lt h h e in cc
    at false e = refl

least-all : (place : ℕ) (h : Quintuple) (rows : List Row) → IsLeastAt place h rows → AllByRecursion (IsNotBelow h) rows
least-all place h [] is = tt
least-all zero h (row ∷ rows) is = (ap (λ (o : Option Quintuple). is_downstream (Some h) o) is.0 ∙ not-itself h, is.1)
least-all (suc place) h (row ∷ rows) is = (above-not_below h row.entry is.0, least-all place h rows is.1)

-- ---- the least height

stays-fold : (h : Quintuple) (rows : List Row) → AllByRecursion (IsNotBelow h) rows → fold lower_of (Some h) (heights_of rows) ≡ Some h
stays-fold h [] all = refl
stays-fold h (row ∷ rows) all = at row.entry all.0 (stays-fold h rows all.1)
  where
    at : (o : Option Quintuple) → is_downstream (Some h) o ≡ false → fold lower_of (Some h) (heights_of rows) ≡ Some h → fold lower_of (Some h) (cons_option o (heights_of rows)) ≡ Some h
    at None e rest = rest
    at (Some g) e rest = ap (λ b. fold lower_of (if b then Some g else Some h) (heights_of rows)) e ∙ rest

lower_of-least : (h : Quintuple) (o : Option Quintuple) → is_above h o ≡ true → lower_of o h ≡ Some h
lower_of-least h None e = refl
lower_of-least h (Some a) e = ap (λ b. if b then Some h else Some a) e

lower_of-above : (h : Quintuple) (o : Option Quintuple) (g : Quintuple) → is_above h o ≡ true → is_lt (height_cmp h g) ≡ true → is_above h (lower_of o g) ≡ true
lower_of-above h None g e f = f
lower_of-above h (Some a) g e f = cond_both (is_lt (height_cmp g a)) (Some g) (Some a) (λ (o : Option Quintuple). is_above h o ≡ true) (λ _. f) (λ _. e)

least-fold : (place : ℕ) (h : Quintuple) (rows : List Row) (o : Option Quintuple) → is_above h o ≡ true → IsLeastAt place h rows → fold lower_of o (heights_of rows) ≡ Some h
least-fold place h [] o above is = absurd is
least-fold zero h (row ∷ rows) o above is =
    ap (λ (x : Option Quintuple). fold lower_of o (cons_option x (heights_of rows))) is.0
    ∙ ap (λ (x : Option Quintuple). fold lower_of x (heights_of rows)) (lower_of-least h o above) ∙ stays-fold h rows is.1
least-fold (suc place) h (row ∷ rows) o above is = at row.entry is.0 (λ x e. least-fold place h rows x e is.1)
  where
    at : (x : Option Quintuple) → is_above h x ≡ true → ((y : Option Quintuple) → is_above h y ≡ true → fold lower_of y (heights_of rows) ≡ Some h) → fold lower_of o (cons_option x (heights_of rows)) ≡ Some h
    at None e rest = rest o above
    at (Some g) e rest = rest (lower_of o g) (lower_of-above h o g above e)

null-heights : (rows : List Row) → AllByRecursion IsNull rows → heights_of rows ≡ []
null-heights [] all = refl
null-heights (row ∷ rows) all = ap (λ (x : Option Quintuple). cons_option x (heights_of rows)) all.0 ∙ null-heights rows all.1

pub least-none : (rows : List Row) → AllByRecursion IsNull rows → least_height (heights_of rows) ≡ None
least-none rows all = ap least_height (null-heights rows all)

pub least-some : (place : ℕ) (h : Quintuple) (rows : List Row) → IsLeastAt place h rows → least_height (heights_of rows) ≡ Some h
least-some place h rows is = least-fold place h rows None refl is

-- ---- the next hop

abbrev pub down_rows : Option Quintuple → List Row → List Row
down_rows own rows = filter (λ row. is_downstream own row.entry) rows

abbrev pub hop_row : Option Quintuple → Option Row → List Row → Option Row
hop_row own best rows = fold lower_row_of best (down_rows own rows)

-- the best row so far would be downstream of h
abbrev IsHigher : Quintuple → Option Row → Type 0
IsHigher h None = Unit {0}
IsHigher h (Some best) = is_downstream best.entry (Some h) ≡ true

hop-stays : (own : Option Quintuple) (h : Quintuple) (best : Row) (rows : List Row) → best.entry ≡ Some h → AllByRecursion (IsNotBelow h) rows → hop_row own (Some best) rows ≡ Some best
hop-stays own h best [] is all = refl
hop-stays own h best (row ∷ rows) is all =
    let test : is_downstream best.entry row.entry ≡ false = subst (λ (o : Option Quintuple). is_downstream o row.entry ≡ false) (sym is) all.0 in
    cond_both (is_downstream own row.entry) (row ∷ down_rows own rows) (down_rows own rows) (λ (xs : List Row). fold lower_row_of (Some best) xs ≡ Some best)
    (λ _. ap (λ b. fold lower_row_of (if b then Some row else Some best) (down_rows own rows)) test ∙ hop-stays own h best rows is all.1) (λ _. hop-stays own h best rows is all.1)

hop-first : (h : Quintuple) (best : Option Row) (row : Row) → IsHigher h best → row.entry ≡ Some h → lower_row_of best row ≡ Some row
hop-first h None row higher is = refl
hop-first h (Some best) row higher is =
    let test : is_downstream best.entry row.entry ≡ true = subst (λ (o : Option Quintuple). is_downstream best.entry o ≡ true) (sym is) higher in
    ap (λ b. if b then Some row else Some best) test

-- a downstream row above h
row-higher : (own : Option Quintuple) (h : Quintuple) (row : Row) → is_downstream own row.entry ≡ true → is_above h row.entry ≡ true → is_downstream row.entry (Some h) ≡ true
row-higher own h row down above = at row.entry down above
  where
    at : (o : Option Quintuple) → is_downstream own o ≡ true → is_above h o ≡ true → is_downstream o (Some h) ≡ true
    at None e f = refl
    at (Some g) e f = f

best-higher : (h : Quintuple) (best : Option Row) (row : Row) → IsHigher h best → is_downstream row.entry (Some h) ≡ true → IsHigher h (lower_row_of best row)
best-higher h None row higher e = e
best-higher h (Some best) row higher e = cond_both (is_downstream best.entry row.entry) (Some row) (Some best) (IsHigher h) (λ _. e) (λ _. higher)

hop-fold : (own : Option Quintuple) (place : ℕ) (h : Quintuple) (rows : List Row) (best : Option Row) (d : Row) → is_downstream own (Some h) ≡ true → IsHigher h best → IsLeastAt place h rows
    → hop_row own best rows ≡ Some (slice_index_or rows place d)
hop-fold own place h [] best d down higher is = absurd is
hop-fold own zero h (row ∷ rows) best d down higher is =
    let passes : is_downstream own row.entry ≡ true = subst (λ (o : Option Quintuple). is_downstream own o ≡ true) (sym is.0) down in
    ap (λ b. fold lower_row_of best (if b then row ∷ down_rows own rows else down_rows own rows)) passes
    ∙ ap (λ (x : Option Row). fold lower_row_of x (down_rows own rows)) (hop-first h best row higher is.0) ∙ hop-stays own h row rows is.0 is.1
hop-fold own (suc place) h (row ∷ rows) best d down higher is =
    cond_both (is_downstream own row.entry) (row ∷ down_rows own rows) (down_rows own rows) (λ (xs : List Row). fold lower_row_of best xs ≡ Some (slice_index_or rows place d))
    (λ e. hop-fold own place h rows (lower_row_of best row) d down (best-higher h best row higher (row-higher own h row e is.0)) is.1)
    (λ _. hop-fold own place h rows best d down higher is.1)

no-down : (h o : Quintuple) (rows : List Row) → is_lt (height_cmp h o) ≡ false → AllByRecursion (IsNotBelow h) rows → down_rows (Some o) rows ≡ []
no-down h o [] e all = refl
no-down h o (row ∷ rows) e all =
    ap (λ b. if b then row ∷ down_rows (Some o) rows else down_rows (Some o) rows) (test row.entry all.0) ∙ no-down h o rows e all.1
  where
    test : (x : Option Quintuple) → is_downstream (Some h) x ≡ false → is_downstream (Some o) x ≡ false
    test None f = refl
    test (Some g) f = not-below g h o f e

down-least : (own : Option Quintuple) (place : ℕ) (h : Quintuple) (rows : List Row) → IsLeastAt place h rows → downstream_in own rows ≢ 0 → is_downstream own (Some h) ≡ true
down-least None place h rows is some = refl
down-least (Some o) place h rows is some = at (is_lt (height_cmp h o)) refl
  where
    at : (b : Bool) → is_lt (height_cmp h o) ≡ b → b ≡ true
    at true e = refl
    at false e = absurd (some (ap (λ (xs : List Row). length xs) (no-down h o rows e (least-all place h rows is))))

empty-length : (rows : List Row) → length rows ≡ 0 → rows ≡ []
empty-length [] e = refl
empty-length (row ∷ rows) e = absurd (omega arith)

null-down : (own : Option Quintuple) (rows : List Row) → AllByRecursion IsNull rows → down_rows own rows ≡ []
null-down own [] all = refl
null-down own (row ∷ rows) all = ap (λ b. if b then row ∷ down_rows own rows else down_rows own rows) (ap (is_downstream own) all.0 ∙ nothing own) ∙ null-down own rows all.1
  where
    nothing : (o : Option Quintuple) → is_downstream o None ≡ false
    nothing None = refl
    nothing (Some g) = refl

abbrev pub hop_in : Option Quintuple → List Row → Option ℕ
hop_in own rows = option_map (λ (row : Row). row.neighbour) (hop_row own None rows)

pub hop-none : (own : Option Quintuple) (rows : List Row) → downstream_in own rows ≡ 0 → hop_in own rows ≡ None
hop-none own rows e = ap (λ (xs : List Row). option_map (λ (row : Row). row.neighbour) (fold lower_row_of None xs)) (empty-length (down_rows own rows) e)

pub hop-null : (own : Option Quintuple) (rows : List Row) → AllByRecursion IsNull rows → hop_in own rows ≡ None
hop-null own rows all = ap (λ (xs : List Row). option_map (λ (row : Row). row.neighbour) (fold lower_row_of None xs)) (null-down own rows all)

pub hop-some : (own : Option Quintuple) (place : ℕ) (h : Quintuple) (rows : List Row) (d : Row) → IsLeastAt place h rows → downstream_in own rows ≢ 0 → hop_in own rows ≡ Some (slice_index_or rows place d).neighbour
hop-some own place h rows d is some =
    ap (option_map (λ (row : Row). row.neighbour)) (hop-fold own place h rows None d (down-least own place h rows is some) tt is)

-- some link is downstream exactly if the count is not 0
pub any-down : (own : Option Quintuple) (rows : List Row) → nat_lt 0 (downstream_in own rows) ≡ list_any (λ row. is_downstream own row.entry) rows
any-down own [] = refl
any-down own (row ∷ rows) = at (is_downstream own row.entry) (any-down own rows)
  where
    at : (b : Bool) → nat_lt 0 (downstream_in own rows) ≡ list_any (λ row. is_downstream own row.entry) rows
        → nat_lt 0 (length (if b then row ∷ down_rows own rows else down_rows own rows)) ≡ (b || list_any (λ row. is_downstream own row.entry) rows)
    at true e = grind (arith, nat_tests)
    at false e = e

-- ---- directions

pub status-down : (own entry : Option Quintuple) → is_down (link_status own entry) ≡ is_downstream own entry
status-down None None = refl
status-down (Some o) None = refl
status-down None (Some e) = refl
status-down (Some o) (Some e) = at (height_cmp e o)
  where
    at : (x : Ordering) → is_down (direction_by x) ≡ is_lt x
    at Less = refl
    at Equal = refl
    at Greater = refl

pub status-none : (own : Option Quintuple) → link_status own None ≡ Undirected
status-none None = refl
status-none (Some o) = refl

pub length-directions : (own : Option Quintuple) (rows : List Row) → length (directions_of own rows) ≡ length rows
length-directions own [] = refl
length-directions own (row ∷ rows) = ap suc (length-directions own rows)

pub few-down : (own : Option Quintuple) (rows : List Row) → downstream_in own rows ≤ length rows
few-down own [] = omega arith
few-down own (row ∷ rows) =
    let rest = few-down own rows in
    cond_both (is_downstream own row.entry) (row ∷ down_rows own rows) (down_rows own rows) (λ (xs : List Row). length xs ≤ suc (length rows)) (λ _. omega arith) (λ _. omega arith)

abbrev pub one_if : Bool → ℕ
one_if b = if b then 1 else 0

count-more : (b : Bool) (row : Row) (rows : List Row) → length (if b then row ∷ rows else rows) ≡ length rows + one_if b
count-more true row rows = omega arith
count-more false row rows = omega arith

-- ---- an entry at a place

pub only-within : (k place : ℕ) (rows : List Row) → IsOnlyPlace k place (neighbours_of rows) → place < length rows
only-within k place [] is = absurd is
only-within k zero (row ∷ rows) is = omega arith
only-within k (suc place) (row ∷ rows) is = let rest = only-within k place rows is.1 in omega arith

pub only-here : (k place : ℕ) (rows : List Row) (d : Row) → IsOnlyPlace k place (neighbours_of rows) → (slice_index_or rows place d).neighbour ≡ k
only-here k place [] d is = absurd is
only-here k zero (row ∷ rows) d is = is.0
only-here k (suc place) (row ∷ rows) d is = only-here k place rows d is.1

pub is-number : (n k : ℕ) → n ≡ k → (n == k) ≡ true
is-number n k e = grind (arith, nat_tests)

rest-stays : (k : ℕ) (h : Quintuple) (rows : List Row) → AllByRecursion (λ (m : ℕ). m ≢ k) (neighbours_of rows) → with_entry k h rows ≡ rows
rest-stays k h [] all = refl
rest-stays k h (row ∷ rows) all =
    ap (λ b. (if b then record row { entry = Some h } else row) ∷ with_entry k h rows) (not-same row.neighbour k all.0) ∙ ap (λ (xs : List Row). row ∷ xs) (rest-stays k h rows all.1)

pub only-set : (k place : ℕ) (h : Quintuple) (rows : List Row) → IsOnlyPlace k place (neighbours_of rows) → with_entry k h rows ≡ with_entry_at place h rows
only-set k place h [] is = absurd is
only-set k zero h (row ∷ rows) is =
    ap (λ b. (if b then record row { entry = Some h } else row) ∷ with_entry k h rows) (is-number row.neighbour k is.0)
    ∙ ap (λ (xs : List Row). record row { entry = Some h } ∷ xs) (rest-stays k h rows is.1)
only-set k (suc place) h (row ∷ rows) is =
    ap (λ b. (if b then record row { entry = Some h } else row) ∷ with_entry k h rows) (not-same row.neighbour k is.0) ∙ ap (λ (xs : List Row). row ∷ xs) (only-set k place h rows is.1)

pub set-at : (place : ℕ) (h : Quintuple) (rows : List Row) (d : Row) → place < length rows → slice_set rows place (record (slice_index_or rows place d) { entry = Some h }) ≡ with_entry_at place h rows
set-at place h [] d lt = absurd (omega arith)
set-at zero h (row ∷ rows) d lt = refl
set-at (suc place) h (row ∷ rows) d lt = ap (λ (xs : List Row). row ∷ xs) (set-at place h rows d (omega arith))

pub directions-set : (own : Option Quintuple) (place : ℕ) (h : Quintuple) (rows : List Row) → slice_set (directions_of own rows) place (link_status own (Some h)) ≡ directions_of own (with_entry_at place h rows)
directions-set own place h [] = refl
directions-set own zero h (row ∷ rows) = refl
directions-set own (suc place) h (row ∷ rows) = ap (λ (xs : List Direction). link_status own row.entry ∷ xs) (directions-set own place h rows)

pub downstream-set : (own : Option Quintuple) (place : ℕ) (h : Quintuple) (rows : List Row) (d : Direction) → place < length rows
    → downstream_in own (with_entry_at place h rows) + one_if (is_down (slice_index_or (directions_of own rows) place d)) ≡ downstream_in own rows + one_if (is_down (link_status own (Some h)))
downstream-set own place h [] d lt = absurd (omega arith)
downstream-set own zero h (row ∷ rows) d lt =
    let a = count-more (is_downstream own (Some h)) (record row { entry = Some h }) (down_rows own rows) in
    let b = count-more (is_downstream own row.entry) row (down_rows own rows) in
    let e = ap one_if (status-down own (Some h)) in
    let f = ap one_if (status-down own row.entry) in
    omega arith
downstream-set own (suc place) h (row ∷ rows) d lt =
    let rest = downstream-set own place h rows d (omega arith) in
    let a = count-more (is_downstream own row.entry) row (down_rows own (with_entry_at place h rows)) in
    let b = count-more (is_downstream own row.entry) row (down_rows own rows) in
    omega arith

-- the count includes a link that is downstream
pub down-counted : (own : Option Quintuple) (place : ℕ) (rows : List Row) (d : Direction) → place < length rows → is_down (slice_index_or (directions_of own rows) place d) ≡ true → 0 < downstream_in own rows
down-counted own place [] d lt e = absurd (omega arith)
down-counted own zero (row ∷ rows) d lt e =
    let b = count-more (is_downstream own row.entry) row (down_rows own rows) in
    let f : is_downstream own row.entry ≡ true = sym (status-down own row.entry) ∙ e in
    let g = ap one_if f in
    omega arith
down-counted own (suc place) (row ∷ rows) d lt e =
    let rest = down-counted own place rows d (omega arith) e in
    let b = count-more (is_downstream own row.entry) row (down_rows own rows) in
    omega arith

-- if there is only one entry, it is the least
pub least-set_first : (place : ℕ) (h : Quintuple) (rows : List Row) → place < length rows → AllByRecursion IsNull rows → IsLeastAt place h (with_entry_at place h rows)
least-set_first place h [] lt all = absurd (omega arith)
least-set_first zero h (row ∷ rows) lt all = (refl, later rows all.1)
  where
    later : (xs : List Row) → AllByRecursion IsNull xs → AllByRecursion (IsNotBelow h) xs
    later [] none = tt
    later (x ∷ xs) none = (ap (is_downstream (Some h)) none.0, later xs none.1)
least-set_first (suc place) h (row ∷ rows) lt all = (ap (is_above h) all.0, least-set_first place h rows (omega arith) all.1)

-- if an entry is below all others, it is the least
all-above-set : (place : ℕ) (g h : Quintuple) (rows : List Row) → place < length rows → is_lt (height_cmp g h) ≡ true → AllByRecursion (IsNotBelow h) rows → IsLeastAt place g (with_entry_at place g rows)
all-above-set place g h [] lt low all = absurd (omega arith)
all-above-set zero g h (row ∷ rows) lt low all = (refl, all-not_below g h rows low all.1)
all-above-set (suc place) g h (row ∷ rows) lt low all = (not_below-above g h row.entry low all.0, all-above-set place g h rows (omega arith) low all.1)

pub least-set_lower : (place i : ℕ) (g h : Quintuple) (rows : List Row) → place < length rows → is_lt (height_cmp g h) ≡ true → IsLeastAt i h rows → IsLeastAt place g (with_entry_at place g rows)
least-set_lower place i g h rows lt low is = all-above-set place g h rows lt low (least-all i h rows is)

all-set : (place : ℕ) (g h : Quintuple) (rows : List Row) → is_lt (height_cmp g h) ≡ false → AllByRecursion (IsNotBelow h) rows → AllByRecursion (IsNotBelow h) (with_entry_at place g rows)
all-set place g h [] high all = tt
all-set zero g h (row ∷ rows) high all = (high, all.1)
all-set (suc place) g h (row ∷ rows) high all = (all.0, all-set place g h rows high all.1)

-- a new entry above the least leaves the least where it is
pub least-set_higher : (place i : ℕ) (g h : Quintuple) (rows : List Row) → i ≢ place → is_lt (height_cmp h g) ≡ true → IsLeastAt i h rows → IsLeastAt i h (with_entry_at place g rows)
least-set_higher place i g h [] apart high is = absurd is
least-set_higher zero zero g h (row ∷ rows) apart high is = absurd (apart refl)
least-set_higher (suc place) zero g h (row ∷ rows) apart high is = (is.0, all-set place g h rows (lt-not_lt h g high) is.1)
least-set_higher zero (suc i) g h (row ∷ rows) apart high is = (high, is.1)
least-set_higher (suc place) (suc i) g h (row ∷ rows) apart high is = (is.0, least-set_higher place i g h rows (λ (e : i ≡ place). apart (ap suc e)) high is.1)

-- ---- a row that is written to its place

pub directions-put : (own : Option Quintuple) (place : ℕ) (new : Row) (rows : List Row) → slice_set (directions_of own rows) place (link_status own new.entry) ≡ directions_of own (slice_set rows place new)
directions-put own place new [] = refl
directions-put own zero new (row ∷ rows) = refl
directions-put own (suc place) new (row ∷ rows) = ap (λ (xs : List Direction). link_status own row.entry ∷ xs) (directions-put own place new rows)

pub downstream-put : (own : Option Quintuple) (place : ℕ) (new : Row) (rows : List Row) (d : Direction) → place < length rows
    → downstream_in own (slice_set rows place new) + one_if (is_down (slice_index_or (directions_of own rows) place d)) ≡ downstream_in own rows + one_if (is_down (link_status own new.entry))
downstream-put own place new [] d lt = absurd (omega arith)
downstream-put own zero new (row ∷ rows) d lt =
    let a = count-more (is_downstream own new.entry) new (down_rows own rows) in
    let b = count-more (is_downstream own row.entry) row (down_rows own rows) in
    let e = ap one_if (status-down own new.entry) in
    let f = ap one_if (status-down own row.entry) in
    omega arith
downstream-put own (suc place) new (row ∷ rows) d lt =
    let rest = downstream-put own place new rows d (omega arith) in
    let a = count-more (is_downstream own row.entry) row (down_rows own (slice_set rows place new)) in
    let b = count-more (is_downstream own row.entry) row (down_rows own rows) in
    omega arith

null-put : (place : ℕ) (new : Row) (rows : List Row) → IsNull new → AllByRecursion IsNull rows → AllByRecursion IsNull (slice_set rows place new)
null-put place new [] is all = tt
null-put zero new (row ∷ rows) is all = (is, all.1)
null-put (suc place) new (row ∷ rows) is all = (all.0, null-put place new rows is all.1)

all-put : (place : ℕ) (h : Quintuple) (new : Row) (rows : List Row) → IsNull new → AllByRecursion (IsNotBelow h) rows → AllByRecursion (IsNotBelow h) (slice_set rows place new)
all-put place h new [] is all = tt
all-put zero h new (row ∷ rows) is all = (ap (is_downstream (Some h)) is, all.1)
all-put (suc place) h new (row ∷ rows) is all = (all.0, all-put place h new rows is all.1)

-- a row without an entry, at another place, leaves the least where it is
pub least-put_other : (place i : ℕ) (h : Quintuple) (new : Row) (rows : List Row) → i ≢ place → IsNull new → IsLeastAt i h rows → IsLeastAt i h (slice_set rows place new)
least-put_other place i h new [] apart is least = absurd least
least-put_other zero zero h new (row ∷ rows) apart is least = absurd (apart refl)
least-put_other zero (suc i) h new (row ∷ rows) apart is least = (ap (is_above h) is, least.1)
least-put_other (suc place) zero h new (row ∷ rows) apart is least = (least.0, all-put place h new rows is least.1)
least-put_other (suc place) (suc i) h new (row ∷ rows) apart is least = (least.0, least-put_other place i h new rows (λ (e : i ≡ place). apart (ap suc e)) is least.1)

pub none-put : (place : ℕ) (new : Row) (rows : List Row) → IsNull new → IsLeastPlace None rows → IsLeastPlace None (slice_set rows place new)
none-put place new rows is least = null-put place new rows is least

-- a row without an entry that replaces a row without one leaves the least where it is
pub least-put_null : (place : ℕ) (least : Option ℕ) (new : Row) (rows : List Row) (d : Row) → IsNull new → (slice_index_or rows place d).entry ≡ None → IsLeastPlace least rows
    → IsLeastPlace least (slice_set rows place new)
least-put_null place None new rows d is none least = null-put place new rows is least
least-put_null place (Some i) new rows d is none least = (least.0, least-put_other place i least.0 new rows apart is least.1)
  where
    apart : i ≢ place
    apart e =
        let here : (slice_index_or rows place d).entry ≡ Some least.0 = subst (λ (n : ℕ). (slice_index_or rows n d).entry ≡ Some least.0) e (least-entry i least.0 rows d least.1) in
        let clash : None ≡ Some least.0 = sym none ∙ here in
        absurd cc

-- ---- the places of a new view

null-first : (ns : List ℕ) → AllByRecursion IsNull (map empty_place ns)
null-first [] = tt
null-first (n ∷ ns) = (refl, null-first ns)

pub kept-first : (own : Option Quintuple) (ns : List ℕ) → AreKept own (map empty_place ns) (directions_of own (map empty_place ns)) 0 None
kept-first own ns = record {
  directions_are = refl;
  downstream_is = sym (ap (λ (xs : List Row). length xs) (null-down own (map empty_place ns) (null-first ns)));
  least_is = null-first ns;
}

-- ---- neighbours without a row

pub rest-kept : (k : ℕ) (rows : List Row) → AllByRecursion (λ (m : ℕ). m ≢ k) (neighbours_of rows) → without_row k rows ≡ rows
rest-kept k [] all = refl
rest-kept k (row ∷ rows) all =
    ap (λ b. if not b then row ∷ without_row k rows else without_row k rows) (not-same row.neighbour k all.0) ∙ ap (λ (xs : List Row). row ∷ xs) (rest-kept k rows all.1)

-- ---- marked rows

pub rest-told : (k : ℕ) (rows : List Row) → AllByRecursion (λ (m : ℕ). m ≢ k) (neighbours_of rows) → is_told k rows ≡ false
rest-told k [] all = refl
rest-told k (row ∷ rows) all = ap (λ b. (b && row.told) || is_told k rows) (not-same row.neighbour k all.0) ∙ rest-told k rows all.1

pub or-none : (b : Bool) → (b || false) ≡ b
or-none true = refl
or-none false = refl

-- rows that change, but not in their entries
module _ (f : Row → Row) (keep : (row : Row) → (f row).entry ≡ row.entry) where
  pub directions-mapped : (own : Option Quintuple) (rows : List Row) → directions_of own rows ≡ directions_of own (map f rows)
  directions-mapped own [] = refl
  directions-mapped own (row ∷ rows) =
      ap (λ (o : Option Quintuple). link_status own o ∷ directions_of own rows) (sym (keep row)) ∙ ap (λ (xs : List Direction). link_status own (f row).entry ∷ xs) (directions-mapped own rows)

  pub downstream-mapped : (own : Option Quintuple) (rows : List Row) → downstream_in own rows ≡ downstream_in own (map f rows)
  downstream-mapped own [] = refl
  downstream-mapped own (row ∷ rows) =
      let P : Option Quintuple → Type 0 = λ o. downstream_in own (row ∷ rows) ≡ length (if is_downstream own o then f row ∷ down_rows own (map f rows) else down_rows own (map f rows)) in
      let a = count-more (is_downstream own row.entry) row (down_rows own rows) in
      let b = count-more (is_downstream own row.entry) (f row) (down_rows own (map f rows)) in
      let rest = downstream-mapped own rows in subst P (sym (keep row)) (omega arith)

  null-mapped : (rows : List Row) → AllByRecursion IsNull rows → AllByRecursion IsNull (map f rows)
  null-mapped [] all = tt
  null-mapped (row ∷ rows) all = (keep row ∙ all.0, null-mapped rows all.1)

  not_below-mapped : (h : Quintuple) (rows : List Row) → AllByRecursion (IsNotBelow h) rows → AllByRecursion (IsNotBelow h) (map f rows)
  not_below-mapped h [] all = tt
  not_below-mapped h (row ∷ rows) all = (ap (is_downstream (Some h)) (keep row) ∙ all.0, not_below-mapped h rows all.1)

  least_at-mapped : (place : ℕ) (h : Quintuple) (rows : List Row) → IsLeastAt place h rows → IsLeastAt place h (map f rows)
  least_at-mapped place h [] is = absurd is
  least_at-mapped zero h (row ∷ rows) is = (keep row ∙ is.0, not_below-mapped h rows is.1)
  least_at-mapped (suc place) h (row ∷ rows) is = (ap (is_above h) (keep row) ∙ is.0, least_at-mapped place h rows is.1)

  pub least-mapped : (least : Option ℕ) (rows : List Row) → IsLeastPlace least rows → IsLeastPlace least (map f rows)
  least-mapped None rows is = null-mapped rows is
  least-mapped (Some place) rows is = (is.0, least_at-mapped place is.0 rows is.1)

-- ---- one more row

null-more : (row : Row) (rows : List Row) → AllByRecursion IsNull rows → IsNull row → AllByRecursion IsNull (rows ++ row ∷ [])
null-more row [] all is = (is, tt)
null-more row (x ∷ rows) all is = (all.0, null-more row rows all.1 is)

not_below-more : (h : Quintuple) (row : Row) (rows : List Row) → AllByRecursion (IsNotBelow h) rows → IsNotBelow h row → AllByRecursion (IsNotBelow h) (rows ++ row ∷ [])
not_below-more h row [] all is = (is, tt)
not_below-more h row (x ∷ rows) all is = (all.0, not_below-more h row rows all.1 is)

least-more_same : (place : ℕ) (h : Quintuple) (row : Row) (rows : List Row) → IsLeastAt place h rows → IsNotBelow h row → IsLeastAt place h (rows ++ row ∷ [])
least-more_same place h row [] is new = absurd is
least-more_same zero h row (x ∷ rows) is new = (is.0, not_below-more h row rows is.1 new)
least-more_same (suc place) h row (x ∷ rows) is new = (is.0, least-more_same place h row rows is.1 new)

least-more_first : (h : Quintuple) (row : Row) (rows : List Row) → AllByRecursion IsNull rows → row.entry ≡ Some h → IsLeastAt (length rows) h (rows ++ row ∷ [])
least-more_first h row [] all is = (is, tt)
least-more_first h row (x ∷ rows) all is = (ap (is_above h) all.0, least-more_first h row rows all.1 is)

least-more_lower : (g h : Quintuple) (row : Row) (rows : List Row) → is_lt (height_cmp g h) ≡ true → AllByRecursion (IsNotBelow h) rows → row.entry ≡ Some g → IsLeastAt (length rows) g (rows ++ row ∷ [])
least-more_lower g h row [] low all is = (is, tt)
least-more_lower g h row (x ∷ rows) low all is = (not_below-above g h x.entry low all.0, least-more_lower g h row rows low all.1 is)

pub entry-at : (place : ℕ) (rows : List Row) (d : Row) → place < length rows → entry_at place rows ≡ (slice_index_or rows place d).entry
entry-at place [] d lt = absurd (omega arith)
entry-at zero (row ∷ rows) d lt = refl
entry-at (suc place) (row ∷ rows) d lt = entry-at place rows d (omega arith)

entry-least : (place : ℕ) (h : Quintuple) (rows more : List Row) → IsLeastAt place h rows → entry_at place (rows ++ more) ≡ Some h
entry-least place h [] more is = absurd is
entry-least zero h (row ∷ rows) more is = is.0
entry-least (suc place) h (row ∷ rows) more is = entry-least place h rows more is.1

-- the new row is lower than all before it
pub least-lower : (least : Option ℕ) (row : Row) (rows more : List Row) → IsLeastPlace least rows → is_downstream (low_of least (rows ++ more)) row.entry ≡ true → IsLeastPlace (Some (length rows)) (rows ++ row ∷ [])
least-lower least row rows more is down = at row.entry refl least is down
  where
    nothing : (o : Option Quintuple) → is_downstream o None ≡ false
    nothing None = refl
    nothing (Some a) = refl

    at : (o : Option Quintuple) → row.entry ≡ o → (l : Option ℕ) → IsLeastPlace l rows → is_downstream (low_of l (rows ++ more)) o ≡ true → (h : Quintuple) × IsLeastAt (length rows) h (rows ++ row ∷ [])
    at None e l x f = absurd (let g = nothing (low_of l (rows ++ more)) in cc)
    at (Some g) e None x f = (g, least-more_first g row rows x e)
    at (Some g) e (Some place) x f =
        let lower : is_lt (height_cmp g x.0) ≡ true = subst (λ (o : Option Quintuple). is_downstream o (Some g) ≡ true) (entry-least place x.0 rows more x.1) f in
        (g, least-more_lower g x.0 row rows lower (least-all place x.0 rows x.1) e)

-- the new row is not lower
pub least-same : (least : Option ℕ) (row : Row) (rows more : List Row) → IsLeastPlace least rows → is_downstream (low_of least (rows ++ more)) row.entry ≡ false → IsLeastPlace least (rows ++ row ∷ [])
least-same None row rows more is down = null-more row rows is (at row.entry down)
  where
    at : (o : Option Quintuple) → is_downstream None o ≡ false → o ≡ None
    at None e = refl
    at (Some g) e = absurd cc
least-same (Some place) row rows more is down =
    (is.0, least-more_same place is.0 row rows is.1 (subst (λ (o : Option Quintuple). is_downstream o row.entry ≡ false) (entry-least place is.0 rows more is.1) down))

pub least-in : (least : Option ℕ) (rows : List Row) → IsLeastPlace least rows → IfSome least (λ i. i < length rows)
least-in None rows is = tt
least-in (Some place) rows is = least-within place is.0 rows is.1

-- ---- one more row, in a loop

pub directions-next : (own : Option Quintuple) (ds : List Direction) (rows : List Row) (i : ℕ) (x : Row) → i < length ds → i < length rows → x ≡ slice_index_or rows i x → take i ds ≡ directions_of own (take i rows)
    → take (i + 1) (slice_set ds i (link_status own x.entry)) ≡ directions_of own (take (i + 1) rows)
directions-next own ds rows i x within lt read so =
    let more : take (i + 1) rows ≡ take i rows ++ x ∷ [] = take_more rows i x lt ∙ ap (λ (r : Row). take i rows ++ r ∷ []) (sym read) in
    take_more_set ds i (link_status own x.entry) within ∙ ap (λ (xs : List Direction). xs ++ link_status own x.entry ∷ []) so
    ∙ directions-more own x (take i rows) ∙ ap (directions_of own) (sym more)
  where
    directions-more : (own : Option Quintuple) (row : Row) (rows : List Row) → directions_of own rows ++ link_status own row.entry ∷ [] ≡ directions_of own (rows ++ row ∷ [])
    directions-more own row [] = refl
    directions-more own row (r ∷ rows) = ap (λ (xs : List Direction). link_status own r.entry ∷ xs) (directions-more own row rows)

pub downstream-next : (own : Option Quintuple) (rows : List Row) (i : ℕ) (x : Row) → i < length rows → x ≡ slice_index_or rows i x
    → downstream_in own (take (i + 1) rows) ≡ downstream_in own (take i rows) + one_if (is_down (link_status own x.entry))
downstream-next own rows i x lt read =
    let more = length-filter_more (λ (row : Row). is_downstream own row.entry) rows i x lt in
    let same : one_if (is_downstream own (slice_index_or rows i x).entry) ≡ one_if (is_down (link_status own x.entry)) = ap (λ (r : Row). one_if (is_downstream own r.entry)) (sym read) ∙ ap one_if (sym (status-down own x.entry)) in
    more ∙ ap (λ (n : ℕ). downstream_in own (take i rows) + n) same

blank : Row
blank = record { neighbour = 0; entry = None; told = false }

read-more : (i : ℕ) (rows : List Row) → i < length rows → take (i + 1) rows ≡ take i rows ++ slice_index_or rows i blank ∷ []
read-more i rows lt = take_more rows i blank lt

length-first : (i : ℕ) (rows : List Row) → i < length rows → length (take i rows) ≡ i
length-first i rows lt = length-take-le i rows (omega arith)

pub least-next_lower : (least : Option ℕ) (i : ℕ) (rows : List Row) → i < length rows → IsLeastPlace least (take i rows) → is_downstream (low_of least rows) (entry_at i rows) ≡ true → IsLeastPlace (Some i) (take (i + 1) rows)
least-next_lower least i rows lt is down =
    let x = slice_index_or rows i blank in
    let whole : take i rows ++ drop i rows ≡ rows = take-append-drop i rows in
    let test : is_downstream (low_of least (take i rows ++ drop i rows)) x.entry ≡ true =
    ap (λ (rs : List Row). is_downstream (low_of least rs) x.entry) whole ∙ ap (is_downstream (low_of least rows)) (sym (entry-at i rows blank lt)) ∙ down in
    let new = least-lower least x (take i rows) (drop i rows) is test in
    let P : List Row → Type 0 = λ rs. (h : Quintuple) × IsLeastAt i h rs in
    subst P (sym (read-more i rows lt)) (new.0, subst (λ (n : ℕ). IsLeastAt n new.0 (take i rows ++ x ∷ [])) (length-first i rows lt) new.1)

pub least-next_same : (least : Option ℕ) (i : ℕ) (rows : List Row) → i < length rows → IsLeastPlace least (take i rows) → is_downstream (low_of least rows) (entry_at i rows) ≡ false → IsLeastPlace least (take (i + 1) rows)
least-next_same least i rows lt is down =
    let x = slice_index_or rows i blank in
    let whole : take i rows ++ drop i rows ≡ rows = take-append-drop i rows in
    let test : is_downstream (low_of least (take i rows ++ drop i rows)) x.entry ≡ false =
    ap (λ (rs : List Row). is_downstream (low_of least rs) x.entry) whole ∙ ap (is_downstream (low_of least rows)) (sym (entry-at i rows blank lt)) ∙ down in
    subst (IsLeastPlace least) (sym (read-more i rows lt)) (least-same least x (take i rows) (drop i rows) is test)

pub in-longer : (least : Option ℕ) (m n : ℕ) → m ≤ n → IfSome least (λ i. i < m) → IfSome least (λ i. i < n)
in-longer None m n le is = tt
in-longer (Some i) m n le is = omega arith

pub least-in_first : (least : Option ℕ) (i : ℕ) (rows : List Row) → i < length rows → IsLeastPlace least (take i rows) → IfSome least (λ j. j < length rows)
least-in_first least i rows lt is = in-longer least (length (take i rows)) (length rows) (let e = length-first i rows lt in omega arith) (least-in least (take i rows) is)

-- ---- all stored values, after each change

pub kept-set : (own : Option Quintuple) (rows : List Row) (ds : List Direction) (count : ℕ) (least : Option ℕ) (place : ℕ) (h : Quintuple) (before : Direction) (recount : ℕ) (found : Option ℕ)
    → AreKept own rows ds count least → place < length rows → before ≡ slice_index_or ds place before
    → recount + one_if (is_down before) ≡ count + one_if (is_down (link_status own (Some h))) → IsLeastPlace found (with_entry_at place h rows)
    → AreKept own (with_entry_at place h rows) (slice_set ds place (link_status own (Some h))) recount found
kept-set own rows ds count least place h before recount found kept lt read sum is =
    let same : before ≡ slice_index_or (directions_of own rows) place before = read ∙ ap (λ (xs : List Direction). slice_index_or xs place before) kept.directions_are in
    let counted = downstream-set own place h rows before lt in
    let one : one_if (is_down before) ≡ one_if (is_down (slice_index_or (directions_of own rows) place before)) = ap (λ (d : Direction). one_if (is_down d)) same in
    let was = kept.downstream_is in
    record {
      directions_are = ap (λ (xs : List Direction). slice_set xs place (link_status own (Some h))) kept.directions_are ∙ directions-set own place h rows;
      downstream_is = omega arith;
      least_is = is;
    }

pub kept-put : (own : Option Quintuple) (rows : List Row) (ds : List Direction) (count : ℕ) (least : Option ℕ) (place : ℕ) (new : Row) (before : Direction) (recount : ℕ) (found : Option ℕ)
    → AreKept own rows ds count least → place < length rows → before ≡ slice_index_or ds place before
    → recount + one_if (is_down before) ≡ count + one_if (is_down (link_status own new.entry)) → IsLeastPlace found (slice_set rows place new)
    → AreKept own (slice_set rows place new) (slice_set ds place (link_status own new.entry)) recount found
kept-put own rows ds count least place new before recount found kept lt read sum is =
    let same : before ≡ slice_index_or (directions_of own rows) place before = read ∙ ap (λ (xs : List Direction). slice_index_or xs place before) kept.directions_are in
    let counted = downstream-put own place new rows before lt in
    let one : one_if (is_down before) ≡ one_if (is_down (slice_index_or (directions_of own rows) place before)) = ap (λ (d : Direction). one_if (is_down d)) same in
    let was = kept.downstream_is in
    record {
      directions_are = ap (λ (xs : List Direction). slice_set xs place (link_status own new.entry)) kept.directions_are ∙ directions-put own place new rows;
      downstream_is = omega arith;
      least_is = is;
    }

null-direction : (own : Option Quintuple) (rows : List Row) (place : ℕ) (d : Row) → (slice_index_or rows place d).entry ≡ None → Undirected ≡ slice_index_or (directions_of own rows) place Undirected
null-direction own [] place d none = refl
null-direction own (row ∷ rows) zero d none = sym (ap (link_status own) none ∙ status-none own)
null-direction own (row ∷ rows) (suc place) d none = null-direction own rows place d none

-- if a row without an entry replaces one without an entry, all stored values stay correct
pub kept-null : (own : Option Quintuple) (rows : List Row) (ds : List Direction) (count : ℕ) (least : Option ℕ) (place : ℕ) (new d : Row)
    → IsNull new → (slice_index_or rows place d).entry ≡ None → place < length rows → AreKept own rows ds count least → AreKept own (slice_set rows place new) ds count least
kept-null own rows ds count least place new d null none lt kept =
    let read : Undirected ≡ slice_index_or ds place Undirected = null-direction own rows place d none ∙ ap (λ (xs : List Direction). slice_index_or xs place Undirected) (sym kept.directions_are) in
    let status : link_status own new.entry ≡ Undirected = ap (link_status own) null ∙ status-none own in
    let same : slice_set ds place (link_status own new.entry) ≡ ds = ap (slice_set ds place) (status ∙ read) ∙ set-get_or ds place Undirected in
    subst (λ (xs : List Direction). AreKept own (slice_set rows place new) xs count least) same
    (kept-put own rows ds count least place new Undirected count least kept lt read (ap (λ (x : Direction). count + one_if (is_down x)) (sym status)) (least-put_null place least new rows d null none kept.least_is))

-- the count includes a link that was downstream
pub before-counted : (own : Option Quintuple) (rows : List Row) (ds : List Direction) (count : ℕ) (least : Option ℕ) (place : ℕ) (before : Direction)
    → AreKept own rows ds count least → place < length rows → before ≡ slice_index_or ds place before → is_down before ≡ true → 0 < count
before-counted own rows ds count least place before kept lt read down =
    let same : before ≡ slice_index_or (directions_of own rows) place before = read ∙ ap (λ (xs : List Direction). slice_index_or xs place before) kept.directions_are in
    let some = down-counted own place rows before lt (ap is_down (sym same) ∙ down) in
    let was = kept.downstream_is in
    omega arith

pub kept-few : (own : Option Quintuple) (rows : List Row) (ds : List Direction) (count : ℕ) (least : Option ℕ) → AreKept own rows ds count least → count ≤ length rows
kept-few own rows ds count least kept = let few = few-down own rows in let was = kept.downstream_is in omega arith

pub kept-lengths : (own : Option Quintuple) (rows : List Row) (ds : List Direction) (count : ℕ) (least : Option ℕ) → AreKept own rows ds count least → length ds ≡ length rows
kept-lengths own rows ds count least kept = ap (λ (xs : List Direction). length xs) kept.directions_are ∙ length-directions own rows

pub table-is : (o p : Option Quintuple) (r s : List Row) (m n : List ℕ) → o ≡ p → r ≡ s → m ≡ n → links_of o r m ≡ links_of p s n
table-is o p r s m n e f g = ap (λ (x : Option Quintuple). links_of x r m) e ∙ ap (λ (x : List Row). links_of p x m) f ∙ ap (links_of p s) g

pub not-some : {X : Type 0} (o : Option X) → is_some o ≡ false → o ≡ None
not-some None e = refl
not-some (Some x) e = absurd cc
