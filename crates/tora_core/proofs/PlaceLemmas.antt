-- The rows of the places whose link is up, and what writing a place does to them.
use Rattle.std.proofs.Common.{◌≡◌, ◌≢◌, refl, ap, sym, subst, ◌∙◌, ℕ, zero, suc, ◌+◌, ◌<◌, ◌≤◌, ◌==◌, Bool, true, false, not, ◌||◌, ◌&&◌, List, [], ◌∷◌, ◌++◌, map, take, replicate, length, Option, Some, None, is_none, nat_lt, arith}
use Rattle.std.specs.Prelude.{if◌then◌else◌, find, fold, option_map, slice_index_or, slice_set}
use Rattle.std.specs.List.{AllByRecursion, cons_option}
use Rattle.std.proofs.lemmas.Bool.{cond_both}
use Rattle.std.proofs.lemmas.Bool.Decides.{nat_tests}
use Rattle.std.proofs.lemmas.List.{take_more}
use Rattle.tora_height.specs.declared.level.Level.{Level}
use Rattle.tora_height.specs.Height.{Quintuple}
use Rattle.tora_core.specs.declared.rows.Row.{Row}
use Rattle.tora_core.specs.Numbers.{IsAscending, has_number}
use Rattle.tora_core.specs.View.{are_null, cleared_row, erased_row, heights_of, is_downstream, is_entry_at, is_told, lower_row_of, neighbours_of, row_with_entry, with_entry, with_row, withdrawn_row, without_row}
use Rattle.tora_core.specs.Links.{AreMarked, IsOnlyPlace, downstream_in, empty_place, rows_up, with_entry_at}
use Rattle.tora_core.proofs.NumberLemmas.{all-has, not-same, or-true-right}
use Rattle.tora_core.proofs.LinkLemmas.{down_rows, hop_in, is-number, only-set, or-none, rest-kept, rest-told}
use Rattle.tora_core.proofs.RowPlaces.{length-rows}

-- ---- the marks

pub marked-length : (up : List Bool) (places : List Row) → AreMarked up places → length up ≡ length places
marked-length [] [] is = refl
marked-length [] (row ∷ places) is = absurd is
marked-length (mark ∷ up) [] is = absurd is
marked-length (mark ∷ up) (row ∷ places) is = ap suc (marked-length up places is.1)

-- the count of places does not change
pub few-still : (most : ℕ) (places new : List Row) → neighbours_of new ≡ neighbours_of places → length places ≤ most → length new ≤ most
few-still most places new same few =
    let before = length-rows places in
    let after = length-rows new in
    let equal = ap (λ (ns : List ℕ). length ns) same in
    omega arith

-- a property of all neighbours holds for those that have rows
pub all-up : (P : ℕ → Type 0) (up : List Bool) (places : List Row) → AllByRecursion P (neighbours_of places) → AllByRecursion P (neighbours_of (rows_up up places))
all-up P [] places all = tt
all-up P (mark ∷ up) [] all = tt
all-up P (true ∷ up) (row ∷ places) all = (all.0, all-up P up places all.1)
all-up P (false ∷ up) (row ∷ places) all = all-up P up places all.1

-- if a neighbour has a row, its place is marked
pub up-on : (k place : ℕ) (up : List Bool) (places : List Row) → has_number k (neighbours_of (rows_up up places)) ≡ true → IsOnlyPlace k place (neighbours_of places)
    → slice_index_or up place false ≡ true
up-on k place [] places has is = absurd cc
up-on k place (mark ∷ up) [] has is = absurd is
up-on k zero (true ∷ up) (row ∷ places) has is = refl
up-on k zero (false ∷ up) (row ∷ places) has is =
    absurd (all-has (λ (m : ℕ). m ≢ k) k (neighbours_of (rows_up up places)) (all-up (λ (m : ℕ). m ≢ k) up places is.1) has refl)
up-on k (suc place) (true ∷ up) (row ∷ places) has is =
    up-on k place up places (or-true-right (row.neighbour == k) (has_number k (neighbours_of (rows_up up places))) has (not-same row.neighbour k is.0)) is.1
up-on k (suc place) (false ∷ up) (row ∷ places) has is = up-on k place up places has is.1

-- if a neighbour has no row, its place is not marked
pub up-off : (k place : ℕ) (up : List Bool) (places : List Row) → AllByRecursion (λ (row : Row). row.neighbour ≢ k) (rows_up up places) → IsOnlyPlace k place (neighbours_of places)
    → slice_index_or up place false ≡ false
up-off k place [] places all is = refl
up-off k place (mark ∷ up) [] all is = absurd is
up-off k zero (true ∷ up) (row ∷ places) all is = absurd (all.0 is.0)
up-off k zero (false ∷ up) (row ∷ places) all is = refl
up-off k (suc place) (true ∷ up) (row ∷ places) all is = up-off k place up places all.1 is.1
up-off k (suc place) (false ∷ up) (row ∷ places) all is = up-off k place up places all is.1

-- a place that is not marked has no entry
pub null-off : (place : ℕ) (up : List Bool) (places : List Row) (d : Row) → AreMarked up places → slice_index_or up place false ≡ false → place < length places
    → (slice_index_or places place d).entry ≡ None
null-off place [] [] d is off lt = absurd (omega arith)
null-off place [] (row ∷ places) d is off lt = absurd is
null-off place (mark ∷ up) [] d is off lt = absurd is
null-off zero (mark ∷ up) (row ∷ places) d is off lt = is.0 off
null-off (suc place) (mark ∷ up) (row ∷ places) d is off lt = null-off place up places d is.1 off (omega arith)

-- a mark that is read, whatever the default value is
pub mark-read : (place : ℕ) (up : List Bool) (b c : Bool) → place < length up → slice_index_or up place b ≡ slice_index_or up place c
mark-read place [] b c lt = absurd (omega arith)
mark-read zero (mark ∷ up) b c lt = refl
mark-read (suc place) (mark ∷ up) b c lt = mark-read place up b c (omega arith)

-- ---- values read at all places

pub heights-up : (up : List Bool) (places : List Row) → AreMarked up places → heights_of (rows_up up places) ≡ heights_of places
heights-up [] [] is = refl
heights-up [] (row ∷ places) is = absurd is
heights-up (mark ∷ up) [] is = absurd is
heights-up (true ∷ up) (row ∷ places) is = ap (cons_option row.entry) (heights-up up places is.1)
heights-up (false ∷ up) (row ∷ places) is =
    heights-up up places is.1 ∙ sym (ap (λ (o : Option Quintuple). cons_option o (heights_of places)) (is.0 refl))

no_entry-down : (own : Option Quintuple) → is_downstream own None ≡ false
no_entry-down None = refl
no_entry-down (Some h) = refl

pub down_rows-up : (own : Option Quintuple) (up : List Bool) (places : List Row) → AreMarked up places → down_rows own (rows_up up places) ≡ down_rows own places
down_rows-up own [] [] is = refl
down_rows-up own [] (row ∷ places) is = absurd is
down_rows-up own (mark ∷ up) [] is = absurd is
down_rows-up own (true ∷ up) (row ∷ places) is = ap (λ (xs : List Row). if is_downstream own row.entry then row ∷ xs else xs) (down_rows-up own up places is.1)
down_rows-up own (false ∷ up) (row ∷ places) is =
    down_rows-up own up places is.1
    ∙ sym (ap (λ b. if b then row ∷ down_rows own places else down_rows own places) (ap (is_downstream own) (is.0 refl) ∙ no_entry-down own))

pub downstream-up : (own : Option Quintuple) (up : List Bool) (places : List Row) → AreMarked up places → downstream_in own (rows_up up places) ≡ downstream_in own places
downstream-up own up places is = ap (λ (xs : List Row). length xs) (down_rows-up own up places is)

pub hop-up : (own : Option Quintuple) (up : List Bool) (places : List Row) → AreMarked up places → hop_in own (rows_up up places) ≡ hop_in own places
hop-up own up places is = ap (λ (xs : List Row). option_map (λ (row : Row). row.neighbour) (fold lower_row_of None xs)) (down_rows-up own up places is)

pub nulls-up : (up : List Bool) (places : List Row) → AreMarked up places → are_null (rows_up up places) ≡ are_null places
nulls-up [] [] is = refl
nulls-up [] (row ∷ places) is = absurd is
nulls-up (mark ∷ up) [] is = absurd is
nulls-up (true ∷ up) (row ∷ places) is = ap (λ b. is_none row.entry && b) (nulls-up up places is.1)
nulls-up (false ∷ up) (row ∷ places) is = nulls-up up places is.1 ∙ sym (ap (λ (o : Option Quintuple). is_none o && are_null places) (is.0 refl))

-- ---- values read at one place

pub told-up : (k place : ℕ) (up : List Bool) (places : List Row) (d : Row) → slice_index_or up place false ≡ true → IsOnlyPlace k place (neighbours_of places)
    → is_told k (rows_up up places) ≡ (slice_index_or places place d).told
told-up k place [] places d on is = absurd cc
told-up k place (mark ∷ up) [] d on is = absurd is
told-up k zero (true ∷ up) (row ∷ places) d on is =
    ap (λ b. (b && row.told) || is_told k (rows_up up places)) (is-number row.neighbour k is.0)
    ∙ ap (λ b. row.told || b) (rest-told k (rows_up up places) (all-up (λ (m : ℕ). m ≢ k) up places is.1)) ∙ or-none row.told
told-up k zero (false ∷ up) (row ∷ places) d on is = absurd cc
told-up k (suc place) (true ∷ up) (row ∷ places) d on is =
    ap (λ b. (b && row.told) || is_told k (rows_up up places)) (not-same row.neighbour k is.0) ∙ told-up k place up places d on is.1
told-up k (suc place) (false ∷ up) (row ∷ places) d on is = told-up k place up places d on is.1

find-other : (k : ℕ) (rows : List Row) → AllByRecursion (λ (m : ℕ). m ≢ k) (neighbours_of rows) → find (λ (row : Row). row.neighbour == k) rows ≡ None
find-other k [] all = refl
find-other k (row ∷ rows) all =
    ap (λ b. if b then Some row else find (λ (r : Row). r.neighbour == k) rows) (not-same row.neighbour k all.0) ∙ find-other k rows all.1

-- the row of a neighbour is that at its place, if the place is marked
pub find-on : (k place : ℕ) (up : List Bool) (places : List Row) (d : Row) → slice_index_or up place false ≡ true → IsOnlyPlace k place (neighbours_of places)
    → find (λ (row : Row). row.neighbour == k) (rows_up up places) ≡ Some (slice_index_or places place d)
find-on k place [] places d on is = absurd cc
find-on k place (mark ∷ up) [] d on is = absurd is
find-on k zero (true ∷ up) (row ∷ places) d on is = ap (λ b. if b then Some row else find (λ (r : Row). r.neighbour == k) (rows_up up places)) (is-number row.neighbour k is.0)
find-on k zero (false ∷ up) (row ∷ places) d on is = absurd cc
find-on k (suc place) (true ∷ up) (row ∷ places) d on is =
    ap (λ b. if b then Some row else find (λ (r : Row). r.neighbour == k) (rows_up up places)) (not-same row.neighbour k is.0) ∙ find-on k place up places d on is.1
find-on k (suc place) (false ∷ up) (row ∷ places) d on is = find-on k place up places d on is.1

pub find-off : (k place : ℕ) (up : List Bool) (places : List Row) → slice_index_or up place false ≡ false → IsOnlyPlace k place (neighbours_of places)
    → find (λ (row : Row). row.neighbour == k) (rows_up up places) ≡ None
find-off k place [] places off is = refl
find-off k place (mark ∷ up) [] off is = absurd is
find-off k zero (true ∷ up) (row ∷ places) off is = absurd cc
find-off k zero (false ∷ up) (row ∷ places) off is = find-other k (rows_up up places) (all-up (λ (m : ℕ). m ≢ k) up places is.1)
find-off k (suc place) (true ∷ up) (row ∷ places) off is =
    ap (λ b. if b then Some row else find (λ (r : Row). r.neighbour == k) (rows_up up places)) (not-same row.neighbour k is.0) ∙ find-off k place up places off is.1
find-off k (suc place) (false ∷ up) (row ∷ places) off is = find-off k place up places off is.1

pub find-none : (k : ℕ) (up : List Bool) (places : List Row) → AllByRecursion (λ (m : ℕ). m ≢ k) (neighbours_of places) → find (λ (row : Row). row.neighbour == k) (rows_up up places) ≡ None
find-none k up places all = find-other k (rows_up up places) (all-up (λ (m : ℕ). m ≢ k) up places all)

-- ---- rows that are changed one by one

pub map-up : (f : Row → Row) (up : List Bool) (places : List Row) → rows_up up (map f places) ≡ map f (rows_up up places)
map-up f [] places = refl
map-up f (mark ∷ up) [] = refl
map-up f (true ∷ up) (row ∷ places) = ap (λ (xs : List Row). f row ∷ xs) (map-up f up places)
map-up f (false ∷ up) (row ∷ places) = map-up f up places

pub marked-map : (f : Row → Row) → ((row : Row) → row.entry ≡ None → (f row).entry ≡ None) → (up : List Bool) (places : List Row) → AreMarked up places → AreMarked up (map f places)
marked-map f keep [] [] is = tt
marked-map f keep [] (row ∷ places) is = absurd is
marked-map f keep (mark ∷ up) [] is = absurd is
marked-map f keep (mark ∷ up) (row ∷ places) is = ((λ (off : mark ≡ false). keep row (is.0 off)), marked-map f keep up places is.1)

pub erased-null : (destination : ℕ) (row : Row) → row.entry ≡ None → (erased_row destination row).entry ≡ None
erased-null destination row e = cond_both (row.neighbour == destination) row (record row { entry = None }) (λ (r : Row). r.entry ≡ None) (λ _. e) (λ _. refl)

pub cleared-null : (destination : ℕ) (level : Level) (row : Row) → row.entry ≡ None → (cleared_row destination level row).entry ≡ None
cleared-null destination level row e =
    cond_both (not (row.neighbour == destination) && is_entry_at level row.entry) (record row { entry = None }) row (λ (r : Row). r.entry ≡ None) (λ _. refl) (λ _. e)

pub withdrawn-null : (destination k : ℕ) (row : Row) → row.entry ≡ None → (withdrawn_row destination k row).entry ≡ None
withdrawn-null destination k row e =
    cond_both ((row.neighbour == k) && not (row.neighbour == destination)) (record row { entry = None }) row (λ (r : Row). r.entry ≡ None) (λ _. refl) (λ _. e)

-- ---- an entry at a place

pub entry-up : (k place : ℕ) (h : Quintuple) (up : List Bool) (places : List Row) → IsOnlyPlace k place (neighbours_of places)
    → rows_up up (with_entry_at place h places) ≡ with_entry k h (rows_up up places)
entry-up k place h up places is = ap (rows_up up) (sym (only-set k place h places is)) ∙ map-up (row_with_entry k h) up places

pub marked-entry : (place : ℕ) (h : Quintuple) (up : List Bool) (places : List Row) → slice_index_or up place false ≡ true → AreMarked up places → AreMarked up (with_entry_at place h places)
marked-entry place h [] [] on is = tt
marked-entry place h [] (row ∷ places) on is = absurd is
marked-entry place h (mark ∷ up) [] on is = absurd is
marked-entry zero h (mark ∷ up) (row ∷ places) on is = ((λ (off : mark ≡ false). absurd (let e : true ≡ false = sym on ∙ off in cc)), is.1)
marked-entry (suc place) h (mark ∷ up) (row ∷ places) on is = (is.0, marked-entry place h up places on is.1)

pub numbers-entry : (place : ℕ) (h : Quintuple) (places : List Row) → neighbours_of (with_entry_at place h places) ≡ neighbours_of places
numbers-entry place h [] = refl
numbers-entry zero h (row ∷ places) = refl
numbers-entry (suc place) h (row ∷ places) = ap (λ (ns : List ℕ). row.neighbour ∷ ns) (numbers-entry place h places)

-- ---- a row that is written to its place

pub numbers-put : (k place : ℕ) (new : Row) (places : List Row) → new.neighbour ≡ k → IsOnlyPlace k place (neighbours_of places) → neighbours_of (slice_set places place new) ≡ neighbours_of places
numbers-put k place new [] of is = refl
numbers-put k zero new (row ∷ places) of is = ap (λ (n : ℕ). n ∷ neighbours_of places) (of ∙ sym is.0)
numbers-put k (suc place) new (row ∷ places) of is = ap (λ (ns : List ℕ). row.neighbour ∷ ns) (numbers-put k place new places of is.1)

pub marked-put : (place : ℕ) (mark : Bool) (new : Row) (up : List Bool) (places : List Row) → (mark ≡ false → new.entry ≡ None) → AreMarked up places
    → AreMarked (slice_set up place mark) (slice_set places place new)
marked-put place mark new [] [] keep is = tt
marked-put place mark new [] (row ∷ places) keep is = absurd is
marked-put place mark new (m ∷ up) [] keep is = absurd is
marked-put zero mark new (m ∷ up) (row ∷ places) keep is = (keep, is.1)
marked-put (suc place) mark new (m ∷ up) (row ∷ places) keep is = (is.0, marked-put place mark new up places keep is.1)

-- the row of a neighbour is removed
pub up-goes : (k place : ℕ) (new : Row) (up : List Bool) (places : List Row) → IsOnlyPlace k place (neighbours_of places)
    → rows_up (slice_set up place false) (slice_set places place new) ≡ without_row k (rows_up up places)
up-goes k place new [] places is = refl
up-goes k place new (mark ∷ up) [] is = absurd is
up-goes k zero new (true ∷ up) (row ∷ places) is =
    sym (ap (λ b. if not b then row ∷ without_row k (rows_up up places) else without_row k (rows_up up places)) (is-number row.neighbour k is.0)
    ∙ rest-kept k (rows_up up places) (all-up (λ (m : ℕ). m ≢ k) up places is.1))
up-goes k zero new (false ∷ up) (row ∷ places) is = sym (rest-kept k (rows_up up places) (all-up (λ (m : ℕ). m ≢ k) up places is.1))
up-goes k (suc place) new (true ∷ up) (row ∷ places) is =
    ap (λ (xs : List Row). row ∷ xs) (up-goes k place new up places is.1)
    ∙ sym (ap (λ b. if not b then row ∷ without_row k (rows_up up places) else without_row k (rows_up up places)) (not-same row.neighbour k is.0))
up-goes k (suc place) new (false ∷ up) (row ∷ places) is = up-goes k place new up places is.1

below : (m n : ℕ) → m < n → nat_lt m n ≡ true
below m n lt = grind (arith, nat_tests)

not_below : (m n : ℕ) → n < m → nat_lt m n ≡ false
not_below m n lt = grind (arith, nat_tests)

-- a new row before all others
with_row-first : (new : Row) (rows : List Row) → AllByRecursion (λ (m : ℕ). new.neighbour < m) (neighbours_of rows) → with_row new rows ≡ new ∷ rows
with_row-first new [] all = refl
with_row-first new (row ∷ rows) all = ap (λ b. if b then new ∷ row ∷ rows else row ∷ with_row new rows) (below new.neighbour row.neighbour all.0)

-- a property of all numbers holds for the one at a place
only-has : (P : ℕ → Type 0) (k place : ℕ) (ns : List ℕ) → IsOnlyPlace k place ns → AllByRecursion P ns → P k
only-has P k place [] is all = absurd is
only-has P k zero (n ∷ ns) is all = subst P is.0 all.0
only-has P k (suc place) (n ∷ ns) is all = only-has P k place ns is.1 all.1

-- the row of a neighbour is added
pub up-comes : (k place : ℕ) (new : Row) (up : List Bool) (places : List Row) → new.neighbour ≡ k → IsAscending (neighbours_of places) → IsOnlyPlace k place (neighbours_of places)
    → AreMarked up places → slice_index_or up place false ≡ false → rows_up (slice_set up place true) (slice_set places place new) ≡ with_row new (rows_up up places)
up-comes k place new [] [] of asc is marked off = absurd is
up-comes k place new [] (row ∷ places) of asc is marked off = absurd marked
up-comes k place new (mark ∷ up) [] of asc is marked off = absurd is
up-comes k zero new (true ∷ up) (row ∷ places) of asc is marked off = absurd cc
up-comes k zero new (false ∷ up) (row ∷ places) of asc is marked off =
    let same : row.neighbour ≡ new.neighbour = is.0 ∙ sym of in
    sym (with_row-first new (rows_up up places)
    (all-up (λ (m : ℕ). new.neighbour < m) up places (subst (λ (n : ℕ). AllByRecursion (λ (m : ℕ). n < m) (neighbours_of places)) same asc.0)))
up-comes k (suc place) new (true ∷ up) (row ∷ places) of asc is marked off =
    let above : row.neighbour < new.neighbour = subst (λ (n : ℕ). row.neighbour < n) (sym of) (only-has (λ (m : ℕ). row.neighbour < m) k place (neighbours_of places) is.1 asc.0) in
    ap (λ (xs : List Row). row ∷ xs) (up-comes k place new up places of asc.1 is.1 marked.1 off)
    ∙ sym (ap (λ b. if b then new ∷ row ∷ rows_up up places else row ∷ with_row new (rows_up up places)) (not_below new.neighbour row.neighbour above))
up-comes k (suc place) new (false ∷ up) (row ∷ places) of asc is marked off = up-comes k place new up places of asc.1 is.1 marked.1 off

-- ---- the places of a new view

pub marked-first : (ns : List ℕ) → AreMarked (replicate (length ns) false) (map empty_place ns)
marked-first [] = tt
marked-first (n ∷ ns) = ((λ (off : false ≡ false). refl), marked-first ns)

pub rows-first : (ns : List ℕ) → rows_up (replicate (length ns) false) (map empty_place ns) ≡ []
rows-first [] = refl
rows-first (n ∷ ns) = rows-first ns

pub length-first : (ns : List ℕ) → length (map empty_place ns) ≡ length ns
length-first [] = refl
length-first (n ∷ ns) = ap suc (length-first ns)

pub numbers-first : (ns : List ℕ) → neighbours_of (map empty_place ns) ≡ ns
numbers-first [] = refl
numbers-first (n ∷ ns) = ap (λ (ms : List ℕ). n ∷ ms) (numbers-first ns)

-- ---- the rows read in a loop

up-append : (up : List Bool) (places : List Row) (mark : Bool) (row : Row) → length up ≡ length places
    → rows_up (up ++ mark ∷ []) (places ++ row ∷ []) ≡ rows_up up places ++ (if mark then row ∷ [] else [])
up-append [] [] true row e = refl
up-append [] [] false row e = refl
up-append [] (r ∷ places) mark row e = absurd (omega arith)
up-append (m ∷ up) [] mark row e = absurd (omega arith)
up-append (true ∷ up) (r ∷ places) mark row e = ap (λ (xs : List Row). r ∷ xs) (up-append up places mark row (omega arith))
up-append (false ∷ up) (r ∷ places) mark row e = up-append up places mark row (omega arith)

pub up-more : (up : List Bool) (places : List Row) (i : ℕ) (mark : Bool) (row : Row) → i < length up → i < length places → length (take i up) ≡ length (take i places)
    → mark ≡ slice_index_or up i mark → row ≡ slice_index_or places i row
    → rows_up (take (i + 1) up) (take (i + 1) places) ≡ rows_up (take i up) (take i places) ++ (if mark then row ∷ [] else [])
up-more up places i mark row within lt same marked read =
    let ups : take (i + 1) up ≡ take i up ++ mark ∷ [] = take_more up i mark within ∙ ap (λ (b : Bool). take i up ++ b ∷ []) (sym marked) in
    let rows : take (i + 1) places ≡ take i places ++ row ∷ [] = take_more places i row lt ∙ ap (λ (r : Row). take i places ++ r ∷ []) (sym read) in
    ap (λ (xs : List Bool). rows_up xs (take (i + 1) places)) ups ∙ ap (rows_up (take i up ++ mark ∷ [])) rows ∙ up-append (take i up) (take i places) mark row same
