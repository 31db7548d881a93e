-- Rows of a seat, by place and by neighbour.
use Rattle.std.proofs.Common.{◌≡◌, ℕ, zero, suc, ◌<◌, ◌≤◌, ◌+◌, ◌*◌, Bool, true, false, true≢false, ◌&&◌, ◌||◌, ne_eqb, List, [], ◌∷◌, ◌++◌, map, length, set, get_or, slice_get, find, option_map, Option, Some, None, if◌then◌else◌, refl, sym, ap, ap₂, ◌∙◌, subst, append_assoc, arith}
use mathlib.Core.Path.{fun_ext}
use Rattle.std.specs.Prelude.{MatchOption, is_none}
use Rattle.tora_arq.specs.declared.life.Life.{Life}
use Rattle.tora_core.specs.CoreRun.{CoreView}
use Rattle.std.specs.List.{AllByRecursion}
use Rattle.tora_core.specs.Kept.{IsCore}
use Rattle.tora_core.specs.Numbers.{has_number, has_repeat, IsAscending}
use Rattle.tora_seat.specs.declared.rows.LinkRow.{LinkRow}
use Rattle.tora_seat.specs.Serving.{put_one, first_cut}
use Rattle.std.proofs.lemmas.Option.{slice_get-map, slice_get_within, get_or_from_slice_get}
use Rattle.tora_seat.specs.Bodies.{IsSeat}
use Rattle.tora_seat.specs.Serving.{Offer, with_current, with_pending}
use Rattle.tora_seat.specs.Rows.{SeatView, serving_at, neighbours_of, current_of, pending_of, any_pending, is_cut, first_cut_of, new_row}
use Rattle.tora_seat.proofs.Places.{not_before, neighbours-append, current_there, pending_there, current_set, pending_set, current_stays, pending_stays}
use Rattle.tora_seat.proofs.Goings.{at_place}
use Rattle.tora_seat.proofs.Marks.{pending_kept}

-- the row at the place of a neighbour
pub row_at : (rows : List LinkRow) (place k : ℕ) (d : LinkRow) → slice_get (neighbours_of rows) place ≡ Some k → (place < length rows) × ((get_or rows place d).neighbour ≡ k)
row_at [] place k d e = absurd (cc)
row_at (row ∷ rows) zero k d e = (omega arith, cc)
row_at (row ∷ rows) (suc place) k d e = let h = row_at rows place k d e in (omega (arith, h.0), h.1)

off_of : (pre : List LinkRow) (row : LinkRow) (rest : List LinkRow) → has_repeat (neighbours_of (pre ++ row ∷ rest)) ≡ false → has_number row.neighbour (neighbours_of pre) ≡ false
off_of pre row rest h = not_before (neighbours_of pre) row.neighbour (neighbours_of rest) (ap has_repeat (sym (neighbours-append pre (row ∷ rest))) ∙ h)

-- ---- a row gets another current session, or no pending one

pub record IsSet (rows new : List LinkRow) (current pending : ℕ → Option Life) : Type 0 where
  pub same : neighbours_of new ≡ neighbours_of rows
  pub current_is : current ≡ current_of new
  pub pending_is : pending ≡ pending_of new

set_row : (rows : List LinkRow) (place k : ℕ) (d new : LinkRow) → has_repeat (neighbours_of rows) ≡ false → slice_get (neighbours_of rows) place ≡ Some k → new.neighbour ≡ (get_or rows place d).neighbour →
    (neighbours_of (set rows place new) ≡ neighbours_of rows) × (put_one (current_of rows) k new.current ≡ current_of (set rows place new)) × (put_one (pending_of rows) k new.pending ≡ pending_of (set rows place new))
set_row rows place k d new different is e =
    let a = row_at rows place k d is in
    at_place (λ xs i row ys. has_repeat (neighbours_of xs) ≡ false → row.neighbour ≡ k → new.neighbour ≡ row.neighbour →
    (neighbours_of ys ≡ neighbours_of xs) × (put_one (current_of xs) k new.current ≡ current_of ys) × (put_one (pending_of xs) k new.pending ≡ pending_of ys)) rows place d new a.0
    (λ pre row rest _ _ h n m. (
      neighbours-append pre (new ∷ rest) ∙ ap (λ j. neighbours_of pre ++ j ∷ neighbours_of rest) m ∙ sym (neighbours-append pre (row ∷ rest)),
      ap (λ j. put_one (current_of (pre ++ row ∷ rest)) j new.current) (sym n) ∙ current_set pre row new rest m (off_of pre row rest h),
      ap (λ j. put_one (pending_of (pre ++ row ∷ rest)) j new.pending) (sym n) ∙ pending_set pre row new rest m (off_of pre row rest h),
    ))
    different a.1 e

keep_row : (rows : List LinkRow) (place : ℕ) (d new : LinkRow) → place < length rows → new.neighbour ≡ (get_or rows place d).neighbour →
    (new.current ≡ (get_or rows place d).current → current_of rows ≡ current_of (set rows place new)) × (new.pending ≡ (get_or rows place d).pending → pending_of rows ≡ pending_of (set rows place new))
keep_row rows place d new lt =
    at_place (λ xs i row ys. new.neighbour ≡ row.neighbour → (new.current ≡ row.current → current_of xs ≡ current_of ys) × (new.pending ≡ row.pending → pending_of xs ≡ pending_of ys)) rows place d new lt
    (λ pre row rest _ _ m. ((λ c. fun_ext (current_stays pre row new rest m c)), (λ p. fun_ext (pending_stays pre row new rest m p))))

pub set_current_is : (rows : List LinkRow) (place k : ℕ) (row : LinkRow) (life : Option Life) → has_repeat (neighbours_of rows) ≡ false → slice_get (neighbours_of rows) place ≡ Some k → row ≡ get_or rows place row →
    IsSet rows (set rows place (record row { current = life })) (put_one (current_of rows) k life) (pending_of rows)
set_current_is rows place k row life different is e =
    let new : LinkRow = record row { current = life } in
    let a = set_row rows place k row new different is (ap (λ (r : LinkRow). r.neighbour) e) in
    let b = keep_row rows place row new (row_at rows place k row is).0 (ap (λ (r : LinkRow). r.neighbour) e) in
    record { same = a.0; current_is = a.1; pending_is = b.1 (ap (λ (r : LinkRow). r.pending) e) }

pub forget_pending_is : (rows : List LinkRow) (place k : ℕ) (row : LinkRow) (life : Option Life) → has_repeat (neighbours_of rows) ≡ false → slice_get (neighbours_of rows) place ≡ Some k → row ≡ get_or rows place row →
    IsSet rows (set rows place (record row { pending = life })) (current_of rows) (put_one (pending_of rows) k life)
forget_pending_is rows place k row life different is e =
    let new : LinkRow = record row { pending = life } in
    let a = set_row rows place k row new different is (ap (λ (r : LinkRow). r.neighbour) e) in
    let b = keep_row rows place row new (row_at rows place k row is).0 (ap (λ (r : LinkRow). r.neighbour) e) in
    record { same = a.0; current_is = b.0 (ap (λ (r : LinkRow). r.current) e); pending_is = a.2 }

-- ---- sessions by place

abbrev pub no_life : Option Life
no_life = None

-- the row at a place is the row of its neighbour
pub row_lives : (rows : List LinkRow) (place : ℕ) (row : LinkRow) → has_repeat (neighbours_of rows) ≡ false → slice_get rows place ≡ Some row →
    (slice_get (neighbours_of rows) place ≡ Some row.neighbour) × (current_of rows row.neighbour ≡ row.current) × (pending_of rows row.neighbour ≡ row.pending)
row_lives rows place row different is =
    let lt = slice_get_within rows place row is in
    let e : get_or rows place row ≡ row = get_or_from_slice_get rows place row row is in
    let h = at_place (λ xs i r ys. has_repeat (neighbours_of xs) ≡ false → (current_of xs r.neighbour ≡ r.current) × (pending_of xs r.neighbour ≡ r.pending)) rows place row row lt
    (λ pre r rest _ _ d. (current_there pre r rest (off_of pre r rest d), pending_there pre r rest (off_of pre r rest d))) different in
    let P : LinkRow → Type 0 = λ r. (current_of rows r.neighbour ≡ r.current) × (pending_of rows r.neighbour ≡ r.pending) in
    let q = subst P e h in
    (slice_get-map (λ (r : LinkRow). r.neighbour) rows place ∙ ap (option_map (λ (r : LinkRow). r.neighbour)) is, q.0, q.1)

module _ (value : LinkRow → Option Life) (of : List LinkRow → ℕ → Option Life) where
  live_some : (rows : List LinkRow) (ks : List ℕ) (place : ℕ) (row : LinkRow) → neighbours_of rows ≡ ks → slice_get (neighbours_of rows) place ≡ Some row.neighbour → of rows row.neighbour ≡ value row →
      MatchOption (slice_get ks place) (value row ≡ None) (λ k. value row ≡ of rows k)
  live_some rows ks place row e a b = subst (λ o. MatchOption o (value row ≡ None) (λ k. value row ≡ of rows k)) (sym a ∙ ap (λ xs. slice_get xs place) e) (sym b)

  live_none : (rows : List LinkRow) (ks : List ℕ) (place : ℕ) → neighbours_of rows ≡ ks → slice_get rows place ≡ None → MatchOption (slice_get ks place) (no_life ≡ None) (λ k. None ≡ of rows k)
  live_none rows ks place e a =
      subst (λ o. MatchOption o (no_life ≡ None) (λ k. None ≡ of rows k)) (sym (sym (ap (λ xs. slice_get xs place) e) ∙ slice_get-map (λ (r : LinkRow). r.neighbour) rows place ∙ ap (option_map (λ (r : LinkRow). r.neighbour)) a)) refl

pub current_some : (rows : List LinkRow) (s : SeatView) (place : ℕ) (row : LinkRow) (room : ℕ) {p q : Bool} → IsSeat s.core s.rows room p q → rows ≡ s.rows → slice_get rows place ≡ Some row → MatchOption (slice_get s.core.neighbours place) (row.current ≡ None) (λ k. row.current ≡ current_of s.rows k)
current_some rows s place row room h e is =
    let q = row_lives s.rows place row (ap has_repeat h.neighbours ∙ h.different) (ap (λ xs. slice_get xs place) (sym e) ∙ is) in
    live_some (λ r. r.current) current_of s.rows s.core.neighbours place row h.neighbours q.0 q.1

pub pending_some : (rows : List LinkRow) (s : SeatView) (place : ℕ) (row : LinkRow) (room : ℕ) {p q : Bool} → IsSeat s.core s.rows room p q → rows ≡ s.rows → slice_get rows place ≡ Some row → MatchOption (slice_get s.core.neighbours place) (row.pending ≡ None) (λ k. row.pending ≡ pending_of s.rows k)
pending_some rows s place row room h e is =
    let q = row_lives s.rows place row (ap has_repeat h.neighbours ∙ h.different) (ap (λ xs. slice_get xs place) (sym e) ∙ is) in
    live_some (λ r. r.pending) pending_of s.rows s.core.neighbours place row h.neighbours q.0 q.2

pub current_none : (rows : List LinkRow) (s : SeatView) (place : ℕ) (room : ℕ) {p q : Bool} → IsSeat s.core s.rows room p q → rows ≡ s.rows → slice_get rows place ≡ None → MatchOption (slice_get s.core.neighbours place) (no_life ≡ None) (λ k. None ≡ current_of s.rows k)
current_none rows s place room h e is = live_none (λ r. r.current) current_of s.rows s.core.neighbours place h.neighbours (ap (λ xs. slice_get xs place) (sym e) ∙ is)

pub pending_none : (rows : List LinkRow) (s : SeatView) (place : ℕ) (room : ℕ) {p q : Bool} → IsSeat s.core s.rows room p q → rows ≡ s.rows → slice_get rows place ≡ None → MatchOption (slice_get s.core.neighbours place) (no_life ≡ None) (λ k. None ≡ pending_of s.rows k)
pending_none rows s place room h e is = live_none (λ r. r.pending) pending_of s.rows s.core.neighbours place h.neighbours (ap (λ xs. slice_get xs place) (sym e) ∙ is)

-- the first neighbour whose link has to go down, by rows
cut_from : (core : CoreView) (pending : ℕ → Option Life) (pre rows : List LinkRow) → has_repeat (neighbours_of (pre ++ rows)) ≡ false →
    first_cut_of core rows ≡ first_cut (record { core = core; current = current_of (pre ++ rows); pending = pending }) (neighbours_of rows)
cut_from core pending pre [] h = refl
cut_from core pending pre (row ∷ rows) h =
    let more = cut_from core pending (pre ++ row ∷ []) rows (ap (λ xs. has_repeat (neighbours_of xs)) (append_assoc pre (row ∷ []) rows) ∙ h) in
    go (has_number row.neighbour core.up && is_none row.current)
    ∙ ap (λ (o : Option ℕ). if has_number row.neighbour core.up && is_none row.current then Some row.neighbour else o)
    (more ∙ ap (λ xs. first_cut (record { core = core; current = current_of xs; pending = pending }) (neighbours_of rows)) (append_assoc pre (row ∷ []) rows))
    ∙ ap (λ l. if has_number row.neighbour core.up && is_none l then Some row.neighbour else first_cut (record { core = core; current = current_of (pre ++ row ∷ rows); pending = pending }) (neighbours_of rows)) (sym (current_there pre row rows (off_of pre row rows h)))
  where
    go : (b : Bool) → option_map (λ (r : LinkRow). r.neighbour) (if b then Some row else find (is_cut core) rows) ≡ (if b then Some row.neighbour else first_cut_of core rows)
    go true = refl
    go false = refl

pub cut_is : (core : CoreView) (rows : List LinkRow) → has_repeat (neighbours_of rows) ≡ false → first_cut_of core rows ≡ first_cut (record { core = core; current = current_of rows; pending = pending_of rows }) (neighbours_of rows)
cut_is core rows h = cut_from core (pending_of rows) [] rows h

-- ---- a seat whose row was changed

pub set_seat : (s t : SeatView) (place k room : ℕ) (row : LinkRow) (life : Option Life) {p q : Bool} → s ≡ t → IsSeat s.core s.rows room p q → slice_get t.core.neighbours place ≡ Some k → row ≡ get_or s.rows place row →
    IsSet s.rows (set s.rows place (record row { current = life })) (put_one (current_of s.rows) k life) (pending_of s.rows)
set_seat s t place k room row life e h is at =
    set_current_is s.rows place k row life (ap has_repeat h.neighbours ∙ h.different) (ap (λ xs. slice_get xs place) h.neighbours ∙ ap (λ (x : SeatView). slice_get x.core.neighbours place) e ∙ is) at

pub forget_seat : (s t : SeatView) (place k room : ℕ) (row : LinkRow) (life : Option Life) {p q : Bool} → s ≡ t → IsSeat s.core s.rows room p q → slice_get t.core.neighbours place ≡ Some k → row ≡ get_or s.rows place row →
    IsSet s.rows (set s.rows place (record row { pending = life })) (current_of s.rows) (put_one (pending_of s.rows) k life)
forget_seat s t place k room row life e h is at =
    forget_pending_is s.rows place k row life (ap has_repeat h.neighbours ∙ h.different) (ap (λ xs. slice_get xs place) h.neighbours ∙ ap (λ (x : SeatView). slice_get x.core.neighbours place) e ∙ is) at

pub seat_set : (core : CoreView) (rows new : List LinkRow) (room : ℕ) (f g : ℕ → Option Life) (mark : Bool) {p q : Bool} → IsSeat core rows room p q → IsSet rows new f g → (mark ≡ false → any_pending new ≡ false) → IsSeat core new room mark true
seat_set core rows new room f g mark h q none = record { neighbours = q.same ∙ h.neighbours; different = h.different; has_room = h.has_room; none_pending = none; none_cut = λ e. absurd (true≢false e) }

-- a new current session does not change what is pending
pub set_pending : (s t : SeatView) (place k room : ℕ) (row : LinkRow) (life : Option Life) {p q : Bool} → s ≡ t → IsSeat s.core s.rows room p q → slice_get t.core.neighbours place ≡ Some k → row ≡ get_or s.rows place row →
    any_pending (set s.rows place (record row { current = life })) ≡ any_pending s.rows
set_pending s t place k room row life e h is at =
    let lt = (row_at s.rows place k row (ap (λ xs. slice_get xs place) h.neighbours ∙ ap (λ (x : SeatView). slice_get x.core.neighbours place) e ∙ is)).0 in
    pending_kept s.rows place row (record row { current = life }) lt (ap (λ (r : LinkRow). r.pending) at)

pub set_serves : (s t : SeatView) (new : List LinkRow) (k : ℕ) (life : Option Life) → s ≡ t → IsSet s.rows new (put_one (current_of s.rows) k life) (pending_of s.rows) → (now : ℕ) (before : List Offer) →
    with_current (serving_at now t before) k life ≡ serving_at now (record s { rows = new }) before
set_serves s t new k life e q now before =
    subst (λ (x : SeatView). with_current (serving_at now x before) k life ≡ serving_at now (record s { rows = new }) before) e
    (ap₂ (λ (f g : ℕ → Option Life). record (serving_at now s before) { seat = record { core = s.core; current = f; pending = g } }) q.current_is q.pending_is)

pub forget_serves : (s t : SeatView) (new : List LinkRow) (k : ℕ) (life : Option Life) → s ≡ t → IsSet s.rows new (current_of s.rows) (put_one (pending_of s.rows) k life) → (now : ℕ) (before : List Offer) →
    with_pending (serving_at now t before) k life ≡ serving_at now (record s { rows = new }) before
forget_serves s t new k life e q now before =
    subst (λ (x : SeatView). with_pending (serving_at now x before) k life ≡ serving_at now (record s { rows = new }) before) e
    (ap₂ (λ (f g : ℕ → Option Life). record (serving_at now s before) { seat = record { core = s.core; current = f; pending = g } }) q.current_is q.pending_is)

-- ---- a new seat

new_neighbours : (ks : List ℕ) → neighbours_of (map new_row ks) ≡ ks
new_neighbours [] = refl
new_neighbours (k ∷ ks) = ap (λ js. k ∷ js) (new_neighbours ks)

-- an ascending list has no repeat
none_below : (n : ℕ) (ks : List ℕ) → AllByRecursion (λ (m : ℕ). n < m) ks → has_number n ks ≡ false
none_below n [] h = refl
none_below n (k ∷ ks) h = ap (λ b. b || has_number n ks) (ne_eqb k n (λ e. absurd (omega (arith, e, h.0)))) ∙ none_below n ks h.1

pub ascending_differ : (ks : List ℕ) → IsAscending ks → has_repeat ks ≡ false
ascending_differ [] h = refl
ascending_differ (k ∷ ks) h = ap (λ b. b || has_repeat ks) (none_below k ks h.0) ∙ ascending_differ ks h.1

pub new_seat : (core : CoreView) (rows : List LinkRow) (room : ℕ) → IsCore core → rows ≡ map new_row core.neighbours → 2 * (length core.neighbours + 1) ≤ room → IsSeat core rows room true true
new_seat core rows room kept e enough = record { neighbours = ap neighbours_of e ∙ new_neighbours core.neighbours; different = ascending_differ core.neighbours kept.ascending_neighbours; has_room = enough; none_pending = λ e. absurd (true≢false e); none_cut = λ e. absurd (true≢false e) }
