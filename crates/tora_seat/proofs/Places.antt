-- Rows of different neighbours.
use Rattle.std.proofs.Common.{◌≡◌, ℕ, suc, Bool, true, false, ◌||◌, ◌⊎◌, inl, inr, List, [], ◌∷◌, ◌++◌, length, None, nat_eq, if◌then◌else◌, refl, sym, ap, ap₂, ◌∙◌, eqb-true, eq-eqb, ne_eqb}
use Rattle.std.proofs.lemmas.Bool.{cases_Bool, eqb-false, or_parts}
use mathlib.Core.Path.{fun_ext}
use Rattle.tora_core.specs.Numbers.{has_number, has_repeat}
use Rattle.tora_seat.specs.declared.rows.LinkRow.{LinkRow}
use Rattle.tora_seat.specs.Serving.{put_one}
use Rattle.tora_seat.specs.Offers.{place_of}
use Rattle.tora_seat.specs.Rows.{neighbours_of, current_of, pending_of}

pub turned : (a b : ℕ) → nat_eq a b ≡ false → nat_eq b a ≡ false
turned a b e = ne_eqb b a (λ q. eqb-false a b e (sym q))

-- a number that is not among the ones before it differs from each of them
has_none : (n k : ℕ) (xs ys : List ℕ) → has_number n (xs ++ k ∷ ys) ≡ false → nat_eq k n ≡ false
has_none n k [] ys h = (or_parts (nat_eq k n) (has_number n ys) h).0
has_none n k (x ∷ xs) ys h = has_none n k xs ys (or_parts (nat_eq x n) (has_number n (xs ++ k ∷ ys)) h).1

pub not_before : (xs : List ℕ) (k : ℕ) (ys : List ℕ) → has_repeat (xs ++ k ∷ ys) ≡ false → has_number k xs ≡ false
not_before [] k ys h = refl
not_before (x ∷ xs) k ys h =
    let q = or_parts (has_number x (xs ++ k ∷ ys)) (has_repeat (xs ++ k ∷ ys)) h in
    ap (λ b. b || has_number k xs) (turned k x (has_none x k xs ys q.0)) ∙ not_before xs k ys q.1

pub place_there : (xs : List ℕ) (k : ℕ) (ys : List ℕ) → has_number k xs ≡ false → place_of k (xs ++ k ∷ ys) ≡ length xs
place_there [] k ys h = ap (λ (b : Bool). if b then 0 else suc (place_of k ys)) (eq-eqb k k refl)
place_there (x ∷ xs) k ys h =
    let q = or_parts (nat_eq x k) (has_number k xs) h in
    ap (λ (b : Bool). if b then 0 else suc (place_of k (xs ++ k ∷ ys))) q.0 ∙ ap suc (place_there xs k ys q.1)

pub neighbours-append : (xs ys : List LinkRow) → neighbours_of (xs ++ ys) ≡ neighbours_of xs ++ neighbours_of ys
neighbours-append [] ys = refl
neighbours-append (x ∷ xs) ys = ap (λ ns. x.neighbour ∷ ns) (neighbours-append xs ys)

pub neighbours-length : (rows : List LinkRow) → length (neighbours_of rows) ≡ length rows
neighbours-length [] = refl
neighbours-length (row ∷ rows) = ap suc (neighbours-length rows)

module _ {V : Type 0} (value : LinkRow → V) (none : V) where
  -- the value of the first row of a neighbour
  abbrev pub value_of : List LinkRow → ℕ → V
  value_of [] k = none
  value_of (row ∷ rows) k = if nat_eq k row.neighbour then value row else value_of rows k

  -- the value of a row, if no earlier row has the same neighbour
  pub value_there : (before : List LinkRow) (row : LinkRow) (rows : List LinkRow) → has_number row.neighbour (neighbours_of before) ≡ false → value_of (before ++ row ∷ rows) row.neighbour ≡ value row
  value_there [] row rows h = ap (λ (b : Bool). if b then value row else value_of rows row.neighbour) (eq-eqb row.neighbour row.neighbour refl)
  value_there (x ∷ before) row rows h =
      let q = or_parts (nat_eq x.neighbour row.neighbour) (has_number row.neighbour (neighbours_of before)) h in
      ap (λ (b : Bool). if b then value x else value_of (before ++ row ∷ rows) row.neighbour) (turned x.neighbour row.neighbour q.0) ∙ value_there before row rows q.1

  -- another row at the same place
  pub value_set : (before : List LinkRow) (row new : LinkRow) (rows : List LinkRow) → new.neighbour ≡ row.neighbour → has_number row.neighbour (neighbours_of before) ≡ false → (k : ℕ) →
      put_one (value_of (before ++ row ∷ rows)) row.neighbour (value new) k ≡ value_of (before ++ new ∷ rows) k
  value_set [] row new rows e h k = go (nat_eq k row.neighbour) ∙ ap (λ x. if nat_eq k x then value new else value_of rows k) (sym e)
    where
      go : (b : Bool) → (if b then value new else (if b then value row else value_of rows k)) ≡ (if b then value new else value_of rows k)
      go true = refl
      go false = refl
  value_set (x ∷ before) row new rows e h k =
      let q = or_parts (nat_eq x.neighbour row.neighbour) (has_number row.neighbour (neighbours_of before)) h in
      go q.0 (cases_Bool (nat_eq k row.neighbour)) ∙ ap (λ r. if nat_eq k x.neighbour then value x else r) (value_set before row new rows e q.1 k)
    where
      go : nat_eq x.neighbour row.neighbour ≡ false → (nat_eq k row.neighbour ≡ true) ⊎ (nat_eq k row.neighbour ≡ false) →
          (if nat_eq k row.neighbour then value new else (if nat_eq k x.neighbour then value x else value_of (before ++ row ∷ rows) k)) ≡
          (if nat_eq k x.neighbour then value x else (if nat_eq k row.neighbour then value new else value_of (before ++ row ∷ rows) k))
      go off (inl t) =
          let s : nat_eq k x.neighbour ≡ false = ap (λ y. nat_eq y x.neighbour) (eqb-true k row.neighbour t) ∙ turned x.neighbour row.neighbour off in
          ap (λ b. if b then value new else (if nat_eq k x.neighbour then value x else value_of (before ++ row ∷ rows) k)) t
          ∙ sym (ap (λ b. if b then value x else (if nat_eq k row.neighbour then value new else value_of (before ++ row ∷ rows) k)) s ∙ ap (λ b. if b then value new else value_of (before ++ row ∷ rows) k) t)
      go off (inr t) =
          ap (λ b. if b then value new else (if nat_eq k x.neighbour then value x else value_of (before ++ row ∷ rows) k)) t
          ∙ sym (ap (λ b. if nat_eq k x.neighbour then value x else (if b then value new else value_of (before ++ row ∷ rows) k)) t)

current_value : (rows : List LinkRow) (k : ℕ) → current_of rows k ≡ value_of (λ (r : LinkRow). r.current) None rows k
current_value [] k = refl
current_value (r ∷ rows) k = ap (λ x. if nat_eq k r.neighbour then r.current else x) (current_value rows k)

pending_value : (rows : List LinkRow) (k : ℕ) → pending_of rows k ≡ value_of (λ (r : LinkRow). r.pending) None rows k
pending_value [] k = refl
pending_value (r ∷ rows) k = ap (λ x. if nat_eq k r.neighbour then r.pending else x) (pending_value rows k)

pub current_there : (before : List LinkRow) (row : LinkRow) (rows : List LinkRow) → has_number row.neighbour (neighbours_of before) ≡ false → current_of (before ++ row ∷ rows) row.neighbour ≡ row.current
current_there before row rows h = current_value (before ++ row ∷ rows) row.neighbour ∙ value_there (λ (r : LinkRow). r.current) None before row rows h

pub pending_there : (before : List LinkRow) (row : LinkRow) (rows : List LinkRow) → has_number row.neighbour (neighbours_of before) ≡ false → pending_of (before ++ row ∷ rows) row.neighbour ≡ row.pending
pending_there before row rows h = pending_value (before ++ row ∷ rows) row.neighbour ∙ value_there (λ (r : LinkRow). r.pending) None before row rows h

pub current_set : (before : List LinkRow) (row new : LinkRow) (rows : List LinkRow) → new.neighbour ≡ row.neighbour → has_number row.neighbour (neighbours_of before) ≡ false → put_one (current_of (before ++ row ∷ rows)) row.neighbour new.current ≡ current_of (before ++ new ∷ rows)
current_set before row new rows e h = fun_ext (λ k. ap (λ x. if nat_eq k row.neighbour then new.current else x) (current_value (before ++ row ∷ rows) k) ∙ value_set (λ (r : LinkRow). r.current) None before row new rows e h k ∙ sym (current_value (before ++ new ∷ rows) k))

pub pending_set : (before : List LinkRow) (row new : LinkRow) (rows : List LinkRow) → new.neighbour ≡ row.neighbour → has_number row.neighbour (neighbours_of before) ≡ false → put_one (pending_of (before ++ row ∷ rows)) row.neighbour new.pending ≡ pending_of (before ++ new ∷ rows)
pending_set before row new rows e h = fun_ext (λ k. ap (λ x. if nat_eq k row.neighbour then new.pending else x) (pending_value (before ++ row ∷ rows) k) ∙ value_set (λ (r : LinkRow). r.pending) None before row new rows e h k ∙ sym (pending_value (before ++ new ∷ rows) k))

-- a change that keeps the current session of a row keeps all current sessions
pub current_stays : (before : List LinkRow) (row new : LinkRow) (rows : List LinkRow) → new.neighbour ≡ row.neighbour → new.current ≡ row.current → (k : ℕ) → current_of (before ++ row ∷ rows) k ≡ current_of (before ++ new ∷ rows) k
current_stays [] row new rows e c k = ap₂ (λ n l. if nat_eq k n then l else current_of rows k) (sym e) (sym c)
current_stays (x ∷ before) row new rows e c k = ap (λ l. if nat_eq k x.neighbour then x.current else l) (current_stays before row new rows e c k)

pub pending_stays : (before : List LinkRow) (row new : LinkRow) (rows : List LinkRow) → new.neighbour ≡ row.neighbour → new.pending ≡ row.pending → (k : ℕ) → pending_of (before ++ row ∷ rows) k ≡ pending_of (before ++ new ∷ rows) k
pending_stays [] row new rows e c k = ap₂ (λ n l. if nat_eq k n then l else pending_of rows k) (sym e) (sym c)
pending_stays (x ∷ before) row new rows e c k = ap (λ l. if nat_eq k x.neighbour then x.pending else l) (pending_stays before row new rows e c k)
