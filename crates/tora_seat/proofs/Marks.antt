-- The marks of a seat: no cut is pending, and no link is up without a current session.
use Rattle.std.proofs.Common.{◌≡◌, ℕ, zero, suc, ◌+◌, ◌<◌, Bool, true, false, true≢false, not, ◌&&◌, ◌||◌, ◌⊎◌, inl, inr, List, [], ◌∷◌, take, length, set, get_or, Option, Some, None, nat_eq, if◌then◌else◌, refl, sym, ap, ◌∙◌, subst, arith, eqb-true, eq-eqb}
use Rattle.std.proofs.lemmas.Bool.{cond_both, cases_Bool, or_parts, false≢true}
use Rattle.std.specs.Prelude.{is_none, is_some}
use Rattle.tora_arq.specs.declared.life.Life.{Life}
use Rattle.tora_core.specs.declared.Input.{Input}
use Rattle.tora_core.specs.declared.Input.TheVariants as In
use Rattle.tora_core.specs.Numbers.{has_number}
use Rattle.tora_core.specs.CoreRun.{CoreView, refusal_of, core_after, up_after}
use Rattle.tora_seat.specs.declared.rows.LinkRow.{LinkRow}
use Rattle.tora_seat.specs.Serving.{SeatState, Serving, Answers, put_one, first_cut, after_cut_tried, after_cuts_tried}
use Rattle.tora_seat.specs.Rows.{SeatView, current_of, pending_of, any_pending, lives}
use Rattle.tora_seat.specs.Bodies.{EndsLife, EndsLives, IsSettled, StepsQuietly}
use Rattle.tora_seat.proofs.Places.{turned}
use Rattle.tora_seat.proofs.Histories.{or_false}
use Rattle.tora_seat.proofs.Ups.{up_same, up_gone, core_accepted}

-- ---- pending cuts

or_assoc : (a b c : Bool) → (a || (b || c)) ≡ ((a || b) || c)
or_assoc true b c = refl
or_assoc false b c = refl

-- another row with the same pending session at this place
pub pending_kept : (rows : List LinkRow) (i : ℕ) (d new : LinkRow) → i < length rows → new.pending ≡ (get_or rows i d).pending → any_pending (set rows i new) ≡ any_pending rows
pending_kept [] i d new lt e = absurd (omega (arith, lt))
pending_kept (row ∷ rows) zero d new lt e = ap (λ p. is_some p || any_pending rows) e
pending_kept (row ∷ rows) (suc i) d new lt e = ap (λ b. is_some row.pending || b) (pending_kept rows i d new (omega (arith, lt)) e)

life-none : (o : Option Life) → is_some o ≡ false → o ≡ None
life-none None e = refl
life-none (Some life) e = absurd (true≢false e)

pub none_pending : (rows : List LinkRow) → any_pending rows ≡ false → (k : ℕ) → pending_of rows k ≡ None
none_pending [] h k = refl
none_pending (row ∷ rows) h k =
    let q = or_parts (is_some row.pending) (any_pending rows) h in
    cond_both (nat_eq k row.neighbour) row.pending (pending_of rows k) (λ o. o ≡ None) (λ _. life-none row.pending q.0) (λ _. none_pending rows q.1 k)

-- if no cut is pending, none is offered
pub cuts_none : (answers : Answers) (ks : List ℕ) (v : Serving) → ((k : ℕ) → v.seat.pending k ≡ None) → after_cuts_tried answers ks v ≡ v
unfolding after_cuts_tried
cuts_none answers [] v h = refl
cuts_none answers (k ∷ ks) v h = ap (λ o. after_cuts_tried answers ks (after_cut_tried answers v k o)) (h k) ∙ cuts_none answers ks v h

-- after one more row
pub left_more : (rows : List LinkRow) (i : ℕ) (new : LinkRow) → i < length rows → any_pending (take (suc i) (set rows i new)) ≡ (any_pending (take i rows) || is_some new.pending)
left_more [] i new lt = absurd (omega (arith, lt))
left_more (row ∷ rows) zero new lt = or_false (is_some new.pending)
left_more (row ∷ rows) (suc i) new lt = ap (λ b. is_some row.pending || b) (left_more rows i new (omega (arith, lt))) ∙ or_assoc (is_some row.pending) (any_pending (take i rows)) (is_some new.pending)

pub left_all : (rows : List LinkRow) → any_pending (take (length rows) rows) ≡ any_pending rows
left_all [] = refl
left_all (row ∷ rows) = ap (λ b. is_some row.pending || b) (left_all rows)

-- ---- sessions that are over

pub ends_more : (a b : Bool) (x y z : List LinkRow) → EndsLives a x y → EndsLives b y z → EndsLives (a || b) x z
ends_more false false x y z p q = q ∙ p
ends_more false true x y z p q = subst (λ w. lives z < lives w) p q
ends_more true false x y z p q = subst (λ w. lives w < lives x) (sym q) p
ends_more true true x y z p q = omega (arith, p, q)

set_same : (rows : List LinkRow) (i : ℕ) (d new : LinkRow) → i < length rows → new ≡ get_or rows i d → set rows i new ≡ rows
set_same [] i d new lt e = absurd (omega (arith, lt))
set_same (row ∷ rows) zero d new lt e = ap (λ r. r ∷ rows) e
set_same (row ∷ rows) (suc i) d new lt e = ap (λ rs. row ∷ rs) (set_same rows i d new (omega (arith, lt)) e)

set_less : (rows : List LinkRow) (i : ℕ) (d new : LinkRow) → i < length rows → is_some (get_or rows i d).current ≡ true → is_some new.current ≡ false → lives (set rows i new) < lives rows
set_less [] i d new lt a b = absurd (omega (arith, lt))
set_less (row ∷ rows) zero d new lt a b =
    let one : 1 + lives rows ≡ suc (lives rows) = omega arith in
    let p : lives (row ∷ rows) ≡ suc (lives rows) = ap (λ (t : Bool). (if t then 1 else 0) + lives rows) a ∙ one in
    let none : 0 + lives rows ≡ lives rows = omega arith in
    let q : lives (new ∷ rows) ≡ lives rows = ap (λ (t : Bool). (if t then 1 else 0) + lives rows) b ∙ none in omega (arith, p, q)
set_less (row ∷ rows) (suc i) d new lt a b = let h = set_less rows i d new (omega (arith, lt)) a b in omega (arith, h)

pub ends_row : (b : Bool) (rows : List LinkRow) (i : ℕ) (d new : LinkRow) → i < length rows → EndsLife b (get_or rows i d) new → EndsLives b rows (set rows i new)
ends_row false rows i d new lt h = set_same rows i d new lt h
ends_row true rows i d new lt h = set_less rows i d new lt h.0 h.1

-- ---- links that are up without a current session

-- if no link has to go down now, and none has to go down later that does not have to go down now, then none has to go
-- down later
settled_from : (s t : SeatState) (ks : List ℕ) → ((j : ℕ) → (has_number j s.core.up && is_none (s.current j)) ≡ false → (has_number j t.core.up && is_none (t.current j)) ≡ false) → first_cut s ks ≡ None → first_cut t ks ≡ None
settled_from s t [] f e = refl
settled_from s t (k ∷ ks) f e = go (cases_Bool (has_number k s.core.up && is_none (s.current k))) (λ q. settled_from s t ks f q)
  where
    go : ((has_number k s.core.up && is_none (s.current k)) ≡ true) ⊎ ((has_number k s.core.up && is_none (s.current k)) ≡ false) → (first_cut s ks ≡ None → first_cut t ks ≡ None) → first_cut t (k ∷ ks) ≡ None
    go (inl b) again = absurd (let q : Some k ≡ None = sym (ap (λ x. if x then Some k else first_cut s ks) b) ∙ e in cc)
    go (inr b) again = ap (λ x. if x then Some k else first_cut t ks) (f k b) ∙ again (sym (ap (λ x. if x then Some k else first_cut s ks) b) ∙ e)

and_false : (a : Bool) → (a && false) ≡ false
and_false true = refl
and_false false = refl

-- the state in which no link has to go down
abbrev state : CoreView → List ℕ → (ℕ → Option Life) → (ℕ → Option Life) → SeatState
state core up current pending = record { core = record core { up = up }; current = current; pending = pending }

-- the session of a neighbour is over, and its link goes down
pub settled_down : (s new : SeatView) (k : ℕ) → new ≡ record s { rows = new.rows } → put_one (current_of s.rows) k None ≡ current_of new.rows → IsSettled s.core s.core.up s.rows → IsSettled new.core (up_after new.core.up (In.LinkDown k)) new.rows
settled_down s new k rest set h =
    subst (λ (c : CoreView). IsSettled c (up_after c.up (In.LinkDown k)) new.rows) (sym (ap (λ (x : SeatView). x.core) rest))
    (subst (λ f. first_cut (state s.core (up_after s.core.up (In.LinkDown k)) f (pending_of new.rows)) s.core.neighbours ≡ None) set
    (settled_from (state s.core s.core.up (current_of s.rows) (pending_of s.rows)) (state s.core (up_after s.core.up (In.LinkDown k)) (put_one (current_of s.rows) k None) (pending_of new.rows)) s.core.neighbours
    (λ j off. at j off (cases_Bool (nat_eq k j))) h))
  where
    at : (j : ℕ) → (has_number j s.core.up && is_none (current_of s.rows j)) ≡ false → (nat_eq k j ≡ true) ⊎ (nat_eq k j ≡ false) →
        (has_number j (up_after s.core.up (In.LinkDown k)) && is_none (put_one (current_of s.rows) k None j)) ≡ false
    at j off (inl e) = ap (λ b. b && is_none (put_one (current_of s.rows) k None j)) (up_gone j s.core.up (In.LinkDown k) e)
    at j off (inr e) =
        ap (λ b. b && is_none (put_one (current_of s.rows) k None j)) (up_same j s.core.up (In.LinkDown k) refl e)
        ∙ ap (λ b. has_number j s.core.up && is_none (if b then None else current_of s.rows j)) (turned k j e) ∙ off

-- a session of a neighbour begins, and its link comes up
pub settled_up : (s new : SeatView) (k : ℕ) (life : Life) → new ≡ record s { rows = new.rows } → put_one (current_of s.rows) k (Some life) ≡ current_of new.rows → IsSettled s.core s.core.up s.rows → IsSettled new.core (up_after new.core.up (In.LinkUp k)) new.rows
settled_up s new k life rest set h =
    subst (λ (c : CoreView). IsSettled c (up_after c.up (In.LinkUp k)) new.rows) (sym (ap (λ (x : SeatView). x.core) rest))
    (subst (λ f. first_cut (state s.core (up_after s.core.up (In.LinkUp k)) f (pending_of new.rows)) s.core.neighbours ≡ None) set
    (settled_from (state s.core s.core.up (current_of s.rows) (pending_of s.rows)) (state s.core (up_after s.core.up (In.LinkUp k)) (put_one (current_of s.rows) k (Some life)) (pending_of new.rows)) s.core.neighbours
    (λ j off. at j off (cases_Bool (nat_eq k j))) h))
  where
    at : (j : ℕ) → (has_number j s.core.up && is_none (current_of s.rows j)) ≡ false → (nat_eq k j ≡ true) ⊎ (nat_eq k j ≡ false) →
        (has_number j (up_after s.core.up (In.LinkUp k)) && is_none (put_one (current_of s.rows) k (Some life) j)) ≡ false
    at j off (inl e) =
        ap (λ b. has_number j (up_after s.core.up (In.LinkUp k)) && is_none (if b then Some life else current_of s.rows j)) (eq-eqb j k (sym (eqb-true k j e)))
        ∙ and_false (has_number j (up_after s.core.up (In.LinkUp k)))
    at j off (inr e) =
        ap (λ b. b && is_none (put_one (current_of s.rows) k (Some life) j)) (up_same j s.core.up (In.LinkUp k) e refl)
        ∙ ap (λ b. has_number j s.core.up && is_none (if b then Some life else current_of s.rows j)) (turned k j e) ∙ off

-- facts about an input that the core accepted
pub steps_quietly : (over : Bool) (input : Input) (now : ℕ) (s t : SeatView) (core : CoreView) (given rows new : List LinkRow) (inputs : List Input) → s ≡ t → refusal_of s.core input ≡ None → core ≡ core_after s.core input now → given ≡ s.rows → rows ≡ new →
    EndsLives over given new → StepsQuietly (not over) input t (record { core = core; rows = rows; inputs = inputs; stepped = s.stepped; answer = s.answer })
steps_quietly over input now s t core given rows new inputs e free core_is given_is rows_is h =
    let at : SeatView = record { core = core; rows = rows; inputs = inputs; stepped = s.stepped; answer = s.answer } in
    let ends : EndsLives over s.rows rows = subst (λ xs. EndsLives over xs rows) given_is (subst (λ xs. EndsLives over given xs) (sym rows_is) h) in
    let up : core.up ≡ up_after s.core.up input = ap (λ (c : CoreView). c.up) (core_is ∙ core_accepted s.core input now free) in
    subst (λ x. StepsQuietly (not over) input x at) e (go over ends up)
  where
    go : (b : Bool) → EndsLives b s.rows rows → core.up ≡ up_after s.core.up input → StepsQuietly (not b) input s (record { core = core; rows = rows; inputs = inputs; stepped = s.stepped; answer = s.answer })
    go false ends up = (up, ends)
    go true ends up = inr ends

-- the core accepted an input, and no session ended by it
pub settled_step : (quiet : Bool) (input : Input) (s new : SeatView) → StepsQuietly quiet input s new → quiet ≡ true → new.core.neighbours ≡ s.core.neighbours → IsSettled s.core (up_after s.core.up input) s.rows → IsSettled new.core new.core.up new.rows
settled_step false input s new q e same h = absurd (false≢true e)
settled_step true input s new q e same h =
    subst (λ ks. first_cut (record { core = new.core; current = current_of new.rows; pending = pending_of new.rows }) ks ≡ None) (sym same)
    (subst (λ rs. first_cut (record { core = new.core; current = current_of rs; pending = pending_of new.rows }) s.core.neighbours ≡ None) (sym q.1)
    (settled_from (state s.core (up_after s.core.up input) (current_of s.rows) (pending_of s.rows)) (record { core = new.core; current = current_of s.rows; pending = pending_of new.rows }) s.core.neighbours
    (λ j off. ap (λ up. has_number j up && is_none (current_of s.rows j)) q.0 ∙ off) h))
