-- The cut of a current session is offered, and the session is over.
use Rattle.std.proofs.Common.{◌≡◌, ℕ, zero, suc, ◌+◌, ◌<◌, ◌≤◌, Bool, true, false, not, ◌||◌, List, [], ◌∷◌, ◌++◌, length, slice_get, nat_eq, Option, Some, None, MatchOption, if◌then◌else◌, refl, sym, ap, ◌∙◌, subst, eqb-true, eq-eqb, arith}
use mathlib.Core.Path.{fun_ext}
use Rattle.std.proofs.lemmas.Bool.{or_parts, or_right}
use Rattle.std.proofs.lemmas.Bool.Decides.{nat_tests}
use Rattle.std.specs.List.{position, position_or_len}
use Rattle.std.specs.Prelude.{nat_lt}
use Rattle.tora_arq.specs.declared.life.Life.{Life}
use Rattle.tora_core.specs.Numbers.{has_number, has_repeat}
use Rattle.tora_seat.specs.declared.cargo.Cargo.{Cargo}
use Rattle.tora_seat.specs.declared.cargo.Cargo.TheVariants as Gives
use Rattle.tora_seat.specs.Serving.{Offer, Serving, put_one, offered, with_pending, after_cut_asked, after_down, after_life_cut}
use Rattle.tora_seat.specs.Offers.{place_of}
use Rattle.tora_seat.specs.Rows.{SeatView, current_of, serving_at}
use Rattle.tora_seat.specs.Bodies.{SeatGoes}
use Rattle.tora_seat.proofs.Places.{turned}
use Rattle.tora_seat.proofs.Steps.{seat_still, seat_then, seat_as}

-- ---- places

place_at : (ks : List ℕ) (place k : ℕ) → has_repeat ks ≡ false → slice_get ks place ≡ Some k → place_of k ks ≡ place
place_at [] place k h e = absurd (cc)
place_at (j ∷ ks) zero k h e = ap (λ (b : Bool). if b then 0 else suc (place_of k ks)) (let q : j ≡ k = cc in eq-eqb j k q)
place_at (j ∷ ks) (suc place) k h e =
    let d = or_parts (has_number j ks) (has_repeat ks) h in
    ap (λ (b : Bool). if b then 0 else suc (place_of k ks)) (apart ks place j k d.0 e) ∙ ap suc (place_at ks place k d.1 e)
  where
    apart : (xs : List ℕ) (i a b : ℕ) → has_number a xs ≡ false → slice_get xs i ≡ Some b → nat_eq a b ≡ false
    apart [] i a b n s = absurd (cc)
    apart (x ∷ xs) zero a b n s =
        let q : x ≡ b = cc in
        ap (λ (i : ℕ). nat_eq a i) (sym q) ∙ turned x a (or_parts (nat_eq x a) (has_number a xs) n).0
    apart (x ∷ xs) (suc i) a b n s = apart xs i a b (or_parts (nat_eq x a) (has_number a xs) n).1 s

abbrev found : ℕ → List ℕ → ℕ
found k ks = position_or_len (λ m. nat_eq m k) ks

found_there : (ks : List ℕ) (k : ℕ) → found k ks < length ks → slice_get ks (found k ks) ≡ Some k
found_there [] k lt = absurd (omega (arith, lt))
found_there (j ∷ ks) k lt = go (found_there ks k) (nat_eq j k) refl lt
  where
    go : (found k ks < length ks → slice_get ks (found k ks) ≡ Some k) → (b : Bool) → nat_eq j k ≡ b → (if not b then 1 + found k ks else 0) < suc (length ks) → slice_get (j ∷ ks) (if not b then 1 + found k ks else 0) ≡ Some k
    go more true e lt = ap Some (eqb-true j k e)
    go more false e lt = let n : 1 + found k ks ≡ suc (found k ks) = omega arith in ap (slice_get (j ∷ ks)) n ∙ more (omega (arith, lt))

found_none : (ks : List ℕ) (k : ℕ) → length ks ≤ found k ks → has_number k ks ≡ false
found_none [] k le = refl
found_none (j ∷ ks) k le = go (found_none ks k) (nat_eq j k) refl le
  where
    go : (length ks ≤ found k ks → has_number k ks ≡ false) → (b : Bool) → nat_eq j k ≡ b → suc (length ks) ≤ (if not b then 1 + found k ks else 0) → (nat_eq j k || has_number k ks) ≡ false
    go more true e le = absurd (omega (arith, le))
    go more false e le = ap (λ (b : Bool). b || has_number k ks) e ∙ more (omega (arith, le))

pub place_is : (ks : List ℕ) (k : ℕ) → MatchOption (position (λ m. nat_eq m k) ks) (has_number k ks ≡ false) (λ place. slice_get ks place ≡ Some k)
place_is ks k = go (nat_lt (found k ks) (length ks)) refl
  where
    go : (b : Bool) → nat_lt (found k ks) (length ks) ≡ b → MatchOption (if b then Some (found k ks) else None) (has_number k ks ≡ false) (λ place. slice_get ks place ≡ Some k)
    go true t = let lt : found k ks < length ks = grind (arith, nat_tests) in found_there ks k lt
    go false t = let le : length ks ≤ found k ks = grind (arith, nat_tests) in found_none ks k le

pub place_so : (k : ℕ) (numbers ks : List ℕ) (o : Option ℕ) → o ≡ position (λ m. nat_eq m k) numbers → numbers ≡ ks → MatchOption o (has_number k ks ≡ false) (λ place. slice_get ks place ≡ Some k)
place_so k numbers ks o e same =
    subst (λ (x : Option ℕ). MatchOption x (has_number k ks ≡ false) (λ place. slice_get ks place ≡ Some k)) (sym (e ∙ ap (position (λ m. nat_eq m k)) same)) (place_is ks k)

-- a number at a place is in the list
at_in : (ks : List ℕ) (i k : ℕ) → slice_get ks i ≡ Some k → has_number k ks ≡ true
at_in [] i k e = absurd (cc)
at_in (x ∷ xs) zero k e = let q : x ≡ k = cc in ap (λ b. b || has_number k xs) (eq-eqb x k q)
at_in (x ∷ xs) (suc i) k e = ap (λ b. nat_eq x k || b) (at_in xs i k e) ∙ or_right (nat_eq x k) true refl

-- ---- the cut is offered

put_twice : {A : Type 0} (f : ℕ → A) (k : ℕ) (a b : A) → put_one (put_one f k a) k b ≡ put_one f k b
put_twice f k a b = fun_ext (λ j. go j (nat_eq j k))
  where
    go : (j : ℕ) (t : Bool) → (if t then b else (if t then a else f j)) ≡ (if t then b else f j)
    go j true = refl
    go j false = refl

module _ {O : Type 0} (did_offer : O → ℕ → Cargo → Bool → O → Type 0) where
  pub ask_goes : (s new : SeatView) (outs after : O) (place k now : ℕ) (life : Life) (put : Bool) → has_repeat s.core.neighbours ≡ false → slice_get s.core.neighbours place ≡ Some k → did_offer outs place (Gives.Cut life) put after →
      new ≡ record s { rows = new.rows } → ((now : ℕ) (before : List Offer) → with_pending (serving_at now s before) k (if put then None else Some life) ≡ serving_at now new before) →
      SeatGoes did_offer (λ answers ks v. after_cut_asked answers v k life) now s outs new after
  ask_goes s new outs after place k now life put h is o rest set = record {
    made = offer put ∷ [];
    offered = (after, subst (λ p. did_offer outs p (Gives.Cut life) put after) (sym (place_at s.core.neighbours place k h is)) o, refl);
    same = ap (λ (x : SeatView). x.core.neighbours) rest;
    leads = λ answers before f.
        let v : Serving = with_pending (serving_at now s before) k (Some life) in
        ap (λ (b : Bool). if b then with_pending (offered v k (Gives.Cut life) true) k None else offered v k (Gives.Cut life) false) f.0 ∙ go put before ∙ set now (before ++ offer put ∷ []);
  }
    where
      offer : Bool → Offer
      offer b = record { to = k; cargo = Gives.Cut life; put = b }

      go : (b : Bool) (before : List Offer) → (let v : Serving = with_pending (serving_at now s before) k (Some life) in if b then with_pending (offered v k (Gives.Cut life) true) k None else offered v k (Gives.Cut life) false)
          ≡ with_pending (serving_at now s (before ++ offer b ∷ [])) k (if b then None else Some life)
      go true before =
          let u : Serving = serving_at now s (before ++ offer true ∷ []) in
          ap (λ (f : ℕ → Option Life). record u { seat = record u.seat { pending = f } }) (put_twice u.seat.pending k (Some life) None)
      go false before = refl

  pub cut_ends : (s between new : SeatView) (outs middle after : O) (k now : ℕ) (life : Life) → current_of s.rows k ≡ Some life → SeatGoes did_offer (λ answers ks v. after_cut_asked answers v k life) now s outs between middle →
      SeatGoes did_offer (λ answers ks. after_down answers ks k now) now between middle new after → SeatGoes did_offer (λ answers ks v. after_life_cut answers ks k now v (v.seat.current k)) now s outs new after
  cut_ends s between new outs middle after k now life e a b =
      seat_as did_offer (λ answers ks v. after_down answers ks k now (after_cut_asked answers v k life)) (λ answers ks v. after_life_cut answers ks k now v (v.seat.current k)) now s outs new after
      (λ answers before. ap (after_life_cut answers s.core.neighbours k now (serving_at now s before)) e)
      (seat_then did_offer (λ answers ks v. after_cut_asked answers v k life) (λ answers ks. after_down answers ks k now) now s outs between middle new after a b)

  pub cut_none : (s : SeatView) (outs : O) (k now : ℕ) → current_of s.rows k ≡ None → SeatGoes did_offer (λ answers ks v. after_life_cut answers ks k now v (v.seat.current k)) now s outs s outs
  cut_none s outs k now e = seat_still did_offer (λ answers ks v. after_life_cut answers ks k now v (v.seat.current k)) now s outs s refl (λ answers before. ap (after_life_cut answers s.core.neighbours k now (serving_at now s before)) e)

  -- the neighbour is at a place, or there is no such neighbour
  pub cut_there : (s : SeatView) (outs : O) (new : SeatView) (after : O) (place k now : ℕ) → slice_get s.core.neighbours place ≡ Some k →
      SeatGoes did_offer (λ answers ks v. after_life_cut answers ks k now v (v.seat.current k)) now s outs new after →
      SeatGoes did_offer (λ answers ks v. if has_number k ks then after_life_cut answers ks k now v (v.seat.current k) else v) now s outs new after
  cut_there s outs new after place k now is a =
      seat_as did_offer (λ answers ks v. after_life_cut answers ks k now v (v.seat.current k)) (λ answers ks v. if has_number k ks then after_life_cut answers ks k now v (v.seat.current k) else v) now s outs new after
      (λ answers before. let v = serving_at now s before in ap (λ b. if b then after_life_cut answers s.core.neighbours k now v (v.seat.current k) else v) (at_in s.core.neighbours place k is)) a

  pub cut_nowhere : (s : SeatView) (outs : O) (k now : ℕ) → has_number k s.core.neighbours ≡ false → SeatGoes did_offer (λ answers ks v. if has_number k ks then after_life_cut answers ks k now v (v.seat.current k) else v) now s outs s outs
  cut_nowhere s outs k now e =
      seat_still did_offer (λ answers ks v. if has_number k ks then after_life_cut answers ks k now v (v.seat.current k) else v) now s outs s refl
      (λ answers before. let v = serving_at now s before in ap (λ b. if b then after_life_cut answers s.core.neighbours k now v (v.seat.current k) else v) e)
