-- Lists, and the items at their indexes.
use Rattle.std.proofs.Common.{◌≡◌, ◌∙◌, sym, ap, subst, refl, cond, ℕ, zero, suc, ◌<◌, List, [], ◌∷◌, ◌++◌, length, append-nil, append_assoc, arith, Some}
use Rattle.std.proofs.lemmas.Bool.{eq-eqb, ne_eqb}
use Rattle.std.specs.List.{AllByRecursion}
use Rattle.std.specs.Prelude.{map, slice_get}
use Rattle.tora_core.specs.Numbers.{IsAscending}
use Rattle.tora_seat.specs.Offers.{place_of}
use Rattle.tora_node.specs.Threads.{Each}

pub length_map : {A B : Type 0} (f : A → B) (xs : List A) → length (map f xs) ≡ length xs
length_map f [] = refl
length_map f (x ∷ xs) = ap suc (length_map f xs)

pub as_long : {A B C : Type 0} (f : A → B) (g : C → B) (xs : List A) (ys : List C) → map f xs ≡ map g ys → length xs ≡ length ys
as_long f g xs ys h = sym (length_map f xs) ∙ ap length h ∙ length_map g ys

pub same_got : {A : Type 0} (xs : List A) (k : ℕ) (x y : A) → slice_get xs k ≡ Some x → slice_get xs k ≡ Some y → x ≡ y
same_got xs k x y e f = cc

pub get_map : {A B : Type 0} (f : A → B) (xs : List A) (k : ℕ) (x : A) → slice_get xs k ≡ Some x → slice_get (map f xs) k ≡ Some (f x)
get_map f [] k x e = absurd cc
get_map f (y ∷ xs) zero x e = let same : y ≡ x = cc in ap (λ (z : _). Some (f z)) same
get_map f (y ∷ xs) (suc k) x e = get_map f xs k x e

pub map_get : {A B : Type 0} (f : A → B) (xs : List A) (k : ℕ) (y : B) → slice_get (map f xs) k ≡ Some y → (x : A) × (slice_get xs k ≡ Some x) × (f x ≡ y)
map_get f [] k y e = absurd cc
map_get f (x ∷ xs) zero y e = (x, refl, cc)
map_get f (x ∷ xs) (suc k) y e = map_get f xs k y e

pub got_within : {A : Type 0} (xs : List A) (k : ℕ) (x : A) → slice_get xs k ≡ Some x → k < length xs
got_within [] k x e = absurd cc
got_within (y ∷ xs) zero x e = omega arith
got_within (y ∷ xs) (suc k) x e = let h = got_within xs k x e in omega arith

pub get_within : {A : Type 0} (xs : List A) (k : ℕ) → k < length xs → (x : A) × (slice_get xs k ≡ Some x)
get_within [] k h = absurd (omega arith)
get_within (x ∷ xs) zero h = (x, refl)
get_within (x ∷ xs) (suc k) h = get_within xs k (omega arith)

-- ---- a property at each index of two lists

module _ {A B : Type 0} (P : A → B → Type 0) where
  pub each_at : (xs : List A) (ys : List B) (k : ℕ) (x : A) (y : B) → Each P xs ys → slice_get xs k ≡ Some x → slice_get ys k ≡ Some y → P x y
  each_at [] ys k x y h e f = absurd cc
  each_at (z ∷ xs) [] k x y h e f = absurd cc
  each_at (z ∷ xs) (w ∷ ys) zero x y h e f =
      let a : z ≡ x = cc in let b : w ≡ y = cc in
      subst (λ (p : A × B). P p.0 p.1) (λ i. (a i, b i)) h.0
  each_at (z ∷ xs) (w ∷ ys) (suc k) x y h e f = each_at xs ys k x y h.1 e f

  pub each_long : (xs : List A) (ys : List B) → Each P xs ys → length xs ≡ length ys
  each_long [] [] h = refl
  each_long [] (y ∷ ys) h = absurd h
  each_long (x ∷ xs) [] h = absurd h
  each_long (x ∷ xs) (y ∷ ys) h = ap suc (each_long xs ys h.1)

  pub each_of : (xs : List A) (ys : List B) → length xs ≡ length ys → ((k : ℕ) (x : A) (y : B) → slice_get xs k ≡ Some x → slice_get ys k ≡ Some y → P x y) → Each P xs ys
  each_of [] [] e h = tt
  each_of [] (y ∷ ys) e h = absurd (omega (arith, e))
  each_of (x ∷ xs) [] e h = absurd (omega (arith, e))
  each_of (x ∷ xs) (y ∷ ys) e h = (h zero x y refl refl, each_of xs ys (omega (arith, e)) (λ k z w a b. h (suc k) z w a b))

  -- one more item in each list
  pub each_more : (xs : List A) (ys : List B) (x : A) (y : B) → Each P xs ys → P x y → Each P (xs ++ x ∷ []) (ys ++ y ∷ [])
  each_more [] [] x y h one = (one, tt)
  each_more [] (w ∷ ys) x y h one = absurd h
  each_more (z ∷ xs) [] x y h one = absurd h
  each_more (z ∷ xs) (w ∷ ys) x y h one = (h.0, each_more xs ys x y h.1 one)

-- ---- the rest of a list in a loop

pub map_more : {B C : Type 0} (g : C → B) (ys : List C) (y : C) → map g (ys ++ y ∷ []) ≡ map g ys ++ g y ∷ []
map_more g [] y = refl
map_more g (z ∷ ys) y = ap (λ (l : List _). g z ∷ l) (map_more g ys y)

module _ {A : Type 0} where
  pub goes_over : (done before rest : List A) (x : A) (all : List A) → before ≡ x ∷ rest → done ++ before ≡ all → (done ++ x ∷ []) ++ rest ≡ all
  goes_over done before rest x all e h = append_assoc done (x ∷ []) rest ∙ ap (λ (l : List A). done ++ l) (sym e) ∙ h

  pub gone_over : (done rest all : List A) → length rest ≡ 0 → done ++ rest ≡ all → done ≡ all
  gone_over done [] all e h = sym (append-nil done) ∙ h
  gone_over done (x ∷ rest) all e h = absurd (omega arith)

-- one more result
pub made_over : {A C : Type 0} (g : C → A) (ys : List C) (y : C) (before rest : List A) (x : A) (all : List A) → before ≡ x ∷ rest → g y ≡ x → map g ys ++ before ≡ all → map g (ys ++ y ∷ []) ++ rest ≡ all
made_over g ys y before rest x all e same h = ap (λ (l : List _). l ++ rest) (map_more g ys y ∙ ap (λ (b : _). map g ys ++ b ∷ []) same) ∙ goes_over (map g ys) before rest x all e h

-- ---- numbers in ascending order

above : (p : ℕ) (ns : List ℕ) (k n : ℕ) → AllByRecursion (λ (m : ℕ). p < m) ns → slice_get ns k ≡ Some n → p < n
above p [] k n h e = absurd cc
above p (m ∷ ns) zero n h e = let same : m ≡ n = cc in subst (λ (x : ℕ). p < x) same h.0
above p (m ∷ ns) (suc k) n h e = above p ns k n h.1 e

-- a number has one index in an ascending list
pub one_place : (ns : List ℕ) (k n : ℕ) → IsAscending ns → slice_get ns k ≡ Some n → place_of n ns ≡ k
one_place [] k n h e = absurd cc
one_place (m ∷ ns) zero n h e = let same : m ≡ n = cc in ap (λ b. cond b 0 (suc (place_of n ns))) (eq-eqb m n same)
one_place (m ∷ ns) (suc k) n h e =
    let less = above m ns k n h.0 e in
    ap (λ b. cond b 0 (suc (place_of n ns))) (ne_eqb m n (λ (same : m ≡ n). absurd (omega (arith, less, same)))) ∙ ap suc (one_place ns k n h.1 e)
