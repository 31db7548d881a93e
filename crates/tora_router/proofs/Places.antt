-- The item at a place of a list, and the first one that has a value.
use Rattle.std.proofs.Common.{◌≡◌, ◌<◌, ◌≤◌, ◌+◌, ℕ, zero, suc, List, [], ◌∷◌, length, get_or, set, Option, Some, None, refl, sym, ap, ap₂, ◌∙◌, subst, arith}
use Rattle.tora_router.specs.Links.{at_place, first_in, found_at}

pub at_place-set : {L : Type 0} (f : L → L) (place : ℕ) (xs : List L) (x : L) → x ≡ get_or xs place x → set xs place (f x) ≡ at_place f place xs
at_place-set f place [] x e = refl
at_place-set f zero (y ∷ xs) x e = ap (λ z. f z ∷ xs) e
at_place-set f (suc place) (y ∷ xs) x e = ap (λ zs. y ∷ zs) (at_place-set f place xs x e)

pub at_place-length : {L : Type 0} (f : L → L) (place : ℕ) (xs : List L) → length (at_place f place xs) ≡ length xs
at_place-length f place [] = refl
at_place-length f zero (y ∷ xs) = refl
at_place-length f (suc place) (y ∷ xs) = ap suc (at_place-length f place xs)

pub set_same : {L : Type 0} (place : ℕ) (xs : List L) (x : L) → x ≡ get_or xs place x → set xs place x ≡ xs
set_same place [] x e = refl
set_same zero (y ∷ xs) x e = ap (λ z. z ∷ xs) e
set_same (suc place) (y ∷ xs) x e = ap (λ zs. y ∷ zs) (set_same place xs x e)

-- no item before a place has a value
abbrev pub NoneBefore : {L A : Type 0} → (L → Option A) → List L → ℕ → Type 0
NoneBefore value [] place = Unit {0}
NoneBefore value (x ∷ xs) zero = Unit {0}
NoneBefore value (x ∷ xs) (suc place) = (value x ≡ None) × NoneBefore value xs place

pub none_yet : {L A : Type 0} (value : L → Option A) (xs : List L) → NoneBefore value xs 0
none_yet value [] = tt
none_yet value (x ∷ xs) = tt

pub none_more : {L A : Type 0} (value : L → Option A) (xs : List L) (place : ℕ) (x : L) → x ≡ get_or xs place x → value x ≡ None → NoneBefore value xs place → NoneBefore value xs (suc place)
none_more value [] place x e n h = tt
none_more value (y ∷ xs) zero x e n h = (ap value (sym e) ∙ n, none_yet value xs)
none_more value (y ∷ xs) (suc place) x e n h = (h.0, none_more value xs place x e n h.1)

pub first_found : {L A : Type 0} (value : L → Option A) (xs : List L) (place : ℕ) (x : L) (v : A) → place < length xs → x ≡ get_or xs place x → value x ≡ Some v → NoneBefore value xs place → first_in value xs ≡ Some (place, v)
first_found value [] place x v lt e s h = absurd (omega (arith, lt))
first_found value (y ∷ xs) zero x v lt e s h = ap (λ o. found_at o (first_in value xs)) (ap value (sym e) ∙ s)
first_found value (y ∷ xs) (suc place) x v lt e s h =
    let less : place < length xs = omega (arith, lt) in
    ap₂ found_at h.0 (first_found value xs place x v less e s h.1)

pub none_first : {L A : Type 0} (value : L → Option A) (xs : List L) (place : ℕ) → length xs ≤ place → NoneBefore value xs place → first_in value xs ≡ None
none_first value [] place le h = refl
none_first value (y ∷ xs) zero le h = absurd (omega (arith, le))
none_first value (y ∷ xs) (suc place) le h =
    let less : length xs ≤ place = omega (arith, le) in
    ap₂ found_at h.0 (none_first value xs place less h.1)

-- ---- the same, if the list has another name

pub first_found_as : {L A : Type 0} (value : L → Option A) (xs ys : List L) (place : ℕ) (x : L) (v : A) → xs ≡ ys → place < length xs → x ≡ get_or xs place x → value x ≡ Some v → NoneBefore value xs place → first_in value ys ≡ Some (place, v)
first_found_as value xs ys place x v q lt e s h = sym (ap (first_in value) q) ∙ first_found value xs place x v lt e s h

pub none_first_as : {L A : Type 0} (value : L → Option A) (xs ys : List L) (place : ℕ) → xs ≡ ys → length xs ≤ place → NoneBefore value xs place → first_in value ys ≡ None
none_first_as value xs ys place q le h = sym (ap (first_in value) q) ∙ none_first value xs place le h

pub none_more_one : {L A : Type 0} (value : L → Option A) (xs : List L) (place : ℕ) (x : L) → x ≡ get_or xs place x → value x ≡ None → NoneBefore value xs place → NoneBefore value xs (place + 1)
none_more_one value xs place x e n h =
    let one : suc place ≡ place + 1 = omega arith in
    subst (λ (k : ℕ). NoneBefore value xs k) one (none_more value xs place x e n h)

pub set_as : {L : Type 0} (f : L → L) (place : ℕ) (xs ys : List L) (x new : L) → xs ≡ ys → x ≡ get_or xs place x → new ≡ f x → set xs place new ≡ at_place f place ys
set_as f place xs ys x new q e n = ap (λ z. set xs place z) n ∙ at_place-set f place xs x e ∙ ap (at_place f place) q

pub set_same_as : {L : Type 0} (place : ℕ) (xs ys : List L) (x new : L) → xs ≡ ys → x ≡ get_or xs place x → new ≡ x → set xs place new ≡ ys
set_same_as place xs ys x new q e n = ap (λ z. set xs place z) n ∙ set_same place xs x e ∙ q

pub none_more_set : {L A : Type 0} (value : L → Option A) (xs : List L) (place : ℕ) (x new : L) → x ≡ get_or xs place x → new ≡ x → value x ≡ None → NoneBefore value xs place → NoneBefore value (set xs place new) (place + 1)
none_more_set value xs place x new e n v h =
    subst (λ zs. NoneBefore value zs (place + 1)) (sym (set_same_as place xs xs x new refl e n)) (none_more_one value xs place x e v h)
