-- Facts on all items of a list if one item is replaced, and on the item at an index if more items are appended.
use Rattle.std.proofs.Common.{◌≡◌, ℕ, zero, suc, ◌<◌, ◌≤◌, ◌⊎◌, inl, inr, List, [], ◌∷◌, ◌++◌, length, set, slice_get, Some, refl, sym, ap, ◌∙◌, subst, arith, ltb}
use borrow.Author.Tests.{ltb-true, ltb-false}
use Rattle.std.specs.Prelude.{slice_set}
use Rattle.std.proofs.lemmas.Bool.{cases_Bool, cases_eq}
use Rattle.std.proofs.lemmas.Option.{same_Some}
use Rattle.tora_sim.specs.Datagrams.{IsMore}
use Rattle.tora_sim.proofs.SentFrames.{within, stays_at}

pub before_or_not : (i n : ℕ) → (i < n) ⊎ (n ≤ i)
before_or_not i n = elim (cases_Bool (ltb i n)) [ inl e ↦ inl (ltb-true i n e) | inr e ↦ inr (ltb-false i n e) ]

pub set_same : {A : Type 0} → (xs : List A) (i : ℕ) (y : A) → i < length xs → slice_get (set xs i y) i ≡ Some y
set_same [] i y lt = absurd (omega (arith, lt))
set_same (x ∷ xs) zero y lt = refl
set_same (x ∷ xs) (suc i) y lt = set_same xs i y (omega (arith, lt))

pub set_other : {A : Type 0} → (xs : List A) (i j : ℕ) (y : A) → (j ≡ i → ⊥) → slice_get (set xs i y) j ≡ slice_get xs j
set_other [] i j y apart = refl
set_other (x ∷ xs) zero zero y apart = absurd (apart refl)
set_other (x ∷ xs) zero (suc j) y apart = refl
set_other (x ∷ xs) (suc i) zero y apart = refl
set_other (x ∷ xs) (suc i) (suc j) y apart = set_other xs i j y (λ e. apart (ap suc e))

pub each_set : {A : Type 0} (P : A → Type 0) (xs : List A) (at : ℕ) (new : A) → at < length xs → P new → ((k : ℕ) (x : A) → slice_get xs k ≡ Some x → P x) → (k : ℕ) (x : A) → slice_get (slice_set xs at new) k ≡ Some x → P x
each_set {A} P xs at new lt is h k x there = go (cases_eq k at)
  where
    go : (k ≡ at) ⊎ (k ≡ at → ⊥) → P x
    go (inl e) = subst P (same_Some new x (sym (set_same xs at new lt) ∙ ap (slice_get (slice_set xs at new)) (sym e) ∙ there)) is
    go (inr apart) = h k x (sym (set_other xs at k new apart) ∙ there)

-- the item at an index stays if items are appended
pub stays : {A : Type 0} (xs after : List A) → IsMore xs after → (place : ℕ) (x : A) → slice_get xs place ≡ Some x → slice_get after place ≡ Some x
stays xs after more place x e = ap (λ ys. slice_get ys place) more.1 ∙ stays_at xs more.0 place (within xs place x e) ∙ e

pub last_at : {A : Type 0} (xs : List A) (x : A) → slice_get (xs ++ x ∷ []) (length xs) ≡ Some x
last_at [] x = refl
last_at (y ∷ xs) x = last_at xs x

-- the item that was appended
pub kept_last : {A : Type 0} (xs after : List A) (x : A) (place : ℕ) → after ≡ xs ++ x ∷ [] → place ≡ length xs → slice_get after place ≡ Some x
kept_last xs after x place e q = ap (λ ys. slice_get ys place) e ∙ ap (slice_get (xs ++ x ∷ [])) q ∙ last_at xs x
