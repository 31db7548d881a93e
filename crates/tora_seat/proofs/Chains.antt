-- Offers and their results, one list after another.
use Rattle.std.specs.Option.{option_map_or}
use Rattle.std.proofs.Common.{◌≡◌, ℕ, zero, suc, ◌<◌, Bool, List, [], ◌∷◌, ◌++◌, take, drop, length, set, get_or, refl, sym, ap, subst, append_assoc, append-nil, arith, slice_get, Some, false}
use Rattle.tora_seat.specs.declared.cargo.Cargo.{Cargo}
use Rattle.tora_seat.specs.Serving.{Offer, Answers}
use Rattle.tora_seat.specs.Offers.{AreOffered, Follows, answers_in}

pub follows_split : (answers : Answers) (before xs ys : List Offer) → Follows answers before (xs ++ ys) → Follows answers before xs × Follows answers (before ++ xs) ys
follows_split answers before [] ys h = (tt, subst (λ os. Follows answers os ys) (sym (append-nil before)) h)
follows_split answers before (x ∷ xs) ys h =
    let r = follows_split answers (before ++ x ∷ []) xs ys h.1 in
    ((h.0, r.0), subst (λ os. Follows answers os ys) (append_assoc before (x ∷ []) xs) r.1)

pub offered_more : {O : Type 0} (did_offer : O → ℕ → Cargo → Bool → O → Type 0) (ks : List ℕ) (a b c : O) (xs ys : List Offer) → AreOffered did_offer ks a xs b → AreOffered did_offer ks b ys c → AreOffered did_offer ks a (xs ++ ys) c
offered_more did_offer ks a b c [] ys h more = subst (λ o. AreOffered did_offer ks o ys c) h more
offered_more did_offer ks a b c (x ∷ xs) ys h more = (h.0, h.1, offered_more did_offer ks h.0 b c xs ys h.2 more)

pub split_at : {A : Type 0} (xs : List A) (i : ℕ) (d : A) → i < length xs → xs ≡ take i xs ++ get_or xs i d ∷ drop (suc i) xs
split_at [] i d lt = absurd (omega arith)
split_at (y ∷ ys) zero d lt = refl
split_at (y ∷ ys) (suc i) d lt = ap (λ zs. y ∷ zs) (split_at ys i d (omega arith))

pub set_at : {A : Type 0} (xs : List A) (i : ℕ) (x : A) → i < length xs → set xs i x ≡ take i xs ++ x ∷ drop (suc i) xs
set_at [] i x lt = absurd (omega arith)
set_at (y ∷ ys) zero x lt = refl
set_at (y ∷ ys) (suc i) x lt = ap (λ zs. y ∷ zs) (set_at ys i x (omega arith))

pub drop_at : {A : Type 0} (xs : List A) (i : ℕ) (d : A) → i < length xs → drop i xs ≡ get_or xs i d ∷ drop (suc i) xs
drop_at [] i d lt = absurd (omega arith)
drop_at (y ∷ ys) zero d lt = refl
drop_at (y ∷ ys) (suc i) d lt = drop_at ys i d (omega arith)

pub length_take : {A : Type 0} (xs : List A) (i : ℕ) → i < length xs → length (take i xs) ≡ i
length_take [] i lt = absurd (omega arith)
length_take (y ∷ ys) zero lt = refl
length_take (y ∷ ys) (suc i) lt = ap suc (length_take ys i (omega arith))

pub drop_end : {A : Type 0} (xs : List A) → drop (length xs) xs ≡ []
drop_end [] = refl
drop_end (x ∷ xs) = drop_end xs

-- ---- offers read back

at_end : (pre : List Offer) (o : Offer) (os : List Offer) → slice_get (pre ++ o ∷ os) (length pre) ≡ Some o
at_end [] o os = refl
at_end (x ∷ pre) o os = at_end pre o os

follows_from : (pre os : List Offer) → Follows (answers_in (pre ++ os)) pre os
follows_from pre [] = tt
follows_from pre (o ∷ os) = (
  ap (λ x. option_map_or (λ (y : Offer). y.put) x false) (at_end pre o os),
  subst (λ xs. Follows (answers_in xs) (pre ++ o ∷ []) os) (append_assoc pre (o ∷ []) os) (follows_from (pre ++ o ∷ []) os),
)

pub follows_back : (offers : List Offer) → Follows (answers_in offers) [] offers
follows_back offers = follows_from [] offers
