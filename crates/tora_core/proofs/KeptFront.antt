-- Steps of a loop that moves the elements to keep to the front of the list.
use Rattle.std.proofs.Common.{◌≡◌, ◌∙◌, sym, ap, refl, ℕ, ◌+◌, ◌<◌, Bool, true, false, List, [], ◌∷◌, ◌++◌, take, drop, length, get_or, arith}
use Rattle.std.specs.Prelude.{filter, slice_set}
use Rattle.std.proofs.lemmas.Grind.{common_steps}
use Rattle.std.proofs.lemmas.List.{append-nil}
use Rattle.std.proofs.lemmas.List.Elements.{filter-append}

-- an element that is read after the moved elements
read-behind : {X : Type 0} (xs ys : List X) (i : ℕ) (x : X) → i < length ys → drop i ys ≡ drop i xs → x ≡ get_or ys i x → x ≡ get_or xs i x
read-behind xs ys i x lt rest read = grind (arith, common_steps)

pub next-of : {X : Type 0} (xs : List X) (i : ℕ) (x : X) → i < length xs → x ≡ get_or xs i x → take (i + 1) xs ≡ take i xs ++ x ∷ []
next-of xs i x lt read = grind (arith, common_steps)

pub set-next : {X : Type 0} (ys : List X) (kept i : ℕ) (x z : X) → kept < i → i < length ys → x ≡ get_or ys i x → z ≡ get_or ys i z → take (kept + 1) (slice_set ys kept z) ≡ take kept ys ++ x ∷ []
set-next ys kept i x z before lt read again = grind (arith, common_steps)

filter-goes : {X : Type 0} (test : X → Bool) (x : X) → test x ≡ false → filter test (x ∷ []) ≡ []
filter-goes test x is = rw is refl

filter-stays : {X : Type 0} (test : X → Bool) (x : X) → test x ≡ true → filter test (x ∷ []) ≡ x ∷ []
filter-stays test x is = rw is refl

module _ {X : Type 0} (test : X → Bool) (xs ys : List X) (i kept : ℕ) (x : X) where
  -- an element that is not kept
  pub front-gone : i < length xs → length ys ≡ length xs → drop i ys ≡ drop i xs → x ≡ get_or ys i x → test x ≡ false → take kept ys ≡ filter test (take i xs) → take kept ys ≡ filter test (take (i + 1) xs)
  front-gone lt len rest read is front =
      let next = next-of xs i x lt (read-behind xs ys i x (omega (arith, len, lt)) rest read) in
      front ∙ sym (ap (filter test) next ∙ filter-append test (take i xs) (x ∷ []) ∙ ap (λ (zs : List X). filter test (take i xs) ++ zs) (filter-goes test x is) ∙ append-nil (filter test (take i xs)))

  -- an element that is kept, and the elements before it
  pub front-stays : (front_with : List X) → i < length xs → length ys ≡ length xs → drop i ys ≡ drop i xs → x ≡ get_or ys i x → test x ≡ true → take kept ys ≡ filter test (take i xs) → front_with ≡ take kept ys ++ x ∷ [] → front_with ≡ filter test (take (i + 1) xs)
  front-stays front_with lt len rest read is front made =
      let next = next-of xs i x lt (read-behind xs ys i x (omega (arith, len, lt)) rest read) in
      made ∙ ap (λ (zs : List X). zs ++ x ∷ []) front ∙ sym (ap (filter test) next ∙ filter-append test (take i xs) (x ∷ []) ∙ ap (λ (zs : List X). filter test (take i xs) ++ zs) (filter-stays test x is))
