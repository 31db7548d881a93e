-- The answers taken from offers agree with the offers.
use Rattle.std.proofs.Common.{◌≡◌, ℕ, List, [], ◌∷◌, ◌++◌, length, refl, ap, subst, append_assoc, Some}
use Rattle.std.specs.Prelude.{slice_get}
use Rattle.tora_seat.specs.Serving.{Offer}
use Rattle.tora_seat.specs.Offers.{Follows, AreOffered}
use Rattle.tora_seat.specs.declared.cargo.Cargo.{Cargo}
use Rattle.std.specs.Prelude.{Bool}
use Rattle.tora_node.specs.CoreRuns.{answers_told, was_put}

at_length : (before : List Offer) (o : Offer) (offers : List Offer) → slice_get (before ++ o ∷ offers) (length before) ≡ Some o
at_length [] o offers = refl
at_length (x ∷ before) o offers = at_length before o offers

pub told_follows : (before offers : List Offer) → Follows (answers_told (before ++ offers)) before offers
told_follows before [] = tt
told_follows before (o ∷ offers) = (
  ap was_put (at_length before o offers),
  subst (λ (all : List Offer). Follows (answers_told all) (before ++ o ∷ []) offers) (append_assoc before (o ∷ []) offers) (told_follows (before ++ o ∷ []) offers),
)

-- offers that follow other offers
pub offered_then : {O : Type 0} → (did : O → ℕ → Cargo → Bool → O → Type 0) (ks : List ℕ) (a b c : O) (xs ys : List Offer)
    → AreOffered did ks a xs b → AreOffered did ks b ys c → AreOffered did ks a (xs ++ ys) c
offered_then did ks a b c [] ys p q = subst (λ o. AreOffered did ks o ys c) p q
offered_then did ks a b c (x ∷ xs) ys p q = (p.0, p.1, offered_then did ks p.0 b c xs ys p.2 q)
