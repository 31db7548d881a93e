-- The inputs accepted for an item lead from the core before the item to the core after it.
use Rattle.std.proofs.Common.{◌≡◌, ℕ, List, [], ◌∷◌, ◌++◌, refl, sym, ap, ◌∙◌}
use Rattle.tora_core.specs.declared.Input.{Input}
use Rattle.tora_core.specs.CoreRun.{CoreView, core_after, core_after_all}
use Rattle.tora_seat.specs.declared.item.Item.{Item}
use Rattle.tora_seat.specs.Serving.{SeatState, Offer, Answers, serving_of}
use Rattle.tora_seat.proofs.ServedBy.{Stepping, serving_follows}

pub core_after-push : (c : CoreView) (is : List (Input × ℕ)) (input : Input) (now : ℕ) → core_after_all c (is ++ (input, now) ∷ []) ≡ core_after (core_after_all c is) input now
core_after-push c [] input now = refl
core_after-push c ((i, t) ∷ is) input now = core_after-push (core_after c i t) is input now

module _ (first : CoreView) where
  abbrev Holds : List Offer → CoreView → List (Input × ℕ) → Type 0
  Holds offers core inputs = core ≡ core_after_all first inputs

  stepping : Stepping Holds
  stepping offers core inputs input now h = ap (λ c. core_after c input now) h ∙ sym (core_after-push first inputs input now)

pub inputs_make_the_core : (answers : Answers) (js : List ℕ) (seat : SeatState) (item : Item) → (serving_of answers js seat item).seat.core ≡ core_after_all seat.core (serving_of answers js seat item).inputs
inputs_make_the_core answers js seat item = serving_follows answers (Holds seat.core) (λ offers core inputs to cargo put room h. h) (stepping seat.core) js seat item refl
