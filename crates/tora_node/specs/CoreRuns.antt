-- The work of the core's thread: it serves the items that it takes, one after another, and prints their output.
use Rattle.std.specs.Prelude.{◌≡◌, ◌≢◌, ◌⊎◌, ℕ, Bool, true, false, List, [], ◌∷◌, ◌++◌, length, slice_get, codes}
use Rattle.std.specs.Prelude.{Option, Some, None}
use Rattle.std.specs.Fmt.{decimal}
use Rattle.tora_core.specs.declared.Input.{Input}
use Rattle.tora_core.specs.Errors.{step_error_number}
use Rattle.tora_core.specs.ShowText.{show_text}
use Rattle.tora_core.specs.CoreRun.{CoreView}
use Rattle.tora_node.specs.declared.fault.NodeError.{NodeError}
use Rattle.tora_node.specs.declared.fault.NodeError.TheVariants as Fault
use Rattle.tora_seat.specs.declared.item.Item.{Item}
use Rattle.tora_seat.specs.declared.status.Status.TheVariants as Asked
use Rattle.tora_seat.specs.declared.what.What.{What}
use Rattle.tora_seat.specs.declared.what.What.TheVariants as Tells
use Rattle.tora_seat.specs.declared.answer.Answer.{Answer}
use Rattle.tora_seat.specs.declared.answer.Answer.TheVariants as Says
use Rattle.tora_seat.specs.Serving.{Answers, Offer, SeatState, Serving, serving_of}
use Rattle.tora_node.specs.declared.watch.Told.{Told}
use Rattle.tora_node.specs.StatusJson.{json_text}
use Rattle.tora_node.specs.StatusLines.{all_told, state_text, changes_text}

-- a served item, and the offers of outbound messages that it made, with their answers
pub record ServedItem : Type 0 where
  pub item : Item
  pub offers : List Offer

abbrev pub was_put : Option Offer → Bool
was_put None = false
was_put (Some offer) = offer.put

-- the answers to offers, taken from these offers in order
abbrev pub answers_told : List Offer → Answers
answers_told offers before k = was_put (slice_get offers (length before))

-- serving the item with these answers
abbrev pub serving_told : List ℕ → SeatState → ServedItem → Serving
serving_told neighbours s x = serving_of (answers_told x.offers) neighbours s x.item

-- these items were served one after another, with exactly these offers, and led to the seat `after`
abbrev pub AreServed : List ℕ → SeatState → List ServedItem → SeatState → Type 0
AreServed neighbours s [] after = after ≡ s
AreServed neighbours s (x ∷ xs) after =
    ((serving_told neighbours s x).offers ≡ x.offers) × AreServed neighbours (serving_told neighbours s x).seat xs after

abbrev pub items_served : List ServedItem → List Item
items_served [] = []
items_served (x ∷ xs) = x.item ∷ items_served xs

abbrev pub offers_made : List ServedItem → List Offer
offers_made [] = []
offers_made (x ∷ xs) = x.offers ++ offers_made xs

-- the inputs that the core accepted, each with the tick of its item
abbrev pub inputs_stepped : List ℕ → SeatState → List ServedItem → List (Input × ℕ)
inputs_stepped neighbours s [] = []
inputs_stepped neighbours s (x ∷ xs) = (serving_told neighbours s x).inputs
    ++ inputs_stepped neighbours (serving_told neighbours s x).seat xs

-- ---- the output

-- `refused N`, if the answer is the refusal of a need
abbrev pub refused_text : Answer → List ℕ
refused_text (Says.Refused error) = codes "refused " ++ decimal (step_error_number error) ++ 10 ∷ []
refused_text Says.Nothing = []
refused_text Says.Show = []
refused_text Says.Quit = []

-- the lines for what has changed since the last printed state, if a program watches
abbrev pub news_text : Option (List Told) → CoreView → List ℕ
news_text None core = []
news_text (Some told) core = changes_text told core

-- the output for an item at a tick, by its answer, the seat after it, and the last printed state
abbrev pub reply_text : Option (List Told) → ℕ → What → Answer → SeatState → List ℕ
reply_text told now Tells.Show answer s = show_text s.core
reply_text told now (Tells.Status Asked.Json) answer s = json_text now s
reply_text told now (Tells.Status Asked.Watch) answer s = state_text s.core
reply_text told now (Tells.Need d) answer s = refused_text answer ++ news_text told s.core
reply_text told now (Tells.Cut k) answer s = news_text told s.core
reply_text told now (Tells.Up life) answer s = news_text told s.core
reply_text told now (Tells.Packet life packet) answer s = news_text told s.core
reply_text told now (Tells.Down life reason) answer s = news_text told s.core
reply_text told now Tells.Beat answer s = []
reply_text told now Tells.Quit answer s = []

abbrev pub text_of : Option (List Told) → Item → Serving → List ℕ
text_of told item v = reply_text told item.now item.what v.answer v.seat

abbrev pub told_anew : Option (List Told) → CoreView → Option (List Told)
told_anew None core = None
told_anew (Some told) core = Some (all_told core)

-- the last printed state after an item: it is set by `watch`, and renewed by each item that may change the core
abbrev pub told_after : Option (List Told) → What → CoreView → Option (List Told)
told_after told (Tells.Status Asked.Watch) core = Some (all_told core)
told_after told (Tells.Status Asked.Json) core = told
told_after told (Tells.Need d) core = told_anew told core
told_after told (Tells.Cut k) core = told_anew told core
told_after told (Tells.Up life) core = told_anew told core
told_after told (Tells.Packet life packet) core = told_anew told core
told_after told (Tells.Down life reason) core = told_anew told core
told_after told Tells.Beat core = told
told_after told Tells.Show core = told
told_after told Tells.Quit core = told

-- the output for all items
abbrev pub text_served : List ℕ → Option (List Told) → SeatState → List ServedItem → List ℕ
text_served neighbours told s [] = []
text_served neighbours told s (x ∷ xs) =
    let v : Serving = serving_told neighbours s x in
    text_of told x.item v ++ text_served neighbours (told_after told x.item.what v.seat.core) v.seat xs

-- the last printed state after all items
abbrev pub told_served : List ℕ → Option (List Told) → SeatState → List ServedItem → Option (List Told)
told_served neighbours told s [] = told
told_served neighbours told s (x ∷ xs) =
    let v : Serving = serving_told neighbours s x in
    told_served neighbours (told_after told x.item.what v.seat.core) v.seat xs

-- ---- how it ends

abbrev pub IsNeed : What → Type 0
IsNeed what = (d : ℕ) × (what ≡ Tells.Need d)

-- one of the items is `watch`
abbrev pub IsWatched : List ServedItem → Type 0
IsWatched [] = ⊥
IsWatched (x ∷ xs) = (x.item.what ≡ Tells.Status Asked.Watch) ⊎ IsWatched xs

-- for this item the table or the state is printed; or changes may be, if the core is watched
abbrev pub MayTell : Type 0 → What → Type 0
MayTell watched Tells.Show = Unit {0}
MayTell watched (Tells.Status status) = Unit {0}
MayTell watched (Tells.Need d) = watched
MayTell watched (Tells.Cut k) = watched
MayTell watched (Tells.Up life) = watched
MayTell watched (Tells.Packet life packet) = watched
MayTell watched (Tells.Down life reason) = watched
MayTell watched Tells.Beat = ⊥
MayTell watched Tells.Quit = ⊥

-- a fault of printing a text that needs memory
abbrev pub IsTextFault : NodeError → Type 0
IsTextFault e = (e ≡ Fault.Memory) ⊎ (e ≡ Fault.Output)

-- the fault can occur at this item: Memory only where `MayTell` holds, Output also at Need
abbrev pub MayFail : NodeError → Type 0 → What → Type 0
MayFail Fault.Memory watched what = MayTell watched what
MayFail Fault.Output watched what = MayTell watched what ⊎ IsNeed what
MayFail Fault.Lane watched what = ⊥
MayFail (Fault.Life peer error) watched what = ⊥
MayFail (Fault.Wire peer) watched what = ⊥

-- no item is Quit
abbrev pub GoOn : List ServedItem → Type 0
GoOn [] = Unit {0}
GoOn (x ∷ xs) = (x.item.what ≢ Tells.Quit) × GoOn xs

-- only the last item may be Quit, and `Is` holds for the items before it and for it
abbrev pub EndsWith : (List ServedItem → What → Type 0) → List ServedItem → Type 0
EndsWith Is xs =
    (front : List ServedItem) × (x : ServedItem) × (xs ≡ front ++ x ∷ []) × GoOn front × Is front x.item.what

-- without a fault, the first Quit is the last item, or there is none and the port returned Gone; a fault occurs at the
-- last item
abbrev pub EndsSo : Option NodeError → List ServedItem → Bool → Type 0
EndsSo None xs gone = EndsWith (λ front what. what ≡ Tells.Quit) xs ⊎ (GoOn xs × (gone ≡ true))
EndsSo (Some fault) xs gone = EndsWith (λ front what. MayFail fault (IsWatched front) what) xs
