-- Offers of outbound messages to the queues of a node, one after another.
use Rattle.std.specs.Option.{option_map_or}
use Rattle.std.specs.Prelude.{false, slice_get, length, ◌≡◌, ℕ, suc, ◌==◌, Bool, if◌then◌else◌, List, [], ◌∷◌, ◌++◌}
use Rattle.tora_seat.specs.declared.cargo.Cargo.{Cargo}
use Rattle.tora_seat.specs.Serving.{Offer, Answers}

-- the place of a number in a list, or the length of the list if it is not there
abbrev pub place_of : ℕ → List ℕ → ℕ
place_of k [] = 0
place_of k (j ∷ js) = if j == k then 0 else suc (place_of k js)

-- these offers lead from the first queues to the last: each was made to the queue at its neighbour's place, with its
-- result
abbrev pub AreOffered : {O : Type 0} → (O → ℕ → Cargo → Bool → O → Type 0) → List ℕ → O → List Offer → O → Type 0
AreOffered did_offer neighbours outs [] after = after ≡ outs
AreOffered {O = O} did_offer neighbours outs (o ∷ offers) after =
    (between : O) × did_offer outs (place_of o.to neighbours) o.cargo o.put between
    × AreOffered did_offer neighbours between offers after

-- these offers, made after the earlier ones, had the results that the function gives
abbrev pub Follows : Answers → List Offer → List Offer → Type 0
Follows answers before [] = Unit {0}
Follows answers before (o ∷ offers) = (answers before o.to ≡ o.put) × Follows answers (before ++ o ∷ []) offers

-- the function of results that a list of offers gives: each offer has its result in the list
abbrev pub answers_in : List Offer → Answers
answers_in offers before k = option_map_or (λ o. o.put) (slice_get offers (length before)) false
