-- Offers of outbound messages to the queues to the neighbours.
use Rattle.std.specs.Prelude.{◌≡◌, ℕ, ◌<◌, ◌≤◌, Bool, true, false, List, [], ◌∷◌, ◌++◌, length, Option, Some, None}
use Rattle.std.specs.Prelude.{slice_get, slice_set}
use Rattle.tora_seat.specs.declared.cargo.Cargo.{Cargo}
use Rattle.tora_seat.specs.Serving.{Offer, put_to}
use Rattle.tora_seat.specs.Offers.{AreOffered, place_of}
use Rattle.tora_lane.specs.declared.limits.TheConstants.{OUT_LANE_ROOM, MOST_IN_ALL}
use Rattle.tora_lane.specs.Out.{SendEnd, with_sent}

-- A message that was put is the last one of the queue at the place, and nothing else changed. A message that was not
-- put changed nothing, and at least as many messages as the queue holds were sent before.
abbrev pub DidOffer : List SendEnd → ℕ → Cargo → Bool → List SendEnd → Type 0
DidOffer before place cargo true after =
    (end : SendEnd) × (slice_get before place ≡ Some end) × (length end.sent < MOST_IN_ALL)
    × (after ≡ slice_set before place (with_sent end cargo))
DidOffer before place cargo false after =
    (end : SendEnd) × (slice_get before place ≡ Some end) × (OUT_LANE_ROOM ≤ length end.sent) × (after ≡ before)

-- what an end has sent; nothing if there is no end
abbrev pub sent_by : Option SendEnd → List Cargo
sent_by None = []
sent_by (Some end) = end.sent

-- what was sent into the queue at a place
abbrev pub sent_at : List SendEnd → ℕ → List Cargo
sent_at ends place = sent_by (slice_get ends place)

-- After offers to the queues of these neighbours there are as many queues as before, and each has sent what it had sent
-- before, followed by what was put for its neighbour.
abbrev pub OffersAreSent : Type 0
OffersAreSent =
    (neighbours : List ℕ) (before after : List SendEnd) (offers : List Offer)
    → AreOffered DidOffer neighbours before offers after
    → length before ≤ length neighbours
    → (length after ≡ length before)
    × ((k : ℕ) → place_of k neighbours < length neighbours → sent_at after (place_of k neighbours)
    ≡ sent_at before (place_of k neighbours) ++ put_to k offers)
