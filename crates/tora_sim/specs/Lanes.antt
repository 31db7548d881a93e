-- The lanes from a node's core to its neighbours. The node's link ends are adjacent among all ends.
use Rattle.std.specs.Prelude.{◌≡◌, ℕ, zero, suc, ◌+◌, ◌<◌, ◌≤◌, ◌⊎◌, nat_lt, Bool, List, [], ◌∷◌, ◌++◌}
use Rattle.std.specs.Prelude.{length, map, slice_get, slice_set, Some, if◌then◌else◌}
use Rattle.tora_seat.specs.declared.cargo.Cargo.{Cargo}
use Rattle.tora_seat.specs.declared.TheConstants.{MOST_CARGOES}
use Rattle.tora_sim.specs.Links.{LinkView, waiting}
use Rattle.tora_sim.specs.Lane.{Fits}

pub record LanesView : Type 0 where
  pub links : List LinkView  -- the ends of all links
  pub first : ℕ  -- the index of the node's first end
  pub count : ℕ  -- the number of the node's neighbours

abbrev pub lanes_of : List LinkView → ℕ → ℕ → LanesView
lanes_of links first count = record { links = links; first = first; count = count }

-- the cargoes that were put, after an offer that put this cargo or did not
abbrev pub after_offer_at : LinkView → Cargo → Bool → LinkView
after_offer_at link cargo put = record link { put = link.put ++ (if put then cargo ∷ [] else []) }

-- fewer than `MOST_CARGOES` cargoes wait
abbrev pub has_place : LinkView → Bool
has_place link = nat_lt (length (waiting link)) MOST_CARGOES

-- the effect of an offer to the lane at an index
pub record DidOffer (before : LanesView) (place : ℕ) (cargo : Cargo) (put : Bool) (after : LanesView) : Type 0 where
  pub link : LinkView
  pub within : place < before.count
  pub there : slice_get before.links (before.first + place) ≡ Some link
  pub answer : put ≡ has_place link
  pub lanes : after ≡ record before {
    links = slice_set before.links (before.first + place)
        (after_offer_at link cargo put);
  }

-- there is memory for as many cargoes as one item can put, or there is no list; and there is memory for one stepped
-- packet
pub record HasRoom (link : LinkView) : Type 0 where
  pub cargoes : (link.room ≡ 0) ⊎ (link.pulled + MOST_CARGOES ≤ link.room)
  pub step : length link.steps < link.step_room

abbrev pub HasRoomAt : List LinkView → ℕ → Type 0
HasRoomAt links at = (link : LinkView) → slice_get links at ≡ Some link → HasRoom link

-- each of the `count` ends from the index `first` on has room
abbrev pub HaveRoom : List LinkView → ℕ → ℕ → Type 0
HaveRoom links first count =
    (place : ℕ) (link : LinkView) → place < count → slice_get links (first + place) ≡ Some link → HasRoom link

-- each of the `count` ends from the index `first` on has a list with room, or the pool has a whole list for it
abbrev pub AreFitting : List LinkView → ℕ → ℕ → List ℕ → Type 0
AreFitting links first count pool = (place : ℕ) (link : LinkView) → place < count
    → slice_get links (first + place) ≡ Some link → Fits link.pulled link.room pool place

-- a link end without its memory
abbrev pub bare : LinkView → LinkView
bare link = record link { room = 0; step_room = 0 }

-- the first `count` ends without their memory, and the others
unfoldable pub bare_first : ℕ → List LinkView → List LinkView
bare_first zero links = links
bare_first (suc count) [] = []
bare_first (suc count) (link ∷ links) = bare link ∷ bare_first count links

-- the `count` ends from the index `first` on without their memory, and the others
unfoldable pub bare_between : ℕ → ℕ → List LinkView → List LinkView
bare_between zero count links = bare_first count links
bare_between (suc first) count [] = []
bare_between (suc first) count (link ∷ links) = link ∷ bare_between first count links

-- the ends differ at most in their memory
abbrev pub AreAlike : List LinkView → List LinkView → Type 0
AreAlike before after = map bare after ≡ map bare before

-- each end is unchanged, except the `count` ends from the index `first` on
abbrev pub AreOthersKept : List LinkView → List LinkView → ℕ → ℕ → Type 0
AreOthersKept before after first count =
    (at : ℕ) → ((place : ℕ) → place < count → at ≡ first + place → ⊥) → slice_get after at ≡ slice_get before at
