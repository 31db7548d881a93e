-- The queue (lane) from a core to a link end.
use Rattle.std.specs.Prelude.{◌≡◌, ◌==◌, ◌<◌, ◌≤◌, ◌⊎◌, ℕ, ◌+◌, List, ◌++◌, length, nat_lt, Bool, drop, take}
use Rattle.std.specs.Prelude.{slice_index, if◌then◌else◌}
use Rattle.tora_seat.specs.declared.cargo.Cargo.{Cargo}
use Rattle.tora_seat.specs.declared.TheConstants.{MOST_CARGOES}
use Rattle.tora_sim.specs.declared.store.inline_cargoes.TheConstants.{INLINE_CARGOES}

-- cargoes in order, inline or in a list
pub record CargoesView : Type 0 where
  pub items : List Cargo  -- in the order in which they were put
  pub places : ℕ  -- the capacity of their list; 0 if there is no list

-- the cargoes are in the list, or else the first `count` inline cells
abbrev pub cargoes_in : Bool → ℕ → List Cargo → List Cargo → ℕ → CargoesView
cargoes_in wide count cells list capacity = record {
  items = if wide then list
      else take count cells;
  places = if wide then capacity else 0;
}

pub record LaneView : Type 0 where
  pub put : List Cargo  -- all cargoes that were ever put into the lane
  pub pulled : ℕ  -- how many of them have left the lane
  pub room : ℕ  -- for how many cargoes that were ever put there is memory; 0 if the lane has no list

abbrev pub room_in : ℕ → ℕ → ℕ
room_in past places = if places == 0 then 0 else past + places

-- a lane of compressed cargoes and others, the first `taken` of which have left it
abbrev pub lane_of : List Cargo → CargoesView → ℕ → LaneView
lane_of past cargoes taken = record {
  put = past ++ cargoes.items;
  pulled = length past + taken;
  room = room_in (length past) cargoes.places;
}

-- fewer than `MOST_CARGOES` cargoes wait
abbrev pub has_place_in : LaneView → Bool
has_place_in lane = nat_lt (length (drop lane.pulled lane.put)) MOST_CARGOES

-- the list at this index of a pool, which is given by its capacities, has memory for all cargoes that a lane holds, and
-- for the inline ones
abbrev pub IsWhole : List ℕ → ℕ → Type 0
IsWhole pool place = MOST_CARGOES + INLINE_CARGOES ≤ slice_index pool place

-- the first `count` lists of the pool are whole
abbrev pub AreWhole : List ℕ → ℕ → Type 0
AreWhole pool count = (place : ℕ) → place < count → IsWhole pool place

-- the lists other than that at the index `place` have the same capacities
abbrev pub AreOthersAsWhole : List ℕ → List ℕ → ℕ → Type 0
AreOthersAsWhole before after place =
    (other : ℕ) → (other ≡ place → ⊥) → slice_index after other ≡ slice_index before other

-- a lane has memory for all that it can hold, or it has no list, and the list at this index of the pool is whole
abbrev pub Fits : ℕ → ℕ → List ℕ → ℕ → Type 0
Fits pulled room pool place = ((room ≡ 0) × IsWhole pool place) ⊎ (pulled + MOST_CARGOES ≤ room)
