-- The parts of packets, and their ranges.
use Rattle.std.specs.Prelude.{◌≡◌, ◌≢◌, ℕ, ◌^◌, ◌<◌, ◌≤◌, pos, ◌≤ℤ◌, Bool, nat_lt, int_lt, ◌==◌, ◌||◌, ◌&&◌, is_some}
use Rattle.tora_height.specs.Height.{Quintuple, IsHeight, height_fault}

-- the number of a node
abbrev pub IsId : ℕ → Type 0
IsId n = (0 < n) × (n < 2 ^ 32)

-- an update: the destination, and the height of the node that sends it
pub record UpdateParts : Type 0 where
  pub destination : ℕ
  pub height : Quintuple

-- the height is that of another node than the destination, and so is above the destination's height
pub record IsUpdate (u : UpdateParts) : Type 0 where
  pub destination : IsId u.destination
  pub height : IsHeight u.height
  pub other : u.height.id ≢ u.destination
  pub above : u.height.tau ≡ 0 → u.height.r ≡ 0 → pos 1 ≤ℤ u.height.delta

abbrev pub update_of : ℕ → Quintuple → UpdateParts
update_of destination height = record { destination = destination; height = height }

-- a clear: the destination, and the reflected level (tau, oid, 1) that is erased
pub record ClearParts : Type 0 where
  pub destination : ℕ
  pub tau : ℕ
  pub oid : ℕ

pub record IsClear (c : ClearParts) : Type 0 where
  pub destination : IsId c.destination
  pub tau : (0 < c.tau) × (c.tau ≤ 2 ^ 62)
  pub oid : IsId c.oid

abbrev pub clear_of : ℕ → ℕ → ℕ → ClearParts
clear_of destination tau oid = record { destination = destination; tau = tau; oid = oid }

-- ---- parts that are refused

-- the height is out of range, is the destination's own, or is not above the destination's
unfoldable pub is_bad_update : ℕ → Quintuple → Bool
is_bad_update destination h =
    is_some (height_fault h) || (h.id == destination) || ((h.tau == 0) && (h.r == 0) && int_lt h.delta (pos 1))

-- the time tag or the originator of the level is out of range
unfoldable pub is_bad_clear : ℕ → ℕ → Bool
is_bad_clear tau oid = (tau == 0) || nat_lt (2 ^ 62) tau || (oid == 0)
