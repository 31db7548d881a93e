-- Heights: five parts, and their ranges.
use Rattle.std.specs.Prelude.{◌≡◌, ◌≢◌, ℕ, ℤ, pos, neg_ℤ, ◌≤ℤ◌, ◌<◌, ◌≤◌, ◌^◌, ◌==◌, ◌&&◌, not, Bool, nat_lt, int_lt}
use Rattle.std.specs.Prelude.{if◌then◌else◌, Option, None, Some}
use Rattle.tora_height.specs.declared.level.Level.{Level}
use Rattle.tora_height.specs.declared.height_error.HeightError.{HeightError}
use Rattle.tora_height.specs.declared.height_error.HeightError.TheVariants as Fault

-- the five parts of a height
pub record Quintuple : Type 0 where
  pub tau : ℕ  -- when the reference level was defined
  pub oid : ℕ  -- the node that defined it
  pub r : ℕ  -- 0 for an original level, 1 for a reflected one
  pub delta : ℤ  -- the order within the level
  pub id : ℕ  -- the node whose height it is

abbrev pub quintuple : ℕ → ℕ → ℕ → ℤ → ℕ → Quintuple
quintuple tau oid r delta id = record { tau = tau; oid = oid; r = r; delta = delta; id = id }

-- the height of a destination for itself
abbrev pub destination_height : ℕ → Quintuple
destination_height d = quintuple 0 0 0 (pos 0) d

-- the reference level of a height: its first three parts
abbrev pub level_of : Quintuple → Level
level_of h = record { tau = h.tau; oid = h.oid; r = h.r }

-- a reference level in range: its time is 0 exactly if its originator is 0
pub record IsLevel (l : Level) : Type 0 where
  pub tau : l.tau ≤ 2 ^ 62
  pub oid : l.oid < 2 ^ 32
  pub r : l.r ≤ 1
  pub zero_tau : l.tau ≡ 0 → l.oid ≡ 0
  pub zero_oid : l.oid ≡ 0 → l.tau ≡ 0

-- a height in range; its delta is not negative at level (0,0,0)
pub record IsHeight (h : Quintuple) : Type 0 where
  pub level : IsLevel (level_of h)
  pub delta_low : neg_ℤ (pos (2 ^ 30)) ≤ℤ h.delta
  pub delta_high : h.delta ≤ℤ pos (2 ^ 30)
  pub zero_level : h.tau ≡ 0 → h.r ≡ 0 → pos 0 ≤ℤ h.delta
  pub id : 0 < h.id
  pub id_fits : h.id < 2 ^ 32

-- a height of this node for this destination
pub record IsHeightOf (node destination : ℕ) (h : Quintuple) : Type 0 where
  pub ranges : IsHeight h
  pub id : h.id ≡ node
  pub zero : node ≡ destination → h ≡ destination_height destination
  pub above : node ≢ destination → h.tau ≡ 0 → h.r ≡ 0 → pos 1 ≤ℤ h.delta

-- the time is 0 exactly if the originator is 0
abbrev pub has_originator : Quintuple → Bool
has_originator h = if h.tau == 0 then h.oid == 0 else nat_lt 0 h.oid

-- the delta is negative, at level (0,0,0)
abbrev pub is_below_zero : Quintuple → Bool
is_below_zero h = (h.tau == 0) && (h.r == 0) && int_lt h.delta (pos 0)

-- the first part that is out of range, in the order of the checks
unfoldable pub height_fault : Quintuple → Option HeightError
height_fault h =
    if nat_lt (2 ^ 62) h.tau then Some Fault.Tau
    else if int_lt h.delta (neg_ℤ (pos (2 ^ 30))) then Some Fault.Delta
    else if int_lt (pos (2 ^ 30)) h.delta then Some Fault.Delta
    else if nat_lt 1 h.r then Some Fault.Level
    else if not (has_originator h) then Some Fault.Level
    else if is_below_zero h then Some Fault.Level
    else if h.id == 0 then Some Fault.Id
    else None
