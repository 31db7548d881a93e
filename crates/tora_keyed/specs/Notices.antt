-- When the count of rejected datagrams is logged.
use Rattle.std.specs.Prelude.{ℕ, ◌+◌, Bool, true, ◌&&◌, not, ◌==◌, nat_lt, Option, Some, None, if◌then◌else◌}

-- the count that was logged last, and its tick
pub record NoticesView : Type 0 where
  pub told : ℕ
  pub last : Option ℕ

-- a minute of 600 ticks has passed since the tick, or the clock has gone back
abbrev pub has_passed : Option ℕ → ℕ → Bool
has_passed None now = true
has_passed (Some last) now = if nat_lt now last then true else not (nat_lt now (last + 600))

-- a count differs from the last one that was logged
abbrev pub is_new : NoticesView → ℕ → Bool
is_new n count = not (count == n.told)

-- a new count is logged if a minute has passed
abbrev pub is_told : NoticesView → ℕ → ℕ → Bool
is_told n count now = is_new n count && has_passed n.last now

abbrev pub after_count : NoticesView → ℕ → ℕ → NoticesView
after_count n count now = if is_told n count now then record { told = count; last = Some now } else n
