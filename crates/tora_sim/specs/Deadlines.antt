-- Deadlines of link ends.
use Rattle.std.specs.Prelude.{ℕ, ◌<◌, ◌≤◌, nat_le, List, length, map, min, slice_index}
use Rattle.std.specs.Simd.Lanes.{chunk, mask_l}

-- a deadline as it is stored: the greatest number of four bytes for that and any later one
abbrev pub short : ℕ → ℕ
short tick = min tick 4294967295

-- the deadlines from the index `from` to below `to` have not come
abbrev pub AreLater : ℕ → ℕ → ℕ → List ℕ → Type 0
AreLater now from to ends = (at : ℕ) → from ≤ at → at < to → at < length ends → now < slice_index ends at

-- a bit for each of the sixteen deadlines from an index on, the lowest for the first; it is set if the deadline has
-- come
abbrev pub due_bits : ℕ → ℕ → List ℕ → ℕ
due_bits now first ticks = mask_l (map (λ tick. nat_le tick now) (chunk first 16 ticks))
