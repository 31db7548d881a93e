-- The meaning of the bytes of a life file.
use Rattle.std.specs.Prelude.{◌≡◌, ℕ, ◌+◌, ◌-◌, ◌^◌, ◌≤◌, zero, suc, max, List, ◌++◌, length, take, drop, if◌then◌else◌}
use Rattle.std.specs.Prelude.{◌&&◌, ◌==◌, nat_le}
use Rattle.std.specs.Int.{w64, from_be_bytes, to_be_bytes}
use Rattle.tora_life.specs.declared.lengths.TheConstants.{SLOT_LENGTH, SLOTS_LENGTH}
use Rattle.tora_life.specs.declared.tags.Owner.{Owner}
use Rattle.tora_life.specs.Tags.{tag_of}

-- the number in eight bytes, highest byte first
unfoldable pub number_of : List ℕ → ℕ
number_of bytes = from_be_bytes w64 bytes

-- the bound in a slot: eight bytes, and then their bitwise complement, so that the two add up to 2^64 - 1. A slot that
-- is not complementary, or is incomplete, counts as 0
unfoldable pub slot_bound : List ℕ → ℕ
slot_bound slot =
    if nat_le SLOT_LENGTH (length slot) && (number_of (take 8 slot) + number_of (take 8 (drop 8 slot)) == 2 ^ 64 - 1)
    then number_of (take 8 slot) else 0

-- slot i of a file: slot 0 is its first sixteen bytes
abbrev pub slot_value : List ℕ → ℕ → ℕ
slot_value file zero = slot_bound (take SLOT_LENGTH file)
slot_value file (suc i) = slot_value (drop SLOT_LENGTH file) i

-- the value of a file: the greater of the bounds in its two slots
abbrev pub file_value : List ℕ → ℕ
file_value file = max (slot_value file 0) (slot_value file 1)

-- the bytes of a slot with this bound
unfoldable pub slot_of : ℕ → List ℕ
slot_of bound = to_be_bytes w64 bound ++ to_be_bytes w64 (2 ^ 64 - 1 - bound)

-- the file opens for its owner, has the owner's tag, and draws only numbers above n
pub record Covers (owner : Owner) (n : ℕ) (file : List ℕ) : Type 0 where
  pub value : n ≤ file_value file
  pub tag : drop SLOTS_LENGTH file ≡ tag_of owner
