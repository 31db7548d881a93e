-- The numbers of an open life file, and the effect of a draw.
use Rattle.std.specs.Prelude.{◌≡◌, ℕ, ◌+◌, ◌<◌, ◌≤◌, max, Bool, true, false, if◌then◌else◌, ◌==◌, nat_le, Result, Ok}
use Rattle.std.specs.Prelude.{Err, IsTrue, IsFalse, List}
use Rattle.tora_life.specs.declared.numbers.TheConstants.{LAST_NUMBER, RESERVED}
use Rattle.tora_life.specs.declared.numbers.Numbers.{Numbers}
use Rattle.tora_life.specs.declared.numbers.LifeError.{LifeError}
use Rattle.tora_life.specs.declared.numbers.LifeError.TheVariants.{Disk, Failed, Spent, Damaged, Foreign}
use Rattle.tora_life.specs.declared.slots.Slot.{Slot}
use Rattle.tora_life.specs.declared.slots.Slot.TheVariants.{First, Second}
use Rattle.tora_life.specs.declared.tags.Owner.{Owner}
use Rattle.tora_life.specs.Disk.{IsOnlyImage}
use Rattle.tora_life.specs.LifeFile.{slot_value, file_value, Covers}

-- the value of a life file: no number above it is drawn before a greater bound is on the disk
abbrev pub value_of : Numbers → ℕ
value_of numbers = max numbers.first numbers.second

-- the numbers of a file when it is opened: the next number is the one after its value
abbrev pub numbers_of : List ℕ → Numbers
numbers_of file = record {
  first = slot_value file 0;
  second = slot_value file 1;
  drawn = file_value file;
  failed = false;
}

-- the slot for the next bound: the one with the smaller bound, slot 0 at a tie
abbrev pub lesser_slot : Numbers → Slot
lesser_slot numbers = if nat_le numbers.first numbers.second then First else Second

-- the next draw has to reserve sixteen more numbers, and can
pub record Reserves (numbers : Numbers) : Type 0 where
  pub sound : IsFalse numbers.failed
  pub used_up : numbers.drawn ≡ value_of numbers
  pub left : value_of numbers + RESERVED ≤ LAST_NUMBER

-- the next draw has to reserve numbers, and cannot
pub record IsSpent (numbers : Numbers) : Type 0 where
  pub sound : IsFalse numbers.failed
  pub used_up : numbers.drawn ≡ value_of numbers
  pub none_left : LAST_NUMBER < value_of numbers + RESERVED

abbrev pub with_bound : Slot → ℕ → Numbers → Numbers
with_bound First bound numbers = record numbers { first = bound }
with_bound Second bound numbers = record numbers { second = bound }

-- the numbers after sixteen more were reserved
abbrev pub reserved : Numbers → Numbers
reserved numbers = with_bound (lesser_slot numbers) (value_of numbers + RESERVED) numbers

-- after a draw: one more number is drawn, or none; after `Disk` the file has failed
abbrev pub numbers_after : Result ℕ LifeError → Numbers → Numbers
numbers_after (Ok n) numbers = record (if numbers.drawn == value_of numbers then reserved numbers
    else numbers) { drawn = numbers.drawn + 1 }
numbers_after (Err Disk) numbers = record numbers { failed = true }
numbers_after (Err Failed) numbers = numbers
numbers_after (Err Spent) numbers = numbers
numbers_after (Err Damaged) numbers = numbers
numbers_after (Err Foreign) numbers = numbers

-- the invariant of an open life file
pub record IsKept {D : Type 0} (tells : D → Bool) (seen : D → List ℕ) (may_leave : D → List ℕ
    → Type 0) (owner : Owner) (numbers : Numbers) (disk : D) : Type 0 where
  pub room : numbers.drawn ≤ value_of numbers
  -- if numbers are left to draw, the value is at most 2^62
  pub reach : numbers.drawn < value_of numbers → value_of numbers ≤ LAST_NUMBER
  -- every file that a crash leaves opens for the owner, and draws only numbers above those drawn
  pub images : IsTrue (tells disk) → (c : List ℕ) → may_leave disk c → Covers owner numbers.drawn c
  -- if no call has failed, the bounds are those in the file, and the whole file is on the disk
  pub only : IsTrue (tells disk) → IsFalse numbers.failed → IsOnlyImage (seen disk) (may_leave disk)
  pub first : IsTrue (tells disk) → IsFalse numbers.failed → numbers.first ≡ slot_value (seen disk) 0
  pub second : IsTrue (tells disk) → IsFalse numbers.failed → numbers.second ≡ slot_value (seen disk) 1
