-- The slot that a write replaces, and the other slot.
use Rattle.std.specs.Prelude.{◌≡◌, ℕ, List}
use Rattle.tora_life.specs.declared.slots.Slot.{Slot}
use Rattle.tora_life.specs.declared.slots.Slot.TheVariants.{First, Second}
use Rattle.tora_life.specs.Disk.{IsOnlyImage}
use Rattle.tora_life.specs.LifeFile.{slot_value}

abbrev pub written_bound : Slot → List ℕ → ℕ
written_bound First file = slot_value file 0
written_bound Second file = slot_value file 1

abbrev pub kept_bound : Slot → List ℕ → ℕ
kept_bound First file = slot_value file 1
kept_bound Second file = slot_value file 0

-- the file has the new bound in that slot and the old bound in the other, and all of it is on the disk
pub record IsReplaced (slot : Slot) (bound : ℕ) (old new : List ℕ) (may_leave : List ℕ → Type 0) : Type 0 where
  pub only : IsOnlyImage new may_leave
  pub written : written_bound slot new ≡ bound
  pub kept : kept_bound slot new ≡ kept_bound slot old
