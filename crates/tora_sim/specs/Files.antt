-- The life file of a link end.
use Rattle.std.specs.Prelude.{ℕ, ◌≤◌}
use Rattle.tora_life.specs.LifeRun.{LifeDisk}
use Rattle.tora_life.specs.LifeRun.LifeDisk.{Opened, Unopened}
use Rattle.tora_sim.specs.declared.files.FileSlot.{FileSlot}
use Rattle.tora_sim.specs.declared.files.FileSlot.TheVariants as Slot

abbrev pub disk_of : FileSlot → LifeDisk
disk_of (Slot.Opened file) = Opened file.owner file.numbers file.disk.state
disk_of (Slot.Unopened owner disk) = Unopened owner disk.state

-- a number is at most the last one that the file drew, if the file is open
abbrev pub IsDrawn : ℕ → LifeDisk → Type 0
IsDrawn number (Opened owner numbers s) = number ≤ numbers.drawn
IsDrawn number (Unopened owner s) = Unit {0}
