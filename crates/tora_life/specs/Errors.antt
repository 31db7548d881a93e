-- The numbers of the errors, as texts print them.
use Rattle.std.specs.Prelude.{ℕ}
use Rattle.tora_life.specs.declared.numbers.LifeError.{LifeError}
use Rattle.tora_life.specs.declared.numbers.LifeError.TheVariants.{Disk, Failed, Spent, Damaged, Foreign}

abbrev pub life_error_number : LifeError → ℕ
life_error_number Disk = 1
life_error_number Failed = 2
life_error_number Spent = 3
life_error_number Damaged = 4
life_error_number Foreign = 5
