-- The numbers of the errors, as texts print them.
use Rattle.std.specs.Prelude.{ℕ}
use Rattle.tora_height.specs.declared.height_error.HeightError.{HeightError}
use Rattle.tora_height.specs.declared.height_error.HeightError.TheVariants.{Tau, Delta, Level, Id}

abbrev pub height_error_number : HeightError → ℕ
height_error_number Tau = 1
height_error_number Delta = 2
height_error_number Level = 3
height_error_number Id = 4
