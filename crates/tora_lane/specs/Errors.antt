-- The numbers of errors.
use Rattle.std.specs.Prelude.{ℕ}
use Rattle.tora_lane.specs.declared.errors.LaneError.{LaneError}
use Rattle.tora_lane.specs.declared.errors.LaneError.TheVariants.{Memory, TooMany}

abbrev pub lane_error_number : LaneError → ℕ
lane_error_number Memory = 1
lane_error_number TooMany = 2
