-- Times and heights that a node computes.
use Rattle.std.specs.Prelude.{ℕ, ◌+◌, max, List, fold, Option, None, Some}
use Rattle.tora_height.specs.declared.height_error.HeightError.{HeightError}
use Rattle.tora_height.specs.Height.{Quintuple, height_fault}
use Rattle.tora_core.specs.View.{View, known_heights}

-- the least time tag later than that of a height
abbrev pub time_after : Option Quintuple → ℕ
time_after None = 0
time_after (Some height) = height.tau + 1

abbrev pub time_after_all : List Quintuple → ℕ
time_after_all heights = fold (λ time height. max time (height.tau + 1)) 0 heights

-- the time tag of a new level: at least the given tick, and later than every time that the node has generated or knows
abbrev pub fresh_time : View → ℕ → ℕ
fresh_time v now = max now (max 1 (max (v.last + 1) (max (time_after v.height) (time_after_all (known_heights v)))))

abbrev pub fitted_by : Quintuple → Option HeightError → Option Quintuple
fitted_by height None = Some height
fitted_by height (Some _) = None

-- a computed height, or NULL if a part of it is out of range
abbrev pub fitted_height : Quintuple → Option Quintuple
fitted_height height = fitted_by height (height_fault height)
