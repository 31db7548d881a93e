-- How many neighbours and destinations a core may have.
use Rattle.std.specs.Prelude.{ℕ, nat_lt, if◌then◌else◌}
use Rattle.tora_core.specs.declared.limits.CoreLimits.{CoreLimits}
use Rattle.tora_core.specs.declared.TheConstants.{GREATEST_NEIGHBOURS, MOST_DESTINATIONS}

-- the smaller one of a limit and the greatest
abbrev pub at_most : ℕ → ℕ → ℕ
at_most greatest limit = if nat_lt limit greatest then limit else greatest

abbrev pub most_neighbours : CoreLimits → ℕ
most_neighbours limits = at_most GREATEST_NEIGHBOURS limits.neighbours

abbrev pub most_destinations : CoreLimits → ℕ
most_destinations limits = at_most MOST_DESTINATIONS limits.destinations

abbrev pub greatest_core_limits : CoreLimits
greatest_core_limits = record { neighbours = GREATEST_NEIGHBOURS; destinations = MOST_DESTINATIONS }
