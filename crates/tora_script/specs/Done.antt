-- Whether a simulation file has reached its last round.
use Rattle.std.specs.Prelude.{ℕ, Bool, Option}
use Rattle.tora_script.specs.declared.simulation.Stage.{Stage}
use Rattle.tora_script.specs.declared.simulation.Stage.TheVariants as At
use Rattle.tora_script.specs.SimulationText.{is_done}

-- whether all rounds of `--until` are done; before the simulation runs, no round is done
abbrev pub is_done_at : {S : Type 0} → Option ℕ → Stage S → Bool
is_done_at until At.First = is_done until 0
is_done_at until (At.Links lines) = is_done until 0
is_done_at until (At.Runs s) = is_done until s.in_flight.round
