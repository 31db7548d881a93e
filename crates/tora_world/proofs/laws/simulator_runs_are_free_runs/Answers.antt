use Rattle.tora_world.proofs.AllRuns.{own_run}
use Rattle.tora_world.specs.World.{first_world}
use Rattle.tora_world.proofs.laws.simulator_runs_are_free_runs.Goals as goal

pub returns : goal.returns
returns c = λ t times events. own_run events (first_world t times)
