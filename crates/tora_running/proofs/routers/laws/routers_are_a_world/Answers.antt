use Rattle.tora_running.proofs.HostedRuns.{hosted_run}
use Rattle.tora_running.proofs.routers.laws.routers_are_a_world.Goals as goal

pub returns : goal.returns
returns c = λ t times calls routers hosted. let x = hosted_run t times routers calls hosted in record { parts = x.0; run = x.1; same = x.2; world = c.running_nodes_are_a_world.ensures t times x.0 x.1 }
