use Rattle.tora_running.specs.Network.{first_network, after_parts}
use Rattle.tora_running.proofs.WorldLaws.{routes_arrive}
use Rattle.tora_running.proofs.laws.running_routes_at_rest_arrive.Goals as goal

pub returns : goal.returns
returns c = λ t times parts run. routes_arrive c.routes_at_rest_arrive.ensures t times (after_parts parts (first_network t times)) (c.running_nodes_are_a_world.ensures t times parts run)
