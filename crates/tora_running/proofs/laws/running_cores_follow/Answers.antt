use Rattle.tora_running.specs.Network.{first_network, after_parts}
use Rattle.tora_running.proofs.WorldLaws.{cores_follow}
use Rattle.tora_running.proofs.laws.running_cores_follow.Goals as goal

pub returns : goal.returns
returns c = λ t times parts run. cores_follow c.prefix_law.ensures.cores t times (after_parts parts (first_network t times)) (c.running_nodes_are_a_world.ensures t times parts run)
