use Rattle.tora_running.specs.Network.{first_network, after_parts}
use Rattle.tora_running.proofs.WorldLaws.{refuses_only_needs}
use Rattle.tora_running.proofs.laws.running_cores_refuse_only_needs.Goals as goal

pub returns : goal.returns
returns c = λ t times parts run. refuses_only_needs c.only_needs_are_refused.ensures.refused t times (after_parts parts (first_network t times)) (c.running_nodes_are_a_world.ensures t times parts run)
