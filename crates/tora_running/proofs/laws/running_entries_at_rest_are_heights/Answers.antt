use Rattle.tora_running.specs.Network.{first_network, after_parts}
use Rattle.tora_running.proofs.WorldLaws.{entries_are_heights}
use Rattle.tora_running.proofs.laws.running_entries_at_rest_are_heights.Goals as goal

pub returns : goal.returns
returns c = λ t times parts run. entries_are_heights c.entries_at_rest_are_heights.ensures.entries t times (after_parts parts (first_network t times)) (c.running_nodes_are_a_world.ensures t times parts run)
