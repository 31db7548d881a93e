use Rattle.tora_running.specs.Network.{first_network, after_parts}
use Rattle.tora_running.proofs.WorldLaws.{without_gap}
use Rattle.tora_running.proofs.laws.running_nodes_keep_the_no_gap_law.Goals as goal

pub returns : goal.returns
returns c = λ t times parts run. without_gap c.no_gap_law.ensures.gapless t times (after_parts parts (first_network t times)) (c.running_nodes_are_a_world.ensures t times parts run)
