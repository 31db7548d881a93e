use Rattle.tora_running.specs.Network.{first_network, after_parts}
use Rattle.tora_running.proofs.WorldLaws.{walks_arrive}
use Rattle.tora_running.proofs.laws.running_walks_arrive.Goals as goal

pub returns : goal.returns
returns c = λ t times parts run. walks_arrive c.exact_entries_give_walks.ensures.walks t times (after_parts parts (first_network t times)) (c.running_nodes_are_a_world.ensures t times parts run)
