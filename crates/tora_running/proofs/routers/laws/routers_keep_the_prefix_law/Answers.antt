use Rattle.tora_running.specs.Network.{first_network, after_parts}
use Rattle.tora_running.specs.Hosts.{first_hosts, after_calls}
use Rattle.tora_running.proofs.HostLaws.{taken_begins}
use Rattle.tora_running.proofs.routers.laws.routers_keep_the_prefix_law.Goals as goal

pub returns : goal.returns
returns c = λ t times calls routers hosted. let x = c.routers_are_a_world.ensures t times calls routers hosted in taken_begins t times (after_calls calls (first_hosts t times)) (after_parts x.parts (first_network t times)) x.same (c.running_nodes_keep_the_prefix_law.ensures.prefix t times x.parts x.run)
