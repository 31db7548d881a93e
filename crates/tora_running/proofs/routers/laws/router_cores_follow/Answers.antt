use Rattle.tora_running.specs.Network.{first_network, after_parts}
use Rattle.tora_running.specs.Hosts.{first_hosts, after_calls}
use Rattle.tora_running.proofs.HostLaws.{cores_follow}
use Rattle.tora_running.proofs.routers.laws.router_cores_follow.Goals as goal

pub returns : goal.returns
returns c = λ t times calls routers hosted. let x = c.routers_are_a_world.ensures t times calls routers hosted in cores_follow t times (after_calls calls (first_hosts t times)) (after_parts x.parts (first_network t times)) x.same (c.running_cores_follow.ensures t times x.parts x.run)
