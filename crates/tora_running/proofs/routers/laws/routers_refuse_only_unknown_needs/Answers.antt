use Rattle.tora_running.specs.Hosts.{first_hosts, after_calls}
use Rattle.tora_running.proofs.Refusals.{refuses_only_unknown}
use Rattle.tora_running.proofs.routers.laws.routers_refuse_only_unknown_needs.Goals as goal

pub returns : goal.returns
returns c = λ t times calls routers hosted. let x = c.routers_are_a_world.ensures t times calls routers hosted in refuses_only_unknown t times (after_calls calls (first_hosts t times)) x.parts x.run x.same (c.router_cores_follow.ensures t times calls routers hosted) c.running_cores_refuse_only_needs.ensures
