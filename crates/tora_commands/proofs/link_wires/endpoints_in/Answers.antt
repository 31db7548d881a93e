use Rattle.std.proofs.Common.{length}
use Rattle.tora_commands.proofs.NodeEnds.{endpoints_had}
use Rattle.tora_commands.proofs.link_wires.endpoints_in.Goals as goal

pub returns-clause-endpoints : goal.returns-clause-endpoints
returns-clause-endpoints g c = endpoints_had c.args.text.now c.in-Ok.endpoints.items (λ keyed. length keyed.items) c.with_keys.result c.in-Ok.ensures.exact c.with_keys.ensures.count
