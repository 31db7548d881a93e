use Rattle.std.proofs.Common.{◌∙◌}
use Rattle.tora_sim.proofs.Named.{named-nodes}
use Rattle.tora_sim.proofs.link_nodes.names_node.Goals as goal

pub returns : goal.returns
returns c = c.is_named.ensures ∙ named-nodes c.args.n c.args.links.now
