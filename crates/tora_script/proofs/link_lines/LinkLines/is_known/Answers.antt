use Rattle.tora_script.proofs.KnownTopology.{known_stands}
use Rattle.tora_script.proofs.link_lines.LinkLines.is_known.Goals as goal

pub returns : goal.returns
returns c = known_stands c.args.self.now.known c.args.limits c.args.self.now.links.items c.args.self.now.dests.items c.are_limits.result c.are_limits.ensures c.args.self.now.topology_is_known
