use Rattle.std.proofs.Common.{is_ok, refl}
use Rattle.tora_script.proofs.LinkPairs.{pairs_with}
use Rattle.tora_script.proofs.link_lines.LinkLines.push.Goals as goal

pub invariant_of-self : goal.invariant_of-self
invariant_of-self c = record {
  dests_are_ids = c.args.self.now.dests_are_ids;
  links_are_pairs = rw c.push.ensures.items (pairs_with c.args.self.now.links.items c.args.link (is_ok c.push.result) c.args.self.now.links_are_pairs c.requires);
  topology_is_known = refl;
}
