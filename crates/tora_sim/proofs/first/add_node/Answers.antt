use Rattle.std.proofs.Common.{◌≡◌, suc, ◌+◌, List, [], ◌∷◌, ◌++◌, length, replicate, false, if◌then◌else◌, ap, sym, ◌∙◌, subst, arith, refl}
use Rattle.tora_sim.specs.declared.nodes.Sending.TheVariants.{Goes}
use Rattle.tora_sim.specs.Nodes.{NodeView, node_of}
use Rattle.tora_sim.specs.Firsts.{IsFirstNode, IsMade}
use Rattle.tora_sim.proofs.FirstLists.{node-more}
use Rattle.tora_sim.proofs.first.add_node.Goals as goal

pub returns : goal.returns
returns c =
    let node : NodeView = node_of c.args.n c.len-first.result c.len-count.result c.in-Ok.seat.value c.new-3.result.items c.in-Ok-new.items.items c.in_ok-counts.counts.items Goes false in
    let put : c.push.new.self.items ≡ c.args.nodes.now.items ++ node ∷ [] =
    c.push.ensures.items ∙ ap (λ b. if b then c.args.nodes.now.items ++ node ∷ [] else c.args.nodes.now.items) c.if-is_err.ensures.negation in
    let first : c.len-first.result ≡ length c.args.links.now.items = omega (arith, c.len-first.ensures, c.args.links.now.ok.0) in
    let next : c.len-count.result + 1 ≡ suc c.len-count.result = omega arith in
    let made : IsFirstNode c.args.topology.now node = record {
      count = c.len-count.ensures.value ∙ ap length c.neighbours-neighbours.ensures.items;
      seat = c.in-Ok.ensures.ok ∙ c.in_ok-seat.ensures;
      inputs = c.new-3.ensures.items;
      items = c.in-Ok-new.ensures;
      counts = c.in_ok-counts.ensures ∙ ap (λ m. replicate m 0) next;
      sending = refl;
      receive = refl;
    } in
    subst (λ (xs : List NodeView). IsMade c.args.topology.now c.args.times c.args.n c.args.nodes.now.items c.args.links.now.items xs c.add_links.new.links.items) (sym put)
    (node-more c.args.topology.now c.args.times c.args.n c.args.nodes.now.items c.args.links.now.items c.add_links.new.links.items node c.in_ok-add_links.ensures made refl first)
