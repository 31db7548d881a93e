use Rattle.std.proofs.Common.{◌≡◌, true, false, sym, ap, ◌∙◌, arith}
use Rattle.tora_core.specs.Numbers.{has_number}
use Rattle.tora_world.specs.Topology.{Topology, nodes_in}
use Rattle.tora_sim.specs.Topologies.{links_in}
use Rattle.tora_sim.proofs.Olds as olds
use Rattle.tora_sim.proofs.topology.Topology.set_old.Goals as goal

pub push-requires : goal.push-requires
push-requires c =
    let ls = links_in c.self.inside.links.items in
    let there : has_number c.args.n (nodes_in ls) ≡ true =
    ap (λ (t : Topology). has_number c.args.n (nodes_in t.links)) c.self.view_is
    ∙ sym c.has_node.ensures ∙ c.if-not-has_node.false in
    let new : has_number c.args.n c.self.inside.olds.items ≡ false = ap (has_number c.args.n) (sym c.as_slice.ensures.value) ∙ sym c.has_number.ensures ∙ c.if-not-has_number.true in
    (omega arith, olds.room c.args.n c.self.inside.olds.items (nodes_in ls) there new c.self.invariant.old_nodes)

pub invariant_of-self : goal.invariant_of-self
invariant_of-self c =
    let ls = links_in c.self.inside.links.items in
    let there : has_number c.args.n (nodes_in ls) ≡ true =
    ap (λ (t : Topology). has_number c.args.n (nodes_in t.links)) c.self.view_is
    ∙ sym c.has_node.ensures ∙ c.if-not-has_node.false in
    let new : has_number c.args.n c.self.inside.olds.items ≡ false = ap (has_number c.args.n) (sym c.as_slice.ensures.value) ∙ sym c.has_number.ensures ∙ c.if-not-has_number.true in
    rw c.push.ensures.items (record {
      numbers = record { links = c.self.invariant.numbers.links; destinations = c.self.invariant.numbers.destinations };
      sound = c.self.invariant.sound;
      old_nodes = olds.kept c.args.n c.self.inside.olds.items (nodes_in ls) there new c.self.invariant.old_nodes;
    })
