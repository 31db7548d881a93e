use Rattle.std.proofs.Common.{◌≡◌, ◌<◌, ℕ, List, map, take, length, get_or, sym, ap, ◌∙◌, subst, arith}
use Rattle.std.proofs.lemmas.List.{take_more, take_all}
use Rattle.tora_frame.specs.FrameParts.{FrameParts}
use Rattle.tora_world.specs.Topology.{Topology, nodes_in}
use Rattle.tora_world.specs.World.{first_world}
use Rattle.tora_sim.specs.Store.{IsStore, state_of, world_of}
use Rattle.tora_sim.specs.Firsts.{AreMade, IsMade}
use Rattle.tora_sim.specs.Links.{key_of}
use Rattle.tora_sim.proofs.Peers.{positive-node}
use Rattle.tora_sim.proofs.FirstStore.{is-store, is-first}
use Rattle.tora_sim.proofs.IdleEnds.{none_known}
use Rattle.tora_sim.proofs.sim.Sim.with_times.Goals as goal

pub add_node-requires-clause-me : goal.add_node-requires-clause-me
add_node-requires-clause-me c =
    let same : c.as_slice-n-items.result.now ≡ nodes_in c.in-Ok.own.links = c.as_slice-n-items.ensures.value ∙ c.nodes-named.ensures.items in
    let lt : c.loop-n.n-index < length (nodes_in c.in-Ok.own.links) = subst (λ (ns : List ℕ). c.loop-n.n-index < length ns) same c.loop-n-test.true in
    subst (λ (ns : List ℕ). 0 < get_or ns c.loop-n.n-index 0) (sym same) (positive-node c.in-Ok.own c.nodes-named.ensures.kept c.loop-n.n-index 0 lt)

pub loop-n-preserved : goal.loop-n-preserved
loop-n-preserved c =
    let more : IsMade c.args.topology.now c.args.times (get_or c.as_slice-n-items.result.now c.loop-n.n-index 0) c.loop-n.nodes.items c.loop-n.links.items c.add_node.new.nodes.items c.add_node.new.links.items =
    subst (λ (t : Topology). IsMade t c.args.times (get_or c.as_slice-n-items.result.now c.loop-n.n-index 0) c.loop-n.nodes.items c.loop-n.links.items c.add_node.new.nodes.items c.add_node.new.links.items) c.in-Ok.ensures c.in_ok-add_node.ensures in
    subst (λ (ns : List ℕ). AreMade c.args.topology.now c.args.times ns c.add_node.new.nodes.items c.add_node.new.links.items) (sym (take_more c.as_slice-n-items.result.now c.loop-n.n-index 0 c.loop-n-test.true))
    (more (take c.loop-n.n-index c.as_slice-n-items.result.now) c.loop-n.invariant)

module _ (c : goal.After-new-2) where
  made : AreMade c.in-Ok.own c.args.times (nodes_in c.in-Ok.own.links) c.loop-n.nodes.items c.loop-n.links.items
  made =
      let same : c.as_slice-n-items.result.now ≡ nodes_in c.in-Ok.own.links = c.as_slice-n-items.ensures.value ∙ c.nodes-named.ensures.items in
      let whole : take c.loop-n.n-index c.as_slice-n-items.result.now ≡ c.as_slice-n-items.result.now = take_all c.loop-n.n-index c.as_slice-n-items.result.now c.loop-n-test.false in
      subst (λ (t : Topology). AreMade t c.args.times (nodes_in c.in-Ok.own.links) c.loop-n.nodes.items c.loop-n.links.items) (sym c.in-Ok.ensures)
      (subst (λ (ns : List ℕ). AreMade c.args.topology.now c.args.times ns c.loop-n.nodes.items c.loop-n.links.items) (whole ∙ same) c.loop-n.invariant)

pub invariant_of-result : goal.invariant_of-result
invariant_of-result c =
    let many : c.len-count.result ≡ length c.loop-n.links.items = omega (arith, c.len-count.ensures) in
    let store = is-store c.numbers_are_put_in_order.ensures.order c.numbers_come_and_go.ensures.in_order c.in-Ok.own c.args.times c.nodes-named.ensures.kept c.loop-n.nodes.items c.loop-n.links.items (made c) in (
      subst (λ (ds : List FrameParts). IsStore (state_of c.in-Ok.own c.args.times 0 c.loop-n.nodes.items c.loop-n.links.items ds)) (sym c.new.ensures) store,
      none_known 0 c.len-count.result c.in_ok-deadlines.deadlines c.loop-n.links.items c.in_ok-deadlines.ensures many,
      c.in_ok-keys.ensures ∙ ap (map key_of) c.deref.ensures.value ∙ store.keys,
    )

pub returns-clause-made : goal.returns-clause-made
returns-clause-made c =
    let same : c.as_slice-n-items.result.now ≡ nodes_in c.in-Ok.own.links = c.as_slice-n-items.ensures.value ∙ c.nodes-named.ensures.items in
    let whole : take c.loop-n.n-index c.as_slice-n-items.result.now ≡ c.as_slice-n-items.result.now = take_all c.loop-n.n-index c.as_slice-n-items.result.now c.loop-n-test.false in
    let made : AreMade c.in-Ok.own c.args.times (nodes_in c.in-Ok.own.links) c.loop-n.nodes.items c.loop-n.links.items =
    subst (λ (t : Topology). AreMade t c.args.times (nodes_in c.in-Ok.own.links) c.loop-n.nodes.items c.loop-n.links.items) (sym c.in-Ok.ensures)
    (subst (λ (ns : List ℕ). AreMade c.args.topology.now c.args.times ns c.loop-n.nodes.items c.loop-n.links.items) (whole ∙ same) c.loop-n.invariant) in
    ap (λ (ds : List FrameParts). world_of (state_of c.in-Ok.own c.args.times 0 c.loop-n.nodes.items c.loop-n.links.items ds)) c.new.ensures
    ∙ is-first c.numbers_are_put_in_order.ensures.order c.numbers_come_and_go.ensures.in_order c.in-Ok.own c.args.times c.nodes-named.ensures.kept c.loop-n.nodes.items c.loop-n.links.items made
    ∙ ap (λ (t : Topology). first_world t c.args.times) c.in-Ok.ensures
