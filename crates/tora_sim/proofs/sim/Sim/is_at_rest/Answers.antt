use Rattle.std.proofs.Common.{◌∙◌, List, ap}
use Rattle.std.specs.List.{list_all}
use Rattle.tora_world.specs.Rest.{is_node_at_rest}
use Rattle.tora_world.specs.Topology.{nodes_in}
use Rattle.tora_sim.specs.Nodes.{NodeView}
use Rattle.tora_sim.specs.Store.{SimState, state_of, world_of}
use Rattle.tora_sim.proofs.SameNodes.{all_nodes}
use Rattle.tora_sim.proofs.sim.Sim.is_at_rest.Goals as goal

pub returns : goal.returns
returns c =
    let s = c.self.inside in
    let state : SimState = state_of s.topology s.times s.clock s.nodes.items s.links.items s.datagrams.items in
    c.are_at_rest.ensures ∙ ap (λ (nodes : List NodeView). list_all (λ (x : NodeView). is_node_at_rest (world_of c.args.self.now) x.node) nodes) c.deref.ensures.value
    ∙ all_nodes c.numbers_come_and_go.ensures.in_order state c.self.invariant.0 (is_node_at_rest (world_of c.args.self.now))
    ∙ ap (λ (w : SimState). list_all (is_node_at_rest (world_of c.args.self.now)) (nodes_in w.topology.links)) c.self.view_is
