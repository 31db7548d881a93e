use Rattle.std.proofs.Common.{◌∙◌, ap, sym}
use Rattle.tora_world.specs.Topology.{is_node}
use Rattle.tora_sim.specs.Store.{SimState, state_of}
use Rattle.tora_sim.proofs.SameNodes.{node_there, no_node}
use Rattle.tora_sim.proofs.sim.Sim.has_node.Goals as goal

pub returns-in-Some : goal.returns-in-Some
returns-in-Some c =
    let s = c.self.inside in
    let state : SimState = state_of s.topology s.times s.clock s.nodes.items s.links.items s.datagrams.items in
    sym (node_there state c.self.invariant.0 c.args.n c.in-Some._place c.in-Some.ensures.first) ∙ ap (λ (w : SimState). is_node w.topology c.args.n) c.self.view_is

pub returns-in-None : goal.returns-in-None
returns-in-None c =
    let s = c.self.inside in
    let state : SimState = state_of s.topology s.times s.clock s.nodes.items s.links.items s.datagrams.items in
    sym (no_node state c.self.invariant.0 c.args.n c.in-None.ensures.none) ∙ ap (λ (w : SimState). is_node w.topology c.args.n) c.self.view_is
