use Rattle.std.proofs.Common.{◌≡◌, ◌∙◌, ap, length, arith}
use Rattle.tora_world.specs.Topology.{nodes_in}
use Rattle.tora_sim.specs.Store.{SimState, state_of}
use Rattle.tora_sim.proofs.SameNodes.{as_many_nodes}
use Rattle.tora_sim.proofs.sim.Sim.node_count.Goals as goal

pub returns : goal.returns
returns c =
    let s = c.self.inside in
    let state : SimState = state_of s.topology s.times s.clock s.nodes.items s.links.items s.datagrams.items in
    let count : c.len.result ≡ length c.self.inside.nodes.items = omega (arith, c.len.ensures, c.self.inside.nodes.ok.0) in
    count ∙ as_many_nodes c.numbers_come_and_go.ensures.in_order state c.self.invariant.0 ∙ ap (λ (w : SimState). length (nodes_in w.topology.links)) c.self.view_is
