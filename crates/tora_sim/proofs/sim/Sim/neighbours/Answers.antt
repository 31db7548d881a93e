use Rattle.std.proofs.Common.{◌∙◌, ap, sym}
use Rattle.tora_world.specs.Topology.{neighbours_of}
use Rattle.tora_sim.specs.Store.{SimState, state_of}
use Rattle.tora_sim.proofs.CoreEnds.{neighbours_there, no_neighbours}
use Rattle.tora_sim.proofs.sim.Sim.neighbours.Goals as goal

pub returns-in-Some : goal.returns-in-Some
returns-in-Some c =
    let s = c.self.inside in
    let state : SimState = state_of s.topology s.times s.clock s.nodes.items s.links.items s.datagrams.items in
    c.neighbours.ensures ∙ neighbours_there state c.self.invariant.0 c.args.n c.in-Some.at c.index.result.now c.in-Some.ensures.first c.index.ensures
    ∙ ap (λ (w : SimState). neighbours_of w.topology c.args.n) c.self.view_is

pub returns-in-None : goal.returns-in-None
returns-in-None c =
    let s = c.self.inside in
    let state : SimState = state_of s.topology s.times s.clock s.nodes.items s.links.items s.datagrams.items in
    sym (no_neighbours state c.self.invariant.0 c.args.n c.in-None.ensures.none) ∙ ap (λ (w : SimState). neighbours_of w.topology c.args.n) c.self.view_is
