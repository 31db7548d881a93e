use Rattle.std.proofs.Common.{◌∙◌, ap}
use Rattle.tora_sim.specs.Store.{SimState, state_of, world_of}
use Rattle.tora_world.specs.Walks.{height_at}
use Rattle.tora_sim.proofs.Lookups.{height_found}
use Rattle.tora_sim.proofs.sim.Sim.height.Goals as goal

pub returns-in-Some : goal.returns-in-Some
returns-in-Some c =
    let s = c.self.inside in
    let state : SimState = state_of s.topology s.times s.clock s.nodes.items s.links.items s.datagrams.items in
    c.height.ensures ∙ height_found state c.self.invariant.0 c.args.n c.in-Some.at c.index.result.now c.in-Some.ensures.first c.index.ensures c.args.d
    ∙ ap (λ (w : SimState). height_at (world_of w) c.args.n c.args.d) c.self.view_is
