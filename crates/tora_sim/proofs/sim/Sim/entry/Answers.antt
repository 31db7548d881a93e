use Rattle.std.proofs.Common.{◌∙◌, ap}
use Rattle.tora_world.specs.Walks.{entry_at}
use Rattle.tora_sim.specs.Store.{SimState, state_of, world_of}
use Rattle.tora_sim.proofs.Lookups.{entry_found}
use Rattle.tora_sim.proofs.sim.Sim.entry.Goals as goal

pub returns-in-Some : goal.returns-in-Some
returns-in-Some c =
    let s = c.self.inside in
    let state : SimState = state_of s.topology s.times s.clock s.nodes.items s.links.items s.datagrams.items in
    c.entry.ensures ∙ entry_found state c.self.invariant.0 c.args.n c.in-Some.at c.index.result.now c.in-Some.ensures.first c.index.ensures c.args.d c.args.k
    ∙ ap (λ (w : SimState). entry_at (world_of w) c.args.n c.args.k c.args.d) c.self.view_is
