use Rattle.std.proofs.Common.{◌∙◌, ap, sym}
use Rattle.tora_arq.specs.LinkEnd.{bound_life}
use Rattle.tora_sim.specs.Store.{SimState, state_of, world_of}
use Rattle.tora_sim.proofs.Resting.{bound_found}
use Rattle.tora_sim.proofs.sim.Sim.bound_life.Goals as goal

pub place-requires-clause-keys : goal.place-requires-clause-keys
place-requires-clause-keys c = c.self.invariant.2 ∙ sym c.self.invariant.0.keys

pub returns-in-Some : goal.returns-in-Some
returns-in-Some c =
    let s = c.self.inside in
    let state : SimState = state_of s.topology s.times s.clock s.nodes.items s.links.items s.datagrams.items in
    c.life.ensures ∙ bound_found state c.args.n c.args.k c.in-Some.at c.index.result.now c.in-Some.ensures.first c.index.ensures
    ∙ ap (λ (w : SimState). bound_life ((world_of w).ends c.args.n c.args.k)) c.self.view_is
