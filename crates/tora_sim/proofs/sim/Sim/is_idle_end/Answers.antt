use Rattle.std.proofs.Common.{◌∙◌, ap, sym}
use Rattle.tora_world.specs.Rest.{is_idle_end}
use Rattle.tora_sim.specs.Store.{SimState, state_of, world_of}
use Rattle.tora_sim.proofs.Resting.{idle_found}
use Rattle.tora_sim.proofs.sim.Sim.is_idle_end.Goals as goal

pub place-requires-clause-keys : goal.place-requires-clause-keys
place-requires-clause-keys c = c.self.invariant.2 ∙ sym c.self.invariant.0.keys

pub returns-in-Some : goal.returns-in-Some
returns-in-Some c =
    let s = c.self.inside in
    let state : SimState = state_of s.topology s.times s.clock s.nodes.items s.links.items s.datagrams.items in
    c.is_idle.ensures ∙ idle_found state c.args.n c.args.k c.in-Some.at c.index.result.now c.in-Some.ensures.first c.index.ensures
    ∙ ap (λ (w : SimState). is_idle_end (world_of w) c.args.n c.args.k) c.self.view_is
