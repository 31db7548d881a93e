use Rattle.std.proofs.Common.{◌∙◌, ap, sym}
use Rattle.tora_world.specs.Rest.{life_at}
use Rattle.tora_sim.specs.Store.{SimState, state_of, world_of}
use Rattle.tora_sim.proofs.Resting.{life_found}
use Rattle.tora_sim.proofs.sim.Sim.life_at.Goals as goal

pub place-requires-clause-keys : goal.place-requires-clause-keys
place-requires-clause-keys c = c.self.invariant.2 ∙ sym c.self.invariant.0.keys

pub returns-in-Some-node_place : goal.returns-in-Some-node_place
returns-in-Some-node_place c =
    let s = c.self.inside in
    let state : SimState = state_of s.topology s.times s.clock s.nodes.items s.links.items s.datagrams.items in
    life_found state c.args.n c.args.k c.in-Some.end c.index.result.now c.in-Some.ensures.first c.index.ensures c.self.invariant.0
    c.in-Some-node_place.at c.index-in-Some-node_place.result.now c.in-Some-node_place.ensures.first c.index-in-Some-node_place.ensures
    c.current.result c.seat-seat.result c.seat-seat.ensures c.current.ensures
    ∙ ap (λ (w : SimState). life_at (world_of w) c.args.n c.args.k) c.self.view_is
