use Rattle.std.proofs.Common.{◌∙◌, ap, length, sym}
use Rattle.tora_world.specs.World.{sent_packets}
use Rattle.tora_sim.specs.Store.{SimState, state_of, world_of}
use Rattle.tora_sim.proofs.Lookups.{sent_found}
use Rattle.tora_sim.proofs.sim.Sim.sent_count.Goals as goal

pub place-requires-clause-keys : goal.place-requires-clause-keys
place-requires-clause-keys c = c.self.invariant.2 ∙ sym c.self.invariant.0.keys

pub returns-in-Some : goal.returns-in-Some
returns-in-Some c =
    let s = c.self.inside in
    let state : SimState = state_of s.topology s.times s.clock s.nodes.items s.links.items s.datagrams.items in
    c.sent_count.ensures ∙ ap length (sent_found state c.args.a c.args.b c.in-Some.at c.index.result.now c.in-Some.ensures.first c.index.ensures c.args.life)
    ∙ ap (λ (w : SimState). length (sent_packets (world_of w) c.args.a c.args.b c.args.life)) c.self.view_is
