use Rattle.std.proofs.Common.{◌≡◌, ◌∙◌, ap, subst, List, IfOk, sym}
use Rattle.tora_packet.specs.declared.Packet.{Packet}
use Rattle.tora_world.specs.World.{taken_packets}
use Rattle.tora_sim.specs.Store.{SimState, state_of, world_of}
use Rattle.tora_sim.proofs.Lookups.{taken_found}
use Rattle.tora_sim.proofs.sim.Sim.taken.Goals as goal

pub place-requires-clause-keys : goal.place-requires-clause-keys
place-requires-clause-keys c = c.self.invariant.2 ∙ sym c.self.invariant.0.keys

pub returns-in-Some : goal.returns-in-Some
returns-in-Some c =
    let s = c.self.inside in
    let state : SimState = state_of s.topology s.times s.clock s.nodes.items s.links.items s.datagrams.items in
    subst (λ (ps : List Packet). IfOk c.taken.result (λ v. v.items ≡ ps))
    (taken_found state c.args.b c.args.a c.in-Some.at c.index.result.now c.in-Some.ensures.first c.index.ensures c.args.life
    ∙ ap (λ (w : SimState). taken_packets (world_of w) c.args.b c.args.a c.args.life) c.self.view_is)
    c.taken.ensures
