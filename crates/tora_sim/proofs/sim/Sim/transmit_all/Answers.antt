use Rattle.std.proofs.Common.{◌≡◌, true, is_some, subst}
use Rattle.tora_world.specs.declared.event.Event.TheVariants.{Transmit}
use Rattle.tora_world.specs.World.{refusal_of}
use Rattle.tora_sim.specs.Store.{SimState, world_of}
use Rattle.tora_sim.proofs.Sends.{at_home}
use Rattle.tora_sim.proofs.Sendings.{read_there, no_end, none_at_all}
use Rattle.tora_sim.proofs.sim.Sim.transmit_all.Goals as goal

pub returns-in_default : goal.returns-in_default
returns-in_default c =
    let s = c.self.inside in
    none_at_all (world_of c.args.self.now) c.args.most (Transmit c.args.n c.args.k)
    (subst (λ (v : SimState). is_some (refusal_of (world_of v) (Transmit c.args.n c.args.k)) ≡ true) c.self.view_is
    (no_end s.topology s.times s.clock s.nodes.items s.links.items s.datagrams.items c.self.invariant.0 c.args.n c.args.k c.in_default.ensures.none))

pub returns-in_default-node_near : goal.returns-in_default-node_near
returns-in_default-node_near c =
    let s = c.self.inside in
    let there = read_there s.links.items c.in-Some.at c.in-Some.ensures.first.within in
    absurd (at_home s.topology s.times s.clock s.nodes.items s.links.items s.datagrams.items c.self.invariant.0 c.args.n c.args.k c.in-Some.at there.0 c.in-Some.ensures.first there.1
    c.in_default-node_near.ensures.none)
