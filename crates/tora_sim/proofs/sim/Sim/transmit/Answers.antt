use Rattle.std.proofs.Common.{◌∙◌, sym}
use Rattle.tora_sim.proofs.Sends.{at_home}
use Rattle.tora_sim.proofs.Sendings.{read_there}
use Rattle.tora_sim.proofs.sim.Sim.transmit.Goals as goal

pub place-requires-clause-keys : goal.place-requires-clause-keys
place-requires-clause-keys c = c.self.invariant.2 ∙ sym c.self.invariant.0.keys

pub returns-in_default-node_near : goal.returns-in_default-node_near
returns-in_default-node_near c =
    let s = c.self.inside in
    let there = read_there s.links.items c.in-Some.at c.in-Some.ensures.first.within in
    absurd (at_home s.topology s.times s.clock s.nodes.items s.links.items s.datagrams.items c.self.invariant.0 c.args.n c.args.k c.in-Some.at there.0 c.in-Some.ensures.first there.1
    c.in_default-node_near.ensures.none)
