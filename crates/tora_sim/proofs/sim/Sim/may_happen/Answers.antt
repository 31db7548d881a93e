use Rattle.std.proofs.Common.{◌≡◌, ◌∙◌, true, sym, is_some, subst}
use Rattle.tora_world.specs.World.{refusal_of}
use Rattle.tora_sim.specs.Store.{SimState, world_of}
use Rattle.tora_sim.proofs.Possibles.{impossible}
use Rattle.tora_sim.proofs.sim.Sim.may_happen.Goals as goal

pub returns-clause-refused : goal.returns-clause-refused
returns-clause-refused c e =
    let s = c.self.inside in
    subst (λ (w : SimState). is_some (refusal_of (world_of w) c.args.event.now) ≡ true) c.self.view_is
    (impossible s.topology s.times s.clock s.nodes.items s.links.items s.datagrams.items c.self.invariant.0 c.args.place c.args.event.now (sym c.may_be.ensures ∙ e))
