use Rattle.std.proofs.Common.{◌≡◌, true, is_some, subst}
use Rattle.tora_world.specs.declared.event.Event.TheVariants.{CoreTurn}
use Rattle.tora_world.specs.World.{refusal_of}
use Rattle.tora_sim.specs.Store.{SimState, state_of, world_of}
use Rattle.tora_sim.proofs.Sendings.{none_at_all}
use Rattle.tora_sim.proofs.TakenItems.{no_turn, none_asked}
use Rattle.tora_sim.proofs.sim.Sim.turn_all.Goals as goal

pub returns-in_default : goal.returns-in_default
returns-in_default c =
    let s = c.self.inside in
    none_at_all (world_of c.args.self.now) c.args.most (CoreTurn c.args.n)
    (subst (λ (v : SimState). is_some (refusal_of (world_of v) (CoreTurn c.args.n)) ≡ true) c.self.view_is
    (no_turn (state_of s.topology s.times s.clock s.nodes.items s.links.items s.datagrams.items) c.self.invariant.0 c.args.n c.in_default.ensures.none))

pub returns-then-most-eq0 : goal.returns-then-most-eq0
returns-then-most-eq0 c = none_asked (world_of c.args.self.now) c.args.most (CoreTurn c.args.n) c.if-most-eq0.true
