use Rattle.std.proofs.Common.{◌≡◌, Bool, true, false, not, is_some, refl, sym, subst, ◌∙◌}
use Rattle.tora_world.specs.declared.event.Event.TheVariants.{CoreTurn}
use Rattle.tora_world.specs.World.{refusal_of}
use Rattle.tora_sim.specs.Store.{SimState, world_of}
use Rattle.tora_sim.proofs.Quiets.{at_nodes}
use Rattle.tora_sim.proofs.sim.Sim.may_turn.Goals as goal

known : (idle : Bool) → not idle ≡ false → idle ≡ true
known true e = refl
known false e = sym e

pub returns : goal.returns
returns c e n =
    let s = c.self.inside in
    subst (λ (w : SimState). is_some (refusal_of (world_of w) (CoreTurn n)) ≡ true) c.self.view_is
    (at_nodes s.topology s.times s.clock s.nodes.items s.links.items s.datagrams.items c.self.invariant.0 n (sym c.are_idle.ensures ∙ known c.are_idle.result e))
