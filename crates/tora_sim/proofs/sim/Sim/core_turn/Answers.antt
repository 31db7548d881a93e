use Rattle.std.proofs.Common.{◌≡◌, ◌∙◌, Ok, Err, None, refl, sym, subst, arith}
use Rattle.tora_world.specs.declared.event.Event.TheVariants.{CoreTurn}
use Rattle.tora_world.specs.declared.sim_error.SimError.TheVariants as Refused
use Rattle.tora_world.specs.World.{refusal_of}
use Rattle.tora_sim.specs.Store.{SimState, state_of, world_of}
use Rattle.tora_sim.specs.Steps.{IsRefused}
use Rattle.tora_sim.proofs.TakenItems.{no_memory_turn, at_most_one}
use Rattle.tora_sim.proofs.Turning.{turn_refused, turn_starved}
use Rattle.tora_sim.proofs.sim.Sim.core_turn.Goals as goal

pub returns-then-waiting-eq0 : goal.returns-then-waiting-eq0
returns-then-waiting-eq0 c =
    let s = c.self.inside in
    subst (λ (w : SimState). IsRefused (world_of w) (CoreTurn c.args.n) Refused.NotPossible (world_of w)) c.self.view_is
    (turn_refused s.topology s.times s.clock s.nodes.items s.links.items s.datagrams.items c.self.invariant.0 c.args.n c.in-Some.home c.index.result.now c.in-Some.ensures.first c.index.ensures
    (sym c.waiting.ensures ∙ c.if-waiting-eq0.true))

pub returns-in-Ok : goal.returns-in-Ok
returns-in-Ok c =
    let s = c.self.inside in
    let w = world_of (state_of s.topology s.times s.clock s.nodes.items s.links.items s.datagrams.items) in
    let free = no_memory_turn w c.args.n w
    (turn_starved s.topology s.times s.clock s.nodes.items s.links.items s.datagrams.items c.self.invariant.0 c.args.n c.in-Some.home c.index.result.now c.in-Some.ensures.first c.index.ensures
    (omega (arith, c.waiting.ensures, c.if-waiting-eq0.false)) s.links.items refl) in
    at_most_one c.args.self.now c.turn_from.new.self (CoreTurn c.args.n) (Ok c.in-Ok.field-0)
    (subst (λ (v : SimState). refusal_of (world_of v) (CoreTurn c.args.n) ≡ None) c.self.view_is free) c.in-Ok.ensures

pub returns-in-Err : goal.returns-in-Err
returns-in-Err c =
    let s = c.self.inside in
    let w = world_of (state_of s.topology s.times s.clock s.nodes.items s.links.items s.datagrams.items) in
    let free = no_memory_turn w c.args.n w
    (turn_starved s.topology s.times s.clock s.nodes.items s.links.items s.datagrams.items c.self.invariant.0 c.args.n c.in-Some.home c.index.result.now c.in-Some.ensures.first c.index.ensures
    (omega (arith, c.waiting.ensures, c.if-waiting-eq0.false)) s.links.items refl) in
    at_most_one c.args.self.now c.turn_from.new.self (CoreTurn c.args.n) (Err c.in-Err.field-0)
    (subst (λ (v : SimState). refusal_of (world_of v) (CoreTurn c.args.n) ≡ None) c.self.view_is free) c.in-Err.ensures
