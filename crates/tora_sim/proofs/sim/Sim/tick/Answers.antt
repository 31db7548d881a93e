use Rattle.std.proofs.Common.{◌≡◌, ℕ, ◌+◌, ◌≤◌, subst, arith}
use Rattle.tora_world.specs.declared.event.Event.TheVariants.{Tick}
use Rattle.tora_sim.specs.Store.{SimState, state_of, world_of}
use Rattle.tora_sim.specs.Steps.{IsDone}
use Rattle.tora_sim.proofs.Ticks.{tick_store, tick_done}
use Rattle.tora_sim.proofs.IdleEnds.{later_idle, ticked_idle}
use Rattle.tora_sim.proofs.sim.Sim.tick.Goals as goal

on : (now clock : ℕ) → now ≡ clock + 1 → clock ≤ now
on now clock e = omega (arith, e)

pub tick-requires : goal.tick-requires
tick-requires c = let s = c.self.inside in later_idle s.clock c.in-Some.now s.deadlines s.links.items (on c.in-Some.now s.clock c.in-Some.ensures.1) c.self.invariant.1

pub invariant_of-self : goal.invariant_of-self
invariant_of-self c =
    let s = c.self.inside in (
      tick_store s.topology s.times s.clock s.nodes.items s.links.items s.datagrams.items c.self.invariant.0 c.in-Some.now c.tick.new.links.items c.in-Some.ensures.1 c.tick.ensures,
      ticked_idle s.clock c.in-Some.now s.deadlines s.links.items c.tick.new.links.items (on c.in-Some.now s.clock c.in-Some.ensures.1) c.tick.ensures c.self.invariant.1,
      c.self.invariant.2,
    )

pub returns : goal.returns
returns c =
    let s = c.self.inside in
    subst (λ (before : SimState). IsDone (world_of before) Tick (world_of (state_of s.topology s.times c.in-Some.now s.nodes.items c.tick.new.links.items s.datagrams.items))) c.self.view_is
    (tick_done s.topology s.times s.clock s.nodes.items s.links.items s.datagrams.items c.self.invariant.0 c.in-Some.now c.tick.new.links.items c.in-Some.ensures.1 c.tick.ensures)
