use Rattle.std.proofs.Common.{◌-◌}
use Rattle.tora_world.specs.declared.event.Event.TheVariants.{Deliver}
use Rattle.tora_sim.specs.Store.{world_of}
use Rattle.tora_sim.specs.Steps.{repeats}
use Rattle.tora_sim.proofs.Sendings.{Onward}
use Rattle.tora_sim.proofs.sim.Sim.deliver_all.Given as goal

abbrev pub invariant-loop : goal.invariant-loop
invariant-loop l = Onward (world_of l.initial.self) (repeats l.most (Deliver l.i) (world_of l.initial.self)) (world_of l.self) l.some (repeats (l.most - l.counter) (Deliver l.i) (world_of l.self))
