use Rattle.std.proofs.Common.{drop}
use Rattle.tora_sim.specs.Store.{world_of}
use Rattle.tora_sim.proofs.Runs.{GoesOn}
use Rattle.tora_sim.proofs.sim.Sim.run.Given as goal

abbrev pub invariant-loop-event : goal.invariant-loop-event
invariant-loop-event l = GoesOn (world_of l.initial.self) l.events (world_of l.self) (drop l.event-index l.events)
