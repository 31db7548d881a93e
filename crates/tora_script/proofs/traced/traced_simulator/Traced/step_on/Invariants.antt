use Rattle.std.proofs.Common.{◌-◌}
use Rattle.tora_sim.specs.Steps.{repeats}
use Rattle.tora_script.proofs.RoundLaws.{Onward}
use Rattle.tora_script.proofs.traced.traced_simulator.Traced.step_on.Given as goal

abbrev pub invariant-loop : goal.invariant-loop
invariant-loop g l =
    Onward (g.S.Simulator.world l.initial.self.sim) (repeats l.most l.event (g.S.Simulator.world l.initial.self.sim)) (g.S.Simulator.world l.self.sim) l.some (repeats (l.most - l.counter) l.event (g.S.Simulator.world l.self.sim))
