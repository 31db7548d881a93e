use Rattle.std.proofs.Common.{◌-◌}
use Rattle.tora_script.specs.Rounds.{repeats}
use Rattle.tora_script.proofs.RoundLaws.{Onward}
use Rattle.tora_script.proofs.turns.repeat.Given as goal

abbrev pub invariant-loop : goal.invariant-loop
invariant-loop g l =
    Onward (g.S.Simulator.world l.initial.sim) (repeats l.most l.event (g.S.Simulator.world l.initial.sim)) (g.S.Simulator.world l.sim) l.some (repeats (l.most - l.counter) l.event (g.S.Simulator.world l.sim))
