use Rattle.std.proofs.Common.{◌-◌}
use Rattle.tora_world.specs.declared.event.Event.TheVariants.{CoreTurn}
use Rattle.tora_script.specs.Rounds.{repeats}
use Rattle.tora_script.proofs.RoundLaws.{Onward}
use Rattle.tora_script.proofs.simulator.Simulator.turn.Given as goal

abbrev pub invariant-loop : goal.invariant-loop
invariant-loop g l =
    Onward (g.Self.Simulator.world l.initial.self) (repeats l.most (CoreTurn l.n) (g.Self.Simulator.world l.initial.self)) (g.Self.Simulator.world l.self) l.some (repeats (l.most - l.counter) (CoreTurn l.n) (g.Self.Simulator.world l.self))
