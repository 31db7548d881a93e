use Rattle.std.proofs.Common.{◌-◌, drop, length}
use Rattle.tora_script.specs.Rounds.{each_core}
use Rattle.tora_script.proofs.RoundLaws.{Onward}
use Rattle.tora_script.proofs.turns.turn_cores.Given as goal

abbrev pub invariant-loop-place : goal.invariant-loop-place
invariant-loop-place g l =
    Onward (g.S.Simulator.world l.initial.sim) (each_core l.nodes (g.S.Simulator.world l.initial.sim)) (g.S.Simulator.world l.sim) l.some (each_core (drop l.place l.nodes) (g.S.Simulator.world l.sim))

abbrev pub decreases-loop-place : goal.decreases-loop-place
decreases-loop-place g l = length l.nodes - l.place
