use Rattle.std.proofs.Common.{◌-◌, drop, length}
use Rattle.tora_script.specs.Rounds.{each_core}
use Rattle.tora_drive.specs.Recording.{text_record}
use Rattle.tora_drive.proofs.TellLaws.{OnwardTold}
use Rattle.tora_drive.proofs.stepping.turn_cores.Given as goal

abbrev pub invariant-loop-place : goal.invariant-loop-place
invariant-loop-place g l =
    OnwardTold (g.S.Simulator.world l.initial.sim) (each_core l.nodes (g.S.Simulator.world l.initial.sim)) (g.S.Simulator.world l.sim) l.some (each_core (drop l.place l.nodes) (g.S.Simulator.world l.sim)) (text_record l.initial.text) (text_record l.text)

abbrev pub decreases-loop-place : goal.decreases-loop-place
decreases-loop-place g l = length l.nodes - l.place
