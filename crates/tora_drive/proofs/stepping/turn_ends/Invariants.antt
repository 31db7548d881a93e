use Rattle.std.proofs.Common.{◌-◌, drop, length}
use Rattle.tora_script.specs.Rounds.{each, AreKnown}
use Rattle.tora_drive.specs.Steps.{turn_of}
use Rattle.tora_drive.specs.Recording.{text_record}
use Rattle.tora_drive.proofs.TellLaws.{OnwardTold}
use Rattle.tora_drive.proofs.stepping.turn_ends.Given as goal

abbrev pub invariant-loop-place : goal.invariant-loop-place
invariant-loop-place g l =
    OnwardTold (g.S.Simulator.world l.initial.sim) (each (turn_of l.visited.silent.now l.kind) l.visited.ends.now (g.S.Simulator.world l.initial.sim)) (g.S.Simulator.world l.sim) l.some
    (each (turn_of l.visited.silent.now l.kind) (drop l.place l.visited.ends.now) (g.S.Simulator.world l.sim)) (text_record l.initial.text) (text_record l.text)
    × AreKnown l.visited.are_known l.visited.ends.now (g.S.Simulator.world l.sim)

abbrev pub decreases-loop-place : goal.decreases-loop-place
decreases-loop-place g l = length l.visited.ends.now - l.place
