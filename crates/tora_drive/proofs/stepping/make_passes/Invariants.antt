use Rattle.std.proofs.Common.{◌-◌}
use Rattle.tora_script.specs.declared.rounds.TheConstants.{MOST_PASSES}
use Rattle.tora_script.specs.Rounds.{AreKnown}
use Rattle.tora_drive.specs.Steps.{step_passes}
use Rattle.tora_drive.specs.Recording.{text_record}
use Rattle.tora_drive.proofs.TellLaws.{PassesLeft}
use Rattle.tora_drive.proofs.stepping.make_passes.Given as goal

abbrev pub invariant-loop : goal.invariant-loop
invariant-loop g l =
    PassesLeft (g.S.Simulator.world l.initial.sim) (step_passes MOST_PASSES l.visited.nodes.now l.visited.ends.now l.visited.silent.now (g.S.Simulator.world l.initial.sim)) (g.S.Simulator.world l.sim)
    (step_passes (MOST_PASSES - l.counter) l.visited.nodes.now l.visited.ends.now l.visited.silent.now (g.S.Simulator.world l.sim)) (text_record l.initial.text) (text_record l.text)
    × AreKnown l.visited.are_known l.visited.ends.now (g.S.Simulator.world l.sim)
