use Rattle.std.proofs.Common.{◌-◌, Some, string_bytes}
use Rattle.tora_script.specs.Rounds.{repeats}
use Rattle.tora_drive.proofs.TellLaws.{OnwardTold}
use Rattle.tora_drive.proofs.stepping.repeat_told.Given as goal

abbrev pub invariant-loop : goal.invariant-loop
invariant-loop g l =
    OnwardTold (g.S.Simulator.world l.initial.sim) (repeats l.most l.event (g.S.Simulator.world l.initial.sim)) (g.S.Simulator.world l.sim) l.some (repeats (l.most - l.counter) l.event (g.S.Simulator.world l.sim)) (Some (string_bytes l.initial.text)) (Some (string_bytes l.text))
