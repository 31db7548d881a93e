use Rattle.std.proofs.Common.{drop}
use Rattle.tora_script.specs.Rounds.{arrivals}
use Rattle.tora_script.proofs.RoundLaws.{Onward}
use Rattle.tora_script.proofs.rounds.arrive_all.Given as goal

abbrev pub invariant-loop-place : goal.invariant-loop-place
invariant-loop-place g l =
    Onward (g.S.Simulator.world l.initial.sim) (arrivals l.moment.network.parted.now l.later (g.S.Simulator.world l.initial.sim)) (g.S.Simulator.world l.sim) l.some (arrivals l.moment.network.parted.now (drop l.place l.later) (g.S.Simulator.world l.sim))
