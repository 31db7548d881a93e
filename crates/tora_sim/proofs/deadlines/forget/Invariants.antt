use Rattle.tora_sim.specs.Quiet.{AreForgotten}
use Rattle.tora_sim.proofs.deadlines.forget.Given as goal

abbrev pub invariant-loop-place : goal.invariant-loop-place
invariant-loop-place l = AreForgotten l.initial.deadlines l.deadlines l.first l.place
