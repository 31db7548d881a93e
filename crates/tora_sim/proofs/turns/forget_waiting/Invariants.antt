use Rattle.tora_sim.specs.Quiet.{AreForgottenWhere}
use Rattle.tora_sim.proofs.turns.forget_waiting.Given as goal

abbrev pub invariant-loop-place : goal.invariant-loop-place
invariant-loop-place l = AreForgottenWhere l.links.items l.initial.deadlines l.deadlines l.first l.place
