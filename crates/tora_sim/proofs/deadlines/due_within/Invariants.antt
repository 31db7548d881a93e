use Rattle.tora_sim.specs.Deadlines.{AreLater}
use Rattle.tora_sim.proofs.deadlines.due_within.Given as goal

-- nothing is to be done at the skipped ends
abbrev pub invariant-loop-at : goal.invariant-loop-at
invariant-loop-at l = AreLater l.now l.from l.at l.deadlines
