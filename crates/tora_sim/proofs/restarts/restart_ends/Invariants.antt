use Rattle.tora_sim.proofs.FreshEnds.{IsGoing}
use Rattle.tora_sim.proofs.restarts.restart_ends.Given as goal

abbrev pub invariant-loop-place : goal.invariant-loop-place
invariant-loop-place l = IsGoing l.torn l.initial.links.items l.links.items l.first l.place l.initial.ends.items l.ends.items
