use Rattle.tora_sim.specs.Links.{after_arm, AreChanged}
use Rattle.tora_sim.proofs.links.arm.Given as goal

abbrev pub invariant-loop-place : goal.invariant-loop-place
invariant-loop-place l = AreChanged (λ link. after_arm link l.call) l.initial.links.items l.links.items l.first l.place
