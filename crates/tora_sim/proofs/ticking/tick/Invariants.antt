use Rattle.std.proofs.Common.{◌-◌, length}
use Rattle.tora_sim.specs.Links.{ticked, AreChanged}
use Rattle.tora_sim.proofs.ticking.tick.Given as goal

-- the ends before `at` are ticked
abbrev pub invariant-loop-at : goal.invariant-loop-at
invariant-loop-at l = AreChanged (ticked l.now) l.initial.links.items l.links.items 0 l.at

abbrev pub decreases-loop-at : goal.decreases-loop-at
decreases-loop-at l = length l.deadlines - l.at
