use Rattle.std.proofs.Common.{◌≤◌, ◌-◌, length}
use Rattle.tora_sim.specs.Deadlines.{AreLater}
use Rattle.tora_sim.proofs.deadlines.next_due.Given as goal

-- the deadlines so far have not come
abbrev pub invariant-loop-at : goal.invariant-loop-at
invariant-loop-at l = (l.place ≤ l.at) × (l.at ≤ length l.deadlines) × AreLater l.now l.place l.at l.deadlines

abbrev pub decreases-loop-at : goal.decreases-loop-at
decreases-loop-at l = length l.deadlines - l.at
