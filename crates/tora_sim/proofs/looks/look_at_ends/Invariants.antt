use Rattle.std.proofs.Common.{◌≡◌, ◌-◌, length}
use Rattle.tora_sim.specs.Quiet.{AreDeadlines}
use Rattle.tora_sim.proofs.looks.look_at_ends.Given as goal

abbrev pub invariant-loop-at : goal.invariant-loop-at
invariant-loop-at l = (length l.deadlines ≡ length l.initial.deadlines) × AreDeadlines l.now l.deadlines l.links.items

abbrev pub decreases-loop-at : goal.decreases-loop-at
decreases-loop-at l = length l.initial.deadlines - l.at
