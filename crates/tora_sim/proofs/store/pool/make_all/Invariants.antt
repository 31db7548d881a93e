use Rattle.std.proofs.Common.{◌≤◌, length}
use Rattle.tora_sim.specs.Lane.{AreWhole}
use Rattle.tora_sim.proofs.store.pool.make_all.Given as goal

-- the lists so far are whole
abbrev pub invariant-loop-place : goal.invariant-loop-place
invariant-loop-place l = (l.from ≤ l.place) × (l.place ≤ length l.lists.items) × AreWhole l.lists.items l.place
