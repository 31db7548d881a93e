use Rattle.std.proofs.Common.{◌≡◌, take}
use Rattle.tora_sim.proofs.due.are_ends.Given as goal

-- the value so far is 0 exactly if the ends so far are the same
abbrev pub invariant-loop-place : goal.invariant-loop-place
invariant-loop-place l = (l.apart ≡ 0 → take l.place l.ends ≡ take l.place l.keys) × (l.ends ≡ l.keys → l.apart ≡ 0)
