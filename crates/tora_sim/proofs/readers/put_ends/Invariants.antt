use Rattle.std.proofs.Common.{◌≡◌, ◌++◌, map, take}
use Rattle.tora_sim.proofs.readers.put_ends.Given as goal

-- the ends so far
abbrev pub invariant-loop-k : goal.invariant-loop-k
invariant-loop-k l = l.ends.items ≡ l.initial.ends.items ++ map (λ k. (l.n, k)) (take l.k-index l.neighbours)
