use Rattle.std.proofs.Common.{◌<◌, ◌≤◌, ℕ, get_or}
use Rattle.tora_script.proofs.trace.ends.are_by_node.Given as goal

-- the ends so far are in ascending order of nodes
abbrev pub invariant-loop-i : goal.invariant-loop-i
invariant-loop-i l = record {
  some : 0 < l.i;
  rises : (j k : ℕ) → j ≤ k → k < l.i → (get_or l.ends j (0, 0)).0 ≤ (get_or l.ends k (0, 0)).0;
}
