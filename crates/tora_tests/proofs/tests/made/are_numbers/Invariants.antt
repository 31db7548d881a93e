use Rattle.std.proofs.Common.{ℕ, ◌<◌, get_or}
use Rattle.tora_tests.proofs.tests.made.are_numbers.Given as goal

-- no number so far is 0
abbrev pub invariant-loop-n : goal.invariant-loop-n
invariant-loop-n l = (k : ℕ) → k < l.n-index → 0 < get_or l.numbers k 0
