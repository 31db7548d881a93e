use Rattle.std.proofs.Common.{ℕ, ◌<◌, ◌≤◌, List, length, get_or, subst, arith}
use Rattle.std.specs.List.{All}
use Rattle.std.proofs.lemmas.List.{get_or_default}
use Rattle.tora_tests.proofs.tests.made.are_numbers.Goals as goal

all-numbers : (ns : List ℕ) (i : ℕ) → length ns ≤ i → ((k : ℕ) → k < i → 0 < get_or ns k 0) → All (λ n. 0 < n) ns
all-numbers ns i whole each k d lt = subst (λ m. 0 < m) (get_or_default ns k 0 d lt) (each k (omega arith))

pub returns : goal.returns
returns c = λ _. all-numbers c.args.numbers.now c.loop-n.n-index c.loop-n-test.false c.loop-n.invariant
