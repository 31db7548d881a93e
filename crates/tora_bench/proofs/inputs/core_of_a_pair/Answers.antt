use Rattle.std.proofs.Common.{ℕ, ◌<◌, arith}
use Rattle.std.proofs.lemmas.List.Elements.{All-from_recursion}
use Rattle.tora_bench.proofs.Numbers.{from, positive}
use Rattle.tora_bench.proofs.inputs.core_of_a_pair.Goals as goal

pub new-requires-clause-destinations : goal.new-requires-clause-destinations
new-requires-clause-destinations c = All-from_recursion (λ (k : ℕ). 0 < k) (from 17 64) (positive 17 64 (omega arith))
