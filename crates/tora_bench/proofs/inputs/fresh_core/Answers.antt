use Rattle.std.proofs.Common.{ℕ, ◌<◌, arith}
use Rattle.std.proofs.lemmas.List.Elements.{All-from_recursion}
use Rattle.tora_bench.proofs.Numbers.{from, positive}
use Rattle.tora_bench.proofs.inputs.fresh_core.Goals as goal

pub new-requires-in-Large-clause-neighbours : goal.new-requires-in-Large-clause-neighbours
new-requires-in-Large-clause-neighbours c = All-from_recursion (λ (k : ℕ). 0 < k) (from 1 32) (positive 1 32 (omega arith))

pub new-requires-in-Large-clause-destinations : goal.new-requires-in-Large-clause-destinations
new-requires-in-Large-clause-destinations c = All-from_recursion (λ (k : ℕ). 0 < k) (from 17 64) (positive 17 64 (omega arith))
