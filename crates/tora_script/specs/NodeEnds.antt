-- Link ends, each as its node and its neighbour, in ascending order of nodes.
use Rattle.std.specs.Prelude.{ℕ, List}
use Rattle.std.specs.List.Sorted.{IsNonDecreasingBy}

abbrev pub AreByNode : List (ℕ × ℕ) → Type 0
AreByNode ends = IsNonDecreasingBy (λ (end : ℕ × ℕ). end.0) ends
