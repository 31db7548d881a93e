use Rattle.std.proofs.Common.{ℕ, zero, suc, ◌+◌, ◌<◌, List, [], ◌∷◌, arith}
use Rattle.std.specs.List.{AllByRecursion}

-- this many numbers, from a first one on
abbrev pub from : ℕ → ℕ → List ℕ
from first zero = []
from first (suc count) = first ∷ from (first + 1) count

pub positive : (first count : ℕ) → 0 < first → AllByRecursion (λ (k : ℕ). 0 < k) (from first count)
positive first zero lt = tt
positive first (suc count) lt = (lt, positive (first + 1) count (omega arith))
