use Rattle.std.proofs.Common.{ℕ, List, MatchBool, sym, subst}
use Rattle.std.specs.Prelude.{⊤}
use Rattle.std.specs.List.Sorted.{IsStrictlyIncreasing}
use Rattle.tora_script.proofs.trace.names.Names.new.Goals as goal

pub invariant_of-result : goal.invariant_of-result
invariant_of-result c =
    subst (λ (xs : List ℕ). MatchBool c.is_rising-is_rising.result (IsStrictlyIncreasing xs) ⊤) (sym c.in_ok-nodes.ensures.items) c.is_rising-is_rising.ensures
