use Rattle.std.proofs.Common.{ℕ, List, MatchBool, sym, subst}
use Rattle.std.specs.Prelude.{⊤}
use Rattle.std.specs.List.Sorted.{IsStrictlyIncreasing}
use Rattle.tora_script.proofs.trace.names.Names.place.Goals as goal

pub place_among-requires : goal.place_among-requires
place_among-requires c = subst (λ (xs : List ℕ). MatchBool c.self.inside.is_rising (IsStrictlyIncreasing xs) ⊤) (sym c.deref.ensures.value) c.self.invariant
