use Rattle.std.proofs.Common.{MatchBool, subst}
use Rattle.std.specs.Prelude.{⊤}
use Rattle.std.specs.List.Sorted.{IsStrictlyIncreasing}
use Rattle.tora_script.proofs.trace.names.place_among.Goals as goal

pub place_by_halves-requires : goal.place_by_halves-requires
place_by_halves-requires c = subst (λ b. MatchBool b (IsStrictlyIncreasing c.args.numbers.now) ⊤) c.if-is_rising.true c.requires
