use Rattle.std.proofs.Common.{MatchBool, subst}
use Rattle.std.specs.Prelude.{⊤}
use Rattle.tora_script.specs.NodeEnds.{AreByNode}
use Rattle.tora_script.proofs.trace.ends.ends_of.Goals as goal

pub ends_by_halves-requires : goal.ends_by_halves-requires
ends_by_halves-requires c = subst (λ b. MatchBool b (AreByNode c.args.ends.now) ⊤) c.if-is_by_node.true c.requires
