use Rattle.std.proofs.Common.{arith}
use Rattle.std.proofs.lemmas.Grind.{common_steps}
use Rattle.std.proofs.lemmas.List.Edits.{map_over_more}
use Rattle.tora_core.specs.View.{withdrawn_row}
use Rattle.tora_core.proofs.withdrawal.withdraw.Goals as goal

pub loop-row-preserved : goal.loop-row-preserved
loop-row-preserved c = grind (arith, common_steps, map_over_more (withdrawn_row c.args.destination c.args.k))
