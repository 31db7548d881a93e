use Rattle.tora_height.proofs.OrderLemmas.{level_cmp_total, height_cmp_total, lower-height_cmp, height_cmp-lower}
use Rattle.tora_height.proofs.heights_are_totally_ordered.Goals as goal

pub returns-clause-total : goal.returns-clause-total
returns-clause-total c = height_cmp_total

pub returns-clause-level_total : goal.returns-clause-level_total
returns-clause-level_total c = level_cmp_total

pub returns-clause-lower : goal.returns-clause-lower
returns-clause-lower c = λ a b. (lower-height_cmp a b, height_cmp-lower a b)
