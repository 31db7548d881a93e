use Rattle.std.proofs.Common.{◌≡◌, ◌++◌, map, take, drop}
use Rattle.tora_core.specs.View.{withdrawn_row}
use Rattle.tora_core.proofs.withdrawal.withdraw.Given as goal

-- the rows so far are changed, the others are not
abbrev pub invariant-loop-row : goal.invariant-loop-row
invariant-loop-row l = l.rows ≡ map (withdrawn_row l.destination l.k) (take l.row-index l.initial.rows) ++ drop l.row-index l.initial.rows
