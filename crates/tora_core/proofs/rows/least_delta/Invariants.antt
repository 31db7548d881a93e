use Rattle.std.proofs.Common.{◌≡◌, ◌^◌, take, pos, neg_ℤ, ◌≤ℤ◌}
use Rattle.std.specs.Prelude.{IfSome}
use Rattle.tora_core.specs.View.{heights_of, least_delta}
use Rattle.tora_core.proofs.rows.least_delta.Given as goal

-- the least so far
abbrev pub invariant-loop-row : goal.invariant-loop-row
invariant-loop-row l = record {
  value : l.best ≡ least_delta l.level (heights_of (take l.row-index l.rows));
  low : IfSome l.best (λ delta. neg_ℤ (pos (2 ^ 30)) ≤ℤ delta);
}
