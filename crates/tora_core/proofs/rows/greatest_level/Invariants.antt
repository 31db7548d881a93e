use Rattle.std.proofs.Common.{◌≡◌, take}
use Rattle.std.specs.Prelude.{IfSome}
use Rattle.tora_height.specs.Height.{IsLevel}
use Rattle.tora_core.specs.View.{heights_of, greatest_level}
use Rattle.tora_core.proofs.rows.greatest_level.Given as goal

-- the greatest so far
abbrev pub invariant-loop-row : goal.invariant-loop-row
invariant-loop-row l = record {
  value : l.best ≡ greatest_level (heights_of (take l.row-index l.rows));
  ranges : IfSome l.best IsLevel;
}
