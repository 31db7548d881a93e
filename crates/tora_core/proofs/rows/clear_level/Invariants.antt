use Rattle.std.proofs.Common.{◌≡◌, ◌++◌, false, map, take, drop}
use Rattle.std.specs.List.{list_any}
use Rattle.tora_core.specs.View.{cleared_row, is_cleared}
use Rattle.tora_core.proofs.rows.clear_level.Given as goal

-- the rows so far are changed, the others are not; if the flag is false, no entry was erased and nothing changed
abbrev pub invariant-loop-row : goal.invariant-loop-row
invariant-loop-row l = record {
  rows : l.rows ≡ map (cleared_row l.destination l.level) (take l.row-index l.initial.rows) ++ drop l.row-index l.initial.rows;
  cleared : l.cleared ≡ list_any (is_cleared l.destination l.level) (take l.row-index l.initial.rows);
  none : l.cleared ≡ false → l.rows ≡ l.initial.rows;
}
