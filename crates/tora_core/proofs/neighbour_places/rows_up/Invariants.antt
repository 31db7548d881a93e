use Rattle.std.proofs.Common.{◌≡◌, take}
use Rattle.tora_core.specs.Links.{rows_up}
use Rattle.tora_core.proofs.neighbour_places.rows_up.Given as goal

-- the rows so far
abbrev pub invariant-loop-i : goal.invariant-loop-i
invariant-loop-i l = l.rows.items ≡ rows_up (take l.i l.up) (take l.i l.places)
