use Rattle.std.proofs.Common.{◌≡◌, take}
use Rattle.tora_core.specs.Links.{directions_of}
use Rattle.tora_core.proofs.neighbour_places.directed.Given as goal

-- the directions so far
abbrev pub invariant-loop-row : goal.invariant-loop-row
invariant-loop-row l = l.directions.items ≡ directions_of l.own (take l.row-index l.rows)
