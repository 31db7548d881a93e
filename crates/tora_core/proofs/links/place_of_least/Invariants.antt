use Rattle.std.proofs.Common.{take}
use Rattle.tora_core.specs.Links.{IsLeastPlace}
use Rattle.tora_core.proofs.links.place_of_least.Given as goal

-- the least of the rows so far
abbrev pub invariant-loop-i : goal.invariant-loop-i
invariant-loop-i l = IsLeastPlace l.least (take l.i l.rows)
