use Rattle.std.proofs.Common.{◌≡◌, map, take}
use Rattle.tora_core.specs.Table.{first_in}
use Rattle.tora_core.proofs.table.first_views.Given as goal

-- the views so far
abbrev pub invariant-loop-destination : goal.invariant-loop-destination
invariant-loop-destination l = l.views.items ≡ map (first_in l.neighbours l.erasure l.me) (take l.destination-index l.destinations)
