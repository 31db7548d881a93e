use Rattle.std.proofs.Common.{◌≡◌, map, take}
use Rattle.tora_core.specs.Links.{empty_place}
use Rattle.tora_core.proofs.neighbour_places.empty_places.Given as goal

-- the places so far
abbrev pub invariant-loop-neighbour : goal.invariant-loop-neighbour
invariant-loop-neighbour l = l.places.items ≡ map empty_place (take l.neighbour-index l.neighbours)
