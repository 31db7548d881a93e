use Rattle.std.proofs.Common.{◌≡◌, ◌++◌, take}
use Rattle.std.specs.Prelude.{codes, string_bytes}
use Rattle.std.specs.List.{flat_map}
use Rattle.tora_node.specs.StatusJson.{destination_json}
use Rattle.tora_node.proofs.status.write_destinations.Given as goal

-- the destinations so far are written
abbrev pub invariant-loop-d : goal.invariant-loop-d
invariant-loop-d l = string_bytes l.out ≡ string_bytes l.initial.out ++ flat_map (λ d. codes "," ++ destination_json l.core d) (take l.d-index l.rest)
