use Rattle.std.proofs.Common.{◌≡◌, ◌++◌, take}
use Rattle.std.specs.Prelude.{codes, string_bytes}
use Rattle.std.specs.List.{flat_map}
use Rattle.tora_node.specs.StatusJson.{via_json}
use Rattle.tora_node.proofs.status.write_vias.Given as goal

-- the heights so far are written
abbrev pub invariant-loop-k : goal.invariant-loop-k
invariant-loop-k l = string_bytes l.out ≡ string_bytes l.initial.out ++ flat_map (λ k. codes "," ++ via_json l.core l.d k) (take l.k-index l.rest)
