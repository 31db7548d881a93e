use Rattle.std.proofs.Common.{◌≡◌, ◌++◌, take}
use Rattle.std.specs.Prelude.{codes, string_bytes}
use Rattle.std.specs.List.{flat_map}
use Rattle.tora_seat.specs.Rows.{state_of}
use Rattle.tora_node.specs.StatusJson.{link_json}
use Rattle.tora_node.proofs.status.write_links.Given as goal

-- the links so far are written
abbrev pub invariant-loop-before : goal.invariant-loop-before
invariant-loop-before l = string_bytes l.out ≡ string_bytes l.initial.out ++ flat_map (λ k. codes "," ++ link_json (state_of l.seat) k) (take l.before l.rest)
