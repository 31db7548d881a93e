use Rattle.std.proofs.Common.{◌≡◌, take}
use Rattle.std.specs.Prelude.{string_bytes}
use Rattle.std.specs.List.{flat_map}
use Rattle.tora_node.specs.StatusLines.{told_lines}
use Rattle.tora_node.proofs.watch.state.Given as goal

-- the lines so far are written
abbrev pub invariant-loop-one : goal.invariant-loop-one
invariant-loop-one l = string_bytes l.out ≡ flat_map told_lines (take l.one-index l.told)
