use Rattle.std.proofs.Common.{◌≡◌, ◌++◌, take}
use Rattle.std.specs.Prelude.{string_bytes}
use Rattle.std.specs.List.{flat_map}
use Rattle.tora_core.specs.ShowText.{to_line, via_line}
use Rattle.tora_core.proofs.show.write_view.Given as goal

-- the lines of the neighbours so far are written
abbrev pub invariant-loop-row : goal.invariant-loop-row
invariant-loop-row l = string_bytes l.out ≡ string_bytes l.fn.out ++ (to_line l.view.view ++ flat_map (via_line l.view.view.height) (take l.row-index l.row-items))
