use Rattle.std.proofs.Common.{◌≡◌, take}
use Rattle.std.specs.Prelude.{string_bytes}
use Rattle.std.specs.List.{flat_map}
use Rattle.tora_core.specs.ShowText.{view_text}
use Rattle.tora_core.specs.Table.{TableView}
use Rattle.tora_core.proofs.show.text_of.Given as goal

-- the lines of the views so far are written
abbrev pub invariant-loop-view : goal.invariant-loop-view
invariant-loop-view l = string_bytes l.text ≡ flat_map (λ (t : TableView). view_text t.view) (take l.view-index l.views)
