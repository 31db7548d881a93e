use Rattle.std.proofs.Common.{◌∙◌, sym, ap, nat_lt}
use Rattle.std.specs.List.{list_any}
use Rattle.tora_core.specs.Links.{LinkTable, rows_up}
use Rattle.tora_core.specs.View.{is_downstream}
use Rattle.tora_core.proofs.LinkLemmas.{any-down}
use Rattle.tora_core.proofs.PlaceLemmas.{downstream-up}
use Rattle.tora_core.proofs.links.Links.has_downstream.Goals as goal

pub returns : goal.returns
returns c =
    let up = c.self.inside.up.items in
    let places = c.self.inside.places.items in
    ap (nat_lt 0) (c.self.invariant.0.downstream_is ∙ sym (downstream-up c.self.inside.own up places c.self.invariant.1)) ∙ any-down c.self.inside.own (rows_up up places)
    ∙ ap (λ (t : LinkTable). list_any (λ row. is_downstream t.own row.entry) t.rows) c.self.view_is
