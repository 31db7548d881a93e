use Rattle.std.proofs.Common.{◌∙◌, sym, ap}
use Rattle.tora_core.specs.Links.{LinkTable, downstream_in}
use Rattle.tora_core.proofs.PlaceLemmas.{downstream-up}
use Rattle.tora_core.proofs.links.Links.downstream.Goals as goal

pub returns : goal.returns
returns c =
    c.self.invariant.0.downstream_is ∙ sym (downstream-up c.self.inside.own c.self.inside.up.items c.self.inside.places.items c.self.invariant.1)
    ∙ ap (λ (t : LinkTable). downstream_in t.own t.rows) c.self.view_is
