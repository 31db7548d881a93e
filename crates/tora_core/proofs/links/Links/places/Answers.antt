use Rattle.std.proofs.Common.{◌∙◌, sym, ap}
use Rattle.tora_core.specs.Links.{LinkTable}
use Rattle.tora_core.specs.View.{heights_of}
use Rattle.tora_core.proofs.PlaceLemmas.{heights-up}
use Rattle.tora_core.proofs.links.Links.places.Goals as goal

pub returns : goal.returns
returns c =
    ap heights_of c.as_slice.ensures.value ∙ sym (heights-up c.self.inside.up.items c.self.inside.places.items c.self.invariant.1)
    ∙ ap (λ (t : LinkTable). heights_of t.rows) c.self.view_is
