use Rattle.std.proofs.Common.{◌∙◌, sym, ap, ℕ, Option, is_none}
use Rattle.tora_core.specs.View.{are_null}
use Rattle.tora_core.specs.Links.{LinkTable}
use Rattle.tora_core.proofs.LinkLemmas.{nulls}
use Rattle.tora_core.proofs.PlaceLemmas.{nulls-up}
use Rattle.tora_core.proofs.links.Links.are_null.Goals as goal

pub returns-in-None : goal.returns-in-None
returns-in-None c =
    sym (ap (λ (l : Option ℕ). is_none l) c.in-None.is) ∙ nulls c.self.inside.least c.self.inside.places.items c.self.invariant.0.least_is
    ∙ sym (nulls-up c.self.inside.up.items c.self.inside.places.items c.self.invariant.1) ∙ ap (λ (t : LinkTable). are_null t.rows) c.self.view_is

pub returns-in-Some : goal.returns-in-Some
returns-in-Some c =
    sym (ap (λ (l : Option ℕ). is_none l) c.in-Some.is) ∙ nulls c.self.inside.least c.self.inside.places.items c.self.invariant.0.least_is
    ∙ sym (nulls-up c.self.inside.up.items c.self.inside.places.items c.self.invariant.1) ∙ ap (λ (t : LinkTable). are_null t.rows) c.self.view_is
