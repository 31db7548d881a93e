use Rattle.std.proofs.Common.{◌≡◌, ◌∙◌, sym, ap, subst, Bool, List, length}
use Rattle.std.specs.Prelude.{IfOk}
use Rattle.tora_core.specs.declared.rows.Row.{Row}
use Rattle.tora_core.specs.Links.{LinkTable, rows_up}
use Rattle.tora_core.proofs.PlaceLemmas.{marked-length}
use Rattle.tora_core.proofs.links.Links.rows.Goals as goal

pub rows_up-requires : goal.rows_up-requires
rows_up-requires c =
    ap (λ (us : List Bool). length us) c.as_slice.ensures.value ∙ marked-length c.self.inside.up.items c.self.inside.places.items c.self.invariant.1
    ∙ sym (ap (λ (xs : List Row). length xs) c.as_slice-2.ensures.value)

pub returns : goal.returns
returns c =
    subst (λ (xs : List Row). IfOk c.rows_up.result (λ rows. rows.items ≡ xs))
    (ap (λ (us : List Bool). rows_up us c.as_slice-2.result.now) c.as_slice.ensures.value ∙ ap (rows_up c.self.inside.up.items) c.as_slice-2.ensures.value
    ∙ ap (λ (t : LinkTable). t.rows) c.self.view_is) c.rows_up.ensures
