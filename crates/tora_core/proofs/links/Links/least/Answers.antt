use Rattle.std.proofs.Common.{◌≡◌, ◌∙◌, sym, ap, subst, ℕ, List, Option, Some, None}
use Rattle.std.specs.Prelude.{slice_index_or}
use Rattle.tora_core.specs.Links.{IsLeastPlace, LinkTable}
use Rattle.tora_core.specs.View.{heights_of, least_height}
use Rattle.tora_core.specs.declared.rows.Row.{Row}
use Rattle.tora_core.proofs.LinkLemmas.{least-entry, least-none, least-some, least-within}
use Rattle.tora_core.proofs.PlaceLemmas.{heights-up}
use Rattle.tora_core.proofs.links.Links.least.Goals as goal

pub row_at-requires : goal.row_at-requires
row_at-requires c =
    let is : IsLeastPlace (Some c.in-Some.place) c.self.inside.places.items = subst (λ (l : Option ℕ). IsLeastPlace l c.self.inside.places.items) c.in-Some.is c.self.invariant.0.least_is in
    rw c.as_slice.ensures.value (least-within c.in-Some.place is.0 c.self.inside.places.items is.1)

pub returns-in-None : goal.returns-in-None
returns-in-None c =
    let is : IsLeastPlace None c.self.inside.places.items = subst (λ (l : Option ℕ). IsLeastPlace l c.self.inside.places.items) c.in-None.is c.self.invariant.0.least_is in
    sym (least-none c.self.inside.places.items is) ∙ sym (ap least_height (heights-up c.self.inside.up.items c.self.inside.places.items c.self.invariant.1))
    ∙ ap (λ (t : LinkTable). least_height (heights_of t.rows)) c.self.view_is

pub returns-in-Some : goal.returns-in-Some
returns-in-Some c =
    let is : IsLeastPlace (Some c.in-Some.place) c.self.inside.places.items = subst (λ (l : Option ℕ). IsLeastPlace l c.self.inside.places.items) c.in-Some.is c.self.invariant.0.least_is in
    let row = c.row_at.result.now in
    let P : List Row → Type 0 = λ rows. row ≡ slice_index_or rows c.in-Some.place row in
    let read = subst P c.as_slice.ensures.value c.row_at.ensures in
    ap (λ (r : Row). r.entry) read ∙ least-entry c.in-Some.place is.0 c.self.inside.places.items row is.1 ∙ sym (least-some c.in-Some.place is.0 c.self.inside.places.items is.1)
    ∙ sym (ap least_height (heights-up c.self.inside.up.items c.self.inside.places.items c.self.invariant.1)) ∙ ap (λ (t : LinkTable). least_height (heights_of t.rows)) c.self.view_is
