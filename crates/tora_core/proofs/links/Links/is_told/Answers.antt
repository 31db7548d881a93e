use Rattle.std.proofs.Common.{◌≡◌, ◌∙◌, false, true, sym, ap, subst, List}
use Rattle.std.specs.Prelude.{slice_index_or}
use Rattle.tora_core.specs.Numbers.{has_number}
use Rattle.tora_core.specs.Links.{IsOnlyPlace, LinkTable}
use Rattle.tora_core.specs.View.{is_told, neighbours_of}
use Rattle.tora_core.specs.declared.rows.Row.{Row}
use Rattle.tora_core.proofs.LinkLemmas.{only-here, only-within}
use Rattle.tora_core.proofs.PlaceLemmas.{told-up, up-on}
use Rattle.tora_core.proofs.links.Links.is_told.Goals as goal

pub row_at-row-requires : goal.row_at-row-requires
row_at-row-requires c =
    let only : IsOnlyPlace c.args.k c.args.place (neighbours_of c.self.inside.places.items) = subst (λ (t : LinkTable). IsOnlyPlace c.args.k c.args.place t.neighbours) (sym c.self.view_is) c.requires.place in
    rw c.as_slice.ensures.value (only-within c.args.k c.args.place c.self.inside.places.items only)

pub prove-unreachable-requires : goal.prove-unreachable-requires
prove-unreachable-requires c =
    let only : IsOnlyPlace c.args.k c.args.place (neighbours_of c.self.inside.places.items) = subst (λ (t : LinkTable). IsOnlyPlace c.args.k c.args.place t.neighbours) (sym c.self.view_is) c.requires.place in
    let row = c.row_at-row.result.now in
    let P : List Row → Type 0 = λ rows. row ≡ slice_index_or rows c.args.place row in
    let read = subst P c.as_slice.ensures.value c.row_at-row.ensures in
    c.if-prove.true (ap (λ (r : Row). r.neighbour) read ∙ only-here c.args.k c.args.place c.self.inside.places.items row only)

pub returns : goal.returns
returns c =
    let up = c.self.inside.up.items in
    let places = c.self.inside.places.items in
    let only : IsOnlyPlace c.args.k c.args.place (neighbours_of places) = subst (λ (t : LinkTable). IsOnlyPlace c.args.k c.args.place t.neighbours) (sym c.self.view_is) c.requires.place in
    let on : slice_index_or up c.args.place false ≡ true = up-on c.args.k c.args.place up places (subst (λ (t : LinkTable). has_number c.args.k (neighbours_of t.rows) ≡ true) (sym c.self.view_is) c.requires.up) only in
    let row = c.row_at-row.result.now in
    let P : List Row → Type 0 = λ rows. row ≡ slice_index_or rows c.args.place row in
    let read = subst P c.as_slice.ensures.value c.row_at-row.ensures in
    ap (λ (r : Row). r.told) read ∙ sym (told-up c.args.k c.args.place up places row on only) ∙ ap (λ (t : LinkTable). is_told c.args.k t.rows) c.self.view_is
