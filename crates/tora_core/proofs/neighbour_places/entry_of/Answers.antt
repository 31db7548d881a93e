use Rattle.std.proofs.Common.{◌≡◌, ◌∙◌, sym, ap, ◌<◌, false, true, Some, length, arith}
use Rattle.std.specs.Prelude.{option_map, slice_index_or}
use Rattle.tora_core.specs.declared.rows.Row.{Row}
use Rattle.tora_core.proofs.PlaceLemmas.{find-none, find-off, find-on, mark-read}
use Rattle.tora_core.proofs.RowPlaces.{row-none, row-only}
use Rattle.tora_core.proofs.neighbour_places.entry_of.Goals as goal

pub is_marked-requires : goal.is_marked-requires
is_marked-requires c =
    let only = row-only c.args.k c.in-Some.place c.args.places.now c.requires.ascending (sym c.place_of_row.ensures ∙ c.in-Some.is) in
    let lt = only.0 in
    let equal = c.requires.lengths in
    omega arith

pub row_at-requires : goal.row_at-requires
row_at-requires c = (row-only c.args.k c.in-Some.place c.args.places.now c.requires.ascending (sym c.place_of_row.ensures ∙ c.in-Some.is)).0

-- no place belongs to this neighbour
pub returns-in_default : goal.returns-in_default
returns-in_default c =
    sym (ap (option_map (λ (row : Row). row.entry)) (find-none c.args.k c.args.up.now c.args.places.now (row-none c.args.k c.args.places.now (sym c.place_of_row.ensures ∙ c.in_default.is))))

pub returns-then-is_marked : goal.returns-then-is_marked
returns-then-is_marked c =
    let up = c.args.up.now in
    let places = c.args.places.now in
    let place = c.in-Some.place in
    let row = c.row_at.result.now in
    let only = row-only c.args.k place places c.requires.ascending (sym c.place_of_row.ensures ∙ c.in-Some.is) in
    let lt = only.0 in
    let equal = c.requires.lengths in
    let within : place < length up = omega arith in
    let on : slice_index_or up place false ≡ true = mark-read place up false c.is_marked.result within ∙ sym c.is_marked.ensures ∙ c.if-is_marked.true in
    ap (λ (r : Row). Some r.entry) c.row_at.ensures ∙ sym (ap (option_map (λ (r : Row). r.entry)) (find-on c.args.k place up places row on only.1))

pub returns-else-is_marked : goal.returns-else-is_marked
returns-else-is_marked c =
    let up = c.args.up.now in
    let places = c.args.places.now in
    let place = c.in-Some.place in
    let only = row-only c.args.k place places c.requires.ascending (sym c.place_of_row.ensures ∙ c.in-Some.is) in
    let lt = only.0 in
    let equal = c.requires.lengths in
    let within : place < length up = omega arith in
    let off : slice_index_or up place false ≡ false = mark-read place up false c.is_marked.result within ∙ sym c.is_marked.ensures ∙ c.if-is_marked.false in
    sym (ap (option_map (λ (r : Row). r.entry)) (find-off c.args.k place up places off only.1))
