use Rattle.std.proofs.Common.{◌≡◌, ◌≢◌, ◌∙◌, refl, sym, ap, subst, ◌+◌, ◌<◌, false, true, not, Bool, List, length, arith}
use Rattle.std.specs.Prelude.{if◌then◌else◌, slice_index_or, slice_set}
use Rattle.std.specs.List.{AllByRecursion, refill}
use Rattle.tora_height.specs.declared.direction.Direction.{Direction}
use Rattle.tora_height.specs.HeightOrder.{link_status}
use Rattle.tora_core.specs.declared.TheConstants.{GREATEST_NEIGHBOURS}
use Rattle.tora_core.specs.declared.rows.Row.{Row}
use Rattle.tora_core.specs.Numbers.{IsAscending}
use Rattle.tora_core.specs.Rules.{link_row}
use Rattle.tora_core.specs.View.{neighbours_of, with_row}
use Rattle.tora_core.specs.Links.{IsLeastPlace, IsNull, IsOnlyPlace, LinkTable, is_down, rows_up}
use Rattle.tora_core.proofs.LinkLemmas.{before-counted, kept-few, kept-lengths, kept-null, kept-put, not-some, only-within, refill-same, table-is}
use Rattle.tora_core.proofs.PlaceLemmas.{few-still, marked-length, marked-put, null-off, numbers-put, up-comes, up-off}
use Rattle.tora_core.proofs.links.Links.insert.Goals as goal

pub put-requires : goal.put-requires
put-requires c =
    let only : IsOnlyPlace c.args.k c.args.place (neighbours_of c.self.inside.places.items) = subst (λ (t : LinkTable). IsOnlyPlace c.args.k c.args.place t.neighbours) (sym c.self.view_is) c.requires.place in
    let rows = c.self.inside.places.items in
    let lt : c.args.place < length rows = only-within c.args.k c.args.place rows only in
    rw c.as_mut_slice.ensures.value lt

pub put-requires-2 : goal.put-requires-2
put-requires-2 c =
    let only : IsOnlyPlace c.args.k c.args.place (neighbours_of c.self.inside.places.items) = subst (λ (t : LinkTable). IsOnlyPlace c.args.k c.args.place t.neighbours) (sym c.self.view_is) c.requires.place in
    let rows = c.self.inside.places.items in
    let lt : c.args.place < length rows = only-within c.args.k c.args.place rows only in
    rw (c.as_mut_slice-2.ensures.value, marked-length c.self.inside.up.items rows c.self.invariant.1) lt

pub invariant_of-self : goal.invariant_of-self
invariant_of-self c =
    let only : IsOnlyPlace c.args.k c.args.place (neighbours_of c.self.inside.places.items) = subst (λ (t : LinkTable). IsOnlyPlace c.args.k c.args.place t.neighbours) (sym c.self.view_is) c.requires.place in
    let rows = c.self.inside.places.items in
    let lt : c.args.place < length rows = only-within c.args.k c.args.place rows only in
    let up = c.self.inside.up.items in
    let row = link_row c.args.k c.args.entry in
    let told = refill-same c.self.inside.places.len rows c.put.new.items (omega (arith, c.put.auto.items, c.as_mut_slice.ensures.len)) in
    let made : c.put.new.items ≡ slice_set rows c.args.place row =
    c.put.ensures ∙ ap (λ (xs : List Row). slice_set xs c.args.place c.link_row-row.result) c.as_mut_slice.ensures.value ∙ ap (slice_set rows c.args.place) c.link_row-row.ensures in
    let marks = refill-same c.self.inside.up.len up c.put-2.new.items (omega (arith, c.put-2.auto.items, c.as_mut_slice-2.ensures.len)) in
    let marked : c.put-2.new.items ≡ slice_set up c.args.place true = c.put-2.ensures ∙ ap (λ (xs : List Bool). slice_set xs c.args.place true) c.as_mut_slice-2.ensures.value in
    let down : AllByRecursion (λ (other : Row). other.neighbour ≢ c.args.k) (rows_up up rows) = subst (λ (t : LinkTable). AllByRecursion (λ (other : Row). other.neighbour ≢ c.args.k) t.rows) (sym c.self.view_is) c.requires.down in
    let off = up-off c.args.k c.args.place up rows down only in
    let null : IsNull row = not-some c.args.entry (c.is_none.ensures ∙ ap not c.if-is_none.true) in
    let was = null-off c.args.place up rows row c.self.invariant.1 off lt in
    let numbers = numbers-put c.args.k c.args.place row rows refl only in
    rw (told, made, marks, marked) (
      kept-null c.self.inside.own rows c.self.inside.directions.items c.self.inside.downstream c.self.inside.least c.args.place row row null was lt c.self.invariant.0,
      marked-put c.args.place true row up rows (λ (e : true ≡ false). absurd cc) c.self.invariant.1,
      subst IsAscending (sym numbers) c.self.invariant.2,
      few-still GREATEST_NEIGHBOURS rows (slice_set rows c.args.place row) numbers c.self.invariant.3,
    )

pub returns-then-is_none : goal.returns-then-is_none
returns-then-is_none c =
    let only : IsOnlyPlace c.args.k c.args.place (neighbours_of c.self.inside.places.items) = subst (λ (t : LinkTable). IsOnlyPlace c.args.k c.args.place t.neighbours) (sym c.self.view_is) c.requires.place in
    let rows = c.self.inside.places.items in
    let lt : c.args.place < length rows = only-within c.args.k c.args.place rows only in
    let up = c.self.inside.up.items in
    let row = link_row c.args.k c.args.entry in
    let told = refill-same c.self.inside.places.len rows c.put.new.items (omega (arith, c.put.auto.items, c.as_mut_slice.ensures.len)) in
    let made : c.put.new.items ≡ slice_set rows c.args.place row =
    c.put.ensures ∙ ap (λ (xs : List Row). slice_set xs c.args.place c.link_row-row.result) c.as_mut_slice.ensures.value ∙ ap (slice_set rows c.args.place) c.link_row-row.ensures in
    let marks = refill-same c.self.inside.up.len up c.put-2.new.items (omega (arith, c.put-2.auto.items, c.as_mut_slice-2.ensures.len)) in
    let marked : c.put-2.new.items ≡ slice_set up c.args.place true = c.put-2.ensures ∙ ap (λ (xs : List Bool). slice_set xs c.args.place true) c.as_mut_slice-2.ensures.value in
    let down : AllByRecursion (λ (other : Row). other.neighbour ≢ c.args.k) (rows_up up rows) = subst (λ (t : LinkTable). AllByRecursion (λ (other : Row). other.neighbour ≢ c.args.k) t.rows) (sym c.self.view_is) c.requires.down in
    let off = up-off c.args.k c.args.place up rows down only in
    let new = refill c.self.inside.places.len rows c.put.new.items in
    let ups = refill c.self.inside.up.len up c.put-2.new.items in
    let is : new ≡ slice_set rows c.args.place row = told ∙ made in
    let seen : rows_up ups new ≡ with_row row c.args.self.now.rows =
    ap (λ (us : List Bool). rows_up us new) (marks ∙ marked) ∙ ap (rows_up (slice_set up c.args.place true)) is
    ∙ up-comes c.args.k c.args.place row up rows refl c.self.invariant.2 only c.self.invariant.1 off ∙ ap (λ (t : LinkTable). with_row row t.rows) c.self.view_is in
    let numbers : neighbours_of new ≡ c.args.self.now.neighbours = ap neighbours_of is ∙ numbers-put c.args.k c.args.place row rows refl only ∙ ap (λ (t : LinkTable). t.neighbours) c.self.view_is in
    table-is c.self.inside.own c.args.self.now.own (rows_up ups new) (with_row row c.args.self.now.rows) (neighbours_of new) c.args.self.now.neighbours (ap (λ (t : LinkTable). t.own) c.self.view_is) seen numbers

pub put_direction-before-requires : goal.put_direction-before-requires
put_direction-before-requires c =
    let only : IsOnlyPlace c.args.k c.args.place (neighbours_of c.self.inside.places.items) = subst (λ (t : LinkTable). IsOnlyPlace c.args.k c.args.place t.neighbours) (sym c.self.view_is) c.requires.place in
    let rows = c.self.inside.places.items in
    let lt : c.args.place < length rows = only-within c.args.k c.args.place rows only in
    let same = kept-lengths c.self.inside.own rows c.self.inside.directions.items c.self.inside.downstream c.self.inside.least c.self.invariant.0 in
    rw (c.as_mut_slice-3.ensures.value, same) lt

pub recounted-self-inside-requires-clause-some : goal.recounted-self-inside-requires-clause-some
recounted-self-inside-requires-clause-some c =
    let only : IsOnlyPlace c.args.k c.args.place (neighbours_of c.self.inside.places.items) = subst (λ (t : LinkTable). IsOnlyPlace c.args.k c.args.place t.neighbours) (sym c.self.view_is) c.requires.place in
    let rows = c.self.inside.places.items in
    let lt : c.args.place < length rows = only-within c.args.k c.args.place rows only in
    let before = c.put_direction-before.result in
    let P : List Direction → Type 0 = λ xs. before ≡ slice_index_or xs c.args.place before in
    let read = subst P c.as_mut_slice-3.ensures.value c.put_direction-before.ensures.before in
    before-counted c.self.inside.own rows c.self.inside.directions.items c.self.inside.downstream c.self.inside.least c.args.place before c.self.invariant.0 lt read

pub recounted-self-inside-requires-clause-few : goal.recounted-self-inside-requires-clause-few
recounted-self-inside-requires-clause-few c =
    let few = kept-few c.self.inside.own c.self.inside.places.items c.self.inside.directions.items c.self.inside.downstream c.self.inside.least c.self.invariant.0 in
    let most = c.self.invariant.3 in
    omega arith

pub invariant_of-self-2 : goal.invariant_of-self-2
invariant_of-self-2 c =
    let only : IsOnlyPlace c.args.k c.args.place (neighbours_of c.self.inside.places.items) = subst (λ (t : LinkTable). IsOnlyPlace c.args.k c.args.place t.neighbours) (sym c.self.view_is) c.requires.place in
    let rows = c.self.inside.places.items in
    let lt : c.args.place < length rows = only-within c.args.k c.args.place rows only in
    let up = c.self.inside.up.items in
    let row = link_row c.args.k c.args.entry in
    let told = refill-same c.self.inside.places.len rows c.put.new.items (omega (arith, c.put.auto.items, c.as_mut_slice.ensures.len)) in
    let made : c.put.new.items ≡ slice_set rows c.args.place row =
    c.put.ensures ∙ ap (λ (xs : List Row). slice_set xs c.args.place c.link_row-row.result) c.as_mut_slice.ensures.value ∙ ap (slice_set rows c.args.place) c.link_row-row.ensures in
    let marks = refill-same c.self.inside.up.len up c.put-2.new.items (omega (arith, c.put-2.auto.items, c.as_mut_slice-2.ensures.len)) in
    let marked : c.put-2.new.items ≡ slice_set up c.args.place true = c.put-2.ensures ∙ ap (λ (xs : List Bool). slice_set xs c.args.place true) c.as_mut_slice-2.ensures.value in
    let ds = c.self.inside.directions.items in
    let written = refill-same c.self.inside.directions.len ds c.put_direction-before.new.directions (omega (arith, c.put_direction-before.auto.directions, c.as_mut_slice-3.ensures.len)) in
    let before = c.put_direction-before.result in
    let P : List Direction → Type 0 = λ xs. before ≡ slice_index_or xs c.args.place before in
    let read = subst P c.as_mut_slice-3.ensures.value c.put_direction-before.ensures.before in
    let directed : c.put_direction-before.new.directions ≡ slice_set ds c.args.place (link_status c.self.inside.own c.args.entry) =
    c.put_direction-before.ensures.after ∙ ap (λ (xs : List Direction). slice_set xs c.args.place c.status-direction.result) c.as_mut_slice-3.ensures.value ∙ ap (slice_set ds c.args.place) c.status-direction.ensures in
    let least : IsLeastPlace c.place_of_least-self-inside.result (slice_set rows c.args.place row) =
    subst (IsLeastPlace c.place_of_least-self-inside.result) (c.as_slice.ensures.value ∙ told ∙ made) c.place_of_least-self-inside.ensures in
    let numbers = numbers-put c.args.k c.args.place row rows refl only in
    rw (told, made, marks, marked, written, directed) (
      kept-put c.self.inside.own rows ds c.self.inside.downstream c.self.inside.least c.args.place row before c.recounted-self-inside.result c.place_of_least-self-inside.result
          c.self.invariant.0 lt read (c.recounted-self-inside.ensures ∙ ap (λ (d : Direction). c.self.inside.downstream + (if is_down d then 1 else 0)) c.status-direction.ensures) least,
      marked-put c.args.place true row up rows (λ (e : true ≡ false). absurd cc) c.self.invariant.1,
      subst IsAscending (sym numbers) c.self.invariant.2,
      few-still GREATEST_NEIGHBOURS rows (slice_set rows c.args.place row) numbers c.self.invariant.3,
    )

pub returns : goal.returns
returns c =
    let only : IsOnlyPlace c.args.k c.args.place (neighbours_of c.self.inside.places.items) = subst (λ (t : LinkTable). IsOnlyPlace c.args.k c.args.place t.neighbours) (sym c.self.view_is) c.requires.place in
    let rows = c.self.inside.places.items in
    let lt : c.args.place < length rows = only-within c.args.k c.args.place rows only in
    let up = c.self.inside.up.items in
    let row = link_row c.args.k c.args.entry in
    let told = refill-same c.self.inside.places.len rows c.put.new.items (omega (arith, c.put.auto.items, c.as_mut_slice.ensures.len)) in
    let made : c.put.new.items ≡ slice_set rows c.args.place row =
    c.put.ensures ∙ ap (λ (xs : List Row). slice_set xs c.args.place c.link_row-row.result) c.as_mut_slice.ensures.value ∙ ap (slice_set rows c.args.place) c.link_row-row.ensures in
    let marks = refill-same c.self.inside.up.len up c.put-2.new.items (omega (arith, c.put-2.auto.items, c.as_mut_slice-2.ensures.len)) in
    let marked : c.put-2.new.items ≡ slice_set up c.args.place true = c.put-2.ensures ∙ ap (λ (xs : List Bool). slice_set xs c.args.place true) c.as_mut_slice-2.ensures.value in
    let down : AllByRecursion (λ (other : Row). other.neighbour ≢ c.args.k) (rows_up up rows) = subst (λ (t : LinkTable). AllByRecursion (λ (other : Row). other.neighbour ≢ c.args.k) t.rows) (sym c.self.view_is) c.requires.down in
    let off = up-off c.args.k c.args.place up rows down only in
    let new = refill c.self.inside.places.len rows c.put.new.items in
    let ups = refill c.self.inside.up.len up c.put-2.new.items in
    let is : new ≡ slice_set rows c.args.place row = told ∙ made in
    let seen : rows_up ups new ≡ with_row row c.args.self.now.rows =
    ap (λ (us : List Bool). rows_up us new) (marks ∙ marked) ∙ ap (rows_up (slice_set up c.args.place true)) is
    ∙ up-comes c.args.k c.args.place row up rows refl c.self.invariant.2 only c.self.invariant.1 off ∙ ap (λ (t : LinkTable). with_row row t.rows) c.self.view_is in
    let numbers : neighbours_of new ≡ c.args.self.now.neighbours = ap neighbours_of is ∙ numbers-put c.args.k c.args.place row rows refl only ∙ ap (λ (t : LinkTable). t.neighbours) c.self.view_is in
    table-is c.self.inside.own c.args.self.now.own (rows_up ups new) (with_row row c.args.self.now.rows) (neighbours_of new) c.args.self.now.neighbours (ap (λ (t : LinkTable). t.own) c.self.view_is) seen numbers
