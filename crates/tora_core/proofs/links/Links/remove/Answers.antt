use Rattle.std.proofs.Common.{◌≡◌, ◌∙◌, refl, sym, ap, subst, ℕ, ◌+◌, ◌<◌, false, not, Bool, List, Option, Some, None, length, arith}
use Rattle.std.specs.Prelude.{if◌then◌else◌, slice_index_or, slice_set}
use Rattle.std.specs.List.{refill}
use Rattle.tora_height.specs.declared.direction.Direction.{Direction}
use Rattle.tora_height.specs.declared.direction.Direction.TheVariants.{Undirected}
use Rattle.tora_height.specs.HeightOrder.{link_status}
use Rattle.tora_core.specs.declared.TheConstants.{GREATEST_NEIGHBOURS}
use Rattle.tora_core.specs.declared.rows.Row.{Row}
use Rattle.tora_core.specs.Numbers.{IsAscending}
use Rattle.tora_core.specs.Rules.{link_row}
use Rattle.tora_core.specs.View.{neighbours_of, without_row}
use Rattle.tora_core.specs.Links.{IsLeastPlace, IsNull, IsOnlyPlace, LinkTable, is_down, rows_up}
use Rattle.tora_core.proofs.LinkLemmas.{before-counted, kept-few, kept-lengths, kept-null, kept-put, least-put_other, none-put, not-some, only-within, refill-same, status-none, table-is}
use Rattle.tora_core.proofs.PlaceLemmas.{few-still, marked-length, marked-put, numbers-put, up-goes}
use Rattle.tora_core.proofs.links.Links.remove.Goals.{in-None, in-Some+then-least-place, in-Some+else-least-place}
use Rattle.tora_core.proofs.links.Links.remove.Goals as goal

pub row_at-requires : goal.row_at-requires
row_at-requires c =
    let only : IsOnlyPlace c.args.k c.args.place (neighbours_of c.self.inside.places.items) = subst (λ (t : LinkTable). IsOnlyPlace c.args.k c.args.place t.neighbours) (sym c.self.view_is) c.requires in
    let rows = c.self.inside.places.items in
    let lt : c.args.place < length rows = only-within c.args.k c.args.place rows only in
    rw c.as_slice.ensures.value lt

pub put-requires : goal.put-requires
put-requires c =
    let only : IsOnlyPlace c.args.k c.args.place (neighbours_of c.self.inside.places.items) = subst (λ (t : LinkTable). IsOnlyPlace c.args.k c.args.place t.neighbours) (sym c.self.view_is) c.requires in
    let rows = c.self.inside.places.items in
    let lt : c.args.place < length rows = only-within c.args.k c.args.place rows only in
    rw c.as_mut_slice.ensures.value lt

pub put-requires-2 : goal.put-requires-2
put-requires-2 c =
    let only : IsOnlyPlace c.args.k c.args.place (neighbours_of c.self.inside.places.items) = subst (λ (t : LinkTable). IsOnlyPlace c.args.k c.args.place t.neighbours) (sym c.self.view_is) c.requires in
    let rows = c.self.inside.places.items in
    let lt : c.args.place < length rows = only-within c.args.k c.args.place rows only in
    rw (c.as_mut_slice-2.ensures.value, marked-length c.self.inside.up.items rows c.self.invariant.1) lt

pub invariant_of-self : goal.invariant_of-self
invariant_of-self c =
    let only : IsOnlyPlace c.args.k c.args.place (neighbours_of c.self.inside.places.items) = subst (λ (t : LinkTable). IsOnlyPlace c.args.k c.args.place t.neighbours) (sym c.self.view_is) c.requires in
    let rows = c.self.inside.places.items in
    let lt : c.args.place < length rows = only-within c.args.k c.args.place rows only in
    let up = c.self.inside.up.items in
    let row = link_row c.args.k None in
    let told = refill-same c.self.inside.places.len rows c.put.new.items (omega (arith, c.put.auto.items, c.as_mut_slice.ensures.len)) in
    let made : c.put.new.items ≡ slice_set rows c.args.place row =
    c.put.ensures ∙ ap (λ (xs : List Row). slice_set xs c.args.place c.link_row-row.result) c.as_mut_slice.ensures.value ∙ ap (slice_set rows c.args.place) c.link_row-row.ensures in
    let marks = refill-same c.self.inside.up.len up c.put-2.new.items (omega (arith, c.put-2.auto.items, c.as_mut_slice-2.ensures.len)) in
    let marked : c.put-2.new.items ≡ slice_set up c.args.place false = c.put-2.ensures ∙ ap (λ (xs : List Bool). slice_set xs c.args.place false) c.as_mut_slice-2.ensures.value in
    let null : IsNull row = refl in
    let was : (slice_index_or rows c.args.place c.row_at.result.now).entry ≡ None = ap (λ (r : Row). r.entry) (sym (c.row_at.ensures ∙ ap (λ (xs : List Row). slice_index_or xs c.args.place c.row_at.result.now) c.as_slice.ensures.value))
    ∙ not-some c.row_at.result.now.entry (c.is_none-was_null.ensures ∙ ap not c.if-was_null.true) in
    let numbers = numbers-put c.args.k c.args.place row rows refl only in
    rw (told, made, marks, marked) (
      kept-null c.self.inside.own rows c.self.inside.directions.items c.self.inside.downstream c.self.inside.least c.args.place row c.row_at.result.now null was lt c.self.invariant.0,
      marked-put c.args.place false row up rows (λ (e : false ≡ false). refl) c.self.invariant.1,
      subst IsAscending (sym numbers) c.self.invariant.2,
      few-still GREATEST_NEIGHBOURS rows (slice_set rows c.args.place row) numbers c.self.invariant.3,
    )

pub returns-then-was_null : goal.returns-then-was_null
returns-then-was_null c =
    let only : IsOnlyPlace c.args.k c.args.place (neighbours_of c.self.inside.places.items) = subst (λ (t : LinkTable). IsOnlyPlace c.args.k c.args.place t.neighbours) (sym c.self.view_is) c.requires in
    let rows = c.self.inside.places.items in
    let lt : c.args.place < length rows = only-within c.args.k c.args.place rows only in
    let up = c.self.inside.up.items in
    let row = link_row c.args.k None in
    let told = refill-same c.self.inside.places.len rows c.put.new.items (omega (arith, c.put.auto.items, c.as_mut_slice.ensures.len)) in
    let made : c.put.new.items ≡ slice_set rows c.args.place row =
    c.put.ensures ∙ ap (λ (xs : List Row). slice_set xs c.args.place c.link_row-row.result) c.as_mut_slice.ensures.value ∙ ap (slice_set rows c.args.place) c.link_row-row.ensures in
    let marks = refill-same c.self.inside.up.len up c.put-2.new.items (omega (arith, c.put-2.auto.items, c.as_mut_slice-2.ensures.len)) in
    let marked : c.put-2.new.items ≡ slice_set up c.args.place false = c.put-2.ensures ∙ ap (λ (xs : List Bool). slice_set xs c.args.place false) c.as_mut_slice-2.ensures.value in
    let new = refill c.self.inside.places.len rows c.put.new.items in
    let ups = refill c.self.inside.up.len up c.put-2.new.items in
    let is : new ≡ slice_set rows c.args.place row = told ∙ made in
    let seen : rows_up ups new ≡ without_row c.args.k c.args.self.now.rows =
    ap (λ (us : List Bool). rows_up us new) (marks ∙ marked) ∙ ap (rows_up (slice_set up c.args.place false)) is
    ∙ up-goes c.args.k c.args.place row up rows only ∙ ap (λ (t : LinkTable). without_row c.args.k t.rows) c.self.view_is in
    let numbers : neighbours_of new ≡ c.args.self.now.neighbours = ap neighbours_of is ∙ numbers-put c.args.k c.args.place row rows refl only ∙ ap (λ (t : LinkTable). t.neighbours) c.self.view_is in
    table-is c.self.inside.own c.args.self.now.own (rows_up ups new) (without_row c.args.k c.args.self.now.rows) (neighbours_of new) c.args.self.now.neighbours (ap (λ (t : LinkTable). t.own) c.self.view_is) seen numbers

pub put_direction-before-requires : goal.put_direction-before-requires
put_direction-before-requires c =
    let only : IsOnlyPlace c.args.k c.args.place (neighbours_of c.self.inside.places.items) = subst (λ (t : LinkTable). IsOnlyPlace c.args.k c.args.place t.neighbours) (sym c.self.view_is) c.requires in
    let rows = c.self.inside.places.items in
    let lt : c.args.place < length rows = only-within c.args.k c.args.place rows only in
    let same = kept-lengths c.self.inside.own rows c.self.inside.directions.items c.self.inside.downstream c.self.inside.least c.self.invariant.0 in
    rw (c.as_mut_slice-3.ensures.value, same) lt

pub recounted-self-inside-requires-clause-some : goal.recounted-self-inside-requires-clause-some
recounted-self-inside-requires-clause-some c =
    let only : IsOnlyPlace c.args.k c.args.place (neighbours_of c.self.inside.places.items) = subst (λ (t : LinkTable). IsOnlyPlace c.args.k c.args.place t.neighbours) (sym c.self.view_is) c.requires in
    let rows = c.self.inside.places.items in
    let lt : c.args.place < length rows = only-within c.args.k c.args.place rows only in
    let before = c.put_direction-before.result in
    let P : List Direction → Type 0 = λ xs. before ≡ slice_index_or xs c.args.place before in
    let read = subst P c.as_mut_slice-3.ensures.value c.put_direction-before.ensures.before in
    before-counted c.self.inside.own rows c.self.inside.directions.items c.self.inside.downstream c.self.inside.least c.args.place before c.self.invariant.0 lt read

pub recounted-self-inside-requires-clause-few : goal.recounted-self-inside-requires-clause-few
recounted-self-inside-requires-clause-few c =
    let few = kept-few c.self.inside.own c.self.inside.places.items c.self.inside.directions.items c.self.inside.downstream c.self.inside.least c.self.invariant.0 in
    let most = c.self.invariant.3 in
    omega arith

pub invariant_of-self-2 : goal.invariant_of-self-2
invariant_of-self-2 c =
    let only : IsOnlyPlace c.args.k c.args.place (neighbours_of c.self.inside.places.items) = subst (λ (t : LinkTable). IsOnlyPlace c.args.k c.args.place t.neighbours) (sym c.self.view_is) c.requires in
    let rows = c.self.inside.places.items in
    let lt : c.args.place < length rows = only-within c.args.k c.args.place rows only in
    let up = c.self.inside.up.items in
    let row = link_row c.args.k None in
    let told = refill-same c.self.inside.places.len rows c.put.new.items (omega (arith, c.put.auto.items, c.as_mut_slice.ensures.len)) in
    let made : c.put.new.items ≡ slice_set rows c.args.place row =
    c.put.ensures ∙ ap (λ (xs : List Row). slice_set xs c.args.place c.link_row-row.result) c.as_mut_slice.ensures.value ∙ ap (slice_set rows c.args.place) c.link_row-row.ensures in
    let marks = refill-same c.self.inside.up.len up c.put-2.new.items (omega (arith, c.put-2.auto.items, c.as_mut_slice-2.ensures.len)) in
    let marked : c.put-2.new.items ≡ slice_set up c.args.place false = c.put-2.ensures ∙ ap (λ (xs : List Bool). slice_set xs c.args.place false) c.as_mut_slice-2.ensures.value in
    let ds = c.self.inside.directions.items in
    let written = refill-same c.self.inside.directions.len ds c.put_direction-before.new.directions (omega (arith, c.put_direction-before.auto.directions, c.as_mut_slice-3.ensures.len)) in
    let before = c.put_direction-before.result in
    let P : List Direction → Type 0 = λ xs. before ≡ slice_index_or xs c.args.place before in
    let read = subst P c.as_mut_slice-3.ensures.value c.put_direction-before.ensures.before in
    let none : Undirected ≡ link_status c.self.inside.own None = sym (status-none c.self.inside.own) in
    let directed : c.put_direction-before.new.directions ≡ slice_set ds c.args.place (link_status c.self.inside.own None) =
    c.put_direction-before.ensures.after ∙ ap (λ (xs : List Direction). slice_set xs c.args.place Undirected) c.as_mut_slice-3.ensures.value ∙ ap (slice_set ds c.args.place) none in
    let least : IsLeastPlace c.match-self.self (slice_set rows c.args.place row) =
    elim c.match-self.branch [
      | in-None w ↦ subst (λ (l : Option ℕ). IsLeastPlace l (slice_set rows c.args.place row)) (sym w.self-is)
          (none-put c.args.place row rows refl (subst (λ (l : Option ℕ). IsLeastPlace l rows) w.in-None.is c.self.invariant.0.least_is))
      | in-Some+then-least-place w ↦ subst (λ (l : Option ℕ). IsLeastPlace l (slice_set rows c.args.place row)) (sym w.self-is)
          (subst (IsLeastPlace w.place_of_least.result) (w.as_slice-then-least-place.ensures.value ∙ told ∙ made) w.place_of_least.ensures)
      | in-Some+else-least-place w ↦
          (let is : IsLeastPlace (Some w.in-Some.least) rows = subst (λ (l : Option ℕ). IsLeastPlace l rows) w.in-Some.is c.self.invariant.0.least_is in
          subst (λ (l : Option ℕ). IsLeastPlace l (slice_set rows c.args.place row)) (sym w.self-is)
          (is.0, least-put_other c.args.place w.in-Some.least is.0 row rows w.if-least-place.false refl is.1))
    ] in
    let numbers = numbers-put c.args.k c.args.place row rows refl only in
    rw (told, made, marks, marked, written, directed) (
      kept-put c.self.inside.own rows ds c.self.inside.downstream c.self.inside.least c.args.place row before c.recounted-self-inside.result c.match-self.self
          c.self.invariant.0 lt read (c.recounted-self-inside.ensures ∙ ap (λ (d : Direction). c.self.inside.downstream + (if is_down d then 1 else 0)) none) least,
      marked-put c.args.place false row up rows (λ (e : false ≡ false). refl) c.self.invariant.1,
      subst IsAscending (sym numbers) c.self.invariant.2,
      few-still GREATEST_NEIGHBOURS rows (slice_set rows c.args.place row) numbers c.self.invariant.3,
    )

pub returns : goal.returns
returns c =
    let only : IsOnlyPlace c.args.k c.args.place (neighbours_of c.self.inside.places.items) = subst (λ (t : LinkTable). IsOnlyPlace c.args.k c.args.place t.neighbours) (sym c.self.view_is) c.requires in
    let rows = c.self.inside.places.items in
    let lt : c.args.place < length rows = only-within c.args.k c.args.place rows only in
    let up = c.self.inside.up.items in
    let row = link_row c.args.k None in
    let told = refill-same c.self.inside.places.len rows c.put.new.items (omega (arith, c.put.auto.items, c.as_mut_slice.ensures.len)) in
    let made : c.put.new.items ≡ slice_set rows c.args.place row =
    c.put.ensures ∙ ap (λ (xs : List Row). slice_set xs c.args.place c.link_row-row.result) c.as_mut_slice.ensures.value ∙ ap (slice_set rows c.args.place) c.link_row-row.ensures in
    let marks = refill-same c.self.inside.up.len up c.put-2.new.items (omega (arith, c.put-2.auto.items, c.as_mut_slice-2.ensures.len)) in
    let marked : c.put-2.new.items ≡ slice_set up c.args.place false = c.put-2.ensures ∙ ap (λ (xs : List Bool). slice_set xs c.args.place false) c.as_mut_slice-2.ensures.value in
    let new = refill c.self.inside.places.len rows c.put.new.items in
    let ups = refill c.self.inside.up.len up c.put-2.new.items in
    let is : new ≡ slice_set rows c.args.place row = told ∙ made in
    let seen : rows_up ups new ≡ without_row c.args.k c.args.self.now.rows =
    ap (λ (us : List Bool). rows_up us new) (marks ∙ marked) ∙ ap (rows_up (slice_set up c.args.place false)) is
    ∙ up-goes c.args.k c.args.place row up rows only ∙ ap (λ (t : LinkTable). without_row c.args.k t.rows) c.self.view_is in
    let numbers : neighbours_of new ≡ c.args.self.now.neighbours = ap neighbours_of is ∙ numbers-put c.args.k c.args.place row rows refl only ∙ ap (λ (t : LinkTable). t.neighbours) c.self.view_is in
    table-is c.self.inside.own c.args.self.now.own (rows_up ups new) (without_row c.args.k c.args.self.now.rows) (neighbours_of new) c.args.self.now.neighbours (ap (λ (t : LinkTable). t.own) c.self.view_is) seen numbers
