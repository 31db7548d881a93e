use Rattle.std.proofs.Common.{◌≡◌, ◌∙◌, sym, ap, subst, ℕ, ◌+◌, ◌<◌, false, true, List, Option, Some, length, arith}
use Rattle.std.specs.Prelude.{IfSome, slice_index_or, slice_set, if◌then◌else◌}
use Rattle.std.specs.List.{refill}
use Rattle.tora_height.specs.declared.direction.Direction.{Direction}
use Rattle.tora_core.specs.declared.rows.Row.{Row}
use Rattle.tora_core.specs.declared.TheConstants.{GREATEST_NEIGHBOURS}
use Rattle.tora_core.specs.Numbers.{IsAscending, has_number}
use Rattle.tora_core.specs.Links.{IsLeastPlace, IsOnlyPlace, LinkTable, rows_up, with_entry_at}
use Rattle.tora_core.specs.View.{neighbours_of, with_entry}
use Rattle.tora_core.proofs.LinkLemmas.{before-counted, kept-few, kept-lengths, kept-set, only-here, only-within, refill-same, table-is}
use Rattle.tora_core.proofs.PlaceLemmas.{entry-up, few-still, marked-entry, numbers-entry, up-on}
use Rattle.tora_height.specs.HeightOrder.{link_status}
use Rattle.tora_core.specs.Links.{is_down}
use Rattle.tora_core.proofs.links.Links.set_entry.Goals.{in-None, in-Some}
use Rattle.tora_core.proofs.links.Links.set_entry.Goals as goal

pub row_at-requires : goal.row_at-requires
row_at-requires c =
    let only : IsOnlyPlace c.args.k c.args.place (neighbours_of c.self.inside.places.items) = subst (λ (t : LinkTable). IsOnlyPlace c.args.k c.args.place t.neighbours) (sym c.self.view_is) c.requires.place in
    let rows = c.self.inside.places.items in
    let lt : c.args.place < length rows = only-within c.args.k c.args.place rows only in
    rw c.as_slice.ensures.value lt

pub prove-unreachable-requires : goal.prove-unreachable-requires
prove-unreachable-requires c =
    let only : IsOnlyPlace c.args.k c.args.place (neighbours_of c.self.inside.places.items) = subst (λ (t : LinkTable). IsOnlyPlace c.args.k c.args.place t.neighbours) (sym c.self.view_is) c.requires.place in
    let rows = c.self.inside.places.items in
    let lt : c.args.place < length rows = only-within c.args.k c.args.place rows only in
    let row = c.row_at.result.now in
    let P : List Row → Type 0 = λ xs. row ≡ slice_index_or xs c.args.place row in
    let read = subst P c.as_slice.ensures.value c.row_at.ensures in
    c.if-prove.true (ap (λ (r : Row). r.neighbour) read ∙ only-here c.args.k c.args.place rows row only)

pub least_with-least-requires-clause-place : goal.least_with-least-requires-clause-place
least_with-least-requires-clause-place c =
    let only : IsOnlyPlace c.args.k c.args.place (neighbours_of c.self.inside.places.items) = subst (λ (t : LinkTable). IsOnlyPlace c.args.k c.args.place t.neighbours) (sym c.self.view_is) c.requires.place in
    let rows = c.self.inside.places.items in
    let lt : c.args.place < length rows = only-within c.args.k c.args.place rows only in
    rw c.as_slice-2.ensures.value lt

pub put_direction-before-requires : goal.put_direction-before-requires
put_direction-before-requires c =
    let only : IsOnlyPlace c.args.k c.args.place (neighbours_of c.self.inside.places.items) = subst (λ (t : LinkTable). IsOnlyPlace c.args.k c.args.place t.neighbours) (sym c.self.view_is) c.requires.place in
    let rows = c.self.inside.places.items in
    let lt : c.args.place < length rows = only-within c.args.k c.args.place rows only in
    let same = kept-lengths c.self.inside.own rows c.self.inside.directions.items c.self.inside.downstream c.self.inside.least c.self.invariant.0 in
    rw (c.as_mut_slice.ensures.value, same) lt

pub recounted-self-inside-requires-clause-some : goal.recounted-self-inside-requires-clause-some
recounted-self-inside-requires-clause-some c =
    let only : IsOnlyPlace c.args.k c.args.place (neighbours_of c.self.inside.places.items) = subst (λ (t : LinkTable). IsOnlyPlace c.args.k c.args.place t.neighbours) (sym c.self.view_is) c.requires.place in
    let rows = c.self.inside.places.items in
    let lt : c.args.place < length rows = only-within c.args.k c.args.place rows only in
    let before = c.put_direction-before.result in
    let P : List Direction → Type 0 = λ xs. before ≡ slice_index_or xs c.args.place before in
    let read = subst P c.as_mut_slice.ensures.value c.put_direction-before.ensures.before in
    before-counted c.self.inside.own rows c.self.inside.directions.items c.self.inside.downstream c.self.inside.least c.args.place before c.self.invariant.0 lt read

pub recounted-self-inside-requires-clause-few : goal.recounted-self-inside-requires-clause-few
recounted-self-inside-requires-clause-few c =
    let few = kept-few c.self.inside.own c.self.inside.places.items c.self.inside.directions.items c.self.inside.downstream c.self.inside.least c.self.invariant.0 in
    let most = c.self.invariant.3 in
    omega arith

pub put_entry-requires : goal.put_entry-requires
put_entry-requires c =
    let only : IsOnlyPlace c.args.k c.args.place (neighbours_of c.self.inside.places.items) = subst (λ (t : LinkTable). IsOnlyPlace c.args.k c.args.place t.neighbours) (sym c.self.view_is) c.requires.place in
    let rows = c.self.inside.places.items in
    let lt : c.args.place < length rows = only-within c.args.k c.args.place rows only in
    rw c.as_mut_slice-2.ensures.value lt

pub invariant_of-self : goal.invariant_of-self
invariant_of-self c =
    let only : IsOnlyPlace c.args.k c.args.place (neighbours_of c.self.inside.places.items) = subst (λ (t : LinkTable). IsOnlyPlace c.args.k c.args.place t.neighbours) (sym c.self.view_is) c.requires.place in
    let rows = c.self.inside.places.items in
    let lt : c.args.place < length rows = only-within c.args.k c.args.place rows only in
    let up = c.self.inside.up.items in
    let on : slice_index_or up c.args.place false ≡ true = up-on c.args.k c.args.place up rows (subst (λ (t : LinkTable). has_number c.args.k (neighbours_of t.rows) ≡ true) (sym c.self.view_is) c.requires.up) only in
    let written = refill-same c.self.inside.directions.len c.self.inside.directions.items c.put_direction-before.new.directions (omega (arith, c.put_direction-before.auto.directions, c.as_mut_slice.ensures.len)) in
    let told = refill-same c.self.inside.places.len rows c.put_entry.new.rows (omega (arith, c.put_entry.auto.rows, c.as_mut_slice-2.ensures.len)) in
    let entries : c.put_entry.new.rows ≡ with_entry_at c.args.place c.args.height rows = c.put_entry.ensures ∙ ap (with_entry_at c.args.place c.args.height) c.as_mut_slice-2.ensures.value in
    let before = c.put_direction-before.result in
    let P : List Direction → Type 0 = λ xs. before ≡ slice_index_or xs c.args.place before in
    let read = subst P c.as_mut_slice.ensures.value c.put_direction-before.ensures.before in
    let directed : c.put_direction-before.new.directions ≡ slice_set c.self.inside.directions.items c.args.place (link_status c.self.inside.own (Some c.args.height)) =
    c.put_direction-before.ensures.after ∙ ap (λ (xs : List Direction). slice_set xs c.args.place c.status-direction.result) c.as_mut_slice.ensures.value
    ∙ ap (slice_set c.self.inside.directions.items c.args.place) c.status-direction.ensures in
    let least : IsLeastPlace c.match-least.self (with_entry_at c.args.place c.args.height rows) =
    elim c.match-least.branch [
      | in-None w ↦ subst (λ (l : Option ℕ). IsLeastPlace l (with_entry_at c.args.place c.args.height rows)) (sym w.self-is)
          (subst (IsLeastPlace w.place_of_least-self-inside.result) (w.as_slice-in-None.ensures.value ∙ told ∙ entries) w.place_of_least-self-inside.ensures)
      | in-Some w ↦
          (let known : IfSome c.least_with-least.result (λ i. IsLeastPlace (Some i) (with_entry_at c.args.place c.args.height rows)) =
          subst (λ (xs : List Row). IfSome c.least_with-least.result (λ i. IsLeastPlace (Some i) (with_entry_at c.args.place c.args.height xs))) c.as_slice-2.ensures.value c.least_with-least.ensures in
          let found : IsLeastPlace (Some w.in-Some.place) (with_entry_at c.args.place c.args.height rows) =
          subst (λ (l : Option ℕ). IfSome l (λ i. IsLeastPlace (Some i) (with_entry_at c.args.place c.args.height rows))) w.in-Some.is known in
          subst (λ (l : Option ℕ). IsLeastPlace l (with_entry_at c.args.place c.args.height rows)) (sym w.self-is) found)
    ] in
    rw (told, written, entries, directed) (
      kept-set c.self.inside.own rows c.self.inside.directions.items c.self.inside.downstream c.self.inside.least c.args.place c.args.height before c.recounted-self-inside.result c.match-least.self
          c.self.invariant.0 lt read (c.recounted-self-inside.ensures ∙ ap (λ (d : Direction). c.self.inside.downstream + (if is_down d then 1 else 0)) c.status-direction.ensures) least,
      marked-entry c.args.place c.args.height up rows on c.self.invariant.1,
      subst IsAscending (sym (numbers-entry c.args.place c.args.height rows)) c.self.invariant.2,
      few-still GREATEST_NEIGHBOURS rows (with_entry_at c.args.place c.args.height rows) (numbers-entry c.args.place c.args.height rows) c.self.invariant.3,
    )

pub returns : goal.returns
returns c =
    let only : IsOnlyPlace c.args.k c.args.place (neighbours_of c.self.inside.places.items) = subst (λ (t : LinkTable). IsOnlyPlace c.args.k c.args.place t.neighbours) (sym c.self.view_is) c.requires.place in
    let rows = c.self.inside.places.items in
    let lt : c.args.place < length rows = only-within c.args.k c.args.place rows only in
    let told = refill-same c.self.inside.places.len rows c.put_entry.new.rows (omega (arith, c.put_entry.auto.rows, c.as_mut_slice-2.ensures.len)) in
    let entries : c.put_entry.new.rows ≡ with_entry_at c.args.place c.args.height rows = c.put_entry.ensures ∙ ap (with_entry_at c.args.place c.args.height) c.as_mut_slice-2.ensures.value in
    let new = refill c.self.inside.places.len rows c.put_entry.new.rows in
    let is : new ≡ with_entry_at c.args.place c.args.height rows = told ∙ entries in
    let seen : rows_up c.self.inside.up.items new ≡ with_entry c.args.k c.args.height c.args.self.now.rows =
    ap (rows_up c.self.inside.up.items) is ∙ entry-up c.args.k c.args.place c.args.height c.self.inside.up.items rows only ∙ ap (λ (t : LinkTable). with_entry c.args.k c.args.height t.rows) c.self.view_is in
    let numbers : neighbours_of new ≡ c.args.self.now.neighbours = ap neighbours_of is ∙ numbers-entry c.args.place c.args.height rows ∙ ap (λ (t : LinkTable). t.neighbours) c.self.view_is in
    table-is c.self.inside.own c.args.self.now.own (rows_up c.self.inside.up.items new) (with_entry c.args.k c.args.height c.args.self.now.rows) (neighbours_of new) c.args.self.now.neighbours
    (ap (λ (t : LinkTable). t.own) c.self.view_is) seen numbers
