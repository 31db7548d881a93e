use Rattle.std.proofs.Common.{◌≡◌, ◌∙◌, sym, ap, subst, arith}
use Rattle.std.specs.List.{refill}
use Rattle.tora_core.specs.Links.{IsLeastPlace, LinkTable, directions_of, downstream_in, rows_up}
use Rattle.tora_core.specs.Numbers.{IsAscending}
use Rattle.tora_core.specs.View.{all_cleared, cleared_row, neighbours_of}
use Rattle.tora_core.specs.declared.TheConstants.{GREATEST_NEIGHBOURS}
use Rattle.tora_core.proofs.LinkLemmas.{refill-same, table-is}
use Rattle.tora_core.proofs.PlaceLemmas.{cleared-null, few-still, map-up, marked-map}
use Rattle.tora_core.proofs.Places.{neighbours_of-map}
use Rattle.tora_core.proofs.RowChanges.{cleared-number}
use Rattle.tora_core.proofs.links.Links.clear_level.Goals as goal

-- no entry was at the level
pub invariant_of-self : goal.invariant_of-self
invariant_of-self c =
    let places = c.self.inside.places.items in
    let same = refill-same c.self.inside.places.len places c.clear_level.new.rows (omega (arith, c.clear_level.auto.rows, c.as_mut_slice.ensures.len)) in
    rw (same, c.clear_level.ensures.none c.if-not-clear_level.true, c.as_mut_slice.ensures.value) c.self.invariant

pub returns-then-not-clear_level : goal.returns-then-not-clear_level
returns-then-not-clear_level c =
    let d = c.args.destination in
    let level = c.args.level in
    let up = c.self.inside.up.items in
    let places = c.self.inside.places.items in
    let new = refill c.self.inside.places.len places c.clear_level.new.rows in
    let same = refill-same c.self.inside.places.len places c.clear_level.new.rows (omega (arith, c.clear_level.auto.rows, c.as_mut_slice.ensures.len)) in
    let cleared : new ≡ all_cleared d level places = same ∙ c.clear_level.ensures.rows ∙ ap (all_cleared d level) c.as_mut_slice.ensures.value in
    let rows : rows_up up new ≡ all_cleared d level c.args.self.now.rows = ap (rows_up up) cleared ∙ map-up (cleared_row d level) up places ∙ ap (λ (t : LinkTable). all_cleared d level t.rows) c.self.view_is in
    let numbers : neighbours_of new ≡ c.args.self.now.neighbours =
    ap neighbours_of cleared ∙ neighbours_of-map (cleared_row d level) (cleared-number d level) places ∙ ap (λ (t : LinkTable). t.neighbours) c.self.view_is in
    table-is c.self.inside.own c.args.self.now.own (rows_up up new) (all_cleared d level c.args.self.now.rows) (neighbours_of new) c.args.self.now.neighbours (ap (λ (t : LinkTable). t.own) c.self.view_is) rows numbers

pub invariant_of-self-2 : goal.invariant_of-self-2
invariant_of-self-2 c =
    let d = c.args.destination in
    let level = c.args.level in
    let own = c.self.inside.own in
    let places = c.self.inside.places.items in
    let same = refill-same c.self.inside.places.len places c.clear_level.new.rows (omega (arith, c.clear_level.auto.rows, c.as_mut_slice.ensures.len)) in
    let cleared : c.clear_level.new.rows ≡ all_cleared d level places = c.clear_level.ensures.rows ∙ ap (all_cleared d level) c.as_mut_slice.ensures.value in
    let seen : c.as_slice.result.now ≡ all_cleared d level places = c.as_slice.ensures.value ∙ same ∙ cleared in
    let written =
    refill-same c.self.inside.directions.len c.self.inside.directions.items c.direct-self-inside.new.directions (omega (arith, c.direct-self-inside.auto.directions, c.as_mut_slice-2.ensures.len)) in
    let directed : c.direct-self-inside.new.directions ≡ directions_of own (all_cleared d level places) = c.direct-self-inside.ensures.directions ∙ ap (directions_of own) seen in
    let numbers : neighbours_of (all_cleared d level places) ≡ neighbours_of places = neighbours_of-map (cleared_row d level) (cleared-number d level) places in
    rw (same, cleared, written) (
      record {
        directions_are = directed;
        downstream_is = c.direct-self-inside.ensures.downstream ∙ ap (downstream_in own) seen;
        least_is = subst (IsLeastPlace c.place_of_least-self-inside.result) (c.as_slice-2.ensures.value ∙ same ∙ cleared) c.place_of_least-self-inside.ensures;
      },
      marked-map (cleared_row d level) (cleared-null d level) c.self.inside.up.items places c.self.invariant.1,
      subst IsAscending (sym numbers) c.self.invariant.2,
      few-still GREATEST_NEIGHBOURS places (all_cleared d level places) numbers c.self.invariant.3,
    )

pub returns : goal.returns
returns c =
    let d = c.args.destination in
    let level = c.args.level in
    let up = c.self.inside.up.items in
    let places = c.self.inside.places.items in
    let new = refill c.self.inside.places.len places c.clear_level.new.rows in
    let same = refill-same c.self.inside.places.len places c.clear_level.new.rows (omega (arith, c.clear_level.auto.rows, c.as_mut_slice.ensures.len)) in
    let cleared : new ≡ all_cleared d level places = same ∙ c.clear_level.ensures.rows ∙ ap (all_cleared d level) c.as_mut_slice.ensures.value in
    let rows : rows_up up new ≡ all_cleared d level c.args.self.now.rows = ap (rows_up up) cleared ∙ map-up (cleared_row d level) up places ∙ ap (λ (t : LinkTable). all_cleared d level t.rows) c.self.view_is in
    let numbers : neighbours_of new ≡ c.args.self.now.neighbours =
    ap neighbours_of cleared ∙ neighbours_of-map (cleared_row d level) (cleared-number d level) places ∙ ap (λ (t : LinkTable). t.neighbours) c.self.view_is in
    table-is c.self.inside.own c.args.self.now.own (rows_up up new) (all_cleared d level c.args.self.now.rows) (neighbours_of new) c.args.self.now.neighbours (ap (λ (t : LinkTable). t.own) c.self.view_is) rows numbers
