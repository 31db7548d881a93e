use Rattle.std.proofs.Common.{◌≡◌, ◌∙◌, sym, ap, subst, arith}
use Rattle.std.specs.List.{refill}
use Rattle.tora_core.specs.Links.{IsLeastPlace, LinkTable, directions_of, downstream_in, rows_up}
use Rattle.tora_core.specs.Numbers.{IsAscending}
use Rattle.tora_core.specs.View.{all_erased, erased_row, neighbours_of}
use Rattle.tora_core.specs.declared.TheConstants.{GREATEST_NEIGHBOURS}
use Rattle.tora_core.proofs.LinkLemmas.{refill-same, table-is}
use Rattle.tora_core.proofs.PlaceLemmas.{erased-null, few-still, map-up, marked-map}
use Rattle.tora_core.proofs.Places.{neighbours_of-map}
use Rattle.tora_core.proofs.RowChanges.{erased-number}
use Rattle.tora_core.proofs.links.Links.erase_all.Goals as goal

pub invariant_of-self : goal.invariant_of-self
invariant_of-self c =
    let d = c.args.destination in
    let own = c.self.inside.own in
    let places = c.self.inside.places.items in
    let same = refill-same c.self.inside.places.len places c.erase_all.new.rows (omega (arith, c.erase_all.auto.rows, c.as_mut_slice.ensures.len)) in
    let erased : c.erase_all.new.rows ≡ all_erased d places = c.erase_all.ensures ∙ ap (all_erased d) c.as_mut_slice.ensures.value in
    let seen : c.as_slice.result.now ≡ all_erased d places = c.as_slice.ensures.value ∙ same ∙ erased in
    let written =
    refill-same c.self.inside.directions.len c.self.inside.directions.items c.direct-self-inside.new.directions (omega (arith, c.direct-self-inside.auto.directions, c.as_mut_slice-2.ensures.len)) in
    let directed : c.direct-self-inside.new.directions ≡ directions_of own (all_erased d places) = c.direct-self-inside.ensures.directions ∙ ap (directions_of own) seen in
    let numbers : neighbours_of (all_erased d places) ≡ neighbours_of places = neighbours_of-map (erased_row d) (erased-number d) places in
    rw (same, erased, written) (
      record {
        directions_are = directed;
        downstream_is = c.direct-self-inside.ensures.downstream ∙ ap (downstream_in own) seen;
        least_is = subst (IsLeastPlace c.place_of_least-self-inside.result) (c.as_slice-2.ensures.value ∙ same ∙ erased) c.place_of_least-self-inside.ensures;
      },
      marked-map (erased_row d) (erased-null d) c.self.inside.up.items places c.self.invariant.1,
      subst IsAscending (sym numbers) c.self.invariant.2,
      few-still GREATEST_NEIGHBOURS places (all_erased d places) numbers c.self.invariant.3,
    )

pub returns : goal.returns
returns c =
    let d = c.args.destination in
    let up = c.self.inside.up.items in
    let places = c.self.inside.places.items in
    let new = refill c.self.inside.places.len places c.erase_all.new.rows in
    let same = refill-same c.self.inside.places.len places c.erase_all.new.rows (omega (arith, c.erase_all.auto.rows, c.as_mut_slice.ensures.len)) in
    let erased : new ≡ all_erased d places = same ∙ c.erase_all.ensures ∙ ap (all_erased d) c.as_mut_slice.ensures.value in
    let rows : rows_up up new ≡ all_erased d c.args.self.now.rows = ap (rows_up up) erased ∙ map-up (erased_row d) up places ∙ ap (λ (t : LinkTable). all_erased d t.rows) c.self.view_is in
    let numbers : neighbours_of new ≡ c.args.self.now.neighbours =
    ap neighbours_of erased ∙ neighbours_of-map (erased_row d) (erased-number d) places ∙ ap (λ (t : LinkTable). t.neighbours) c.self.view_is in
    table-is c.self.inside.own c.args.self.now.own (rows_up up new) (all_erased d c.args.self.now.rows) (neighbours_of new) c.args.self.now.neighbours (ap (λ (t : LinkTable). t.own) c.self.view_is) rows numbers
