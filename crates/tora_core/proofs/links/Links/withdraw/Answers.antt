use Rattle.std.proofs.Common.{◌≡◌, ◌∙◌, sym, ap, subst, arith}
use Rattle.std.specs.List.{refill}
use Rattle.tora_core.specs.Links.{IsLeastPlace, LinkTable, directions_of, downstream_in, rows_up}
use Rattle.tora_core.specs.Numbers.{IsAscending}
use Rattle.tora_core.specs.View.{without_entry, withdrawn_row, neighbours_of}
use Rattle.tora_core.specs.declared.TheConstants.{GREATEST_NEIGHBOURS}
use Rattle.tora_core.proofs.LinkLemmas.{refill-same, table-is}
use Rattle.tora_core.proofs.PlaceLemmas.{withdrawn-null, few-still, map-up, marked-map}
use Rattle.tora_core.proofs.Places.{neighbours_of-map}
use Rattle.tora_core.proofs.RowChanges.{withdrawn-number}
use Rattle.tora_core.proofs.links.Links.withdraw.Goals as goal

pub invariant_of-self : goal.invariant_of-self
invariant_of-self c =
    let d = c.args.destination in
    let k = c.args.k in
    let own = c.self.inside.own in
    let places = c.self.inside.places.items in
    let same = refill-same c.self.inside.places.len places c.withdraw.new.rows (omega (arith, c.withdraw.auto.rows, c.as_mut_slice.ensures.len)) in
    let withdrawn : c.withdraw.new.rows ≡ without_entry d k places = c.withdraw.ensures ∙ ap (without_entry d k) c.as_mut_slice.ensures.value in
    let seen : c.as_slice.result.now ≡ without_entry d k places = c.as_slice.ensures.value ∙ same ∙ withdrawn in
    let written =
    refill-same c.self.inside.directions.len c.self.inside.directions.items c.direct-self-inside.new.directions (omega (arith, c.direct-self-inside.auto.directions, c.as_mut_slice-2.ensures.len)) in
    let directed : c.direct-self-inside.new.directions ≡ directions_of own (without_entry d k places) = c.direct-self-inside.ensures.directions ∙ ap (directions_of own) seen in
    let numbers : neighbours_of (without_entry d k places) ≡ neighbours_of places = neighbours_of-map (withdrawn_row d k) (withdrawn-number d k) places in
    rw (same, withdrawn, written) (
      record {
        directions_are = directed;
        downstream_is = c.direct-self-inside.ensures.downstream ∙ ap (downstream_in own) seen;
        least_is = subst (IsLeastPlace c.place_of_least-self-inside.result) (c.as_slice-2.ensures.value ∙ same ∙ withdrawn) c.place_of_least-self-inside.ensures;
      },
      marked-map (withdrawn_row d k) (withdrawn-null d k) c.self.inside.up.items places c.self.invariant.1,
      subst IsAscending (sym numbers) c.self.invariant.2,
      few-still GREATEST_NEIGHBOURS places (without_entry d k places) numbers c.self.invariant.3,
    )

pub returns : goal.returns
returns c =
    let d = c.args.destination in
    let k = c.args.k in
    let up = c.self.inside.up.items in
    let places = c.self.inside.places.items in
    let new = refill c.self.inside.places.len places c.withdraw.new.rows in
    let same = refill-same c.self.inside.places.len places c.withdraw.new.rows (omega (arith, c.withdraw.auto.rows, c.as_mut_slice.ensures.len)) in
    let withdrawn : new ≡ without_entry d k places = same ∙ c.withdraw.ensures ∙ ap (without_entry d k) c.as_mut_slice.ensures.value in
    let rows : rows_up up new ≡ without_entry d k c.args.self.now.rows = ap (rows_up up) withdrawn ∙ map-up (withdrawn_row d k) up places ∙ ap (λ (t : LinkTable). without_entry d k t.rows) c.self.view_is in
    let numbers : neighbours_of new ≡ c.args.self.now.neighbours =
    ap neighbours_of withdrawn ∙ neighbours_of-map (withdrawn_row d k) (withdrawn-number d k) places ∙ ap (λ (t : LinkTable). t.neighbours) c.self.view_is in
    table-is c.self.inside.own c.args.self.now.own (rows_up up new) (without_entry d k c.args.self.now.rows) (neighbours_of new) c.args.self.now.neighbours (ap (λ (t : LinkTable). t.own) c.self.view_is) rows numbers
