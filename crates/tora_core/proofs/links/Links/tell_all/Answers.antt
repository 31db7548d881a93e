use Rattle.std.proofs.Common.{◌≡◌, ◌∙◌, refl, sym, ap, subst, arith}
use Rattle.std.specs.List.{refill}
use Rattle.tora_core.specs.Links.{LinkTable, rows_up}
use Rattle.tora_core.specs.Numbers.{IsAscending}
use Rattle.tora_core.specs.View.{all_told, neighbours_of, told_row}
use Rattle.tora_core.specs.declared.TheConstants.{GREATEST_NEIGHBOURS}
use Rattle.tora_core.proofs.LinkLemmas.{directions-mapped, downstream-mapped, least-mapped, refill-same, table-is}
use Rattle.tora_core.proofs.PlaceLemmas.{few-still, map-up, marked-map}
use Rattle.tora_core.proofs.Places.{neighbours_of-map}
use Rattle.tora_core.proofs.links.Links.tell_all.Goals as goal

pub invariant_of-self : goal.invariant_of-self
invariant_of-self c =
    let places = c.self.inside.places.items in
    let same = refill-same c.self.inside.places.len places c.tell_all.new.rows (omega (arith, c.tell_all.auto.rows, c.as_mut_slice.ensures.len)) in
    let told : c.tell_all.new.rows ≡ all_told places = c.tell_all.ensures ∙ ap all_told c.as_mut_slice.ensures.value in
    let numbers : neighbours_of (all_told places) ≡ neighbours_of places = neighbours_of-map told_row (λ row. refl) places in
    rw (same, told) (
      record {
        directions_are = c.self.invariant.0.directions_are ∙ directions-mapped told_row (λ row. refl) c.self.inside.own places;
        downstream_is = c.self.invariant.0.downstream_is ∙ downstream-mapped told_row (λ row. refl) c.self.inside.own places;
        least_is = least-mapped told_row (λ row. refl) c.self.inside.least places c.self.invariant.0.least_is;
      },
      marked-map told_row (λ row e. e) c.self.inside.up.items places c.self.invariant.1,
      subst IsAscending (sym numbers) c.self.invariant.2,
      few-still GREATEST_NEIGHBOURS places (all_told places) numbers c.self.invariant.3,
    )

pub returns : goal.returns
returns c =
    let up = c.self.inside.up.items in
    let places = c.self.inside.places.items in
    let new = refill c.self.inside.places.len places c.tell_all.new.rows in
    let same = refill-same c.self.inside.places.len places c.tell_all.new.rows (omega (arith, c.tell_all.auto.rows, c.as_mut_slice.ensures.len)) in
    let told : new ≡ all_told places = same ∙ c.tell_all.ensures ∙ ap all_told c.as_mut_slice.ensures.value in
    let rows : rows_up up new ≡ all_told c.args.self.now.rows = ap (rows_up up) told ∙ map-up told_row up places ∙ ap (λ (t : LinkTable). all_told t.rows) c.self.view_is in
    let numbers : neighbours_of new ≡ c.args.self.now.neighbours =
    ap neighbours_of told ∙ neighbours_of-map told_row (λ row. refl) places ∙ ap (λ (t : LinkTable). t.neighbours) c.self.view_is in
    table-is c.self.inside.own c.args.self.now.own (rows_up up new) (all_told c.args.self.now.rows) (neighbours_of new) c.args.self.now.neighbours (ap (λ (t : LinkTable). t.own) c.self.view_is) rows numbers
