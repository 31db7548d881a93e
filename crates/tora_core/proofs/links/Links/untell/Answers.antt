use Rattle.std.proofs.Common.{◌≡◌, ◌∙◌, sym, ap, subst, arith}
use Rattle.std.specs.List.{refill}
use Rattle.tora_core.specs.Links.{LinkTable, rows_up}
use Rattle.tora_core.specs.Numbers.{IsAscending}
use Rattle.tora_core.specs.View.{neighbours_of, untold_row, without_told}
use Rattle.tora_core.specs.declared.TheConstants.{GREATEST_NEIGHBOURS}
use Rattle.tora_core.proofs.LinkLemmas.{directions-mapped, downstream-mapped, least-mapped, refill-same, table-is}
use Rattle.tora_core.proofs.PlaceLemmas.{few-still, map-up, marked-map}
use Rattle.tora_core.proofs.Places.{neighbours_of-map}
use Rattle.tora_core.proofs.RowChanges.{untold-entry, untold-number}
use Rattle.tora_core.proofs.links.Links.untell.Goals as goal

pub invariant_of-self : goal.invariant_of-self
invariant_of-self c =
    let places = c.self.inside.places.items in
    let same = refill-same c.self.inside.places.len places c.untell.new.rows (omega (arith, c.untell.auto.rows, c.as_mut_slice.ensures.len)) in
    let told : c.untell.new.rows ≡ without_told c.args.k places = c.untell.ensures ∙ ap (without_told c.args.k) c.as_mut_slice.ensures.value in
    let numbers : neighbours_of (without_told c.args.k places) ≡ neighbours_of places = neighbours_of-map (untold_row c.args.k) (untold-number c.args.k) places in
    rw (same, told) (
      record {
        directions_are = c.self.invariant.0.directions_are ∙ directions-mapped (untold_row c.args.k) (untold-entry c.args.k) c.self.inside.own places;
        downstream_is = c.self.invariant.0.downstream_is ∙ downstream-mapped (untold_row c.args.k) (untold-entry c.args.k) c.self.inside.own places;
        least_is = least-mapped (untold_row c.args.k) (untold-entry c.args.k) c.self.inside.least places c.self.invariant.0.least_is;
      },
      marked-map (untold_row c.args.k) (λ row e. untold-entry c.args.k row ∙ e) c.self.inside.up.items places c.self.invariant.1,
      subst IsAscending (sym numbers) c.self.invariant.2,
      few-still GREATEST_NEIGHBOURS places (without_told c.args.k places) numbers c.self.invariant.3,
    )

pub returns : goal.returns
returns c =
    let up = c.self.inside.up.items in
    let places = c.self.inside.places.items in
    let new = refill c.self.inside.places.len places c.untell.new.rows in
    let same = refill-same c.self.inside.places.len places c.untell.new.rows (omega (arith, c.untell.auto.rows, c.as_mut_slice.ensures.len)) in
    let told : new ≡ without_told c.args.k places = same ∙ c.untell.ensures ∙ ap (without_told c.args.k) c.as_mut_slice.ensures.value in
    let rows : rows_up up new ≡ without_told c.args.k c.args.self.now.rows = ap (rows_up up) told ∙ map-up (untold_row c.args.k) up places ∙ ap (λ (t : LinkTable). without_told c.args.k t.rows) c.self.view_is in
    let numbers : neighbours_of new ≡ c.args.self.now.neighbours =
    ap neighbours_of told ∙ neighbours_of-map (untold_row c.args.k) (untold-number c.args.k) places ∙ ap (λ (t : LinkTable). t.neighbours) c.self.view_is in
    table-is c.self.inside.own c.args.self.now.own (rows_up up new) (without_told c.args.k c.args.self.now.rows) (neighbours_of new) c.args.self.now.neighbours (ap (λ (t : LinkTable). t.own) c.self.view_is) rows numbers
