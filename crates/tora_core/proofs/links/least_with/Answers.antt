use Rattle.std.proofs.Common.{◌≡◌, ◌∙◌, sym, ap, subst, ℕ, true, Option, Some, None}
use Rattle.tora_core.specs.Links.{IsLeastPlace}
use Rattle.tora_core.specs.View.{is_downstream}
use Rattle.tora_core.specs.declared.rows.Row.{Row}
use Rattle.tora_height.specs.Height.{Quintuple}
use Rattle.tora_core.proofs.LinkLemmas.{least-entry, least-set_first, least-set_lower, least-set_higher, least-within}
use Rattle.tora_core.proofs.links.least_with.Goals as goal

pub returns-in_default : goal.returns-in_default
returns-in_default c =
    let is : IsLeastPlace None c.args.rows.now = subst (λ (l : Option ℕ). IsLeastPlace l c.args.rows.now) c.in_default.is c.requires.least in
    (c.args.height.now, least-set_first c.args.place c.args.height.now c.args.rows.now c.requires.place is)

pub row_at-low-requires : goal.row_at-low-requires
row_at-low-requires c =
    let is : IsLeastPlace (Some c.in-Some.i) c.args.rows.now = subst (λ (l : Option ℕ). IsLeastPlace l c.args.rows.now) c.in-Some.is c.requires.least in
    least-within c.in-Some.i is.0 c.args.rows.now is.1

pub returns-then-is_downstream : goal.returns-then-is_downstream
returns-then-is_downstream c =
    let is : IsLeastPlace (Some c.in-Some.i) c.args.rows.now = subst (λ (l : Option ℕ). IsLeastPlace l c.args.rows.now) c.in-Some.is c.requires.least in
    let row = c.row_at-low.result.now in
    let low : row.entry ≡ Some is.0 = ap (λ (r : Row). r.entry) c.row_at-low.ensures ∙ least-entry c.in-Some.i is.0 c.args.rows.now row is.1 in
    let down : is_downstream row.entry (Some c.args.height.now) ≡ true = sym c.is_downstream.ensures ∙ c.if-is_downstream.true in
    (c.args.height.now, least-set_lower c.args.place c.in-Some.i c.args.height.now is.0 c.args.rows.now c.requires.place (subst (λ (o : Option Quintuple). is_downstream o (Some c.args.height.now) ≡ true) low down) is.1)

pub returns-then-is_downstream-2 : goal.returns-then-is_downstream-2
returns-then-is_downstream-2 c =
    let is : IsLeastPlace (Some c.in-Some.i) c.args.rows.now = subst (λ (l : Option ℕ). IsLeastPlace l c.args.rows.now) c.in-Some.is c.requires.least in
    let row = c.row_at-low.result.now in
    let low : row.entry ≡ Some is.0 = ap (λ (r : Row). r.entry) c.row_at-low.ensures ∙ least-entry c.in-Some.i is.0 c.args.rows.now row is.1 in
    let down : is_downstream (Some c.args.height.now) row.entry ≡ true = sym c.is_downstream-then-i-place.ensures ∙ c.if-is_downstream-2.true in
    (is.0, least-set_higher c.args.place c.in-Some.i c.args.height.now is.0 c.args.rows.now c.if-i-place.true (subst (λ (o : Option Quintuple). is_downstream (Some c.args.height.now) o ≡ true) low down) is.1)
