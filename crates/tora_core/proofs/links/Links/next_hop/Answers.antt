use Rattle.std.proofs.Common.{◌≡◌, ◌≢◌, ◌∙◌, sym, ap, subst, ℕ, List, Option, Some, None}
use Rattle.std.specs.Prelude.{slice_index_or}
use Rattle.tora_core.specs.Links.{IsLeastPlace, LinkTable, downstream_in}
use Rattle.tora_core.specs.declared.rows.Row.{Row}
use Rattle.tora_core.proofs.LinkLemmas.{hop_in, hop-null, hop-some, hop-none, least-within}
use Rattle.tora_core.proofs.PlaceLemmas.{hop-up}
use Rattle.tora_core.proofs.links.Links.next_hop.Goals as goal

pub row_at-requires : goal.row_at-requires
row_at-requires c =
    let is : IsLeastPlace (Some c.in-Some.place) c.self.inside.places.items = subst (λ (l : Option ℕ). IsLeastPlace l c.self.inside.places.items) c.in-Some.is c.self.invariant.0.least_is in
    rw c.as_slice.ensures.value (least-within c.in-Some.place is.0 c.self.inside.places.items is.1)

pub returns-in-None : goal.returns-in-None
returns-in-None c =
    let is : IsLeastPlace None c.self.inside.places.items = subst (λ (l : Option ℕ). IsLeastPlace l c.self.inside.places.items) c.in-None.is c.self.invariant.0.least_is in
    sym (hop-null c.self.inside.own c.self.inside.places.items is)
    ∙ sym (hop-up c.self.inside.own c.self.inside.up.items c.self.inside.places.items c.self.invariant.1) ∙ ap (λ (t : LinkTable). hop_in t.own t.rows) c.self.view_is

pub returns-in-Some : goal.returns-in-Some
returns-in-Some c =
    let is : IsLeastPlace (Some c.in-Some.place) c.self.inside.places.items = subst (λ (l : Option ℕ). IsLeastPlace l c.self.inside.places.items) c.in-Some.is c.self.invariant.0.least_is in
    let row = c.row_at.result.now in
    let P : List Row → Type 0 = λ rows. row ≡ slice_index_or rows c.in-Some.place row in
    let read = subst P c.as_slice.ensures.value c.row_at.ensures in
    let some : downstream_in c.self.inside.own c.self.inside.places.items ≢ 0 = λ e. c.if-self-eq0.false (c.self.invariant.0.downstream_is ∙ e) in
    ap (λ (r : Row). Some r.neighbour) read ∙ sym (hop-some c.self.inside.own c.in-Some.place is.0 c.self.inside.places.items row is.1 some)
    ∙ sym (hop-up c.self.inside.own c.self.inside.up.items c.self.inside.places.items c.self.invariant.1) ∙ ap (λ (t : LinkTable). hop_in t.own t.rows) c.self.view_is

pub returns-then-self-eq0 : goal.returns-then-self-eq0
returns-then-self-eq0 c =
    sym (hop-none c.self.inside.own c.self.inside.places.items (sym c.self.invariant.0.downstream_is ∙ c.if-self-eq0.true))
    ∙ sym (hop-up c.self.inside.own c.self.inside.up.items c.self.inside.places.items c.self.invariant.1) ∙ ap (λ (t : LinkTable). hop_in t.own t.rows) c.self.view_is
