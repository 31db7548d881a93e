use Rattle.std.proofs.Common.{◌≡◌, ◌∙◌, refl, ap, subst, ℕ, ◌<◌, Option, Some, None, length}
use Rattle.std.specs.Prelude.{IfSome, is_some, slice_index_or}
use Rattle.tora_core.specs.Links.{entry_at, low_of}
use Rattle.tora_core.specs.View.{is_downstream}
use Rattle.tora_height.specs.Height.{Quintuple}
use Rattle.tora_core.proofs.LinkLemmas.{entry-at}
use Rattle.tora_core.proofs.links.is_lower.Goals as goal

pub returns-in-None : goal.returns-in-None
returns-in-None c =
    let row = c.index-rows-place.result in
    let low : low_of c.args.least c.args.rows.now ≡ None = ap (λ (l : Option ℕ). low_of l c.args.rows.now) c.in-None.is in
    let here : entry_at c.args.place c.args.rows.now ≡ (slice_index_or c.args.rows.now c.args.place row).entry = entry-at c.args.place c.args.rows.now row c.requires.place in
    rw (low, here) (c.is_some.ensures ∙ some (slice_index_or c.args.rows.now c.args.place row).entry)
  where
    some : (o : Option Quintuple) → is_some o ≡ is_downstream None o
    some None = refl
    some (Some h) = refl

pub returns-in-Some : goal.returns-in-Some
returns-in-Some c =
    let at : IfSome c.args.least (λ i. i < length c.args.rows.now) = c.requires.least in
    let within : c.in-Some.low < length c.args.rows.now = subst (λ (l : Option ℕ). IfSome l (λ i. i < length c.args.rows.now)) c.in-Some.is at in
    let low : low_of c.args.least c.args.rows.now ≡ entry_at c.in-Some.low c.args.rows.now = ap (λ (l : Option ℕ). low_of l c.args.rows.now) c.in-Some.is in
    let first = entry-at c.in-Some.low c.args.rows.now c.index-rows-low.result within in
    let here = entry-at c.args.place c.args.rows.now c.index-rows-place-in-Some.result c.requires.place in
    rw (low, first, here) c.is_downstream.ensures
