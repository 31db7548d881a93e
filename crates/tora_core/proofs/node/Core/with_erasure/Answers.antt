use Rattle.std.proofs.Common.{◌∙◌, refl, sym, arith, ℕ, ◌<◌}
use Rattle.std.specs.List.{AllByRecursion}
use Rattle.std.proofs.lemmas.List.Elements.{All-from_recursion, All-from_get_or, recursion_from_All}
use Rattle.tora_packet.specs.PacketParts.{IsId}
use Rattle.tora_core.specs.Numbers.{ascending}
use Rattle.tora_core.proofs.NumberLemmas.{all-ascending, length-ascending}
use Rattle.tora_core.proofs.TableViews.{places-first, views_first}
use Rattle.tora_core.proofs.CoreLemmas.{destinations_of-first, few-neighbours, first_core-kept}
use Rattle.tora_core.proofs.node.Core.with_erasure.Goals as goal

pub first_views-requires-clause-destinations : goal.first_views-requires-clause-destinations
first_views-requires-clause-destinations c =
    let positive : ℕ → Type 0 = λ d. 0 < d in
    rw (c.as_slice.ensures.value, c.ascending-table.ensures)
    (All-from_recursion positive (ascending c.args.destinations.now) (all-ascending positive c.args.destinations.now (recursion_from_All positive c.args.destinations.now c.requires.destinations)))

pub first_views-requires-clause-few : goal.first_views-requires-clause-few
first_views-requires-clause-few c =
    let few = few-neighbours c.args.limits c.args.me c.args.neighbours.now c.args.destinations.now (sym c.core_refusal.ensures.value ∙ c.in_default.is) in
    let count = length-ascending c.args.neighbours.now in
    rw (c.as_slice-2.ensures.value, c.in-Ok.ensures) (omega arith)

pub first_views-requires-clause-ascending : goal.first_views-requires-clause-ascending
first_views-requires-clause-ascending c =
    let ids : AllByRecursion IsId c.args.neighbours.now =
    recursion_from_All IsId c.args.neighbours.now (All-from_get_or IsId c.args.neighbours.now 0 (λ k lt. (c.requires.neighbours k 0 lt, (c.type_inv.neighbours k).fits))) in
    let tos : AllByRecursion IsId c.args.destinations.now =
    recursion_from_All IsId c.args.destinations.now (All-from_get_or IsId c.args.destinations.now 0 (λ k lt. (c.requires.destinations k 0 lt, (c.type_inv.destinations k).fits))) in
    let kept = first_core-kept c.args.erasure c.args.limits c.args.me c.args.neighbours.now c.args.destinations.now (c.requires.me, c.ranges.me.fits) ids tos (sym c.core_refusal.ensures.value ∙ c.in_default.is) in
    rw (c.as_slice-2.ensures.value, c.in-Ok.ensures) kept.ascending_neighbours

pub invariant_of-result : goal.invariant_of-result
invariant_of-result c =
    let ids : AllByRecursion IsId c.args.neighbours.now =
    recursion_from_All IsId c.args.neighbours.now (All-from_get_or IsId c.args.neighbours.now 0 (λ k lt. (c.requires.neighbours k 0 lt, (c.type_inv.neighbours k).fits))) in
    let tos : AllByRecursion IsId c.args.destinations.now =
    recursion_from_All IsId c.args.destinations.now (All-from_get_or IsId c.args.destinations.now 0 (λ k lt. (c.requires.destinations k 0 lt, (c.type_inv.destinations k).fits))) in
    let kept = first_core-kept c.args.erasure c.args.limits c.args.me c.args.neighbours.now c.args.destinations.now (c.requires.me, c.ranges.me.fits) ids tos (sym c.core_refusal.ensures.value ∙ c.in_default.is) in
    rw (c.in-Ok-first_views.ensures, c.as_slice-2.ensures.value, c.in-Ok.ensures, c.in-Ok-with_capacity.ensures.items, c.as_slice.ensures.value, c.ascending-table.ensures, views_first (ascending c.args.neighbours.now) c.args.erasure c.args.me (ascending c.args.destinations.now)) (
      kept,
      (sym (destinations_of-first c.args.erasure c.args.me (ascending c.args.destinations.now)), (let wide = c.in-Ok-with_capacity.ensures.exact in let e = length-ascending c.args.neighbours.now in omega arith)),
      places-first (ascending c.args.neighbours.now) c.args.erasure c.args.me (ascending c.args.destinations.now),
    )

pub returns-clause-value : goal.returns-clause-value
returns-clause-value c =
    rw (c.in-Ok-first_views.ensures, c.as_slice-2.ensures.value, c.in-Ok.ensures, c.in-Ok-with_capacity.ensures.items, c.as_slice.ensures.value, c.ascending-table.ensures, views_first (ascending c.args.neighbours.now) c.args.erasure c.args.me (ascending c.args.destinations.now)) refl
