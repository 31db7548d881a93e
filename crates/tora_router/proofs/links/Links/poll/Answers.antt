use Rattle.std.proofs.Common.{◌≡◌, ◌<◌, ◌≤◌, length, refl, sym, ap, ◌∙◌, arith}
use Rattle.tora_router.specs.Links.{event_of, polled}
use Rattle.tora_router.proofs.Places.{none_yet, none_more_set, set_as, set_same_as, first_found_as, none_first_as}
use Rattle.tora_router.proofs.links.Links.poll.Goals as goal

pub loop-place-init : goal.loop-place-init
loop-place-init c = record { same = c.self.view_is; none = none_yet event_of c.self.inside.list.items }

pub returns-in-Some-clause-first : goal.returns-in-Some-clause-first
returns-in-Some-clause-first c =
    let xs = c.loop-place.self-inside.list.items in
    let many : length xs ≡ length c.self.inside.list.items = ap length (c.loop-place.invariant.same ∙ sym c.self.view_is) in
    let lt : c.loop-place.place < length xs = omega (arith, c.loop-place-test.true, c.len-place-end.ensures, many) in
    sym (first_found_as event_of xs c.args.self.now c.loop-place.place c.index_mut.result.now c.in-Some.event c.loop-place.invariant.same lt c.index_mut.ensures.value (sym c.in-Some.ensures.event) c.loop-place.invariant.none)

pub returns-in-Some-clause-some : goal.returns-in-Some-clause-some
returns-in-Some-clause-some c =
    set_as (polled c.in-Some.event) c.loop-place.place c.loop-place.self-inside.list.items c.args.self.now c.index_mut.result.now c.poll.new.self c.loop-place.invariant.same c.index_mut.ensures.value c.in-Some.ensures.some

pub loop-place-preserved : goal.loop-place-preserved
loop-place-preserved c = record {
  same = set_same_as c.loop-place.place c.loop-place.self-inside.list.items c.args.self.now c.index_mut.result.now c.poll.new.self c.loop-place.invariant.same c.index_mut.ensures.value c.in_default.ensures.none;
  none = none_more_set event_of c.loop-place.self-inside.list.items c.loop-place.place c.index_mut.result.now c.poll.new.self c.index_mut.ensures.value c.in_default.ensures.none (sym c.in_default.ensures.event) c.loop-place.invariant.none;
}

pub returns-clause-first : goal.returns-clause-first
returns-clause-first c =
    let xs = c.loop-place.self-inside.list.items in
    let many : length xs ≡ length c.self.inside.list.items = ap length (c.loop-place.invariant.same ∙ sym c.self.view_is) in
    let le : length xs ≤ c.loop-place.place = omega (arith, c.loop-place-test.false, c.len-place-end.ensures, many) in
    sym (none_first_as event_of xs c.args.self.now c.loop-place.place c.loop-place.invariant.same le c.loop-place.invariant.none)
