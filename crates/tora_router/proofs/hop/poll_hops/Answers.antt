use Rattle.std.proofs.Common.{◌≡◌, ◌<◌, ◌≤◌, length, refl, sym, ap, ◌∙◌, arith}
use Rattle.tora_router.specs.Router.{hop_change, hop_told}
use Rattle.tora_router.proofs.Places.{none_yet, none_more_set, set_as, set_same_as, first_found_as, none_first_as}
use Rattle.tora_router.proofs.hop.poll_hops.Goals as goal

pub loop-place-init : goal.loop-place-init
loop-place-init c = record { same = refl; none = none_yet (hop_change c.args.core.now) c.args.hops.now.items }

pub returns-in-Some-clause-first : goal.returns-in-Some-clause-first
returns-in-Some-clause-first c =
    let xs = c.loop-place.hops.items in
    let many : length xs ≡ length c.args.hops.now.items = ap length (c.loop-place.invariant.same) in
    let lt : c.loop-place.place < length xs = omega (arith, c.loop-place-test.true, c.len-place-end.ensures, many) in
    sym (first_found_as (hop_change c.args.core.now) xs c.args.hops.now.items c.loop-place.place c.index_mut.result.now c.in-Some.change c.loop-place.invariant.same lt c.index_mut.ensures.value (sym c.in-Some.ensures.change) c.loop-place.invariant.none)

pub returns-in-Some-clause-some : goal.returns-in-Some-clause-some
returns-in-Some-clause-some c =
    set_as (hop_told c.args.core.now) c.loop-place.place c.loop-place.hops.items c.args.hops.now.items c.index_mut.result.now c.poll.new.self c.loop-place.invariant.same c.index_mut.ensures.value c.in-Some.ensures.some

pub loop-place-preserved : goal.loop-place-preserved
loop-place-preserved c = record {
  same = set_same_as c.loop-place.place c.loop-place.hops.items c.args.hops.now.items c.index_mut.result.now c.poll.new.self c.loop-place.invariant.same c.index_mut.ensures.value c.in_default.ensures.none;
  none = none_more_set (hop_change c.args.core.now) c.loop-place.hops.items c.loop-place.place c.index_mut.result.now c.poll.new.self c.index_mut.ensures.value c.in_default.ensures.none (sym c.in_default.ensures.change) c.loop-place.invariant.none;
}

pub returns-clause-first : goal.returns-clause-first
returns-clause-first c =
    let xs = c.loop-place.hops.items in
    let many : length xs ≡ length c.args.hops.now.items = ap length (c.loop-place.invariant.same) in
    let le : length xs ≤ c.loop-place.place = omega (arith, c.loop-place-test.false, c.len-place-end.ensures, many) in
    sym (none_first_as (hop_change c.args.core.now) xs c.args.hops.now.items c.loop-place.place c.loop-place.invariant.same le c.loop-place.invariant.none)
