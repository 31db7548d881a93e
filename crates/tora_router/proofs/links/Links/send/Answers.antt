use Rattle.std.proofs.Common.{◌≡◌, ◌<◌, ◌≤◌, ℕ, length, refl, sym, ap, ◌∙◌, arith}
use Rattle.std.specs.Prelude.{option_map}
use Rattle.tora_frame.specs.FrameParts.{FrameParts}
use Rattle.tora_router.specs.Links.{frame_of_link, sent}
use Rattle.tora_router.proofs.Places.{none_yet, none_more_set, set_as, set_same_as, none_first_as}
use Rattle.tora_router.proofs.Frames.{with_count, first_sent, bytes_sent, none_sent, no_frame}
use Rattle.tora_router.proofs.links.Links.send.Goals as goal

pub loop-place-init : goal.loop-place-init
loop-place-init c = record { out = refl; same = c.self.view_is; none = none_yet (frame_of_link c.args.now) c.self.inside.list.items }

pub returns-in-Some-clause-first : goal.returns-in-Some-clause-first
returns-in-Some-clause-first c =
    let xs = c.loop-place.self-inside.list.items in
    let many : length xs ≡ length c.self.inside.list.items = ap length (c.loop-place.invariant.same ∙ sym c.self.view_is) in
    let lt : c.loop-place.place < length xs = omega (arith, c.loop-place-test.true, c.len-place-end.ensures, many) in
    first_sent c.args.now xs c.args.self.now c.loop-place.place c.index_mut-link.result.now c.loop-place.invariant.same lt c.index_mut-link.ensures.value c.loop-place.invariant.none c.in-Some.count c.in-Some.ensures.length

pub returns-in-Some-clause-bytes : goal.returns-in-Some-clause-bytes
returns-in-Some-clause-bytes c =
    let xs = c.loop-place.self-inside.list.items in
    let many : length xs ≡ length c.self.inside.list.items = ap length (c.loop-place.invariant.same ∙ sym c.self.view_is) in
    let lt : c.loop-place.place < length xs = omega (arith, c.loop-place-test.true, c.len-place-end.ensures, many) in
    bytes_sent c.args.now xs c.args.self.now c.loop-place.place c.index_mut-link.result.now c.loop-place.invariant.same lt c.index_mut-link.ensures.value c.loop-place.invariant.none c.in-Some.count c.args.out.now c.loop-place.out c.send.new.out c.loop-place.invariant.out c.in-Some.ensures.length c.in-Some.ensures.bytes

pub returns-in-Some-clause-sent : goal.returns-in-Some-clause-sent
returns-in-Some-clause-sent c =
    set_as (sent c.args.now) c.loop-place.place c.loop-place.self-inside.list.items c.args.self.now c.index_mut-link.result.now c.send.new.self c.loop-place.invariant.same c.index_mut-link.ensures.value c.in-Some.ensures.sent

pub loop-place-preserved : goal.loop-place-preserved
loop-place-preserved c = record {
  out = c.in_default.ensures.none.1 ∙ c.loop-place.invariant.out;
  same = set_same_as c.loop-place.place c.loop-place.self-inside.list.items c.args.self.now c.index_mut-link.result.now c.send.new.self c.loop-place.invariant.same c.index_mut-link.ensures.value c.in_default.ensures.none.0;
  none = none_more_set (frame_of_link c.args.now) c.loop-place.self-inside.list.items c.loop-place.place c.index_mut-link.result.now c.send.new.self c.index_mut-link.ensures.value c.in_default.ensures.none.0
      (no_frame _ (frame_of_link c.args.now c.index_mut-link.result.now) refl c.in_default.ensures.length) c.loop-place.invariant.none;
}

pub returns-clause-first : goal.returns-clause-first
returns-clause-first c =
    let xs = c.loop-place.self-inside.list.items in
    let many : length xs ≡ length c.self.inside.list.items = ap length (c.loop-place.invariant.same ∙ sym c.self.view_is) in
    let le : length xs ≤ c.loop-place.place = omega (arith, c.loop-place-test.false, c.len-place-end.ensures, many) in
    sym (ap (option_map with_count) (none_first_as (frame_of_link c.args.now) xs c.args.self.now c.loop-place.place c.loop-place.invariant.same le c.loop-place.invariant.none))

pub returns-clause-bytes : goal.returns-clause-bytes
returns-clause-bytes c =
    let xs = c.loop-place.self-inside.list.items in
    let many : length xs ≡ length c.self.inside.list.items = ap length (c.loop-place.invariant.same ∙ sym c.self.view_is) in
    let le : length xs ≤ c.loop-place.place = omega (arith, c.loop-place-test.false, c.len-place-end.ensures, many) in
    none_sent c.args.now c.args.self.now c.args.out.now c.loop-place.out (none_first_as (frame_of_link c.args.now) xs c.args.self.now c.loop-place.place c.loop-place.invariant.same le c.loop-place.invariant.none)
