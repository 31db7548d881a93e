use Rattle.std.proofs.Common.{◌≡◌, ◌<◌, ◌≤◌, ◌+◌, length, sym, ap, ◌∙◌, subst, arith}
use Rattle.std.specs.Prelude.{is_some}
use Rattle.tora_router.specs.Links.{event_of}
use Rattle.tora_router.proofs.Calls.{was_found, was_none}
use Rattle.tora_router.proofs.Places.{NoneBefore, none_yet, none_more_one, first_found_as, none_first_as}
use Rattle.tora_router.proofs.links.Links.has_event.Goals as goal

pub loop-place-init : goal.loop-place-init
loop-place-init c = none_yet event_of c.args.self.now

pub returns-then-has_event : goal.returns-then-has_event
returns-then-has_event c =
    let xs = c.self.inside.list.items in
    let lt : c.loop-place.place < length xs = omega (arith, c.loop-place-test.true, c.len-place-end.ensures) in
    let f = was_found (event_of c.index.result.now) (sym c.has_event.ensures ∙ c.if-has_event.true) in
    sym
    (ap is_some (first_found_as event_of xs c.args.self.now c.loop-place.place c.index.result.now f.0 c.self.view_is lt c.index.ensures f.1
    (subst (λ ls. NoneBefore event_of ls c.loop-place.place) (sym c.self.view_is) c.loop-place.invariant)))

pub loop-place-preserved : goal.loop-place-preserved
loop-place-preserved c =
    subst (λ ls. NoneBefore event_of ls (c.loop-place.place + 1)) c.self.view_is
    (none_more_one event_of c.self.inside.list.items c.loop-place.place c.index.result.now c.index.ensures
    (was_none (event_of c.index.result.now) (sym c.has_event.ensures ∙ c.if-has_event.false))
    (subst (λ ls. NoneBefore event_of ls c.loop-place.place) (sym c.self.view_is) c.loop-place.invariant))

pub returns : goal.returns
returns c =
    let le : length c.self.inside.list.items ≤ c.loop-place.place = omega (arith, c.loop-place-test.false, c.len-place-end.ensures) in
    sym
    (ap is_some (none_first_as event_of c.self.inside.list.items c.args.self.now c.loop-place.place c.self.view_is le
    (subst (λ ls. NoneBefore event_of ls c.loop-place.place) (sym c.self.view_is) c.loop-place.invariant)))
