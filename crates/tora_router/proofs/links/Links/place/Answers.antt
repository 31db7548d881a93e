use Rattle.std.proofs.Common.{◌≡◌, ◌<◌, ◌≤◌, ◌+◌, Some, None, length, if◌then◌else◌, refl, sym, ap, ◌∙◌, subst, arith, eq-eqb, ne_eqb}
use Rattle.tora_router.specs.Links.{to_peer}
use Rattle.tora_router.proofs.Places.{NoneBefore, none_yet, none_more_one, first_found_as, none_first_as}
use Rattle.tora_router.proofs.links.Links.place.Goals as goal

pub loop-place-init : goal.loop-place-init
loop-place-init c = none_yet (to_peer c.args.k) c.args.self.now

pub returns-then-peer-k-clause-place : goal.returns-then-peer-k-clause-place
returns-then-peer-k-clause-place c =
    let xs = c.self.inside.list.items in
    let lt : c.loop-place.place < length xs = omega (arith, c.loop-place-test.true, c.len-place-end.ensures) in
    sym
    (first_found_as (to_peer c.args.k) xs c.args.self.now c.loop-place.place c.index.result.now tt c.self.view_is lt c.index.ensures
    (ap (λ b. if b then Some tt else None) (eq-eqb c.index.result.now.end.settings.peer c.args.k (sym c.peer.ensures.peer ∙ c.if-peer-k.true)))
    (subst (λ ls. NoneBefore (to_peer c.args.k) ls c.loop-place.place) (sym c.self.view_is) c.loop-place.invariant))

pub loop-place-preserved : goal.loop-place-preserved
loop-place-preserved c =
    subst (λ ls. NoneBefore (to_peer c.args.k) ls (c.loop-place.place + 1)) c.self.view_is
    (none_more_one (to_peer c.args.k) c.self.inside.list.items c.loop-place.place c.index.result.now c.index.ensures
    (ap (λ b. if b then Some tt else None) (ne_eqb c.index.result.now.end.settings.peer c.args.k (λ e. c.if-peer-k.false (c.peer.ensures.peer ∙ e))))
    (subst (λ ls. NoneBefore (to_peer c.args.k) ls c.loop-place.place) (sym c.self.view_is) c.loop-place.invariant))

pub returns-clause-place : goal.returns-clause-place
returns-clause-place c =
    let le : length c.self.inside.list.items ≤ c.loop-place.place = omega (arith, c.loop-place-test.false, c.len-place-end.ensures) in
    sym
    (none_first_as (to_peer c.args.k) c.self.inside.list.items c.args.self.now c.loop-place.place c.self.view_is le
    (subst (λ ls. NoneBefore (to_peer c.args.k) ls c.loop-place.place) (sym c.self.view_is) c.loop-place.invariant))
