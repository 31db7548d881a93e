use Rattle.std.proofs.Common.{◌≡◌, ◌+◌, ◌<◌, ◌≤◌, ℕ, Some, length, set, slice_get, sym, subst, arith}
use Rattle.tora_sim.specs.Links.{LinkView, ticked, AreChanged}
use Rattle.tora_sim.proofs.FreshEnds.{none_changed}
use Rattle.tora_sim.proofs.TickEnds.{more_still, one_ticked, all_ticked}
use Rattle.tora_sim.proofs.ticking.tick.Goals as goal

pub loop-at-init : goal.loop-at-init
loop-at-init c =
    let links = c.args.links.now.items in
    more_still c.args.now 0 c.next_due-at.result c.args.deadlines.now links links c.requires (omega arith) c.next_due-at.ensures.passed (none_changed (ticked c.args.now) links 0)

pub tick_end-requires : goal.tick_end-requires
tick_end-requires c =
    let as_many = c.requires.as_many in
    let same = c.loop-at.invariant.as_many in
    omega (arith, as_many, same, c.loop-at-test.true, c.end_count.ensures)

pub loop-at-preserved : goal.loop-at-preserved
loop-at-preserved c =
    let at = c.loop-at.at in
    let before = c.args.links.now.items in
    let links = c.loop-at.links.items in
    let after = c.tick_end.new.links.items in
    let as_many = c.requires.as_many in
    let here : 0 + at ≡ at = omega arith in
    let lt : at < length before = omega (arith, as_many, c.loop-at-test.true, c.end_count.ensures) in
    let one : AreChanged (ticked c.args.now) before after 0 (at + 1) =
    one_ticked c.args.now 0 at (length before) before links c.loop-at.invariant lt (omega arith) after
    (subst (λ (i : ℕ). (link : LinkView) → slice_get links i ≡ Some link → after ≡ set links i (ticked c.args.now link)) (sym here) c.tick_end.ensures) in
    more_still c.args.now (at + 1) c.next_due-at-in-loop-at.result c.args.deadlines.now before after c.requires c.next_due-at-in-loop-at.ensures.onward c.next_due-at-in-loop-at.ensures.passed one

pub returns : goal.returns
returns c =
    let at = c.loop-at.at in
    let as_many = c.requires.as_many in
    let all : length c.args.links.now.items ≤ at = omega (arith, as_many, c.loop-at-test.false, c.end_count.ensures) in
    all_ticked c.args.now at c.args.links.now.items c.loop-at.links.items all c.loop-at.invariant
