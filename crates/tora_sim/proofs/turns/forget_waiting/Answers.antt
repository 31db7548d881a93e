use Rattle.std.proofs.Common.{◌≡◌, ℕ, subst, arith}
use Rattle.tora_sim.specs.Quiet.{AreForgottenWhere}
use Rattle.tora_sim.proofs.IdleEnds.{none_forgotten_where, one_more_where}
use Rattle.tora_sim.proofs.turns.forget_waiting.Goals as goal

pub loop-place-init : goal.loop-place-init
loop-place-init c = none_forgotten_where c.args.links.now.items c.args.deadlines.now c.args.first

pub forget_if_waiting-requires-clause-within : goal.forget_if_waiting-requires-clause-within
forget_if_waiting-requires-clause-within c = omega (arith, c.loop-place-test.true, c.requires.within)

pub forget_if_waiting-requires-clause-deadlines : goal.forget_if_waiting-requires-clause-deadlines
forget_if_waiting-requires-clause-deadlines c = let many = c.loop-place.invariant.as_many in omega (arith, c.loop-place-test.true, c.requires.within, c.requires.deadlines, many)

pub loop-place-preserved : goal.loop-place-preserved
loop-place-preserved c =
    let l = c.loop-place in
    let many = l.invariant.as_many in
    one_more_where c.args.links.now.items c.args.deadlines.now l.deadlines c.forget_if_waiting.new.deadlines c.args.first l.place (omega (arith, c.loop-place-test.true, c.requires.within, c.requires.deadlines, many)) c.forget_if_waiting.ensures l.invariant

pub returns : goal.returns
returns c =
    let l = c.loop-place in
    let all : l.place ≡ c.args.count = omega (arith, c.loop-place-test.false, l.auto.place-end) in
    subst (λ (n : ℕ). AreForgottenWhere c.args.links.now.items c.args.deadlines.now l.deadlines c.args.first n) all l.invariant
