use Rattle.std.proofs.Common.{◌≡◌, ◌<◌, ◌+◌, ℕ, length, subst, arith}
use Rattle.tora_sim.specs.Quiet.{AreForgotten}
use Rattle.tora_sim.proofs.IdleEnds.{none_forgotten, one_more_forgotten}
use Rattle.tora_sim.proofs.deadlines.forget.Goals as goal

pub loop-place-init : goal.loop-place-init
loop-place-init c = none_forgotten c.args.deadlines.now c.args.first

pub set_deadline-requires : goal.set_deadline-requires
set_deadline-requires c = let many = c.loop-place.invariant.as_many in omega (arith, c.loop-place-test.true, c.requires, many)

pub loop-place-preserved : goal.loop-place-preserved
loop-place-preserved c =
    let l = c.loop-place in
    let many = l.invariant.as_many in
    let within : c.args.first + l.place < length l.deadlines = omega (arith, c.loop-place-test.true, c.requires, many) in
    one_more_forgotten c.args.deadlines.now l.deadlines c.set_deadline.new.deadlines c.args.first l.place within c.set_deadline.ensures l.invariant

pub returns : goal.returns
returns c =
    let l = c.loop-place in
    let all : l.place ≡ c.args.count = omega (arith, c.loop-place-test.false, l.auto.place-end) in
    subst (λ (n : ℕ). AreForgotten c.args.deadlines.now l.deadlines c.args.first n) all l.invariant
