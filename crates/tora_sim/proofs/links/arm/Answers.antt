use Rattle.std.proofs.Common.{◌≡◌, ℕ, arith, subst}
use Rattle.tora_sim.specs.Links.{after_arm, AreChanged}
use Rattle.tora_sim.proofs.FreshEnds.{one_changed}
use Rattle.tora_sim.proofs.links.arm.Goals as goal

pub loop-place-preserved : goal.loop-place-preserved
loop-place-preserved c =
    let l = c.loop-place in
    one_changed (λ link. after_arm link c.args.call) c.args.links.now.items l.links.items c.args.first l.place c.args.count l.invariant c.loop-place-test.true c.requires c.index_mut.result.now c.index_mut.ensures.value
    c.arm.new.self c.arm.ensures

pub returns : goal.returns
returns c =
    let l = c.loop-place in
    let all : l.place ≡ c.args.count = omega (arith, l.auto.place-end, c.loop-place-test.false) in
    subst (λ (m : ℕ). AreChanged (λ link. after_arm link c.args.call) c.args.links.now.items l.links.items c.args.first m) all l.invariant
