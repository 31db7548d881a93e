use Rattle.std.proofs.Common.{◌≡◌, ℕ, ◌+◌, ◌-◌, subst, arith}
use Rattle.tora_script.specs.DirectionCounts.{AreCounted}
use Rattle.tora_script.proofs.DirectionCountLaws.{none_yet}
use Rattle.tora_script.proofs.deliveries.count_gone.Goals as goal

pub count_one-requires-clause-behind : goal.count_one-requires-clause-behind
count_one-requires-clause-behind g c = omega (arith, c.loop-i.auto.i)

pub count_one-requires-clause-counted : goal.count_one-requires-clause-counted
count_one-requires-clause-counted g c =
    let same : c.loop-i.i - c.args.first ≡ c.loop-i.i + 1 - 1 - c.args.first = omega arith in
    subst (λ (n : ℕ). AreCounted (g.S.Simulator.world c.args.sim.now) c.loop-i.counts c.args.first n) same c.loop-i.invariant.counted

pub loop-i-preserved : goal.loop-i-preserved
loop-i-preserved g c = record {
  counted = c.in_ok-count_one.ensures;
  within = omega (arith, c.loop-i-test.true, c.loop-i.auto.i);
}

pub returns : goal.returns
returns g c =
    let k : c.loop-i.i - c.args.first ≡ c.args.end - c.args.first = omega (arith, c.loop-i.invariant.within, c.loop-i-test.false) in
    subst (λ (n : ℕ). AreCounted (g.S.Simulator.world c.args.sim.now) c.loop-i.counts c.args.first n) k c.loop-i.invariant.counted

pub loop-i-init : goal.loop-i-init
loop-i-init g c = record {
  counted = none_yet (g.S.Simulator.world c.args.sim.now) c.new-counts.result c.args.first (c.args.first - c.args.first) (omega arith) c.new-counts.ensures;
  within = omega arith;
}
