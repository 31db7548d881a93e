use Rattle.std.proofs.Common.{◌≡◌, ◌∙◌, ◌+◌, ◌-◌, ◌++◌, ap, sym, subst, arith, refl, ℕ, List, length, append-nil}
use Rattle.tora_script.specs.InFlight.{put_off, moment_view}
use Rattle.tora_script.specs.DirectionCounts.{AreCounted}
use Rattle.tora_script.proofs.InFlightLaws.{put_off_on, none_put_off}
use Rattle.tora_script.proofs.DirectionCountLaws.{none_yet}
use Rattle.tora_script.proofs.in_flight.InFlight.put_off.Goals as goal

pub returns-then-is_clear-clause-later : goal.returns-then-is_clear-clause-later
returns-then-is_clear-clause-later g c =
    let w = g.S.Simulator.world c.args.sim.now in
    sym
    (ap (λ (xs : List (ℕ × ℕ)). c.args.self.now.later.items ++ xs) (none_put_off c.args.moment.now.network.parted.now (moment_view c.args.moment.now) w (c.is_clear.ensures c.if-is_clear.true) (length w.datagrams - c.args.moment.now.start))
    ∙ append-nil c.args.self.now.later.items)

pub loop-i-init : goal.loop-i-init
unfolding put_off
loop-i-init g c =
    let w = g.S.Simulator.world c.args.sim.now in
    let none : c.args.moment.now.start - c.args.moment.now.start ≡ 0 = omega arith in
    record {
      later = sym (ap (λ (n : ℕ). c.args.self.now.later.items ++ put_off c.args.moment.now.network.parted.now (moment_view c.args.moment.now) n w) none ∙ append-nil c.args.self.now.later.items);
      round = refl;
      counted = none_yet w c.new-counts.result c.args.moment.now.start (c.args.moment.now.start - c.args.moment.now.start) none c.new-counts.ensures;
      within = omega arith;
    }

pub put_off_one-requires-clause-behind : goal.put_off_one-requires-clause-behind
put_off_one-requires-clause-behind g c = omega (arith, c.loop-i.auto.i)

pub put_off_one-requires-clause-counted : goal.put_off_one-requires-clause-counted
put_off_one-requires-clause-counted g c =
    let same : c.loop-i.i - c.args.moment.now.start ≡ c.loop-i.i + 1 - 1 - c.args.moment.now.start = omega arith in
    subst (λ (n : ℕ). AreCounted (g.S.Simulator.world c.args.sim.now) c.loop-i.counts c.args.moment.now.start n) same c.loop-i.invariant.counted

pub loop-i-preserved : goal.loop-i-preserved
loop-i-preserved g c =
    let w = g.S.Simulator.world c.args.sim.now in
    record {
      later = put_off_on c.args.self.now.later.items c.loop-i.self.later.items c.put_off_one.new.self.later.items c.args.moment.now.network.parted.now (moment_view c.args.moment.now) c.loop-i.i w (omega (arith, c.loop-i.auto.i))
          c.loop-i.invariant.later c.in_ok-put_off_one.ensures.later;
      round = c.in_ok-put_off_one.ensures.round ∙ c.loop-i.invariant.round;
      counted = c.in_ok-put_off_one.ensures.counted;
      within = omega (arith, c.loop-i-test.true, c.loop-i.auto.i, c.datagrams-i-end.ensures);
    }

pub returns-clause-later : goal.returns-clause-later
returns-clause-later g c =
    let w = g.S.Simulator.world c.args.sim.now in
    let k : c.loop-i.i - c.args.moment.now.start ≡ length w.datagrams - c.args.moment.now.start = omega (arith, c.loop-i.invariant.within, c.loop-i-test.false, c.datagrams-i-end.ensures) in
    c.loop-i.invariant.later ∙ ap (λ (n : ℕ). c.args.self.now.later.items ++ put_off c.args.moment.now.network.parted.now (moment_view c.args.moment.now) n w) k
