use Rattle.std.proofs.Common.{◌≡◌, ℕ, ◌+◌, ◌-◌, false, sym, subst, arith}
use Rattle.tora_script.specs.Rounds.{deliveries, new_deliveries}
use Rattle.tora_script.specs.InFlight.{moment_view}
use Rattle.tora_script.specs.DirectionCounts.{AreCounted}
use Rattle.tora_script.proofs.RoundLaws.{Onward, delivered, all_delivered, begins}
use Rattle.tora_script.proofs.DatagramsStay.{still_counted}
use Rattle.tora_script.proofs.deliveries.deliver_counted.Goals as goal

pub deliver_next-requires-clause-behind : goal.deliver_next-requires-clause-behind
deliver_next-requires-clause-behind g c = omega (arith, c.requires, c.loop-i.auto.i)

pub deliver_next-requires-clause-counted : goal.deliver_next-requires-clause-counted
deliver_next-requires-clause-counted g c =
    let same : c.loop-i.i - c.args.moment.now.start ≡ c.loop-i.i + 1 - 1 - c.args.moment.now.start = omega arith in
    subst (λ (n : ℕ). AreCounted (g.S.Simulator.world c.loop-i.sim) c.loop-i.counts c.args.moment.now.start n) same c.loop-i.invariant.counted

pub loop-i-preserved : goal.loop-i-preserved
loop-i-preserved g c =
    let m = moment_view c.args.moment.now in
    let w = g.S.Simulator.world c.loop-i.sim in
    let v = g.S.Simulator.world c.deliver_next.new.sim in
    record {
      onward = rw c.either-some.ensures (delivered c.args.moment.now.network.parted.now m c.loop-i.i c.datagrams-i-end.result (g.S.Simulator.world c.args.sim.now) (new_deliveries c.args.moment.now.network.parted.now m c.args.first (g.S.Simulator.world c.args.sim.now))
          w v c.loop-i.some c.in_ok-any.any c.loop-i-test.true c.loop-i.invariant.onward c.in_ok-any.ensures.happened);
      counted = still_counted c.args.moment.now.network.parted.now m (c.loop-i.i + 1) w v c.deliver_next.new.counts c.args.moment.now.start (c.loop-i.i + 1 - c.args.moment.now.start) c.in_ok-any.ensures.happened.after_is c.in_ok-any.ensures.counted;
    }

pub returns : goal.returns
returns g c =
    all_delivered c.args.moment.now.network.parted.now (moment_view c.args.moment.now) c.loop-i.i c.datagrams-i-end.result (g.S.Simulator.world c.args.sim.now) (new_deliveries c.args.moment.now.network.parted.now (moment_view c.args.moment.now) c.args.first (g.S.Simulator.world c.args.sim.now))
    (g.S.Simulator.world c.loop-i.sim) c.loop-i.some (omega (arith, c.loop-i-test.false)) c.loop-i.invariant.onward

pub loop-i-init : goal.loop-i-init
loop-i-init g c =
    let m = moment_view c.args.moment.now in
    let w = g.S.Simulator.world c.args.sim.now in
    record {
      onward = subst (λ (n : ℕ). Onward w (new_deliveries c.args.moment.now.network.parted.now m c.args.first w) w false (deliveries c.args.moment.now.network.parted.now m c.args.first (n - c.args.first) w)) (sym c.datagrams-i-end.ensures) (begins w (new_deliveries c.args.moment.now.network.parted.now m c.args.first w));
      counted = c.in_ok-counts.ensures;
    }
