use Rattle.std.proofs.Common.{arith}
use Rattle.tora_script.specs.Rounds.{new_deliveries}
use Rattle.tora_script.specs.InFlight.{moment_view}
use Rattle.tora_script.proofs.RoundLaws.{delivered, all_delivered}
use Rattle.tora_script.proofs.deliveries.deliver_each.Goals as goal

pub loop-i-preserved : goal.loop-i-preserved
loop-i-preserved g c =
    rw c.either-some.ensures (delivered c.args.moment.now.network.parted.now (moment_view c.args.moment.now) c.loop-i.i c.datagrams-i-end.result (g.S.Simulator.world c.args.sim.now) (new_deliveries c.args.moment.now.network.parted.now (moment_view c.args.moment.now) c.args.first (g.S.Simulator.world c.args.sim.now))
    (g.S.Simulator.world c.loop-i.sim) (g.S.Simulator.world c.deliver.new.sim) c.loop-i.some c.in_ok-any.any c.loop-i-test.true c.loop-i.invariant c.in_ok-any.ensures)

pub returns : goal.returns
returns g c =
    all_delivered c.args.moment.now.network.parted.now (moment_view c.args.moment.now) c.loop-i.i c.datagrams-i-end.result (g.S.Simulator.world c.args.sim.now) (new_deliveries c.args.moment.now.network.parted.now (moment_view c.args.moment.now) c.args.first (g.S.Simulator.world c.args.sim.now))
    (g.S.Simulator.world c.loop-i.sim) c.loop-i.some (omega (arith, c.loop-i-test.false)) c.loop-i.invariant
