use Rattle.std.proofs.Common.{◌≡◌, ◌∙◌, sym, suc, ◌+◌, ◌-◌, arith}
use Rattle.tora_script.specs.Table.{over}
use Rattle.tora_script.specs.Rounds.{rounds, sky_of}
use Rattle.tora_script.proofs.RoundLaws.{rounds_on, no_rounds}
use Rattle.tora_script.proofs.KnownEnds.{round_keeps}
use Rattle.tora_script.proofs.rounds.make_rounds.Goals as goal

pub loop-preserved : goal.loop-preserved
loop-preserved g c =
    let k : c.args.count - c.loop.counter ≡ suc (c.args.count - (c.loop.counter + 1)) = omega (arith, c.loop-test.true) in (
      rounds_on (sky_of g.S.Simulator.world c.loop.sim c.loop.in_flight) (sky_of g.S.Simulator.world c.make_round.new.sim c.make_round.new.in_flight) (c.args.count - (c.loop.counter + 1)) c.args.network.now.nodes.now c.args.network.now.ends.now c.args.network.now.parted.now (over c.args.network.now.table.now c.args.network.now.channel)
          (rounds c.args.count c.args.network.now.nodes.now c.args.network.now.ends.now c.args.network.now.parted.now (over c.args.network.now.table.now c.args.network.now.channel) (sky_of g.S.Simulator.world c.args.sim.now c.args.in_flight.now)) (rw k at c.loop.invariant.0) c.in_ok-make_round.ensures,
      round_keeps c.has_ends-is_known.result c.args.network.now.nodes.now c.args.network.now.ends.now c.args.network.now.parted.now (over c.args.network.now.table.now c.args.network.now.channel) (sky_of g.S.Simulator.world c.loop.sim c.loop.in_flight) (sky_of g.S.Simulator.world c.make_round.new.sim c.make_round.new.in_flight) c.loop.invariant.1 c.in_ok-make_round.ensures,
    )

pub returns : goal.returns
returns g c =
    let k : c.args.count - c.loop.counter ≡ 0 = omega (arith, c.loop-test.false) in
    sym (no_rounds (sky_of g.S.Simulator.world c.loop.sim c.loop.in_flight) c.args.network.now.nodes.now c.args.network.now.ends.now c.args.network.now.parted.now (over c.args.network.now.table.now c.args.network.now.channel)) ∙ rw k at c.loop.invariant.0
