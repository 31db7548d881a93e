use Rattle.std.proofs.Common.{◌≡◌, ◌∙◌, sym, suc, ◌+◌, ◌-◌, arith}
use Rattle.tora_world.specs.World.{world_after_all}
use Rattle.tora_script.specs.declared.rounds.TheConstants.{MOST_PASSES}
use Rattle.tora_script.specs.Rounds.{passes}
use Rattle.tora_script.specs.InFlight.{moment_view}
use Rattle.tora_script.proofs.RoundLaws.{passes_on, passes_stop, no_passes}
use Rattle.tora_script.proofs.KnownEnds.{known_then}
use Rattle.tora_script.proofs.rounds.make_passes.Goals as goal

pub returns-then-not-branch : goal.returns-then-not-branch
returns-then-not-branch g c =
    let k : MOST_PASSES - c.loop.counter ≡ suc (MOST_PASSES - (c.loop.counter + 1)) = omega (arith, c.loop-test.true) in
    passes_stop (g.S.Simulator.world c.loop.sim) (g.S.Simulator.world c.pass.new.sim) (MOST_PASSES - (c.loop.counter + 1)) c.args.moment.now.network.nodes.now c.args.moment.now.network.ends.now c.args.moment.now.network.parted.now (moment_view c.args.moment.now)
    (world_after_all (g.S.Simulator.world c.args.sim.now) (passes MOST_PASSES c.args.moment.now.network.nodes.now c.args.moment.now.network.ends.now c.args.moment.now.network.parted.now (moment_view c.args.moment.now) (g.S.Simulator.world c.args.sim.now))) (rw k at c.loop.invariant.0) (rw c.if-not-branch.true at c.in_ok-pass.ensures)

pub loop-preserved : goal.loop-preserved
loop-preserved g c =
    let k : MOST_PASSES - c.loop.counter ≡ suc (MOST_PASSES - (c.loop.counter + 1)) = omega (arith, c.loop-test.true) in (
      rw c.settle.ensures (passes_on (g.S.Simulator.world c.loop.sim) (g.S.Simulator.world c.pass.new.sim) (MOST_PASSES - (c.loop.counter + 1)) c.args.moment.now.network.nodes.now c.args.moment.now.network.ends.now c.args.moment.now.network.parted.now (moment_view c.args.moment.now)
          (world_after_all (g.S.Simulator.world c.args.sim.now) (passes MOST_PASSES c.args.moment.now.network.nodes.now c.args.moment.now.network.ends.now c.args.moment.now.network.parted.now (moment_view c.args.moment.now) (g.S.Simulator.world c.args.sim.now))) (rw k at c.loop.invariant.0) (rw c.if-not-branch.false at c.in_ok-pass.ensures)),
      rw c.settle.ensures (known_then c.args.moment.now.is_known c.args.moment.now.network.ends.now c.loop.invariant.1 c.in_ok-pass.ensures),
    )

pub returns : goal.returns
returns g c =
    let k : MOST_PASSES - c.loop.counter ≡ 0 = omega (arith, c.loop-test.false) in
    sym (no_passes (g.S.Simulator.world c.loop.sim) c.args.moment.now.network.nodes.now c.args.moment.now.network.ends.now c.args.moment.now.network.parted.now (moment_view c.args.moment.now)) ∙ rw k at c.loop.invariant.0
