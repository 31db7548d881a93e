use Rattle.std.proofs.Common.{◌≡◌, suc, ◌+◌, ◌-◌, arith}
use Rattle.tora_script.specs.declared.rounds.TheConstants.{MOST_PASSES}
use Rattle.tora_script.proofs.KnownEnds.{known_then}
use Rattle.tora_drive.specs.Steps.{step_passes}
use Rattle.tora_drive.specs.Recording.{text_record}
use Rattle.tora_drive.proofs.TellLaws.{told_pass, told_last, told_passes}
use Rattle.tora_drive.proofs.stepping.make_passes.Goals as goal

pub returns-then-not-some : goal.returns-then-not-some
returns-then-not-some g c =
    let k : MOST_PASSES - c.loop.counter ≡ suc (MOST_PASSES - (c.loop.counter + 1)) = omega (arith, c.loop-test.true) in
    let v = c.args.visited.now in
    let w0 = g.S.Simulator.world c.args.sim.now in
    rw c.settle.ensures (told_last v.nodes.now v.ends.now v.silent.now w0 (step_passes MOST_PASSES v.nodes.now v.ends.now v.silent.now w0) (g.S.Simulator.world c.loop.sim) (g.S.Simulator.world c.pass.new.sim)
    (MOST_PASSES - (c.loop.counter + 1)) (text_record c.args.text.now) (text_record c.loop.text) (text_record c.pass.new.text) (rw k at c.loop.invariant.0) (rw c.if-not-some.true at c.in_ok-some.ensures))

pub loop-preserved : goal.loop-preserved
loop-preserved g c =
    let k : MOST_PASSES - c.loop.counter ≡ suc (MOST_PASSES - (c.loop.counter + 1)) = omega (arith, c.loop-test.true) in
    let v = c.args.visited.now in
    let w0 = g.S.Simulator.world c.args.sim.now in (
      rw c.settle.ensures (told_pass v.nodes.now v.ends.now v.silent.now w0 (step_passes MOST_PASSES v.nodes.now v.ends.now v.silent.now w0) (g.S.Simulator.world c.loop.sim) (g.S.Simulator.world c.pass.new.sim)
          (MOST_PASSES - (c.loop.counter + 1)) (text_record c.args.text.now) (text_record c.loop.text) (text_record c.pass.new.text) (rw k at c.loop.invariant.0) (rw c.if-not-some.false at c.in_ok-some.ensures)),
      rw c.settle.ensures (known_then v.are_known v.ends.now c.loop.invariant.1 c.in_ok-some.ensures.happened),
    )

pub returns : goal.returns
returns g c =
    let k : MOST_PASSES - c.loop.counter ≡ 0 = omega (arith, c.loop-test.false) in
    let v = c.args.visited.now in
    let w0 = g.S.Simulator.world c.args.sim.now in
    told_passes v.nodes.now v.ends.now v.silent.now w0 (step_passes MOST_PASSES v.nodes.now v.ends.now v.silent.now w0) (g.S.Simulator.world c.loop.sim) (text_record c.args.text.now) (text_record c.loop.text) (rw k at c.loop.invariant.0)
