use Rattle.std.proofs.Common.{◌≡◌, ◌∙◌, suc, ◌+◌, ◌-◌, sym, arith}
use Rattle.tora_script.specs.Rounds.{repeats}
use Rattle.tora_script.proofs.RoundLaws.{again, refused, impossible, no_more}
use Rattle.tora_script.proofs.turns.repeat.Goals as goal

pub returns-then-not-may_go_on : goal.returns-then-not-may_go_on
returns-then-not-may_go_on g c =
    let k : c.args.most - c.loop.counter ≡ suc (c.args.most - (c.loop.counter + 1)) = omega (arith, c.loop-test.true) in
    impossible (g.S.Simulator.world c.args.sim.now) (repeats c.args.most c.args.event.now (g.S.Simulator.world c.args.sim.now)) (g.S.Simulator.world c.loop.sim) c.loop.some
    (c.args.most - (c.loop.counter + 1)) c.args.event.now (rw k at c.loop.invariant) (c.may_go_on.ensures c.if-not-may_go_on.true)

pub returns-in-Some : goal.returns-in-Some
returns-in-Some g c =
    let k : c.args.most - c.loop.counter ≡ suc (c.args.most - (c.loop.counter + 1)) = omega (arith, c.loop-test.true) in
    refused (g.S.Simulator.world c.args.sim.now) (repeats c.args.most c.args.event.now (g.S.Simulator.world c.args.sim.now)) (g.S.Simulator.world c.loop.sim) (g.S.Simulator.world c.happen_at.new.self) c.loop.some
    (c.args.most - (c.loop.counter + 1)) c.args.event.now c.in-Some.field-0 (rw k at c.loop.invariant) (sym c.in_ok-refused.ensures.refused ∙ c.in-Some.is) c.in_ok-refused.ensures.after

pub loop-preserved : goal.loop-preserved
loop-preserved g c =
    let k : c.args.most - c.loop.counter ≡ suc (c.args.most - (c.loop.counter + 1)) = omega (arith, c.loop-test.true) in
    again (g.S.Simulator.world c.args.sim.now) (repeats c.args.most c.args.event.now (g.S.Simulator.world c.args.sim.now)) (g.S.Simulator.world c.loop.sim) (g.S.Simulator.world c.happen_at.new.self) c.loop.some
    (c.args.most - (c.loop.counter + 1)) c.args.event.now (rw k at c.loop.invariant) (sym c.in_ok-refused.ensures.refused ∙ c.in-None.is) c.in_ok-refused.ensures.after

pub returns : goal.returns
returns g c =
    let k : c.args.most - c.loop.counter ≡ 0 = omega (arith, c.loop-test.false) in
    no_more (g.S.Simulator.world c.args.sim.now) (repeats c.args.most c.args.event.now (g.S.Simulator.world c.args.sim.now)) (g.S.Simulator.world c.loop.sim) c.loop.some c.args.event.now (rw k at c.loop.invariant)
