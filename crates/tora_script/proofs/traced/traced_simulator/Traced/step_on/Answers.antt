use Rattle.std.proofs.Common.{◌≡◌, ◌∙◌, suc, ◌+◌, ◌-◌, sym, arith}
use Rattle.tora_sim.specs.Steps.{repeats}
use Rattle.tora_script.proofs.RoundLaws.{again, refused, impossible, no_more}
use Rattle.tora_script.proofs.traced.traced_simulator.Traced.step_on.Goals as goal

pub returns-then-not-may_happen : goal.returns-then-not-may_happen
returns-then-not-may_happen g c =
    let k : c.args.most - c.loop.counter ≡ suc (c.args.most - (c.loop.counter + 1)) = omega (arith, c.loop-test.true) in
    impossible (g.S.Simulator.world c.args.self.now.sim) (repeats c.args.most c.args.event.now (g.S.Simulator.world c.args.self.now.sim)) (g.S.Simulator.world c.loop.self.sim) c.loop.some
    (c.args.most - (c.loop.counter + 1)) c.args.event.now (rw k at c.loop.invariant) (c.may_happen.ensures c.if-not-may_happen.true)

pub returns-in-Some : goal.returns-in-Some
returns-in-Some g c =
    let k : c.args.most - c.loop.counter ≡ suc (c.args.most - (c.loop.counter + 1)) = omega (arith, c.loop-test.true) in
    refused (g.S.Simulator.world c.args.self.now.sim) (repeats c.args.most c.args.event.now (g.S.Simulator.world c.args.self.now.sim)) (g.S.Simulator.world c.loop.self.sim) (g.S.Simulator.world c.step.new.self.sim) c.loop.some
    (c.args.most - (c.loop.counter + 1)) c.args.event.now c.in-Some.field-0 (rw k at c.loop.invariant) (sym c.in_ok-refused.ensures.refused ∙ c.in-Some.is) c.in_ok-refused.ensures.after

pub loop-preserved : goal.loop-preserved
loop-preserved g c =
    let k : c.args.most - c.loop.counter ≡ suc (c.args.most - (c.loop.counter + 1)) = omega (arith, c.loop-test.true) in
    again (g.S.Simulator.world c.args.self.now.sim) (repeats c.args.most c.args.event.now (g.S.Simulator.world c.args.self.now.sim)) (g.S.Simulator.world c.loop.self.sim) (g.S.Simulator.world c.step.new.self.sim) c.loop.some
    (c.args.most - (c.loop.counter + 1)) c.args.event.now (rw k at c.loop.invariant) (sym c.in_ok-refused.ensures.refused ∙ c.in-None.is) c.in_ok-refused.ensures.after

pub returns : goal.returns
returns g c =
    let k : c.args.most - c.loop.counter ≡ 0 = omega (arith, c.loop-test.false) in
    no_more (g.S.Simulator.world c.args.self.now.sim) (repeats c.args.most c.args.event.now (g.S.Simulator.world c.args.self.now.sim)) (g.S.Simulator.world c.loop.self.sim) c.loop.some c.args.event.now (rw k at c.loop.invariant)
