use Rattle.std.proofs.Common.{◌≡◌, ◌∙◌, suc, ◌+◌, ◌-◌, sym, arith}
use Rattle.tora_world.specs.declared.event.Event.TheVariants.{CoreTurn}
use Rattle.tora_script.specs.Rounds.{repeats}
use Rattle.tora_script.proofs.RoundLaws.{again, refused, impossible, no_more}
use Rattle.tora_script.proofs.simulator.Simulator.turn.Goals as goal

pub returns-then-not-may_happen : goal.returns-then-not-may_happen
returns-then-not-may_happen g c =
    let k : c.args.most - c.loop.counter ≡ suc (c.args.most - (c.loop.counter + 1)) = omega (arith, c.loop-test.true) in
    impossible (g.Self.Simulator.world c.args.self.now) (repeats c.args.most (CoreTurn c.args.n) (g.Self.Simulator.world c.args.self.now)) (g.Self.Simulator.world c.loop.self) c.loop.some
    (c.args.most - (c.loop.counter + 1)) (CoreTurn c.args.n) (rw k at c.loop.invariant) (c.may_happen.ensures c.if-not-may_happen.true)

pub returns-in-Some : goal.returns-in-Some
returns-in-Some g c =
    let k : c.args.most - c.loop.counter ≡ suc (c.args.most - (c.loop.counter + 1)) = omega (arith, c.loop-test.true) in
    refused (g.Self.Simulator.world c.args.self.now) (repeats c.args.most (CoreTurn c.args.n) (g.Self.Simulator.world c.args.self.now)) (g.Self.Simulator.world c.loop.self) (g.Self.Simulator.world c.happen_at.new.self) c.loop.some
    (c.args.most - (c.loop.counter + 1)) (CoreTurn c.args.n) c.in-Some.field-0 (rw k at c.loop.invariant) (sym c.in_ok-refused.ensures.refused ∙ c.in-Some.is) c.in_ok-refused.ensures.after

pub loop-preserved : goal.loop-preserved
loop-preserved g c =
    let k : c.args.most - c.loop.counter ≡ suc (c.args.most - (c.loop.counter + 1)) = omega (arith, c.loop-test.true) in
    again (g.Self.Simulator.world c.args.self.now) (repeats c.args.most (CoreTurn c.args.n) (g.Self.Simulator.world c.args.self.now)) (g.Self.Simulator.world c.loop.self) (g.Self.Simulator.world c.happen_at.new.self) c.loop.some
    (c.args.most - (c.loop.counter + 1)) (CoreTurn c.args.n) (rw k at c.loop.invariant) (sym c.in_ok-refused.ensures.refused ∙ c.in-None.is) c.in_ok-refused.ensures.after

pub returns : goal.returns
returns g c =
    let k : c.args.most - c.loop.counter ≡ 0 = omega (arith, c.loop-test.false) in
    no_more (g.Self.Simulator.world c.args.self.now) (repeats c.args.most (CoreTurn c.args.n) (g.Self.Simulator.world c.args.self.now)) (g.Self.Simulator.world c.loop.self) c.loop.some (CoreTurn c.args.n) (rw k at c.loop.invariant)
