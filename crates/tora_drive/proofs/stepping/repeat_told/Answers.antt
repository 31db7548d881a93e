use Rattle.std.proofs.Common.{◌≡◌, ◌∙◌, suc, ◌+◌, ◌-◌, Some, List, ℕ, sym, ap, arith, string_bytes}
use Rattle.tora_script.specs.Rounds.{repeats}
use Rattle.tora_drive.proofs.TellLaws.{told_again, told_refused, told_impossible, told_no_more}
use Rattle.tora_drive.proofs.stepping.repeat_told.Goals as goal

pub returns-then-not-may_happen : goal.returns-then-not-may_happen
returns-then-not-may_happen g c =
    let k : c.args.most - c.loop.counter ≡ suc (c.args.most - (c.loop.counter + 1)) = omega (arith, c.loop-test.true) in
    told_impossible (g.S.Simulator.world c.args.sim.now) (repeats c.args.most c.args.event.now (g.S.Simulator.world c.args.sim.now)) (g.S.Simulator.world c.loop.sim) c.loop.some
    (c.args.most - (c.loop.counter + 1)) c.args.event.now (Some (string_bytes c.args.text.now)) (Some (string_bytes c.loop.text)) (rw k at c.loop.invariant) (c.may_happen.ensures c.if-not-may_happen.true)

pub returns-in-Some : goal.returns-in-Some
returns-in-Some g c =
    let k : c.args.most - c.loop.counter ≡ suc (c.args.most - (c.loop.counter + 1)) = omega (arith, c.loop-test.true) in
    told_refused (g.S.Simulator.world c.args.sim.now) (repeats c.args.most c.args.event.now (g.S.Simulator.world c.args.sim.now)) (g.S.Simulator.world c.loop.sim) (g.S.Simulator.world c.happen_at.new.self) c.loop.some
    (c.args.most - (c.loop.counter + 1)) c.args.event.now c.in-Some.field-0 (Some (string_bytes c.args.text.now)) (Some (string_bytes c.loop.text)) (rw k at c.loop.invariant) (sym c.in_ok-refused.ensures.refused ∙ c.in-Some.is) c.in_ok-refused.ensures.after

pub loop-preserved : goal.loop-preserved
loop-preserved g c =
    let k : c.args.most - c.loop.counter ≡ suc (c.args.most - (c.loop.counter + 1)) = omega (arith, c.loop-test.true) in
    told_again (g.S.Simulator.world c.args.sim.now) (repeats c.args.most c.args.event.now (g.S.Simulator.world c.args.sim.now)) (g.S.Simulator.world c.loop.sim) (g.S.Simulator.world c.happen_at.new.self) c.loop.some
    (c.args.most - (c.loop.counter + 1)) c.args.event.now (Some (string_bytes c.args.text.now)) (Some (string_bytes c.loop.text)) (Some (string_bytes c.write_event_line.new.out)) (rw k at c.loop.invariant) (sym c.in_ok-refused.ensures.refused ∙ c.in-None.is) c.in_ok-refused.ensures.after
    (ap (λ (x : List ℕ). Some x) c.in_ok-write_event_line-in-None.ensures)

pub returns : goal.returns
returns g c =
    let k : c.args.most - c.loop.counter ≡ 0 = omega (arith, c.loop-test.false) in
    told_no_more (g.S.Simulator.world c.args.sim.now) (repeats c.args.most c.args.event.now (g.S.Simulator.world c.args.sim.now)) (g.S.Simulator.world c.loop.sim) c.loop.some c.args.event.now (Some (string_bytes c.args.text.now)) (Some (string_bytes c.loop.text)) (rw k at c.loop.invariant)
