use Rattle.std.proofs.Common.{sym, ◌∙◌}
use Rattle.tora_drive.proofs.TakenLaws.{none, gone, found, on}
use Rattle.tora_drive.proofs.taken.number_of_bytes.Goals as goal

pub returns-then-i-forgotten : goal.returns-then-i-forgotten
returns-then-i-forgotten g c =
    sym (gone (g.S.Simulator.world c.args.sim.now) c.args.sender c.args.receiver c.args.bytes.now c.args.forgotten c.loop-i.i c.if-i-forgotten.true) ∙ c.loop-i.invariant

pub returns-then-is_sent_at : goal.returns-then-is_sent_at
returns-then-is_sent_at g c =
    sym (found (g.S.Simulator.world c.args.sim.now) c.args.sender c.args.receiver c.args.bytes.now c.args.forgotten c.loop-i.i c.loop-i-test.true c.if-i-forgotten.false (sym c.is_sent_at.ensures ∙ c.if-is_sent_at.true)) ∙ c.loop-i.invariant

pub loop-i-preserved : goal.loop-i-preserved
loop-i-preserved g c =
    sym (on (g.S.Simulator.world c.args.sim.now) c.args.sender c.args.receiver c.args.bytes.now c.args.forgotten c.loop-i.i c.loop-i-test.true c.if-i-forgotten.false (sym c.is_sent_at.ensures ∙ c.if-is_sent_at.false)) ∙ c.loop-i.invariant

pub returns : goal.returns
returns g c = sym (none (g.S.Simulator.world c.args.sim.now) c.args.sender c.args.receiver c.args.bytes.now c.args.forgotten c.loop-i.i c.loop-i-test.false) ∙ c.loop-i.invariant
