use Rattle.std.proofs.Common.{◌<◌, arith}
use Rattle.tora_sim.proofs.IdleEnds.{one_more_later}
use Rattle.tora_sim.proofs.deadlines.due_within.Goals as goal

pub loop-at-preserved : goal.loop-at-preserved
loop-at-preserved c =
    let less : c.args.now < c.deadline_at.result = omega arith in
    one_more_later c.args.now c.args.from c.loop-at.at c.deadline_at.result c.args.deadlines.now c.deadline_at.ensures less c.loop-at.invariant
