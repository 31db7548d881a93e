use Rattle.std.proofs.Common.{◌<◌, arith}
use Rattle.tora_sim.proofs.DueBits.{none_of_sixteen, before_lowest}
use Rattle.tora_sim.proofs.deadlines.due_of_sixteen.Goals as goal

pub returns-then-dues-eq0-clause-none : goal.returns-then-dues-eq0-clause-none
returns-then-dues-eq0-clause-none c at from before within = none_of_sixteen c.args.now c.args.from c.dues_of-dues.result c.args.deadlines.now c.requires c.dues_of-dues.ensures c.if-dues-eq0.true at from before

pub returns-else-dues-eq0-clause-passed : goal.returns-else-dues-eq0-clause-passed
returns-else-dues-eq0-clause-passed c at from before within =
    let some : 0 < c.dues_of-dues.result = omega arith in
    before_lowest c.args.now c.args.from c.dues_of-dues.result c.args.deadlines.now c.requires c.dues_of-dues.ensures some at from before
