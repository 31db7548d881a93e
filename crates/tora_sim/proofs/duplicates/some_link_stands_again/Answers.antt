use Rattle.tora_sim.proofs.Repeats.{link-again}
use Rattle.tora_sim.proofs.duplicates.some_link_stands_again.Goals as goal

pub returns-then-has_link : goal.returns-then-has_link
returns-then-has_link c = link-again c.args.links.now c.loop-left.left (0, 0) c.loop-left-test.true c.loop-left.invariant.within c.if-has_link.ensures
