use Rattle.std.proofs.Common.{sym, arith}
use Rattle.tora_arq.specs.declared.TheConstants.{WINDOW}
use Rattle.tora_arq.proofs.QueueLemmas.{none_given_up_here}
use Rattle.tora_arq.proofs.queue.SendQueue.has_given_up.Goals as goal

pub returns : goal.returns
returns c =
    sym (none_given_up_here c.args.times.now c.args.now WINDOW c.loop-place.place c.args.self.now.items c.requires.tries c.requires.untried c.loop-place.invariant (omega (arith, c.within_window-place-end.ensures, c.loop-place-test.false)))
