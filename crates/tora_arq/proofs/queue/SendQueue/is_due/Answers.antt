use Rattle.std.proofs.Common.{sym, ap, is_some}
use Rattle.tora_arq.specs.declared.TheConstants.{WINDOW}
use Rattle.tora_arq.proofs.QueueLemmas.{none_due, due_at}
use Rattle.tora_arq.proofs.queue.SendQueue.is_due.Goals as goal

pub returns-in-Some : goal.returns-in-Some
returns-in-Some c = λ most number.
    let first = c.in-Some.ensures.first in
    sym (ap is_some (due_at c.args.times.now c.args.now most number WINDOW c.in-Some.field-0.0 c.args.self.now.items c.in-Some.field-0.1 first.within first.before first.packet_is first.ready))

pub returns-in-None : goal.returns-in-None
returns-in-None c = λ most number. sym (ap is_some (none_due c.args.times.now c.args.now most number WINDOW c.args.self.now.items c.in-None.ensures.first))
