use Rattle.tora_arq.proofs.QueueLemmas.{AreKept}
use Rattle.tora_arq.proofs.queue.SendQueue.has_given_up.Given as goal

abbrev pub invariant-loop-place : goal.invariant-loop-place
invariant-loop-place l = AreKept l.times l.now l.place l.self.items
