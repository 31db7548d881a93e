use Rattle.tora_arq.specs.SendQueue.{AreLate}
use Rattle.tora_arq.proofs.queue.SendQueue.first_ready.Given as goal

abbrev pub invariant-loop-place : goal.invariant-loop-place
invariant-loop-place l = AreLate l.times l.now l.place l.self.items
