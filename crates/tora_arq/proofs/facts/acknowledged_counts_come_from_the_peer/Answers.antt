use Rattle.tora_arq.proofs.FactCalls.{call-first, call-acknowledges}
use Rattle.tora_arq.proofs.FactRuns.{every-run}
use Rattle.tora_arq.proofs.facts.acknowledged_counts_come_from_the_peer.Goals as goal

pub returns-clause-first : goal.returns-clause-first
returns-clause-first c = λ s e call ok own life j k. (call-first s e call ok own life j k).2

pub returns-clause-next : goal.returns-clause-next
returns-clause-next c = λ s e call ok life end j k. call-acknowledges s e call ok life j k end

pub returns-clause-came : goal.returns-clause-came
returns-clause-came c = λ s calls ok life k. ((every-run s calls ok).bound life k).count
