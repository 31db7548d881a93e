use Rattle.tora_arq.proofs.FactCalls.{call-end, tick-zero, transmit-idle}
use Rattle.tora_arq.proofs.FactRuns.{first-run, every-run}
use Rattle.tora_arq.proofs.facts.calls_keep_an_end.Goals as goal

pub returns-clause-first : goal.returns-clause-first
returns-clause-first c = λ s. (first-run s).end

pub returns-clause-next : goal.returns-clause-next
returns-clause-next c = call-end

pub returns-clause-run : goal.returns-clause-run
returns-clause-run c = λ s calls ok. (every-run s calls ok).end

pub returns-clause-tick_zero : goal.returns-clause-tick_zero
returns-clause-tick_zero c = tick-zero

pub returns-clause-none_due : goal.returns-clause-none_due
returns-clause-none_due c = transmit-idle
