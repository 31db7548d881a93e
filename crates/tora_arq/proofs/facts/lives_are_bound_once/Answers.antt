use Rattle.tora_arq.proofs.FactCalls.{call-fixed, call-bound, call-unbound, call-number}
use Rattle.tora_arq.proofs.FactLists.{times_once}
use Rattle.tora_arq.specs.LinkRuns.{run_of}
use Rattle.tora_arq.proofs.FactRuns.{every-run}
use Rattle.tora_arq.proofs.facts.lives_are_bound_once.Goals as goal

pub returns-clause-fixed : goal.returns-clause-fixed
returns-clause-fixed c = call-fixed

pub returns-clause-binds : goal.returns-clause-binds
returns-clause-binds c = call-bound

pub returns-clause-opens : goal.returns-clause-opens
returns-clause-opens c = call-unbound

pub returns-clause-number : goal.returns-clause-number
returns-clause-number c = call-number

pub returns-clause-rising : goal.returns-clause-rising
returns-clause-rising c = λ s calls ok. (every-run s calls ok).rising

pub returns-clause-once : goal.returns-clause-once
returns-clause-once c = λ s calls ok own. times_once own 0 (run_of s calls).events (every-run s calls ok).rising

pub returns-clause-told : goal.returns-clause-told
returns-clause-told c = λ s calls ok. (every-run s calls ok).told
