use Rattle.tora_arq.specs.LinkEnd.{bound_life}
use Rattle.std.specs.Prelude.{None}
use Rattle.tora_arq.specs.LinkRuns.{run_of}
use Rattle.tora_arq.proofs.FactCalls.{call-behind, call-gives, call-between}
use Rattle.tora_arq.proofs.FactLists.{over_by_down}
use Rattle.tora_arq.proofs.FactRuns.{every-run}
use Rattle.tora_arq.proofs.facts.events_of_a_life_are_in_order.Goals as goal

pub returns-clause-behind : goal.returns-clause-behind
returns-clause-behind c = call-behind

pub returns-clause-given : goal.returns-clause-given
returns-clause-given c = call-gives

pub returns-clause-between : goal.returns-clause-between
returns-clause-between c = call-between

pub returns-clause-polled : goal.returns-clause-polled
returns-clause-polled c = λ s calls ok. (every-run s calls ok).given

pub returns-clause-leads : goal.returns-clause-leads
returns-clause-leads c = λ s calls ok. (every-run s calls ok).leads

pub returns-clause-over : goal.returns-clause-over
returns-clause-over c = λ s calls ok. over_by_down 0 None (bound_life (run_of s calls).state) (run_of s calls).events tt (every-run s calls ok).leads (every-run s calls ok).rising
