use Rattle.tora_arq.specs.LinkFacts.{IsPacketAt}
use Rattle.tora_arq.proofs.FactCalls.{call-delivers, packets_delivered-map}
use Rattle.tora_arq.proofs.FactRuns.{every-run}
use Rattle.tora_arq.proofs.facts.deliveries_are_in_order.Goals as goal

pub returns-clause-next : goal.returns-clause-next
returns-clause-next c = λ s e call ok life packets end k held told. call-delivers s e call (IsPacketAt packets) ok life k end held told

pub returns-clause-came : goal.returns-clause-came
returns-clause-came c = λ s calls ok. (every-run s calls ok).delivered

pub returns-clause-accepted : goal.returns-clause-accepted
returns-clause-accepted c = λ s calls ok life k. ((every-run s calls ok).bound life k).accepted

pub returns-clause-held : goal.returns-clause-held
returns-clause-held c = λ s calls ok life k. ((every-run s calls ok).bound life k).held

pub returns-clause-packets : goal.returns-clause-packets
returns-clause-packets c = packets_delivered-map
