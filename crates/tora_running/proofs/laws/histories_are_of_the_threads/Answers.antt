use Rattle.tora_running.proofs.ThreadHistories.{turns_are, last_is, run_is, served_are}
use Rattle.tora_running.proofs.ThreadExchanges.{run_exchanges}
use Rattle.tora_running.proofs.LinkHistories.{link_parts, core_parts}
use Rattle.tora_running.proofs.laws.histories_are_of_the_threads.Goals as goal

pub returns-clause-turns : goal.returns-clause-turns
returns-clause-turns c = λ s e turns after h. turns_are s e turns after h

pub returns-clause-last : goal.returns-clause-last
returns-clause-last c = λ s last_beat e t ending after h. last_is s last_beat e t ending after h

pub returns-clause-run : goal.returns-clause-run
returns-clause-run c = λ s e turns last ending after h. run_is s e turns last ending after h

pub returns-clause-exchanges : goal.returns-clause-exchanges
returns-clause-exchanges c = λ s e turns last ending after h. run_exchanges s e turns last ending after h

pub returns-clause-served : goal.returns-clause-served
returns-clause-served c = λ w n xs rest after node lane h. served_are w n node xs rest after lane h

pub returns-clause-links : goal.returns-clause-links
returns-clause-links c = λ w parts n k run others. link_parts n k parts w run others

pub returns-clause-cores : goal.returns-clause-cores
returns-clause-cores c = λ w parts n run others. core_parts n parts w run others
