use Rattle.tora_arq.proofs.TableHears.{hears-is, is-heard}
use Rattle.tora_arq.proofs.TableCalls.{opens-is, is-opened, ticks-is, is-ticked, submits-is, is-submitted, cuts-is, is-cut, tells-is, is-told, gives-is, is-given}
use Rattle.tora_arq.proofs.facts.link_ends_follow_the_table.Goals as goal

pub returns-clause-frame : goal.returns-clause-frame
returns-clause-frame c = λ s e f now verdict after. (hears-is s e f now verdict after, is-heard s e f now verdict after)

pub returns-clause-open : goal.returns-clause-open
returns-clause-open c = λ e life now after closed above. (opens-is e life now after, is-opened e life now after closed above)

pub returns-clause-tick : goal.returns-clause-tick
returns-clause-tick c = λ s e now after. (ticks-is s e now after, is-ticked s e now after)

pub returns-clause-submit : goal.returns-clause-submit
returns-clause-submit c = λ e life packet answer after. (submits-is e life packet answer after, is-submitted e life packet answer after)

pub returns-clause-cut : goal.returns-clause-cut
returns-clause-cut c = λ e life after. (cuts-is e life after, is-cut e life after)

pub returns-clause-transmit : goal.returns-clause-transmit
returns-clause-transmit c = λ s e now frame after. (tells-is s e now frame after, is-told s e now frame after)

pub returns-clause-event : goal.returns-clause-event
returns-clause-event c = λ e event after. (gives-is e event after, is-given e event after)
