use Rattle.tora_arq.proofs.PollLemmas.{most_frames, none_left, settled}
use Rattle.tora_arq.proofs.facts.polls_of_a_tick_end.Goals as goal

pub returns-clause-most : goal.returns-clause-most
returns-clause-most c = λ s e now polls t. most_frames s now t e polls

pub returns-clause-none : goal.returns-clause-none
returns-clause-none c = none_left

pub returns-clause-settled : goal.returns-clause-settled
returns-clause-settled c = settled
