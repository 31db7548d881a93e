use Rattle.tora_running.proofs.NodeHistories.{exchanged_has, faultless_have, runs_have}
use Rattle.tora_running.proofs.laws.nodes_have_histories.Goals as goal

pub returns-clause-links : goal.returns-clause-links
returns-clause-links c = λ first tallies h. faultless_have first.me first.neighbours tallies h

pub returns-clause-threads : goal.returns-clause-threads
returns-clause-threads c = λ first e h. runs_have first.me first.neighbours h.outcomes h.links

pub returns-clause-exchanged : goal.returns-clause-exchanged
returns-clause-exchanged c = λ me xs place peer outcome h. exchanged_has me xs place peer outcome h
