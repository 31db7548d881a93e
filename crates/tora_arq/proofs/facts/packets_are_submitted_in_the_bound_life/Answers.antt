use Rattle.tora_arq.proofs.FactCalls.{submit-appends, submit-own, submit-other, cut-own, cut-other}
use Rattle.tora_arq.proofs.facts.packets_are_submitted_in_the_bound_life.Goals as goal

pub returns-clause-appends : goal.returns-clause-appends
returns-clause-appends c = submit-appends

pub returns-clause-own : goal.returns-clause-own
returns-clause-own c = submit-own

pub returns-clause-other : goal.returns-clause-other
returns-clause-other c = submit-other

pub returns-clause-cut_own : goal.returns-clause-cut_own
returns-clause-cut_own c = cut-own

pub returns-clause-cut_other : goal.returns-clause-cut_other
returns-clause-cut_other c = cut-other
