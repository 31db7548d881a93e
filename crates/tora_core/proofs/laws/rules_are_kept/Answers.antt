use Rattle.tora_core.proofs.KeptLemmas.{first-kept, outcome_of-kept}
use Rattle.tora_core.proofs.laws.rules_are_kept.Goals as goal

pub returns-clause-first : goal.returns-clause-first
returns-clause-first c = first-kept

pub returns-clause-next : goal.returns-clause-next
returns-clause-next c = outcome_of-kept
