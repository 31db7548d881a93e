use Rattle.tora_world.proofs.TableOwn.{steps_both, refusals_both, free_both, free_refusals_both}
use Rattle.tora_world.proofs.table.steps_are_the_table.Goals as goal

pub returns-clause-steps : goal.returns-clause-steps
returns-clause-steps c = steps_both

pub returns-clause-refusals : goal.returns-clause-refusals
returns-clause-refusals c = refusals_both

pub returns-clause-free : goal.returns-clause-free
returns-clause-free c = free_both

pub returns-clause-free_refusals : goal.returns-clause-free_refusals
returns-clause-free_refusals c = free_refusals_both
