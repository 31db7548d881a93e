use Rattle.tora_core.proofs.AfterInputs.{ascending-sends, known-sends}
use Rattle.tora_core.proofs.facts.sends_ascend.Goals as goal

pub returns-clause-ascending : goal.returns-clause-ascending
returns-clause-ascending c = ascending-sends

pub returns-clause-known : goal.returns-clause-known
returns-clause-known c = known-sends
