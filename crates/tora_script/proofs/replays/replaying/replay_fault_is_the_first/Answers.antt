use Rattle.tora_script.specs.ReplayText.{replay_rules_of}
use Rattle.tora_lines.proofs.FaultLaws.{fault_found, fault_only}
use Rattle.tora_script.proofs.replays.replaying.replay_fault_is_the_first.Goals as goal

pub returns-clause-found : goal.returns-clause-found
returns-clause-found c erasure = fault_found (replay_rules_of erasure)

pub returns-clause-only : goal.returns-clause-only
returns-clause-only c erasure = fault_only (replay_rules_of erasure)
