use Rattle.tora_script.specs.SimulationText.{rules_with}
use Rattle.tora_lines.proofs.FaultLaws.{fault_found, fault_only}
use Rattle.tora_script.proofs.simulation_file.simulation_fault_is_the_first.Goals as goal

pub returns-clause-found : goal.returns-clause-found
returns-clause-found c setup table = fault_found (rules_with setup table)

pub returns-clause-only : goal.returns-clause-only
returns-clause-only c setup table = fault_only (rules_with setup table)
