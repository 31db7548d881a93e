use Rattle.tora_drive.proofs.NumberLaws.{steps_have_numbers}
use Rattle.tora_drive.proofs.OrderLaws.{orders_are_read}
use Rattle.tora_drive.proofs.ScriptLaws.{scripts_stand, events_are_read}
use Rattle.tora_drive.proofs.SimulatedLaws.{records_are_simulated}
use Rattle.tora_drive.proofs.laws.recorded_lines_stand_for_lines.Goals as goal

pub returns-clause-stands : goal.returns-clause-stands
returns-clause-stands c = scripts_stand

pub returns-clause-read : goal.returns-clause-read
returns-clause-read c = events_are_read

pub returns-clause-simulated : goal.returns-clause-simulated
returns-clause-simulated c = records_are_simulated

pub returns-clause-numbers : goal.returns-clause-numbers
returns-clause-numbers c = steps_have_numbers

pub returns-clause-orders : goal.returns-clause-orders
returns-clause-orders c = orders_are_read
