use Rattle.tora_script.proofs.SimulationFound.{simulation_line_found, dests_found, link_found}
use Rattle.tora_script.proofs.SimulationHere.{simulation_line_here, dests_here, link_here}
use Rattle.tora_script.proofs.MarkWords.{mark_found, mark_here}
use Rattle.tora_script.proofs.parse.simulation_lines_are_read_as_written.Goals as goal

pub returns-clause-found : goal.returns-clause-found
returns-clause-found c = simulation_line_found

pub returns-clause-only : goal.returns-clause-only
returns-clause-only c = simulation_line_here

pub returns-clause-dests_found : goal.returns-clause-dests_found
returns-clause-dests_found c = dests_found

pub returns-clause-dests_only : goal.returns-clause-dests_only
returns-clause-dests_only c = dests_here

pub returns-clause-link_found : goal.returns-clause-link_found
returns-clause-link_found c = link_found

pub returns-clause-link_only : goal.returns-clause-link_only
returns-clause-link_only c = link_here

pub returns-clause-mark_found : goal.returns-clause-mark_found
returns-clause-mark_found c = mark_found

pub returns-clause-mark_only : goal.returns-clause-mark_only
returns-clause-mark_only c = mark_here
