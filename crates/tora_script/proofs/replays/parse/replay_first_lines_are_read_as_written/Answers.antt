use Rattle.tora_script.proofs.ReplayHeaderLaws.{header_found, header_here}
use Rattle.tora_script.proofs.replays.parse.replay_first_lines_are_read_as_written.Goals as goal

pub returns-clause-found : goal.returns-clause-found
returns-clause-found c = header_found

pub returns-clause-only : goal.returns-clause-only
returns-clause-only c = header_here
