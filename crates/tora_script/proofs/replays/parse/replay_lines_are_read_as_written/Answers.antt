use Rattle.tora_script.proofs.ReplayLineLaws.{line_found, line_here}
use Rattle.tora_script.proofs.replays.parse.replay_lines_are_read_as_written.Goals as goal

pub returns-clause-found : goal.returns-clause-found
returns-clause-found c = line_found

pub returns-clause-only : goal.returns-clause-only
returns-clause-only c = line_here
