use Rattle.tora_node.proofs.Commanding.{line_by_line, last_line}
use Rattle.tora_node.proofs.commands.commands_are_put_line_by_line.Goals as goal

pub returns : goal.returns
returns c = record { line = line_by_line; last = last_line }
