use Rattle.tora_lines.proofs.Grammar.{number_prints, number_again}
use Rattle.tora_node.proofs.words.commands_are_read_as_written.Goals as goal

pub returns-clause-prints : goal.returns-clause-prints
returns-clause-prints c = number_prints

pub returns-clause-again : goal.returns-clause-again
returns-clause-again c = number_again
