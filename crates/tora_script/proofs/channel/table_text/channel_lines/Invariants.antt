use Rattle.std.proofs.Common.{◌≡◌, ◌+◌, length}
use Rattle.tora_lines.specs.Words.{split}
use Rattle.tora_script.specs.TableText.{lines_from, channel_lines_of}
use Rattle.tora_script.proofs.TableReading.{with_front}
use Rattle.tora_script.proofs.channel.table_text.channel_lines.Given as goal

abbrev pub invariant-loop-piece : goal.invariant-loop-piece
invariant-loop-piece l = record {
  read : with_front l.lines.items (lines_from (length l.lines.items + 1) (split 10 l.rest)) ≡ channel_lines_of l.text;
}

abbrev pub decreases-loop-piece : goal.decreases-loop-piece
decreases-loop-piece l = length l.rest
