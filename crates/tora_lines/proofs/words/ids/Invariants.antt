use Rattle.std.proofs.Common.{◌≡◌, ◌<◌, All, length}
use Rattle.tora_lines.specs.Words.{ids_of, split}
use Rattle.tora_lines.proofs.Splits.{with_front}
use Rattle.tora_lines.proofs.words.ids.Given as goal

abbrev pub invariant-loop-piece : goal.invariant-loop-piece
invariant-loop-piece l = record {
  spelled : with_front l.ids.items (ids_of (split 44 l.rest)) ≡ ids_of (split 44 l.text);
  positive : All (λ n. 0 < n) l.ids.items;
}

abbrev pub decreases-loop-piece : goal.decreases-loop-piece
decreases-loop-piece l = length l.rest
