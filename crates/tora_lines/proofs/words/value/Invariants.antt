use Rattle.std.proofs.Common.{◌≡◌, ◌<◌, ◌^◌, drop}
use Rattle.tora_lines.specs.Words.{value_from}
use Rattle.tora_lines.proofs.words.value.Given as goal

abbrev pub invariant-loop-c : goal.invariant-loop-c
invariant-loop-c l = (l.value < 2 ^ 64) × (value_from l.value (drop l.c-index l.text) ≡ value_from 0 l.text)
