use Rattle.std.proofs.Common.{◌≡◌, take}
use Rattle.tora_script.proofs.parted.Parted.of.Given as goal

abbrev pub invariant-loop-pair : goal.invariant-loop-pair
invariant-loop-pair l = l.parted ≡ take l.pair-index l.pairs
