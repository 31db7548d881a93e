use Rattle.std.proofs.Common.{◌≡◌, ◌||◌, drop}
use Rattle.std.specs.List.{list_any}
use Rattle.tora_script.specs.Parted.{is_same_pair, is_parted}
use Rattle.tora_script.proofs.parted.is_parted.Given as goal

-- the two nodes are parted exactly if they were found so far, or are among the remaining pairs
abbrev pub invariant-loop-pair : goal.invariant-loop-pair
invariant-loop-pair l = (l.found || list_any (is_same_pair (l.a, l.b)) (drop l.pair-index l.parted)) ≡ is_parted l.parted l.a l.b
