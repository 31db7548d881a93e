-- the bytes so far, followed by zeros
use Rattle.std.proofs.Common.{◌≡◌, ◌++◌, take, replicate, ◌-◌}
use Rattle.tora_key.proofs.key.block_with.Given as goal

abbrev pub invariant-loop-i : goal.invariant-loop-i
invariant-loop-i l = l.block ≡ take l.i l.bytes ++ replicate (64 - l.i) 0
