-- the bytes so far are masked
use Rattle.std.proofs.Common.{◌≡◌, length, take}
use Rattle.tora_key.specs.Hmac.{masked}
use Rattle.tora_key.proofs.key.masked_block.Given as goal

abbrev pub invariant-loop-i : goal.invariant-loop-i
invariant-loop-i l = record {
  size : length l.out ≡ 64;
  done : take l.i l.out ≡ masked l.pad (take l.i l.block);
}
