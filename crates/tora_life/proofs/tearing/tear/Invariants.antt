use Rattle.std.proofs.Common.{◌≡◌, take}
use Rattle.tora_life.specs.TornBytes.{torn_over}
use Rattle.tora_life.proofs.tearing.tear.Given as goal

abbrev pub invariant-loop-i : goal.invariant-loop-i
invariant-loop-i l = l.bytes ≡ torn_over 0 l.torn (take l.i l.written) l.initial.bytes
