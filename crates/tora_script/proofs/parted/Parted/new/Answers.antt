use Rattle.tora_script.proofs.PairBitLaws.{no_bits}
use Rattle.tora_script.proofs.PartedLaws.{no_keys}
use Rattle.tora_script.proofs.parted.Parted.new.Goals as goal

pub invariant_of-result : goal.invariant_of-result
invariant_of-result c =
    (no_keys c.new-keys.result c.new-pairs.result.pairs c.new-keys.ensures.empty c.new-pairs.ensures, no_bits c.new-bits.result.items c.new-pairs.result.pairs c.new-bits.ensures.items c.new-pairs.ensures)
