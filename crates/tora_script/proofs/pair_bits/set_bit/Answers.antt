use Rattle.std.proofs.Common.{◌<◌, length, arith}
use Rattle.std.proofs.lemmas.List.{get_or_read}
use Rattle.tora_script.proofs.PairBitLaws.{set_one}
use Rattle.tora_script.proofs.pair_bits.set_bit.Goals as goal

pub returns-then-key-lt-SMALL : goal.returns-then-key-lt-SMALL
returns-then-key-lt-SMALL c =
    let words = c.args.words.now.items in
    let at = c.word_of-at.result in
    let small = c.if-key-lt-SMALL.true in
    let ordered = c.requires.ordered in
    let many = c.requires.many small in
    let at_is = c.word_of-at.ensures in
    let within : at < length words = omega (arith, small, ordered, many, at_is) in
    set_one words c.args.key at c.place_of.result c.index_mut.result.now at_is c.place_of.ensures (get_or_read words at c.index_mut.result.now within c.index_mut.ensures.value 0) within small
