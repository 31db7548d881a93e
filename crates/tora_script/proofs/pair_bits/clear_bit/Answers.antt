use Rattle.std.proofs.Common.{◌<◌, length, arith}
use Rattle.std.proofs.lemmas.List.{get_or_read}
use Rattle.tora_script.proofs.PairBitLaws.{clear_one}
use Rattle.tora_script.proofs.pair_bits.clear_bit.Goals as goal

pub returns-then-at-len : goal.returns-then-at-len
returns-then-at-len c =
    let words = c.args.words.now.items in
    let at = c.word_of-at.result in
    let whole = c.args.words.now.ok.0 in
    let len = c.len.ensures in
    let less = c.if-at-len.true in
    let within : at < length words = omega (arith, whole, len, less) in
    clear_one words c.args.key at c.place_of.result c.index_mut.result.now c.word_of-at.ensures c.place_of.ensures (get_or_read words at c.index_mut.result.now within c.index_mut.ensures.value 0) within c.if-key-lt-SMALL.true
