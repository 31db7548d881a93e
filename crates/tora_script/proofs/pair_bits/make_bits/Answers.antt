use Rattle.std.proofs.Common.{ℕ, List, ◌++◌, ◌-◌, ◌≤◌, length, replicate, ap, ◌∙◌, arith}
use Rattle.std.specs.Prelude.{vec_len}
use Rattle.std.proofs.lemmas.List.{take_all}
use Rattle.tora_script.proofs.PairBitLaws.{padded_bits}
use Rattle.tora_script.proofs.pair_bits.make_bits.Goals as goal

pub returns-in_ok-resize-clause-same : goal.returns-in_ok-resize-clause-same
returns-in_ok-resize-clause-same c =
    let old = c.args.words.now.items in
    let more = 16384 - vec_len c.args.words.now in
    let whole = c.args.words.now.ok.0 in
    let len = c.len.ensures in
    let few = c.if-len-lt-WORDS.true in
    let short : length old ≤ 16384 = omega (arith, whole, len, few) in
    padded_bits old c.resize.new.self.items more (c.in_ok-resize.ensures.items ∙ ap (λ (words : List ℕ). words ++ replicate more 0) (take_all 16384 old short))
