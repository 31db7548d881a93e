use Rattle.std.proofs.Common.{◌≡◌, ◌++◌, ◌∷◌, [], ℕ, ◌+◌, ◌<◌, ◌≤◌, List, length, take, get_or, set, bit_xor, ap, sym, ◌∙◌, rules, length-set}
use Rattle.std.proofs.lemmas.List.{take_more, take_more_set, take_all, map-append}
use Rattle.tora_key.specs.Hmac.{masked, masked_byte}
use Rattle.tora_key.proofs.key.masked_block.Goals as goal

-- one more byte is masked
more : (pad i : ℕ) (out block : List ℕ) → i < length out → i < length block → take i out ≡ masked pad (take i block)
    → take (i + 1) (set out i (bit_xor (get_or block i 0) pad)) ≡ masked pad (take (i + 1) block)
more pad i out block h k e =
    take_more_set out i (bit_xor (get_or block i 0) pad) h
    ∙ ap (λ (x : List ℕ). x ++ bit_xor (get_or block i 0) pad ∷ []) e
    ∙ sym (ap (masked pad) (take_more block i 0 k) ∙ map-append (masked_byte pad) (take i block) (get_or block i 0 ∷ []))

-- all bytes are masked
all : (pad i : ℕ) (out block : List ℕ) → length out ≤ i → length block ≤ i → take i out ≡ masked pad (take i block) → out ≡ masked pad block
all pad i out block h k e = sym (take_all i out h) ∙ e ∙ ap (masked pad) (take_all i block k)

pub loop-i-preserved : goal.loop-i-preserved
loop-i-preserved c = record {
  size = search (rules, length-set);
  done = more c.args.pad c.loop-i.i c.loop-i.out c.args.block.now (search rules) (search rules) c.loop-i.invariant.done;
}

pub returns : goal.returns
returns c = all c.args.pad c.loop-i.i c.loop-i.out c.args.block.now (search rules) (search rules) c.loop-i.invariant.done
