use Rattle.std.proofs.Common.{ℕ, List, ap, ◌∙◌}
use Rattle.tora_script.specs.SimulationText.{without_parted}
use Rattle.tora_script.proofs.PairBitLaws.{fewer_bits}
use Rattle.tora_script.proofs.PartedLaws.{fewer_keys}
use Rattle.tora_script.proofs.parted.Parted.mend.Goals as goal

pub invariant_of-self : goal.invariant_of-self
invariant_of-self c =
    let before = c.self.inside.pairs.pairs in
    let after = c.without-self-inside.result.pairs in
    let pair : ℕ × ℕ = (c.args.a, c.args.b) in
    let key = c.key_of-key.result in (
      fewer_keys c.self.inside.keys c.remove.new.self before after pair key c.key_of-key.ensures c.remove.ensures.updates.0 c.without-self-inside.ensures c.self.invariant.0,
      fewer_bits c.self.inside.bits.items c.clear_bit.new.words.items before after pair key c.key_of-key.ensures c.clear_bit.ensures c.without-self-inside.ensures c.self.invariant.1,
    )

pub returns : goal.returns
returns c = c.without-self-inside.ensures ∙ ap (λ (pairs : List (ℕ × ℕ)). without_parted c.args.a c.args.b pairs) c.self.view_is
