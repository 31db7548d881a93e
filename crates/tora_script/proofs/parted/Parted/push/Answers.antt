use Rattle.std.proofs.Common.{ℕ, List, [], ◌∷◌, ◌++◌, refl, ap, ◌∙◌}
use Rattle.tora_script.proofs.PairBitLaws.{kept_bits, more_bits}
use Rattle.tora_script.proofs.PartedLaws.{kept_keys, more_keys}
use Rattle.tora_script.proofs.parted.Parted.push.Goals as goal

pub invariant_of-self : goal.invariant_of-self
invariant_of-self c = (c.self.invariant.0, kept_bits c.self.inside.bits.items c.make_bits.new.words.items c.self.inside.pairs.pairs c.make_bits.ensures.same c.self.invariant.1)

pub invariant_of-self-in_err-insert : goal.invariant_of-self-in_err-insert
invariant_of-self-in_err-insert c =
    let before = c.self.inside.pairs.pairs in (
      kept_keys c.self.inside.keys c.insert.new.self before before c.in_err-insert.ensures.err refl c.self.invariant.0,
      kept_bits c.self.inside.bits.items c.make_bits.new.words.items before c.make_bits.ensures.same c.self.invariant.1,
    )

pub invariant_of-self-2 : goal.invariant_of-self-2
invariant_of-self-2 c =
    let before = c.self.inside.pairs.pairs in
    let after = c.with-self-inside.result.pairs in
    let key = c.key_of-key.result in
    let words = c.make_bits.new.words.items in (
      more_keys c.self.inside.keys c.insert.new.self before after c.args.pair key c.key_of-key.ensures c.in_ok-insert.ensures.updates.0 c.with-self-inside.ensures c.self.invariant.0,
      more_bits words c.set_bit.new.words.items before after c.args.pair key c.key_of-key.ensures c.set_bit.ensures c.with-self-inside.ensures
          (kept_bits c.self.inside.bits.items words before c.make_bits.ensures.same c.self.invariant.1),
    )

pub returns : goal.returns
returns c = c.with-self-inside.ensures ∙ ap (λ (pairs : List (ℕ × ℕ)). pairs ++ c.args.pair ∷ []) c.self.view_is
