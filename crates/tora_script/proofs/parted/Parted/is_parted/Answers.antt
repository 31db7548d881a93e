use Rattle.std.proofs.Common.{ℕ, List, ap, ◌∙◌, arith}
use Rattle.std.specs.HashSet.{contains}
use Rattle.tora_script.specs.Pairs.{pair_eq}
use Rattle.tora_script.specs.Parted.{is_parted}
use Rattle.tora_script.specs.PairBits.{has_bit}
use Rattle.tora_script.proofs.parted.Parted.is_parted.Goals as goal

pub returns-then-key-lt-SMALL : goal.returns-then-key-lt-SMALL
returns-then-key-lt-SMALL c =
    let is = c.key_of-key.ensures in
    let high = ap (λ (key : ℕ × ℕ). key.1) is in
    let small = c.if-key-lt-SMALL.true in
    c.has_bit.ensures
    ∙ ap (λ (key : ℕ × ℕ). has_bit c.self.inside.bits.items key) is
    ∙ c.self.invariant.1 c.args.a c.args.b (omega (arith, high, small)) (omega (arith, high, small))
    ∙ ap (λ (pairs : List (ℕ × ℕ)). is_parted pairs c.args.a c.args.b) c.self.view_is

pub returns-else-key-lt-SMALL : goal.returns-else-key-lt-SMALL
returns-else-key-lt-SMALL c =
    c.contains.ensures
    ∙ ap (λ (key : ℕ × ℕ). contains pair_eq c.self.inside.keys key) c.key_of-key.ensures
    ∙ c.self.invariant.0 c.args.a c.args.b
    ∙ ap (λ (pairs : List (ℕ × ℕ)). is_parted pairs c.args.a c.args.b) c.self.view_is
