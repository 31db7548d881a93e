use Rattle.std.proofs.Common.{◌≡◌, ◌≤◌, ◌-◌, ◌∙◌, ℕ, get_or, sym, subst, arith, ltb-false}
use Rattle.std.proofs.lemmas.List.Sorted.{IsNonDecreasingBy-from_default}
use Rattle.tora_script.proofs.EndsByNode.{rising_on}
use Rattle.tora_script.proofs.trace.ends.are_by_node.Goals as goal

pub loop-i-init : goal.loop-i-init
loop-i-init c = record {
  some = omega arith;
  rises = λ j k le lt.
      let first : k ≡ 0 = omega (arith, lt) in
      let same : j ≡ k = omega (arith, le, lt) in
      subst (λ m. (get_or c.args.ends.now j (0, 0)).0 ≤ (get_or c.args.ends.now m (0, 0)).0) same (omega arith);
}

pub loop-i-preserved : goal.loop-i-preserved
loop-i-preserved c =
    let ends = c.args.ends.now in
    record {
      some = omega arith;
      rises = rising_on ends c.loop-i.i c.loop-i.invariant.some c.loop-i.invariant.rises
          (ltb-false (get_or ends c.loop-i.i (0, 0)).0 (get_or ends (c.loop-i.i - 1) (0, 0)).0 (sym c.is_less.ensures ∙ c.if-is_less.false));
    }

pub returns : goal.returns
returns c = IsNonDecreasingBy-from_default (λ (end : ℕ × ℕ). end.0) c.args.ends.now (0, 0) (λ j k le lt. c.loop-i.invariant.rises j k le (omega (arith, lt, c.loop-i-test.false)))
