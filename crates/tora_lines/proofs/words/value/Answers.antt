use Rattle.std.proofs.Common.{sym, ◌∙◌, arith, ◌≡◌, ◌*◌, ◌+◌, ◌-◌, ap, get_or, drop}
use Rattle.tora_lines.specs.Words.{value_from}
use Rattle.tora_lines.proofs.Digits.{value_step, value_end, past, fits}
use Rattle.tora_lines.proofs.words.value.Goals as goal

pub returns-in_err-checked_mul : goal.returns-in_err-checked_mul
returns-in_err-checked_mul c =
    let h = c.in_err-checked_mul.ensures in
    past c.loop-c.value c.loop-c.c-index c.args.text.now c.from_residual.result c.loop-c-test.true c.loop-c.invariant.1 (λ lt. h (omega arith)) c.from_residual.ensures

pub returns-in_err-value : goal.returns-in_err-value
returns-in_err-value c =
    let h = c.in_err-value.ensures in
    past c.loop-c.value c.loop-c.c-index c.args.text.now c.from_residual-in_err-value.result c.loop-c-test.true c.loop-c.invariant.1
    (λ lt. h (omega (arith, c.in_ok-checked_mul.ensures, c.from-digit.ensures))) c.from_residual-in_err-value.ensures

pub loop-c-preserved : goal.loop-c-preserved
loop-c-preserved c =
    let h = c.in_ok-value.ensures in
    let v : c.in_ok-value.value ≡ c.loop-c.value * 10 + (get_or c.args.text.now c.loop-c.c-index 0 - 48) = omega (arith, h, c.in_ok-checked_mul.ensures, c.from-digit.ensures) in
    let e = value_step c.loop-c.value c.loop-c.c-index c.args.text.now c.loop-c-test.true in
    (omega (arith, h), ap (λ n. value_from n (drop (c.loop-c.c-index + 1) c.args.text.now)) v ∙ sym e ∙ c.loop-c.invariant.1)

pub returns : goal.returns
returns c =
    let e = value_end c.loop-c.value c.loop-c.c-index c.args.text.now c.loop-c-test.false in
    let v : value_from 0 c.args.text.now ≡ c.loop-c.value = sym c.loop-c.invariant.1 ∙ e in
    rw v (sym (fits c.loop-c.value c.loop-c.invariant.0))
