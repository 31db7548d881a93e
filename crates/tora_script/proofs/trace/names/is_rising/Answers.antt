use Rattle.std.proofs.Common.{◌∙◌, sym, arith}
use Rattle.tora_script.proofs.RisingNames.{rising_on}
use Rattle.tora_script.proofs.trace.names.is_rising.Goals as goal

pub loop-i-init : goal.loop-i-init
loop-i-init c = record { some = omega arith; rises = λ k lt. absurd (omega (arith, lt)) }

pub loop-i-preserved : goal.loop-i-preserved
loop-i-preserved c = record {
  some = omega arith;
  rises = rising_on c.args.numbers.now c.loop-i.i c.loop-i.invariant.some c.loop-i.invariant.rises (sym c.is_less.ensures ∙ c.if-not-is_less.false);
}

pub returns : goal.returns
returns c = λ k lt. c.loop-i.invariant.rises k (omega (arith, lt, c.loop-i-test.false))
