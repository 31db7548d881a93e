use Rattle.std.proofs.Common.{Some, sym, ap, ◌∙◌, arith}
use Rattle.tora_life.specs.declared.numbers.Numbers.{Numbers}
use Rattle.tora_arq.specs.EndRange.{LinkEndView}
use Rattle.tora_neighbour.proofs.turn_parts.open_closed.Goals as goal

pub returns-in-Ok-clause-opened : goal.returns-in-Ok-clause-opened
returns-in-Ok-clause-opened g c = (
  Some c.in-Ok.number,
  (sym c.if-not-is_closed.ensures, omega (arith, c.in-Ok.ensures.drawn)),
  ap (λ (e : LinkEndView). e.state) c.open.ensures,
  (omega (arith, c.in-Ok.ensures.drawn), ap (λ (n : Numbers). n.drawn) c.in-Ok.ensures.numbers ∙ sym c.in-Ok.ensures.drawn),
)

pub returns-in-Ok-clause-disk : goal.returns-in-Ok-clause-disk
returns-in-Ok-clause-disk g c = c.in-Ok.ensures.failures
