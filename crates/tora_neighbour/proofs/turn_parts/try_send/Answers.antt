use Rattle.std.proofs.Common.{Err, arith}
use Rattle.tora_neighbour.proofs.turn_parts.try_send.Goals as goal

pub returns-in-Err-clause-call : goal.returns-in-Err-clause-call
returns-in-Err-clause-call g c = (Err c.in-Err.field-0, c.in-Err.ensures.call, omega (arith, c.count_failure.ensures.more))
