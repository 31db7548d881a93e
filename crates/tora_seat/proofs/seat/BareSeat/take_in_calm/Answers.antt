use Rattle.std.proofs.Common.{subst, sym}
use Rattle.tora_seat.specs.Bodies.{IsSettled}
use Rattle.tora_seat.proofs.seat.BareSeat.take_in_calm.Goals as goal

pub take_in-requires-clause-settled : goal.take_in-requires-clause-settled
take_in-requires-clause-settled g c = λ e. subst (λ up. IsSettled c.args.self.now.core up c.args.self.now.rows) (sym c.requires.calm) (c.is_settled-is_settled.ensures e)
