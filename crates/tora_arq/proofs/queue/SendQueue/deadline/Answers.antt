use Rattle.std.proofs.Common.{◌≡◌, nat_le, ◌||◌, Bool, length, sym, ap, ◌∙◌, arith}
use Rattle.std.proofs.Math.Bool.{or-false}
use Rattle.tora_arq.specs.declared.TheConstants.{WINDOW}
use Rattle.tora_arq.proofs.StillLemmas.{none_due}
use Rattle.tora_arq.proofs.queue.SendQueue.deadline.Goals as goal

pub returns-then-len-eq0 : goal.returns-then-len-eq0
returns-then-len-eq0 c = λ most number tick lt.
    let empty : length c.args.self.now.items ≡ 0 = omega (arith, c.len.ensures.len, c.if-len-eq0.true) in
    sym (or-false (nat_le c.args.first tick))
    ∙ ap (λ (b : Bool). nat_le c.args.first tick || b) (sym (none_due c.args.times.now tick most number WINDOW c.args.self.now.items empty))
