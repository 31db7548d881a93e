use Rattle.std.proofs.Common.{Bool, ap, sym, ◌∙◌, ◌||◌}
use Rattle.tora_arq.specs.Steady.{has_hello}
use Rattle.tora_arq.proofs.SteadyLemmas.{due}
use Rattle.tora_arq.proofs.steady.Steady.has_frame_due.Goals as goal

pub returns-then-owes_old : goal.returns-then-owes_old
returns-then-owes_old c s e is = c.if-owes_old.true ∙ ap (λ (b : Bool). b || has_hello c.args.self.now c.args.now) (sym c.if-owes_old.true ∙ c.owes_old.ensures) ∙ sym (due c.args.self.now s e is c.args.now)

pub returns-else-owes_old : goal.returns-else-owes_old
returns-else-owes_old c s e is = c.has_hello.ensures ∙ ap (λ (b : Bool). b || has_hello c.args.self.now c.args.now) (sym c.if-owes_old.false ∙ c.owes_old.ensures) ∙ sym (due c.args.self.now s e is c.args.now)
