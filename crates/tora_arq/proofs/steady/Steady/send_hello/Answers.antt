use Rattle.std.proofs.Common.{Option, ap, sym, ◌∙◌, subst}
use Rattle.tora_frame.specs.FrameParts.{FrameParts}
use Rattle.tora_arq.specs.LinkEnd.{EndState}
use Rattle.tora_arq.specs.declared.steady.Steady.{Steady}
use Rattle.tora_arq.specs.Steady.{IsSteady, resumed, told_by}
use Rattle.tora_arq.proofs.SteadyLemmas.{sends, sent_steady}
use Rattle.tora_arq.proofs.steady.Steady.send_hello.Goals as goal

pub returns-clause-frame : goal.returns-clause-frame
returns-clause-frame c s e is = ap (λ (r : Option FrameParts × EndState). r.0) (sends c.args.self.now s e is c.args.now) ∙ ap told_by (sym c.take_hello.ensures.header)

pub returns-clause-state : goal.returns-clause-state
returns-clause-state c s e is = ap (λ (r : Option FrameParts × EndState). r.1) (sends c.args.self.now s e is c.args.now) ∙ ap (λ h. resumed h e) (sym c.take_hello.ensures.kept)

pub returns-clause-steady : goal.returns-clause-steady
returns-clause-steady c s e is = subst (λ (h : Steady). IsSteady h s e) (sym c.take_hello.ensures.kept) (sent_steady c.args.self.now s e is c.args.now)
