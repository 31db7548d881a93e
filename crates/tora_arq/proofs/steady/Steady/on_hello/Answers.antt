use Rattle.std.proofs.Common.{ap, sym, ◌∙◌}
use Rattle.tora_arq.specs.LinkEnd.{EndState}
use Rattle.tora_arq.specs.declared.verdict.Verdict.{Verdict}
use Rattle.tora_arq.proofs.SteadyLemmas.{hears}
use Rattle.tora_arq.proofs.steady.Steady.on_hello.Goals as goal

pub returns-clause-taken : goal.returns-clause-taken
returns-clause-taken c s e is _ = ap (λ (r : Verdict × EndState). r.1) (hears c.args.self.now s e is c.args.header.now c.args.now (sym c.is_told.ensures ∙ c.if-not-is_told.false))
