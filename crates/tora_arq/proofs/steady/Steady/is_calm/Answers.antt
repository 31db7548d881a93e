use Rattle.std.proofs.Common.{sym, ◌∙◌}
use Rattle.tora_arq.proofs.SteadyLemmas.{calm, not_true}
use Rattle.tora_arq.proofs.steady.Steady.is_calm.Goals as goal

pub returns-clause-same : goal.returns-clause-same
returns-clause-same c s e is over = calm c.args.self.now s e is c.args.now (sym c.is_over.ensures ∙ not_true c.is_over.result over)
