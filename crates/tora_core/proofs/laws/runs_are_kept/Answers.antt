use Rattle.tora_core.proofs.CoreLemmas.{first_core-kept, core_after_all-kept}
use Rattle.tora_core.proofs.laws.runs_are_kept.Goals as goal

pub returns : goal.returns
returns c = λ e limits me neighbours destinations inputs id ids tos free ok. core_after_all-kept _ inputs (first_core-kept e limits me neighbours destinations id ids tos free) ok
