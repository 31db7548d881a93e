use Rattle.std.proofs.Common.{refl}
use Rattle.tora_arq.specs.declared.verdict.Verdict.TheVariants.{Stale, Foreign, Busy}
use Rattle.tora_arq.proofs.RefusalLemmas.{refused_keeps}
use Rattle.tora_arq.proofs.facts.refused_frames_change_nothing.Goals as goal

pub returns-clause-foreign : goal.returns-clause-foreign
returns-clause-foreign c = λ s e frame now q. refused_keeps s e frame now Foreign refl q

pub returns-clause-busy : goal.returns-clause-busy
returns-clause-busy c = λ s e frame now q. refused_keeps s e frame now Busy refl q

pub returns-clause-stale : goal.returns-clause-stale
returns-clause-stale c = λ s e frame now q. refused_keeps s e frame now Stale refl q
