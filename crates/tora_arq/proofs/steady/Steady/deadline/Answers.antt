use Rattle.std.proofs.Common.{sym, subst, ℕ, arith}
use Rattle.tora_arq.specs.Still.{IsStillUntil}
use Rattle.tora_arq.specs.Steady.{resumed}
use Rattle.tora_arq.proofs.SteadyLemmas.{until}
use Rattle.tora_arq.proofs.StillLemmas.{still_frames, still_ticks}
use Rattle.tora_arq.proofs.steady.Steady.deadline.Goals as goal

pub returns-clause-exact : goal.returns-clause-exact
returns-clause-exact c s e is = subst (λ (n : ℕ). IsStillUntil s (resumed c.args.self.now e) n) (sym c.until.ensures) (until c.args.self.now s e is)

pub returns-clause-frames : goal.returns-clause-frames
returns-clause-frames c s e tick is lt = still_frames s (resumed c.args.self.now e) c.until.result tick (returns-clause-exact c s e is) (omega arith) lt

pub returns-clause-ticks : goal.returns-clause-ticks
returns-clause-ticks c s e tick is lt = still_ticks s (resumed c.args.self.now e) c.until.result tick (returns-clause-exact c s e is) (omega arith) lt
