use Rattle.std.proofs.Common.{inl, inr, refl}
use Rattle.tora_sim.proofs.IdleEnds.{none_waits}
use Rattle.tora_sim.proofs.turns.forget_if_waiting.Goals as goal

pub returns-then-not-has_cargo : goal.returns-then-not-has_cargo
returns-then-not-has_cargo c = inr (refl, none_waits c.args.links.now.items c.args.at c.index.result.now c.has_cargo.result c.requires.within c.index.ensures c.has_cargo.ensures c.if-not-has_cargo.true)

pub returns : goal.returns
returns c = inl c.set_deadline.ensures
