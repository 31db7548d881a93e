use Rattle.std.proofs.Common.{sym, ap, ◌∙◌}
use Rattle.tora_sim.specs.Readers.{ends_in}
use Rattle.tora_sim.specs.Store.{SimState}
use Rattle.tora_sim.proofs.sim.Sim.has_ends.Goals as goal

pub returns-clause-sound : goal.returns-clause-sound
returns-clause-sound c known =
    c.are_ends.ensures.sound known ∙ c.as_slice.ensures.value ∙ c.self.invariant.2 ∙ ap (λ (w : SimState). ends_in w.topology) c.self.view_is

pub returns-clause-complete : goal.returns-clause-complete
returns-clause-complete c same =
    c.are_ends.ensures.complete (same ∙ sym (c.as_slice.ensures.value ∙ c.self.invariant.2 ∙ ap (λ (w : SimState). ends_in w.topology) c.self.view_is))
