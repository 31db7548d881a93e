use Rattle.std.proofs.Common.{sym, subst, ◌∙◌}
use Rattle.tora_arq.specs.EndRange.{IsEndState}
use Rattle.tora_arq.specs.StateView.{settings_in, state_in}
use Rattle.tora_arq.proofs.RangeLemmas.{cut_kept}
use Rattle.tora_arq.proofs.link_end.LinkEnd.cut.Goals as goal

pub invariant_of-self : goal.invariant_of-self
invariant_of-self c =
    (subst (IsEndState (settings_in c.self.inside.settings)) (sym c.cut.ensures.state) (cut_kept (settings_in c.self.inside.settings) (state_in c.self.inside.state) c.args.life c.self.invariant.0), c.cut.ensures.rooms ∙ c.self.invariant.1)
