use Rattle.std.proofs.Common.{sym, subst, ◌∙◌}
use Rattle.tora_arq.specs.EndRange.{IsEndState}
use Rattle.tora_arq.specs.StateView.{settings_in, state_in}
use Rattle.tora_arq.proofs.RangeLemmas.{frame_kept}
use Rattle.tora_arq.proofs.link_end.LinkEnd.on_borrowed_frame.Goals as goal

pub invariant_of-self : goal.invariant_of-self
invariant_of-self c =
    (subst (IsEndState (settings_in c.self.inside.settings)) (sym c.on_frame.ensures.state) (frame_kept (settings_in c.self.inside.settings) (state_in c.self.inside.state) c.args.frame.now c.args.now c.on_frame.ensures.valid c.self.invariant.0), c.on_frame.ensures.rooms ∙ c.self.invariant.1)
