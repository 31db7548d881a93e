use Rattle.std.proofs.Common.{sym, subst, ◌∙◌}
use Rattle.tora_frame.specs.FrameParts.{frame_of}
use Rattle.tora_frame.specs.declared.parts.Body.TheVariants.{Hello}
use Rattle.tora_arq.specs.EndRange.{IsEndState}
use Rattle.tora_arq.specs.StateView.{settings_in, state_in}
use Rattle.tora_arq.proofs.RangeLemmas.{frame_kept}
use Rattle.tora_arq.proofs.link_end.LinkEnd.on_hello.Goals as goal

pub invariant_of-self : goal.invariant_of-self
invariant_of-self c =
    (subst (IsEndState (settings_in c.self.inside.settings)) (sym c.on_hello.ensures.state) (frame_kept (settings_in c.self.inside.settings) (state_in c.self.inside.state) (frame_of c.args.header.now Hello) c.args.now (record { header = c.requires; body = tt }) c.self.invariant.0), c.on_hello.ensures.rooms ∙ c.self.invariant.1)
