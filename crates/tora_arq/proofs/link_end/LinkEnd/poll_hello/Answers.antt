use Rattle.std.proofs.Common.{◌∙◌}
use Rattle.tora_arq.specs.EndRange.{IsEndState}
use Rattle.tora_arq.specs.StateView.{settings_in, state_in}
use Rattle.tora_arq.proofs.RangeLemmas.{transmit_kept}
use Rattle.tora_arq.proofs.PlaceLemmas.{after_some}
use Rattle.tora_arq.proofs.link_end.LinkEnd.poll_hello.Goals as goal

pub invariant_of-self : goal.invariant_of-self
invariant_of-self c =
    (after_some (IsEndState (settings_in c.self.inside.settings)) c.poll_first_hello.result c.self.inside.state c.poll_first_hello.new.self _ c.poll_first_hello.ensures.state c.poll_first_hello.ensures.same c.self.invariant.0 (transmit_kept (settings_in c.self.inside.settings) (state_in c.self.inside.state) c.args.now c.self.invariant.0), c.poll_first_hello.ensures.rooms ∙ c.self.invariant.1)
