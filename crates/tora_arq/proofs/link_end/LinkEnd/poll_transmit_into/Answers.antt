use Rattle.std.proofs.Common.{sym, subst, ap, ◌∙◌}
use Rattle.tora_arq.specs.EndRange.{IsEndState, link_end_of}
use Rattle.tora_arq.specs.StateView.{settings_in, state_in}
use Rattle.tora_arq.proofs.FactCalls.{if_none, transmit-idle}
use Rattle.tora_arq.proofs.RangeLemmas.{transmit_kept}
use Rattle.tora_arq.proofs.link_end.LinkEnd.poll_transmit_into.Goals as goal

pub invariant_of-self : goal.invariant_of-self
invariant_of-self c =
    (subst (IsEndState (settings_in c.self.inside.settings)) (sym c.poll_transmit.ensures.state) (transmit_kept (settings_in c.self.inside.settings) (state_in c.self.inside.state) c.args.now c.self.invariant.0), c.poll_transmit.ensures.rooms ∙ c.self.invariant.1)

pub returns-clause-none : goal.returns-clause-none
returns-clause-none c =
    if_none c.poll_transmit.result _ (λ q.
    ap (link_end_of (settings_in c.self.inside.settings)) (c.poll_transmit.ensures.state ∙ transmit-idle (settings_in c.self.inside.settings) (state_in c.self.inside.state) c.args.now (sym c.poll_transmit.ensures.frame ∙ q))
    ∙ c.self.view_is)
