use Rattle.std.proofs.Common.{◌≡◌, false, is_some, subst}
use Rattle.tora_arq.specs.LinkEnd.{frame_due, after_tick}
use Rattle.tora_sim.specs.Links.{LinkView}
use Rattle.tora_sim.proofs.links.LinkParts.quiet_end_until.Goals as goal

pub returns-clause-frames : goal.returns-clause-frames
returns-clause-frames c tick h = subst (λ (v : LinkView). is_some (frame_due v.settings v.state tick) ≡ false) c.self.view_is (c.deadline.ensures.frames tick h)

pub returns-clause-ticks : goal.returns-clause-ticks
returns-clause-ticks c tick h = subst (λ (v : LinkView). after_tick v.settings v.state tick ≡ v.state) c.self.view_is (c.deadline.ensures.ticks tick h)
