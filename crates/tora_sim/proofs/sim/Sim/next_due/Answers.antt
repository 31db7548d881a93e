use Rattle.std.proofs.Common.{subst, ap, ◌∙◌}
use Rattle.std.specs.Prelude.{slice_get}
use Rattle.tora_sim.specs.Quiet.{IsQuietEnd}
use Rattle.tora_sim.specs.Readers.{ends_in}
use Rattle.tora_sim.specs.Store.{SimState, world_of}
use Rattle.tora_sim.proofs.Quiets.{quiet_at}
use Rattle.tora_sim.proofs.IdleEnds.{idle_now}
use Rattle.tora_sim.proofs.sim.Sim.next_due.Goals as goal

pub returns-clause-passed : goal.returns-clause-passed
returns-clause-passed c at end from before there =
    let s = c.self.inside in
    subst (λ (w : SimState). IsQuietEnd (world_of w) end.0 end.1) c.self.view_is
    (quiet_at s.topology s.times s.clock s.nodes.items s.links.items s.datagrams.items c.self.invariant.0 at end (ap (λ (w : SimState). slice_get (ends_in w.topology) at) c.self.view_is ∙ there)
    (λ link read. idle_now s.clock s.deadlines s.links.items c.self.invariant.1 at link (c.next_due.ensures.passed at from before) read))
