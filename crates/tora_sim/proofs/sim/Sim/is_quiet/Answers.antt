use Rattle.std.proofs.Common.{ℕ, ◌+◌, ◌<◌, ◌≤◌, length, subst, sym, ◌∙◌, arith}
use Rattle.std.specs.Prelude.{slice_index}
use Rattle.tora_sim.specs.Quiet.{IsQuiet}
use Rattle.tora_sim.specs.Store.{SimState, world_of}
use Rattle.tora_sim.proofs.Quiets.{quiet_now}
use Rattle.tora_sim.proofs.IdleEnds.{all_idle}
use Rattle.tora_sim.proofs.sim.Sim.is_quiet.Goals as goal

pub returns : goal.returns
returns c e =
    let s = c.self.inside in
    let all : (at : ℕ) → at < length s.deadlines → (s.clock < slice_index s.deadlines at) × (s.clock + 1 ≤ slice_index s.deadlines at) = λ at within.
    let here = c.next_due.ensures.passed at (omega arith) (omega (arith, within, c.end_count.ensures, c.if-next_due-end_count.false)) in (here, omega (arith, here)) in
    subst (λ (w : SimState). IsQuiet (world_of w)) c.self.view_is
    (quiet_now s.topology s.times s.clock s.nodes.items s.links.items s.datagrams.items c.self.invariant.0 (s.clock + 1) (omega arith) (sym c.are_idle.ensures ∙ e)
    (all_idle s.clock (s.clock + 1) s.deadlines s.links.items c.self.invariant.1 all))
