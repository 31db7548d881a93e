use Rattle.std.proofs.Common.{◌≡◌, ℕ, length, ap, ◌∙◌, subst, arith}
use Rattle.std.specs.Prelude.{slice_set}
use Rattle.tora_core.specs.Kept.{IsCore}
use Rattle.tora_seat.specs.Rows.{first_seat}
use Rattle.tora_world.specs.declared.event.Event.TheVariants.{Restart}
use Rattle.tora_world.specs.declared.sim_error.SimError.TheVariants as Refused
use Rattle.tora_sim.specs.Nodes.{NodeView}
use Rattle.tora_sim.specs.Store.{SimState, state_of, world_of}
use Rattle.tora_sim.specs.Steps.{IsDone, IsRefused}
use Rattle.tora_sim.specs.Restarts.{core_again, restarted}
use Rattle.tora_sim.specs.Links.{AreChanged}
use Rattle.tora_sim.proofs.Opens.{same_read}
use Rattle.tora_sim.proofs.Turning.{ends_within}
use Rattle.tora_sim.proofs.Restarting.{restart_starved, restart_done, restart_store}
use Rattle.tora_sim.proofs.IdleEnds.{forgotten_idle, changed_idle}
use Rattle.tora_sim.proofs.sim.Sim.restart.Goals as goal

pub returns-in_default-new_seat : goal.returns-in_default-new_seat
returns-in_default-new_seat c =
    let s = c.self.inside in
    subst (λ (w : SimState). IsRefused (world_of w) (Restart c.args.n c.args.torn) Refused.Memory (world_of w)) c.self.view_is
    (restart_starved s.topology s.times s.clock s.nodes.items s.links.items s.datagrams.items c.self.invariant.0 c.args.n c.in-Some.home c.index.result.now c.in-Some.ensures.first c.index.ensures c.args.torn)

pub returns-in_default-new_ends : goal.returns-in_default-new_ends
returns-in_default-new_ends c =
    let s = c.self.inside in
    subst (λ (w : SimState). IsRefused (world_of w) (Restart c.args.n c.args.torn) Refused.Memory (world_of w)) c.self.view_is
    (restart_starved s.topology s.times s.clock s.nodes.items s.links.items s.datagrams.items c.self.invariant.0 c.args.n c.in-Some.home c.index.result.now c.in-Some.ensures.first c.index.ensures c.args.torn)

pub new_ends-requires : goal.new_ends-requires
new_ends-requires c =
    let s = c.self.inside in
    let within = ends_within s.topology s.times s.clock s.nodes.items s.links.items s.datagrams.items c.self.invariant.0 c.args.n c.in-Some.home c.index.result.now c.in-Some.ensures.first c.index.ensures in
    let count : c.count-count.result ≡ c.index.result.now.count =
    c.count-count.ensures ∙ ap (λ (x : NodeView). x.count) (same_read s.nodes.items c.in-Some.home c.index-2.result.now c.index.result.now c.in-Some.ensures.first.within c.index-2.ensures c.index.ensures) in
    omega (arith, within, c.first-first.ensures, count)

pub forget-requires : goal.forget-requires
forget-requires c =
    let s = c.self.inside in
    let within = ends_within s.topology s.times s.clock s.nodes.items s.links.items s.datagrams.items c.self.invariant.0 c.args.n c.in-Some.home c.index.result.now c.in-Some.ensures.first c.index.ensures in
    let count : c.count-count.result ≡ c.index.result.now.count =
    c.count-count.ensures ∙ ap (λ (x : NodeView). x.count) (same_read s.nodes.items c.in-Some.home c.index-2.result.now c.index.result.now c.in-Some.ensures.first.within c.index-2.ensures c.index.ensures) in
    omega (arith, within, c.first-first.ensures, count, c.self.invariant.1.as_many)

pub restart_ends-requires-clause-within : goal.restart_ends-requires-clause-within
restart_ends-requires-clause-within c =
    let s = c.self.inside in
    let within = ends_within s.topology s.times s.clock s.nodes.items s.links.items s.datagrams.items c.self.invariant.0 c.args.n c.in-Some.home c.index.result.now c.in-Some.ensures.first c.index.ensures in
    let count : c.count-count.result ≡ c.index.result.now.count =
    c.count-count.ensures ∙ ap (λ (x : NodeView). x.count) (same_read s.nodes.items c.in-Some.home c.index-2.result.now c.index.result.now c.in-Some.ensures.first.within c.index-2.ensures c.index.ensures) in
    let many = c.in-Ok-new_ends.ensures.as_many in
    omega (arith, within, c.first-first.ensures, count, many)

module _ (c : goal.After-drop-ends) where
  abbrev x : NodeView
  x = c.index_mut.result.now

  core_kept : IsCore x.seat.core
  core_kept = subst (λ (z : NodeView). IsCore z.seat.core) (same_read c.self.inside.nodes.items c.in-Some.home c.index-3.result.now x c.in-Some.ensures.first.within c.index-3.ensures c.index_mut.ensures.value) c.in-Ok.ensures.kept

  made : c.in-Ok.seat ≡ first_seat (core_again x.seat.core)
  made = c.in-Ok.ensures.made ∙ ap (λ (z : NodeView). first_seat (core_again z.seat.core)) (same_read c.self.inside.nodes.items c.in-Some.home c.index-3.result.now x c.in-Some.ensures.first.within c.index-3.ensures c.index_mut.ensures.value)

  ends : AreChanged (restarted c.args.torn) c.self.inside.links.items c.restart_ends.new.links.items x.first x.count
  ends =
      let first : c.first-first.result ≡ x.first = c.first-first.ensures ∙ ap (λ (z : NodeView). z.first) (same_read c.self.inside.nodes.items c.in-Some.home c.index.result.now x c.in-Some.ensures.first.within c.index.ensures c.index_mut.ensures.value) in
      let count : length c.in-Ok-new_ends.ends.items ≡ x.count =
      c.in-Ok-new_ends.ensures.as_many ∙ c.count-count.ensures ∙ ap (λ (z : NodeView). z.count) (same_read c.self.inside.nodes.items c.in-Some.home c.index-2.result.now x c.in-Some.ensures.first.within c.index-2.ensures c.index_mut.ensures.value) in
      subst (λ (m : ℕ). AreChanged (restarted c.args.torn) c.self.inside.links.items c.restart_ends.new.links.items x.first m) count
      (subst (λ (m : ℕ). AreChanged (restarted c.args.torn) c.self.inside.links.items c.restart_ends.new.links.items m (length c.in-Ok-new_ends.ends.items)) first c.restart_ends.ensures)

pub invariant_of-self : goal.invariant_of-self
invariant_of-self c =
    let s = c.self.inside in (
      restart_store s.topology s.times s.clock s.nodes.items s.links.items s.datagrams.items c.self.invariant.0 c.args.n c.in-Some.home (x c) c.in-Some.ensures.first c.index_mut.ensures.value c.args.torn (core_kept c)
          c.in-Ok.seat c.restart.new.self c.restart_ends.new.links.items (made c) c.restart.ensures (ends c),
      changed_idle s.clock c.forget.new.deadlines s.links.items c.restart_ends.new.links.items (restarted c.args.torn) c.first-first.result (length c.in-Ok-new_ends.ends.items)
          (λ place lt. let many = c.in-Ok-new_ends.ensures.as_many in c.forget.ensures.here place (omega (arith, lt, many))) c.restart_ends.ensures
          (forgotten_idle s.clock s.deadlines c.forget.new.deadlines s.links.items c.first-first.result c.count-count.result c.forget.ensures c.self.invariant.1),
      c.self.invariant.2,
    )

pub returns : goal.returns
returns c =
    let s = c.self.inside in
    subst (λ (before : SimState). IsDone (world_of before) (Restart c.args.n c.args.torn) (world_of (state_of s.topology s.times s.clock (slice_set s.nodes.items c.in-Some.home c.restart.new.self) c.restart_ends.new.links.items s.datagrams.items))) c.self.view_is
    (restart_done s.topology s.times s.clock s.nodes.items s.links.items s.datagrams.items c.self.invariant.0 c.args.n c.in-Some.home (x c) c.in-Some.ensures.first c.index_mut.ensures.value c.args.torn (core_kept c)
    c.in-Ok.seat c.restart.new.self c.restart_ends.new.links.items (made c) c.restart.ensures (ends c))
