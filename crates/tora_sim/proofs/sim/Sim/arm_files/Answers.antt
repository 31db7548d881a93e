use Rattle.std.proofs.Common.{◌≡◌, ℕ, nat_eq, map, ap, sym, subst, ◌∙◌, arith}
use Rattle.std.proofs.lemmas.Bool.{cond_both}
use Rattle.tora_world.specs.declared.event.Event.TheVariants.{Arm}
use Rattle.tora_sim.specs.Keyed.{IsFirst}
use Rattle.tora_sim.specs.Links.{LinkView, AreChanged, after_arm}
use Rattle.tora_sim.specs.Quiet.{IsIdleUntil}
use Rattle.tora_sim.specs.Nodes.{NodeView, is_of}
use Rattle.tora_sim.specs.Store.{SimState, state_of, world_of, call_of}
use Rattle.tora_sim.specs.Steps.{IsDone}
use Rattle.tora_sim.proofs.Opens.{same_read}
use Rattle.tora_sim.proofs.Arms.{armed_of, files_done, files_store, noded_at}
use Rattle.tora_sim.proofs.NodeEnds.{ends_within, changed_is}
use Rattle.tora_sim.proofs.IdleEnds.{mapped_idle}
use Rattle.tora_sim.proofs.sim.Sim.arm_files.Goals as goal

pub arm-requires : goal.arm-requires
arm-requires c =
    let s = c.self.inside in
    let home : IsFirst (is_of c.args.n) s.nodes.items c.args.home = subst (λ (before : SimState). IsFirst (is_of c.args.n) before.nodes c.args.home) (sym c.self.view_is) c.requires in
    let within = ends_within s.topology s.times s.clock s.nodes.items s.links.items s.datagrams.items c.self.invariant.0 c.args.n c.args.home c.index.result.now home c.index.ensures in
    let count : c.count-count.result ≡ c.index.result.now.count = c.count-count.ensures ∙ ap (λ (x : NodeView). x.count) (same_read s.nodes.items c.args.home c.index-2.result.now c.index.result.now home.within c.index-2.ensures c.index.ensures) in
    omega (arith, within, c.first-first.ensures, count)

module _ (c : goal.After-arm) where
  home : IsFirst (is_of c.args.n) c.self.inside.nodes.items c.args.home
  home = subst (λ (before : SimState). IsFirst (is_of c.args.n) before.nodes c.args.home) (sym c.self.view_is) c.requires

  armed : c.arm.new.links.items ≡ map (armed_of c.args.n c.args.call) c.self.inside.links.items
  armed =
      let s = c.self.inside in
      let x = c.index.result.now in
      let count : c.count-count.result ≡ x.count = c.count-count.ensures ∙ ap (λ (z : NodeView). z.count) (same_read s.nodes.items c.args.home c.index-2.result.now x home.within c.index-2.ensures c.index.ensures) in
      changed_is s.topology s.times s.clock s.nodes.items s.links.items s.datagrams.items c.self.invariant.0 c.args.n c.args.home x home c.index.ensures (λ link. after_arm link c.args.call) c.arm.new.links.items
      (subst (λ (m : ℕ). AreChanged (λ link. after_arm link c.args.call) s.links.items c.arm.new.links.items x.first m) count
      (subst (λ (m : ℕ). AreChanged (λ link. after_arm link c.args.call) s.links.items c.arm.new.links.items m c.count-count.result) c.first-first.ensures c.arm.ensures))

pub invariant_of-self : goal.invariant_of-self
invariant_of-self c =
    let s = c.self.inside in (
      files_store s.topology s.times s.clock s.nodes.items s.links.items s.datagrams.items c.self.invariant.0 c.args.n c.args.call c.arm.new.links.items (armed c),
      mapped_idle s.clock s.deadlines s.links.items c.arm.new.links.items (armed_of c.args.n c.args.call) (armed c)
          (λ until x h. cond_both (nat_eq x.node c.args.n) (after_arm x c.args.call) x (λ (z : LinkView). IsIdleUntil until z) (λ _. h) (λ _. h)) c.self.invariant.1,
      c.self.invariant.2,
    )

pub returns : goal.returns
returns c =
    let s = c.self.inside in
    subst (λ (before : SimState). IsDone (world_of before) (Arm c.args.n (call_of c.args.call)) (world_of (state_of s.topology s.times s.clock s.nodes.items c.arm.new.links.items s.datagrams.items))) c.self.view_is
    (files_done s.topology s.times s.clock s.nodes.items s.links.items s.datagrams.items c.self.invariant.0 c.args.n c.args.call c.arm.new.links.items
    (noded_at s.topology s.times s.clock s.nodes.items s.links.items s.datagrams.items c.self.invariant.0 c.args.n c.args.home (home c)) (armed c))
