use Rattle.std.proofs.Common.{subst}
use Rattle.std.specs.Prelude.{slice_set}
use Rattle.tora_world.specs.declared.event.Event.TheVariants.{Arm}
use Rattle.tora_sim.specs.Keyed.{IsFirst}
use Rattle.tora_sim.specs.Nodes.{is_of}
use Rattle.tora_sim.specs.declared.nodes.Sending.TheVariants as Sends
use Rattle.tora_sim.specs.Store.{SimState, state_of, world_of}
use Rattle.tora_sim.specs.Steps.{IsDone}
use Rattle.tora_sim.proofs.Arms.{lost_done, gone_done, sends_store, receive_done, receive_store}
use Rattle.tora_sim.proofs.sim.Sim.arm.Goals as goal

pub invariant_of-self : goal.invariant_of-self
invariant_of-self c =
    let s = c.self.inside in (
      sends_store s.topology s.times s.clock s.nodes.items s.links.items s.datagrams.items c.self.invariant.0 c.args.n c.in-Some.home c.index_mut.result.now c.in-Some.ensures.first c.index_mut.ensures.value Sends.IsLost c.arm_sending.new.self c.arm_sending.ensures,
      c.self.invariant.1,
      c.self.invariant.2,
    )

pub invariant_of-self-in-SendGone : goal.invariant_of-self-in-SendGone
invariant_of-self-in-SendGone c =
    let s = c.self.inside in (
      sends_store s.topology s.times s.clock s.nodes.items s.links.items s.datagrams.items c.self.invariant.0 c.args.n c.in-Some.home c.index_mut-in-SendGone.result.now c.in-Some.ensures.first c.index_mut-in-SendGone.ensures.value Sends.IsGone c.arm_sending-in-SendGone.new.self c.arm_sending-in-SendGone.ensures,
      c.self.invariant.1,
      c.self.invariant.2,
    )

pub invariant_of-self-in-Receive : goal.invariant_of-self-in-Receive
invariant_of-self-in-Receive c =
    let s = c.self.inside in (
      receive_store s.topology s.times s.clock s.nodes.items s.links.items s.datagrams.items c.self.invariant.0 c.args.n c.in-Some.home c.index_mut-in-Receive.result.now c.in-Some.ensures.first c.index_mut-in-Receive.ensures.value c.arm_receive.new.self c.arm_receive.ensures,
      c.self.invariant.1,
      c.self.invariant.2,
    )

pub returns-in-SendLost : goal.returns-in-SendLost
returns-in-SendLost c =
    let s = c.self.inside in
    subst (λ (before : SimState). IsDone (world_of before) (Arm c.args.n c.args.call) (world_of (state_of s.topology s.times s.clock (slice_set s.nodes.items c.in-Some.home c.arm_sending.new.self) s.links.items s.datagrams.items))) c.self.view_is
    (lost_done s.topology s.times s.clock s.nodes.items s.links.items s.datagrams.items c.self.invariant.0 c.args.n c.in-Some.home c.index_mut.result.now c.in-Some.ensures.first c.index_mut.ensures.value c.arm_sending.new.self c.args.call c.in-SendLost.is c.arm_sending.ensures)

pub returns-in-SendGone : goal.returns-in-SendGone
returns-in-SendGone c =
    let s = c.self.inside in
    subst (λ (before : SimState). IsDone (world_of before) (Arm c.args.n c.args.call) (world_of (state_of s.topology s.times s.clock (slice_set s.nodes.items c.in-Some.home c.arm_sending-in-SendGone.new.self) s.links.items s.datagrams.items))) c.self.view_is
    (gone_done s.topology s.times s.clock s.nodes.items s.links.items s.datagrams.items c.self.invariant.0 c.args.n c.in-Some.home c.index_mut-in-SendGone.result.now c.in-Some.ensures.first c.index_mut-in-SendGone.ensures.value c.arm_sending-in-SendGone.new.self c.args.call c.in-SendGone.is c.arm_sending-in-SendGone.ensures)

pub returns-in-Receive : goal.returns-in-Receive
returns-in-Receive c =
    let s = c.self.inside in
    subst (λ (before : SimState). IsDone (world_of before) (Arm c.args.n c.args.call) (world_of (state_of s.topology s.times s.clock (slice_set s.nodes.items c.in-Some.home c.arm_receive.new.self) s.links.items s.datagrams.items))) c.self.view_is
    (receive_done s.topology s.times s.clock s.nodes.items s.links.items s.datagrams.items c.self.invariant.0 c.args.n c.in-Some.home c.index_mut-in-Receive.result.now c.in-Some.ensures.first c.index_mut-in-Receive.ensures.value c.arm_receive.new.self c.args.call c.in-Receive.is c.arm_receive.ensures)

pub arm_files-requires : goal.arm_files-requires
arm_files-requires c = subst (λ (before : SimState). IsFirst (is_of c.args.n) before.nodes c.in-Some.home) c.self.view_is c.in-Some.ensures.first

pub arm_files-requires-in-Write : goal.arm_files-requires-in-Write
arm_files-requires-in-Write c = subst (λ (before : SimState). IsFirst (is_of c.args.n) before.nodes c.in-Some.home) c.self.view_is c.in-Some.ensures.first

pub arm_files-requires-in-Sync : goal.arm_files-requires-in-Sync
arm_files-requires-in-Sync c = subst (λ (before : SimState). IsFirst (is_of c.args.n) before.nodes c.in-Some.home) c.self.view_is c.in-Some.ensures.first
