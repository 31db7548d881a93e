use Rattle.std.proofs.Common.{◌≡◌, ℕ, List, true, None, inl, refl, ap, sym, ◌∙◌, subst, find, arith}
use Rattle.std.specs.Prelude.{slice_set}
use Rattle.tora_frame.specs.declared.parts.Header.{Header}
use Rattle.tora_world.specs.declared.event.Event.TheVariants.{Deliver}
use Rattle.tora_world.specs.declared.sim_error.SimError.TheVariants as Refused
use Rattle.tora_sim.specs.Keyed.{IsFirst}
use Rattle.tora_arq.specs.LinkEnd.{after_frame}
use Rattle.tora_sim.specs.Links.{LinkView, is_at, with_state}
use Rattle.tora_sim.specs.Nodes.{NodeView, is_of}
use Rattle.tora_sim.specs.Store.{SimState, state_of, world_of}
use Rattle.tora_sim.specs.Steps.{IsDone, IsRefused}
use Rattle.tora_sim.proofs.Opens.{same_read}
use Rattle.tora_sim.proofs.Receives.{home_is_there, failed_done, failed_store, received_done, received_store}
use Rattle.tora_sim.specs.Quiet.{IsDeadline}
use Rattle.tora_sim.proofs.IdleEnds.{found_idle, short_idle}
use Rattle.tora_sim.proofs.Quiets.{set_same}
use Rattle.tora_sim.proofs.Unchanged.{links_stay}
use Rattle.tora_sim.proofs.sim.Sim.deliver_frame.Goals as goal

pub place_near-requires-clause-keys : goal.place_near-requires-clause-keys
place_near-requires-clause-keys c = c.self.invariant.2 ∙ sym c.self.invariant.0.keys

pub returns-in_default-node_near : goal.returns-in_default-node_near
returns-in_default-node_near c =
    let s = c.self.inside in
    absurd (home_is_there s.topology s.times s.clock s.nodes.items s.links.items s.datagrams.items c.self.invariant.0 c.args.i c.in-Some.frame (sym c.in-Some.ensures)
    (subst (λ (hd : Header). find (is_of hd.receiver) s.nodes.items ≡ None) c.header-header.ensures.value c.in_default-node_near.ensures.none))

module _ (c : goal.After-self-1) where
  first : IsFirst (is_of c.in-Some.frame.header.receiver) c.self.inside.nodes.items c.in-Some-node_near.home
  first = subst (λ (hd : Header). IsFirst (is_of hd.receiver) c.self.inside.nodes.items c.in-Some-node_near.home) c.header-header.ensures.value c.in-Some-node_near.ensures.first

  armed : c.index_mut.result.now.receive ≡ true
  armed =
      ap (λ (y : NodeView). y.receive) (same_read c.self.inside.nodes.items c.in-Some-node_near.home c.index_mut.result.now c.index.result.now first.within c.index_mut.ensures.value c.index.ensures)
      ∙ sym c.receive.ensures ∙ c.if-receive.true

pub invariant_of-self : goal.invariant_of-self
invariant_of-self c =
    let s = c.self.inside in (
      failed_store s.topology s.times s.clock s.nodes.items s.links.items s.datagrams.items c.self.invariant.0 c.args.i c.in-Some.frame (sym c.in-Some.ensures)
          c.in-Some-node_near.home c.index_mut.result.now (first c) c.index_mut.ensures.value c.arm_receive.new.self c.arm_receive.ensures,
      c.self.invariant.1,
      c.self.invariant.2,
    )

pub returns-then-receive : goal.returns-then-receive
returns-then-receive c =
    let s = c.self.inside in
    subst (λ (before : SimState). IsDone (world_of before) (Deliver c.args.i) (world_of (state_of s.topology s.times s.clock (slice_set s.nodes.items c.in-Some-node_near.home c.arm_receive.new.self) s.links.items s.datagrams.items))) c.self.view_is
    (failed_done s.topology s.times s.clock s.nodes.items s.links.items s.datagrams.items c.self.invariant.0 c.args.i c.in-Some.frame (sym c.in-Some.ensures)
    c.in-Some-node_near.home c.index_mut.result.now (first c) c.index_mut.ensures.value c.arm_receive.new.self (armed c) c.arm_receive.ensures)

pub set_deadline-requires : goal.set_deadline-requires
set_deadline-requires c = omega (arith, c.in-Some-place_near.ensures.first.within, c.self.invariant.1.as_many)

-- ---- memory ran out

module _ (c : goal.In_default-receive_and_look) where
  home_first : IsFirst (is_of c.in-Some.frame.header.receiver) c.self.inside.nodes.items c.in-Some-node_near.home
  home_first = subst (λ (hd : Header). IsFirst (is_of hd.receiver) c.self.inside.nodes.items c.in-Some-node_near.home) c.header-header.ensures.value c.in-Some-node_near.ensures.first

  end_first : IsFirst (is_at c.in-Some.frame.header.receiver c.in-Some.frame.header.sender) c.self.inside.links.items c.in-Some-place_near.at
  end_first = subst (λ (hd : Header). IsFirst (is_at hd.receiver hd.sender) c.self.inside.links.items c.in-Some-place_near.at) c.header-header.ensures.value c.in-Some-place_near.ensures.first

  stays : slice_set c.self.inside.links.items c.in-Some-place_near.at c.receive_and_look.new.self ≡ c.self.inside.links.items
  stays = set_same c.self.inside.links.items c.in-Some-place_near.at c.index_mut-2.result.now c.receive_and_look.new.self c.in-Some-place_near.ensures.first.within c.index_mut-2.ensures.value c.in_default-receive_and_look.ensures.none

pub invariant_of-self-in_default-receive_and_look : goal.invariant_of-self-in_default-receive_and_look
invariant_of-self-in_default-receive_and_look c =
    let s = c.self.inside in
    links_stay s.topology s.times s.clock s.nodes.items s.links.items s.datagrams.items s.keys.items s.deadlines c.self.invariant (slice_set s.links.items c.in-Some-place_near.at c.receive_and_look.new.self) (stays c)

pub returns-in_default-receive_and_look : goal.returns-in_default-receive_and_look
returns-in_default-receive_and_look c =
    let s = c.self.inside in
    let x = c.index_mut-2.result.now in
    subst (λ (w : SimState). IsRefused (world_of w) (Deliver c.args.i) Refused.Memory (world_of (state_of s.topology s.times s.clock s.nodes.items (slice_set s.links.items c.in-Some-place_near.at c.receive_and_look.new.self) s.datagrams.items))) c.self.view_is (record {
      cause = inl (
        refl,
        (received_done s.topology s.times s.clock s.nodes.items s.links.items s.datagrams.items c.self.invariant.0 c.args.i c.in-Some.frame (sym c.in-Some.ensures)
            c.in-Some-node_near.home c.index.result.now (home_first c) c.index.ensures c.in-Some-place_near.at x (end_first c) c.index_mut-2.ensures.value
            (with_state x (after_frame x.settings x.state c.in-Some.frame s.clock)) (sym c.receive.ensures ∙ c.if-receive.false) refl).accepted,
      );
      world = ap (λ (xs : List LinkView). world_of (state_of s.topology s.times s.clock s.nodes.items xs s.datagrams.items)) (stays c);
    })

-- ---- the frame is handled

pub invariant_of-self-2 : goal.invariant_of-self-2
invariant_of-self-2 c =
    let s = c.self.inside in
    let home_first : IsFirst (is_of c.in-Some.frame.header.receiver) s.nodes.items c.in-Some-node_near.home = subst (λ (hd : Header). IsFirst (is_of hd.receiver) s.nodes.items c.in-Some-node_near.home) c.header-header.ensures.value c.in-Some-node_near.ensures.first in
    let end_first : IsFirst (is_at c.in-Some.frame.header.receiver c.in-Some.frame.header.sender) s.links.items c.in-Some-place_near.at = subst (λ (hd : Header). IsFirst (is_at hd.receiver hd.sender) s.links.items c.in-Some-place_near.at) c.header-header.ensures.value c.in-Some-place_near.ensures.first in (
      received_store s.topology s.times s.clock s.nodes.items s.links.items s.datagrams.items c.self.invariant.0 c.args.i c.in-Some.frame (sym c.in-Some.ensures)
          c.in-Some-node_near.home c.index.result.now home_first c.index.ensures c.in-Some-place_near.at c.index_mut-2.result.now end_first c.index_mut-2.ensures.value c.receive_and_look.new.self c.in-Some-receive_and_look.ensures.state,
      found_idle s.clock s.deadlines c.set_deadline.new.deadlines s.links.items c.in-Some-place_near.at c.short.result c.receive_and_look.new.self c.in-Some-place_near.ensures.first.within c.set_deadline.ensures
          (subst (λ (n : ℕ). IsDeadline n c.receive_and_look.new.self) (sym c.short.ensures) (short_idle c.in-Some-receive_and_look.until c.receive_and_look.new.self c.in-Some-receive_and_look.ensures.idle)) c.self.invariant.1,
      c.self.invariant.2,
    )

pub returns : goal.returns
returns c =
    let s = c.self.inside in
    let home_first : IsFirst (is_of c.in-Some.frame.header.receiver) s.nodes.items c.in-Some-node_near.home = subst (λ (hd : Header). IsFirst (is_of hd.receiver) s.nodes.items c.in-Some-node_near.home) c.header-header.ensures.value c.in-Some-node_near.ensures.first in
    let end_first : IsFirst (is_at c.in-Some.frame.header.receiver c.in-Some.frame.header.sender) s.links.items c.in-Some-place_near.at = subst (λ (hd : Header). IsFirst (is_at hd.receiver hd.sender) s.links.items c.in-Some-place_near.at) c.header-header.ensures.value c.in-Some-place_near.ensures.first in
    subst (λ (before : SimState). IsDone (world_of before) (Deliver c.args.i) (world_of (state_of s.topology s.times s.clock s.nodes.items (slice_set s.links.items c.in-Some-place_near.at c.receive_and_look.new.self) s.datagrams.items))) c.self.view_is
    (received_done s.topology s.times s.clock s.nodes.items s.links.items s.datagrams.items c.self.invariant.0 c.args.i c.in-Some.frame (sym c.in-Some.ensures)
    c.in-Some-node_near.home c.index.result.now home_first c.index.ensures c.in-Some-place_near.at c.index_mut-2.result.now end_first c.index_mut-2.ensures.value c.receive_and_look.new.self
    (sym c.receive.ensures ∙ c.if-receive.false) c.in-Some-receive_and_look.ensures.state)
