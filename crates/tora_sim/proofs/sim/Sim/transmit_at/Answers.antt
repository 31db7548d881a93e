use Rattle.std.proofs.Common.{◌≡◌, ℕ, ◌<◌, List, Some, None, length, set, is_some, ap, sym, ◌∙◌, subst}
use Rattle.std.specs.Prelude.{slice_set, slice_index_or}
use Rattle.std.proofs.lemmas.Bool.{both_ways}
use Rattle.tora_frame.specs.FrameParts.{FrameParts}
use Rattle.tora_arq.specs.LinkEnd.{frame_due, after_transmit}
use Rattle.tora_world.specs.declared.event.Event.TheVariants.{Transmit}
use Rattle.tora_world.specs.declared.sim_error.SimError.TheVariants as Refused
use Rattle.tora_world.specs.World.{with_datagram}
use Rattle.tora_sim.specs.Links.{LinkView, with_state}
use Rattle.tora_sim.specs.Nodes.{sending_of}
use Rattle.tora_sim.specs.Quiet.{AreDeadlines}
use Rattle.tora_sim.specs.Store.{SimState, IsStore, state_of, world_of}
use Rattle.tora_sim.specs.Steps.{IsDone, IsRefused}
use Rattle.tora_sim.proofs.Quiets.{set_same}
use Rattle.tora_sim.proofs.Sendings.{end_of, node_of, still_end, still_node}
use Rattle.tora_sim.proofs.Sends.{transmit_refused, transmit_starved, transmit_done, transmit_store}
use Rattle.tora_sim.proofs.IdleEnds.{possible_idle}
use Rattle.tora_sim.proofs.sim.Sim.transmit_at.Goals as goal

-- an end with no due frame is unchanged
nothing_sent : (links : List LinkView) (i clock : ℕ) (x link : LinkView) → i < length links → x ≡ slice_index_or links i x → after_transmit x.settings x.state clock ≡ x.state → link ≡ with_state x (after_transmit x.settings x.state clock) → set links i link ≡ links
nothing_sent links i clock x link within read stays e = set_same links i x link within read (e ∙ ap (with_state x) stays)

pub returns-then-not-has_frame_due-clause-done : goal.returns-then-not-has_frame_due-clause-done
returns-then-not-has_frame_due-clause-done c =
    let s = c.self.inside in
    subst (λ (w : SimState). IsRefused (world_of w) (Transmit c.args._n c.args._k) Refused.NotPossible (world_of (state_of s.topology s.times s.clock s.nodes.items s.links.items c.reserve.new.self.items))) c.self.view_is
    (subst (λ (ds : List FrameParts). IsRefused (world_of (state_of s.topology s.times s.clock s.nodes.items s.links.items s.datagrams.items)) (Transmit c.args._n c.args._k) Refused.NotPossible (world_of (state_of s.topology s.times s.clock s.nodes.items s.links.items ds)))
    (sym c.reserve.ensures.items)
    (transmit_refused s.topology s.times s.clock s.nodes.items s.links.items s.datagrams.items c.self.invariant.0 c.args._n c.args._k c.args.at c.index.result.now (end_of c.args._n c.args._k c.args.at c.self.view_is c.requires.end) c.index.ensures
    (sym c.has_frame_due.ensures ∙ c.if-not-has_frame_due.true)))

pub returns-then-is_err-clause-done : goal.returns-then-is_err-clause-done
returns-then-is_err-clause-done c =
    let s = c.self.inside in
    subst (λ (w : SimState). IsRefused (world_of w) (Transmit c.args._n c.args._k) Refused.Memory (world_of (state_of s.topology s.times s.clock s.nodes.items s.links.items c.reserve.new.self.items))) c.self.view_is
    (subst (λ (ds : List FrameParts). IsRefused (world_of (state_of s.topology s.times s.clock s.nodes.items s.links.items s.datagrams.items)) (Transmit c.args._n c.args._k) Refused.Memory (world_of (state_of s.topology s.times s.clock s.nodes.items s.links.items ds)))
    (sym c.reserve.ensures.items)
    (transmit_starved s.topology s.times s.clock s.nodes.items s.links.items s.datagrams.items c.self.invariant.0 c.args._n c.args._k c.args.at c.index.result.now (end_of c.args._n c.args._k c.args.at c.self.view_is c.requires.end) c.index.ensures
    (sym c.has_frame_due.ensures ∙ c.if-not-has_frame_due.false)))

pub invariant_of-self : goal.invariant_of-self
invariant_of-self c =
    let s = c.self.inside in (
      subst (λ (ds : List FrameParts). IsStore (state_of s.topology s.times s.clock s.nodes.items s.links.items ds)) (sym c.reserve.ensures.items) c.self.invariant.0,
      c.self.invariant.1,
      c.self.invariant.2,
    )

-- no frame was due
module _ (c : goal.After-self-in_default-1) where
  none : frame_due c.index_mut.result.now.settings c.index_mut.result.now.state c.self.inside.clock ≡ None
  none = sym c.in_default.ensures.frame

  same : slice_set c.self.inside.links.items c.args.at c.send.new.self ≡ c.self.inside.links.items
  same =
      nothing_sent c.self.inside.links.items c.args.at c.self.inside.clock c.index_mut.result.now c.send.new.self (end_of c.args._n c.args._k c.args.at c.self.view_is c.requires.end).within c.index_mut.ensures.value
      (c.calls_keep_an_end.ensures.none_due c.index_mut.result.now.settings c.index_mut.result.now.state c.self.inside.clock none) c.in_default.ensures.state

pub invariant_of-self-in_default : goal.invariant_of-self-in_default
invariant_of-self-in_default c =
    let s = c.self.inside in (
      subst (λ (ds : List FrameParts). IsStore (state_of s.topology s.times s.clock s.nodes.items (slice_set s.links.items c.args.at c.send.new.self) ds)) (sym c.reserve.ensures.items)
          (subst (λ (xs : List LinkView). IsStore (state_of s.topology s.times s.clock s.nodes.items xs s.datagrams.items)) (sym (same c)) c.self.invariant.0),
      subst (λ (xs : List LinkView). AreDeadlines s.clock s.deadlines xs) (sym (same c)) c.self.invariant.1,
      c.self.invariant.2,
    )

pub returns-in_default-clause-done : goal.returns-in_default-clause-done
returns-in_default-clause-done c =
    let s = c.self.inside in
    subst (λ (w : SimState). IsRefused (world_of w) (Transmit c.args._n c.args._k) Refused.NotPossible (world_of (state_of s.topology s.times s.clock s.nodes.items (slice_set s.links.items c.args.at c.send.new.self) c.reserve.new.self.items))) c.self.view_is
    (subst (λ (ds : List FrameParts). IsRefused (world_of (state_of s.topology s.times s.clock s.nodes.items s.links.items s.datagrams.items)) (Transmit c.args._n c.args._k) Refused.NotPossible (world_of (state_of s.topology s.times s.clock s.nodes.items (slice_set s.links.items c.args.at c.send.new.self) ds)))
    (sym c.reserve.ensures.items)
    (subst (λ (xs : List LinkView). IsRefused (world_of (state_of s.topology s.times s.clock s.nodes.items s.links.items s.datagrams.items)) (Transmit c.args._n c.args._k) Refused.NotPossible (world_of (state_of s.topology s.times s.clock s.nodes.items xs s.datagrams.items)))
    (sym (same c))
    (transmit_refused s.topology s.times s.clock s.nodes.items s.links.items s.datagrams.items c.self.invariant.0 c.args._n c.args._k c.args.at c.index_mut.result.now (end_of c.args._n c.args._k c.args.at c.self.view_is c.requires.end) c.index_mut.ensures.value
    (ap is_some (none c)))))

module _ (c : goal.After-self-3-1) where
  due : frame_due c.index_mut.result.now.settings c.index_mut.result.now.state c.self.inside.clock ≡ Some c.in-Some.frame
  due = sym c.in-Some.ensures.frame

  all : c.note_sent.new.datagrams.items ≡ with_datagram (sending_of c.index_mut-2.result.now.sending) c.self.inside.datagrams.items c.in-Some.frame
  all = c.note_sent.ensures.datagrams ∙ ap (λ ds. with_datagram (sending_of c.index_mut-2.result.now.sending) ds c.in-Some.frame) c.reserve.ensures.items

pub invariant_of-self-2 : goal.invariant_of-self-2
invariant_of-self-2 c =
    let s = c.self.inside in (
      transmit_store s.topology s.times s.clock s.nodes.items s.links.items s.datagrams.items c.self.invariant.0 c.args._n c.args._k c.args.at c.index_mut.result.now (end_of c.args._n c.args._k c.args.at c.self.view_is c.requires.end) c.index_mut.ensures.value
          c.args.home c.index_mut-2.result.now (node_of c.args._n c.args.home c.self.view_is c.requires.node) c.index_mut-2.ensures.value c.in-Some.frame (due c)
          c.data_frames_are_what_was_submitted.ensures.frame c.send.new.self c.note_sent.new.node c.note_sent.new.datagrams.items c.in-Some.ensures.state c.note_sent.ensures.node (all c),
      possible_idle s.clock s.deadlines s.links.items c.args.at c.index_mut.result.now c.send.new.self (end_of c.args._n c.args._k c.args.at c.self.view_is c.requires.end).within c.index_mut.ensures.value
          (λ until lt h. both_ways (is_some (frame_due c.index_mut.result.now.settings c.index_mut.result.now.state s.clock)) (h.frames s.clock lt) (ap is_some (due c))) c.self.invariant.1,
      c.self.invariant.2,
    )

pub returns-clause-done : goal.returns-clause-done
returns-clause-done c =
    let s = c.self.inside in
    subst (λ (before : SimState). IsDone (world_of before) (Transmit c.args._n c.args._k) (world_of (state_of s.topology s.times s.clock (slice_set s.nodes.items c.args.home c.note_sent.new.node) (slice_set s.links.items c.args.at c.send.new.self) c.note_sent.new.datagrams.items))) c.self.view_is
    (transmit_done s.topology s.times s.clock s.nodes.items s.links.items s.datagrams.items c.self.invariant.0 c.args._n c.args._k c.args.at c.index_mut.result.now (end_of c.args._n c.args._k c.args.at c.self.view_is c.requires.end) c.index_mut.ensures.value
    c.args.home c.index_mut-2.result.now (node_of c.args._n c.args.home c.self.view_is c.requires.node) c.index_mut-2.ensures.value c.in-Some.frame (due c)
    c.send.new.self c.note_sent.new.node c.note_sent.new.datagrams.items c.in-Some.ensures.state c.note_sent.ensures.node (all c))

-- ---- the indexes are unchanged

pub returns-then-not-has_frame_due-clause-end : goal.returns-then-not-has_frame_due-clause-end
returns-then-not-has_frame_due-clause-end c = end_of c.args._n c.args._k c.args.at c.self.view_is c.requires.end

pub returns-then-is_err-clause-end : goal.returns-then-is_err-clause-end
returns-then-is_err-clause-end c = end_of c.args._n c.args._k c.args.at c.self.view_is c.requires.end

pub returns-then-not-has_frame_due-clause-node : goal.returns-then-not-has_frame_due-clause-node
returns-then-not-has_frame_due-clause-node c = node_of c.args._n c.args.home c.self.view_is c.requires.node

pub returns-then-is_err-clause-node : goal.returns-then-is_err-clause-node
returns-then-is_err-clause-node c = node_of c.args._n c.args.home c.self.view_is c.requires.node

pub returns-in_default-clause-end : goal.returns-in_default-clause-end
returns-in_default-clause-end c = still_end c.args._n c.args._k c.self.inside.links.items c.args.at c.index_mut.result.now c.send.new.self _ (end_of c.args._n c.args._k c.args.at c.self.view_is c.requires.end) c.index_mut.ensures.value c.in_default.ensures.state

pub returns-in_default-clause-node : goal.returns-in_default-clause-node
returns-in_default-clause-node c = node_of c.args._n c.args.home c.self.view_is c.requires.node

pub returns-clause-end : goal.returns-clause-end
returns-clause-end c = still_end c.args._n c.args._k c.self.inside.links.items c.args.at c.index_mut.result.now c.send.new.self _ (end_of c.args._n c.args._k c.args.at c.self.view_is c.requires.end) c.index_mut.ensures.value c.in-Some.ensures.state

pub returns-clause-node : goal.returns-clause-node
returns-clause-node c = still_node c.args._n c.self.inside.nodes.items c.args.home c.index_mut-2.result.now c.note_sent.new.node (node_of c.args._n c.args.home c.self.view_is c.requires.node) c.index_mut-2.ensures.value c.note_sent.ensures.node
