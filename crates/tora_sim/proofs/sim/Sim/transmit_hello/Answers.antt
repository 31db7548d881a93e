use Rattle.std.proofs.Common.{◌≡◌, List, Some, is_some, ap, sym, ◌∙◌, subst}
use Rattle.std.specs.Prelude.{slice_set}
use Rattle.std.proofs.lemmas.Bool.{both_ways}
use Rattle.tora_frame.specs.FrameParts.{FrameParts, frame_of}
use Rattle.tora_frame.specs.declared.parts.Body.TheVariants.{Hello}
use Rattle.tora_arq.specs.LinkEnd.{frame_due}
use Rattle.tora_world.specs.declared.event.Event.TheVariants.{Transmit}
use Rattle.tora_world.specs.World.{with_datagram}
use Rattle.tora_sim.specs.Keyed.{IsFirst}
use Rattle.tora_sim.specs.Links.{LinkView, is_at}
use Rattle.tora_sim.specs.Nodes.{sending_of}
use Rattle.tora_sim.specs.Store.{SimState, state_of, world_of}
use Rattle.tora_sim.specs.Steps.{IsDone}
use Rattle.tora_sim.proofs.Quiets.{set_same}
use Rattle.tora_sim.proofs.Sendings.{end_of, node_of, still_end, still_node}
use Rattle.tora_sim.proofs.Sends.{transmit_done, transmit_store}
use Rattle.tora_sim.proofs.IdleEnds.{possible_idle}
use Rattle.tora_sim.proofs.Unchanged.{datagrams_stay, links_stay}
use Rattle.tora_sim.proofs.sim.Sim.transmit_hello.Goals as goal

-- ---- memory ran out, or the first due frame is not a HELLO

pub invariant_of-self : goal.invariant_of-self
invariant_of-self c =
    let s = c.self.inside in
    datagrams_stay s.topology s.times s.clock s.nodes.items s.links.items s.datagrams.items s.keys.items s.deadlines c.self.invariant c.reserve.new.self.items c.reserve.ensures.items

pub returns-then-is_err-clause-same : goal.returns-then-is_err-clause-same
returns-then-is_err-clause-same c told =
    let s = c.self.inside in
    ap (λ (ds : List FrameParts). state_of s.topology s.times s.clock s.nodes.items s.links.items ds) c.reserve.ensures.items ∙ c.self.view_is

pub returns-then-is_err-clause-end : goal.returns-then-is_err-clause-end
returns-then-is_err-clause-end c = end_of c.args._n c.args._k c.args.at c.self.view_is c.requires.end

pub returns-then-is_err-clause-node : goal.returns-then-is_err-clause-node
returns-then-is_err-clause-node c = node_of c.args._n c.args.home c.self.view_is c.requires.node

-- an end whose first due frame is not a HELLO is unchanged
module _ (c : goal.In_default) where
  stays : slice_set c.self.inside.links.items c.args.at c.send_hello.new.self ≡ c.self.inside.links.items
  stays = set_same c.self.inside.links.items c.args.at c.index_mut.result.now c.send_hello.new.self (end_of c.args._n c.args._k c.args.at c.self.view_is c.requires.end).within c.index_mut.ensures.value c.in_default.ensures.none

pub invariant_of-self-in_default : goal.invariant_of-self-in_default
invariant_of-self-in_default c =
    let s = c.self.inside in
    let links = slice_set s.links.items c.args.at c.send_hello.new.self in
    datagrams_stay s.topology s.times s.clock s.nodes.items links s.datagrams.items s.keys.items s.deadlines
    (links_stay s.topology s.times s.clock s.nodes.items s.links.items s.datagrams.items s.keys.items s.deadlines c.self.invariant links (stays c)) c.reserve.new.self.items c.reserve.ensures.items

pub returns-in_default-clause-same : goal.returns-in_default-clause-same
returns-in_default-clause-same c told =
    let s = c.self.inside in
    ap (λ (ds : List FrameParts). state_of s.topology s.times s.clock s.nodes.items (slice_set s.links.items c.args.at c.send_hello.new.self) ds) c.reserve.ensures.items
    ∙ ap (λ (xs : List LinkView). state_of s.topology s.times s.clock s.nodes.items xs s.datagrams.items) (stays c) ∙ c.self.view_is

pub returns-in_default-clause-end : goal.returns-in_default-clause-end
returns-in_default-clause-end c =
    subst (λ (xs : List LinkView). IsFirst (is_at c.args._n c.args._k) xs c.args.at) (sym (stays c)) (end_of c.args._n c.args._k c.args.at c.self.view_is c.requires.end)

pub returns-in_default-clause-node : goal.returns-in_default-clause-node
returns-in_default-clause-node c = node_of c.args._n c.args.home c.self.view_is c.requires.node

-- ---- a HELLO is sent

module _ (c : goal.After-self-2-1) where
  due : frame_due c.index_mut.result.now.settings c.index_mut.result.now.state c.self.inside.clock ≡ Some (frame_of c.in-Some.header Hello)
  due = c.in-Some.ensures.frame

  all : c.note_hello.new.datagrams.items ≡ with_datagram (sending_of c.index_mut-2.result.now.sending) c.self.inside.datagrams.items (frame_of c.in-Some.header Hello)
  all = c.note_hello.ensures.datagrams ∙ ap (λ ds. with_datagram (sending_of c.index_mut-2.result.now.sending) ds (frame_of c.in-Some.header Hello)) c.reserve.ensures.items

pub invariant_of-self-2 : goal.invariant_of-self-2
invariant_of-self-2 c =
    let s = c.self.inside in (
      transmit_store s.topology s.times s.clock s.nodes.items s.links.items s.datagrams.items c.self.invariant.0 c.args._n c.args._k c.args.at c.index_mut.result.now (end_of c.args._n c.args._k c.args.at c.self.view_is c.requires.end) c.index_mut.ensures.value
          c.args.home c.index_mut-2.result.now (node_of c.args._n c.args.home c.self.view_is c.requires.node) c.index_mut-2.ensures.value (frame_of c.in-Some.header Hello) (due c)
          c.data_frames_are_what_was_submitted.ensures.frame c.send_hello.new.self c.note_hello.new.node c.note_hello.new.datagrams.items c.in-Some.ensures.state c.note_hello.ensures.node (all c),
      possible_idle s.clock s.deadlines s.links.items c.args.at c.index_mut.result.now c.send_hello.new.self (end_of c.args._n c.args._k c.args.at c.self.view_is c.requires.end).within c.index_mut.ensures.value
          (λ until lt h. both_ways (is_some (frame_due c.index_mut.result.now.settings c.index_mut.result.now.state s.clock)) (h.frames s.clock lt) (ap is_some (due c))) c.self.invariant.1,
      c.self.invariant.2,
    )

pub returns-clause-done : goal.returns-clause-done
returns-clause-done c told =
    let s = c.self.inside in
    subst (λ (before : SimState). IsDone (world_of before) (Transmit c.args._n c.args._k) (world_of (state_of s.topology s.times s.clock (slice_set s.nodes.items c.args.home c.note_hello.new.node) (slice_set s.links.items c.args.at c.send_hello.new.self) c.note_hello.new.datagrams.items))) c.self.view_is
    (transmit_done s.topology s.times s.clock s.nodes.items s.links.items s.datagrams.items c.self.invariant.0 c.args._n c.args._k c.args.at c.index_mut.result.now (end_of c.args._n c.args._k c.args.at c.self.view_is c.requires.end) c.index_mut.ensures.value
    c.args.home c.index_mut-2.result.now (node_of c.args._n c.args.home c.self.view_is c.requires.node) c.index_mut-2.ensures.value (frame_of c.in-Some.header Hello) (due c)
    c.send_hello.new.self c.note_hello.new.node c.note_hello.new.datagrams.items c.in-Some.ensures.state c.note_hello.ensures.node (all c))

pub returns-clause-end : goal.returns-clause-end
returns-clause-end c = still_end c.args._n c.args._k c.self.inside.links.items c.args.at c.index_mut.result.now c.send_hello.new.self _ (end_of c.args._n c.args._k c.args.at c.self.view_is c.requires.end) c.index_mut.ensures.value c.in-Some.ensures.state

pub returns-clause-node : goal.returns-clause-node
returns-clause-node c = still_node c.args._n c.self.inside.nodes.items c.args.home c.index_mut-2.result.now c.note_hello.new.node (node_of c.args._n c.args.home c.self.view_is c.requires.node) c.index_mut-2.ensures.value c.note_hello.ensures.node
