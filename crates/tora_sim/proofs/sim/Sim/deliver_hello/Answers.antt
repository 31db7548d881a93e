use Rattle.std.proofs.Common.{◌≡◌, ℕ, List, ap, sym, ◌∙◌, subst, arith}
use Rattle.std.specs.Prelude.{slice_set}
use Rattle.tora_frame.specs.FrameParts.{frame_of}
use Rattle.tora_frame.specs.declared.parts.Body.TheVariants.{Hello}
use Rattle.tora_world.specs.declared.event.Event.TheVariants.{Deliver}
use Rattle.tora_sim.specs.Keyed.{IsFirst}
use Rattle.tora_sim.specs.Links.{LinkView, is_at}
use Rattle.tora_sim.specs.Nodes.{is_of}
use Rattle.tora_sim.specs.Store.{SimState, state_of, world_of}
use Rattle.tora_sim.specs.Steps.{IsDone}
use Rattle.tora_sim.proofs.Quiets.{set_same}
use Rattle.tora_sim.proofs.Receives.{received_done, received_store}
use Rattle.tora_sim.specs.Quiet.{IsDeadline}
use Rattle.tora_sim.proofs.IdleEnds.{found_idle, short_idle}
use Rattle.tora_sim.proofs.Unchanged.{links_stay}
use Rattle.tora_sim.proofs.sim.Sim.deliver_hello.Goals as goal

pub place_near-requires-clause-keys : goal.place_near-requires-clause-keys
place_near-requires-clause-keys c = c.self.invariant.2 ∙ sym c.self.invariant.0.keys

pub set_deadline-requires : goal.set_deadline-requires
set_deadline-requires c = omega (arith, c.in-Some-place_near.ensures.first.within, c.self.invariant.1.as_many)

-- ---- memory ran out

module _ (c : goal.In_default-receive_hello_and_look) where
  stays : slice_set c.self.inside.links.items c.in-Some-place_near.at c.receive_hello_and_look.new.self ≡ c.self.inside.links.items
  stays = set_same c.self.inside.links.items c.in-Some-place_near.at c.index_mut.result.now c.receive_hello_and_look.new.self c.in-Some-place_near.ensures.first.within c.index_mut.ensures.value c.in_default-receive_hello_and_look.ensures.none

pub invariant_of-self : goal.invariant_of-self
invariant_of-self c =
    let s = c.self.inside in
    links_stay s.topology s.times s.clock s.nodes.items s.links.items s.datagrams.items s.keys.items s.deadlines c.self.invariant (slice_set s.links.items c.in-Some-place_near.at c.receive_hello_and_look.new.self) (stays c)

pub returns-in_default-receive_hello_and_look-clause-same : goal.returns-in_default-receive_hello_and_look-clause-same
returns-in_default-receive_hello_and_look-clause-same c _ =
    let s = c.self.inside in
    ap (λ (xs : List LinkView). state_of s.topology s.times s.clock s.nodes.items xs s.datagrams.items) (stays c) ∙ c.self.view_is

-- ---- the HELLO is handled

pub invariant_of-self-2 : goal.invariant_of-self-2
invariant_of-self-2 c =
    let s = c.self.inside in
    let home_first : IsFirst (is_of c.in-Some.header.receiver) s.nodes.items c.in-Some-node_near.home = c.in-Some-node_near.ensures.first in
    let end_first : IsFirst (is_at c.in-Some.header.receiver c.in-Some.header.sender) s.links.items c.in-Some-place_near.at = c.in-Some-place_near.ensures.first in (
      received_store s.topology s.times s.clock s.nodes.items s.links.items s.datagrams.items c.self.invariant.0 c.args.i (frame_of c.in-Some.header Hello) c.in-Some.ensures.hello
          c.in-Some-node_near.home c.index.result.now home_first c.index.ensures c.in-Some-place_near.at c.index_mut.result.now end_first c.index_mut.ensures.value c.receive_hello_and_look.new.self c.in-Some-receive_hello_and_look.ensures.state,
      found_idle s.clock s.deadlines c.set_deadline.new.deadlines s.links.items c.in-Some-place_near.at c.short.result c.receive_hello_and_look.new.self c.in-Some-place_near.ensures.first.within c.set_deadline.ensures
          (subst (λ (n : ℕ). IsDeadline n c.receive_hello_and_look.new.self) (sym c.short.ensures) (short_idle c.in-Some-receive_hello_and_look.until c.receive_hello_and_look.new.self c.in-Some-receive_hello_and_look.ensures.idle)) c.self.invariant.1,
      c.self.invariant.2,
    )

pub returns-clause-done : goal.returns-clause-done
returns-clause-done c = λ _.
    let s = c.self.inside in
    let home_first : IsFirst (is_of c.in-Some.header.receiver) s.nodes.items c.in-Some-node_near.home = c.in-Some-node_near.ensures.first in
    let end_first : IsFirst (is_at c.in-Some.header.receiver c.in-Some.header.sender) s.links.items c.in-Some-place_near.at = c.in-Some-place_near.ensures.first in
    subst (λ (before : SimState). IsDone (world_of before) (Deliver c.args.i) (world_of (state_of s.topology s.times s.clock s.nodes.items (slice_set s.links.items c.in-Some-place_near.at c.receive_hello_and_look.new.self) s.datagrams.items))) c.self.view_is
    (received_done s.topology s.times s.clock s.nodes.items s.links.items s.datagrams.items c.self.invariant.0 c.args.i (frame_of c.in-Some.header Hello) c.in-Some.ensures.hello
    c.in-Some-node_near.home c.index.result.now home_first c.index.ensures c.in-Some-place_near.at c.index_mut.result.now end_first c.index_mut.ensures.value c.receive_hello_and_look.new.self
    (sym c.receive.ensures ∙ c.if-receive.false) c.in-Some-receive_hello_and_look.ensures.state)
