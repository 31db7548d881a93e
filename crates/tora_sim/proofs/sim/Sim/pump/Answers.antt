use Rattle.std.proofs.Common.{◌≡◌, ◌<◌, ◌≤◌, length, nat_lt, true, is_some, ap, ap₂, sym, ◌∙◌, subst, arith, List, ℕ}
use Rattle.std.specs.Prelude.{slice_set, slice_index_or}
use Rattle.std.proofs.lemmas.Bool.{both_ways, lt-ltb, le-ltb}
use Rattle.tora_arq.specs.LinkEnd.{first_event, after_poll_event}
use Rattle.tora_world.specs.declared.event.Event.TheVariants.{Pump}
use Rattle.tora_world.specs.declared.sim_error.SimError.{SimError}
use Rattle.tora_world.specs.declared.sim_error.SimError.TheVariants as Refused
use Rattle.tora_seat.specs.Between.{what_of}
use Rattle.tora_sim.specs.Links.{LinkView, with_state}
use Rattle.tora_sim.specs.Nodes.{NodeView, after_item}
use Rattle.tora_sim.specs.Store.{SimState, state_of, world_of}
use Rattle.tora_sim.specs.Steps.{IsDone, IsRefused}
use Rattle.tora_sim.proofs.Opens.{same_read}
use Rattle.tora_sim.proofs.Sends.{at_home}
use Rattle.tora_sim.proofs.Pumps.{pump_without, pump_full, pump_starved, pump_done, pump_store, seat_room}
use Rattle.tora_sim.proofs.IdleEnds.{possible_idle}
use Rattle.tora_sim.proofs.sim.Sim.pump.Goals as goal

pub place_near-requires-clause-keys : goal.place_near-requires-clause-keys
place_near-requires-clause-keys c = c.self.invariant.2 ∙ sym c.self.invariant.0.keys

waits : (nodes : List NodeView) (home : ℕ) (y z : NodeView) (count : ℕ) → home < length nodes → y ≡ slice_index_or nodes home y → z ≡ slice_index_or nodes home z → count ≡ length y.items → count < 1024 → nat_lt (length z.items) 1024 ≡ true
waits nodes home y z count lt a b e less = subst (λ (v : NodeView). nat_lt (length v.items) 1024 ≡ true) (same_read nodes home y z lt a b) (lt-ltb (length y.items) 1024 (omega (arith, e, less)))

pub returns-in_default-next_event : goal.returns-in_default-next_event
returns-in_default-next_event c =
    let s = c.self.inside in
    subst (λ (w : SimState). IsRefused (world_of w) (Pump c.args.n c.args.k) Refused.NotPossible (world_of w)) c.self.view_is
    (pump_without s.topology s.times s.clock s.nodes.items s.links.items s.datagrams.items c.self.invariant.0 c.args.n c.args.k c.in-Some.at c.index.result.now c.in-Some.ensures.first c.index.ensures (sym c.next_event.ensures ∙ c.in_default-next_event.is))

pub returns-in_default-node_near : goal.returns-in_default-node_near
returns-in_default-node_near c =
    let s = c.self.inside in
    absurd (at_home s.topology s.times s.clock s.nodes.items s.links.items s.datagrams.items c.self.invariant.0 c.args.n c.args.k c.in-Some.at c.index.result.now c.in-Some.ensures.first c.index.ensures c.in_default-node_near.ensures.none)

pub returns-then-waiting-ge-MOST_ITEMS : goal.returns-then-waiting-ge-MOST_ITEMS
returns-then-waiting-ge-MOST_ITEMS c =
    let s = c.self.inside in
    let full : 1024 ≤ length c.index-2.result.now.items = omega (arith, c.waiting.ensures, c.if-waiting-ge-MOST_ITEMS.true) in
    subst (λ (w : SimState). IsRefused (world_of w) (Pump c.args.n c.args.k) Refused.NotPossible (world_of w)) c.self.view_is
    (pump_full s.topology s.times s.clock s.nodes.items s.links.items s.datagrams.items c.self.invariant.0 c.args.n c.args.k c.in-Some.at c.index.result.now c.in-Some.ensures.first c.index.ensures c.in-Some-next_event.event (sym c.next_event.ensures ∙ c.in-Some-next_event.is)
    c.in-Some-node_near.home c.index-2.result.now c.in-Some-node_near.ensures.first c.index-2.ensures (le-ltb (length c.index-2.result.now.items) 1024 full))

module _ (c : goal.After-what_of) where
  seat_is : c.seat-seat.result ≡ c.index.result.now.seat
  seat_is = c.seat-seat.ensures ∙ ap (λ (x : LinkView). x.seat) (same_read c.self.inside.links.items c.in-Some.at c.index-3.result.now c.index.result.now c.in-Some.ensures.first.within c.index-3.ensures c.index.ensures)

pub put_item-requires : goal.put_item-requires
put_item-requires c =
    let s = c.self.inside in
    subst (λ m. m < length c.index_mut.result.now.counts) (sym (seat_is c))
    (seat_room s.topology s.times s.clock s.nodes.items s.links.items s.datagrams.items c.self.invariant.0 c.args.n c.args.k c.in-Some.at c.index.result.now c.in-Some.ensures.first c.index.ensures c.in-Some-next_event.event (sym c.next_event.ensures ∙ c.in-Some-next_event.is)
    c.in-Some-node_near.home c.index_mut.result.now c.in-Some-node_near.ensures.first c.index_mut.ensures.value)

pub returns-in-Err : goal.returns-in-Err
returns-in-Err c =
    let s = c.self.inside in
    subst (λ (w : SimState). IsRefused (world_of w) (Pump c.args.n c.args.k) c.in-Err.error (world_of (state_of s.topology s.times s.clock (slice_set s.nodes.items c.in-Some-node_near.home c.put_item.new.self) s.links.items s.datagrams.items))) c.self.view_is
    (subst (λ (e : SimError). IsRefused (world_of (state_of s.topology s.times s.clock s.nodes.items s.links.items s.datagrams.items)) (Pump c.args.n c.args.k) e (world_of (state_of s.topology s.times s.clock (slice_set s.nodes.items c.in-Some-node_near.home c.put_item.new.self) s.links.items s.datagrams.items))) (sym c.in-Err.ensures.0)
    (pump_starved s.topology s.times s.clock s.nodes.items s.links.items s.datagrams.items c.self.invariant.0 c.args.n c.args.k c.in-Some.at c.index.result.now c.in-Some.ensures.first c.index.ensures c.in-Some-next_event.event (sym c.next_event.ensures ∙ c.in-Some-next_event.is)
    c.in-Some-node_near.home c.index_mut.result.now c.in-Some-node_near.ensures.first c.index_mut.ensures.value c.put_item.new.self (waits s.nodes.items c.in-Some-node_near.home c.index-2.result.now c.index_mut.result.now c.waiting.result c.in-Some-node_near.ensures.first.within c.index-2.ensures c.index_mut.ensures.value c.waiting.ensures c.if-waiting-ge-MOST_ITEMS.false) c.in-Err.ensures.1))

module _ (c : goal.After-self-in-Ok-1) where
  link_is : c.take_event.new.self ≡ with_state c.index.result.now (after_poll_event c.index.result.now.state)
  link_is =
      c.take_event.ensures.state
      ∙ ap (λ (x : LinkView). with_state x (after_poll_event x.state)) (same_read c.self.inside.links.items c.in-Some.at c.index_mut-in-Ok.result.now c.index.result.now c.in-Some.ensures.first.within c.index_mut-in-Ok.ensures.value c.index.ensures)

  node_is : c.put_item.new.self ≡ after_item c.index_mut.result.now c.index.result.now.seat c.self.inside.clock (what_of c.in-Some-next_event.event)
  node_is =
      c.in-Ok.ensures
      ∙ ap₂ (λ m what. after_item c.index_mut.result.now m c.self.inside.clock what)
      (c.seat-seat.ensures ∙ ap (λ (x : LinkView). x.seat) (same_read c.self.inside.links.items c.in-Some.at c.index-3.result.now c.index.result.now c.in-Some.ensures.first.within c.index-3.ensures c.index.ensures))
      c.what_of.ensures

pub invariant_of-self : goal.invariant_of-self
invariant_of-self c =
    let s = c.self.inside in (
      pump_store s.topology s.times s.clock s.nodes.items s.links.items s.datagrams.items c.self.invariant.0 c.args.n c.args.k c.in-Some.at c.index.result.now c.in-Some.ensures.first c.index.ensures c.in-Some-next_event.event (sym c.next_event.ensures ∙ c.in-Some-next_event.is)
          c.in-Some-node_near.home c.index_mut.result.now c.in-Some-node_near.ensures.first c.index_mut.ensures.value c.take_event.new.self c.put_item.new.self (link_is c) (node_is c),
      possible_idle s.clock s.deadlines s.links.items c.in-Some.at c.index.result.now c.take_event.new.self c.in-Some.ensures.first.within c.index.ensures
          (λ until lt h. both_ways (is_some (first_event c.index.result.now.state)) h.events (ap is_some (sym c.next_event.ensures ∙ c.in-Some-next_event.is))) c.self.invariant.1,
      c.self.invariant.2,
    )

pub returns-in-Ok : goal.returns-in-Ok
returns-in-Ok c =
    let s = c.self.inside in
    subst (λ (before : SimState). IsDone (world_of before) (Pump c.args.n c.args.k) (world_of (state_of s.topology s.times s.clock (slice_set s.nodes.items c.in-Some-node_near.home c.put_item.new.self) (slice_set s.links.items c.in-Some.at c.take_event.new.self) s.datagrams.items))) c.self.view_is
    (pump_done s.topology s.times s.clock s.nodes.items s.links.items s.datagrams.items c.self.invariant.0 c.args.n c.args.k c.in-Some.at c.index.result.now c.in-Some.ensures.first c.index.ensures c.in-Some-next_event.event (sym c.next_event.ensures ∙ c.in-Some-next_event.is)
    c.in-Some-node_near.home c.index_mut.result.now c.in-Some-node_near.ensures.first c.index_mut.ensures.value c.take_event.new.self c.put_item.new.self (waits s.nodes.items c.in-Some-node_near.home c.index-2.result.now c.index_mut.result.now c.waiting.result c.in-Some-node_near.ensures.first.within c.index-2.ensures c.index_mut.ensures.value c.waiting.ensures c.if-waiting-ge-MOST_ITEMS.false) (link_is c) (node_is c))
