-- An event of a link end goes into the queue of its node's core.
use Rattle.std.proofs.Common.{◌≡◌, ℕ, ◌<◌, inl, Bool, true, false, not, ◌&&◌, List, [], ◌∷◌, Some, None, refl, sym, ap, ap₂, ◌∙◌, subst, length, set, slice_get, nat_lt, eqb-true, arith}
use Rattle.std.proofs.lemmas.Bool.{and_parts}
use Rattle.std.specs.Prelude.{slice_index_or}
use Rattle.tora_frame.specs.FrameParts.{FrameParts}
use Rattle.tora_arq.specs.declared.times.Times.{Times}
use Rattle.tora_arq.specs.declared.link_event.LinkEvent.{LinkEvent}
use Rattle.tora_arq.specs.LinkEnd.{first_event, after_poll_event}
use Rattle.tora_world.specs.declared.event.Event.TheVariants as Happens
use Rattle.tora_world.specs.declared.sim_error.SimError.TheVariants as Refused
use Rattle.tora_world.specs.LinkMachine.{put_at}
use Rattle.tora_world.specs.Topology.{Topology, neighbours_of}
use Rattle.tora_seat.specs.Between.{what_of}
use Rattle.tora_world.specs.World.{World, refusal_of, effect_by, world_after, own_choice, unless_possible, is_empty, has_room, with_item, with_end, after_pump}
use Rattle.tora_seat.specs.Offers.{place_of}
use Rattle.tora_sim.specs.Keyed.{IsFirst}
use Rattle.tora_sim.specs.Links.{LinkView, is_at, with_state}
use Rattle.tora_sim.specs.Nodes.{NodeView, is_of, after_item}
use Rattle.tora_sim.specs.Store.{state_of, world_of, IsStore, link_at, end_in, file_in, lane_in, put_in, steps_in}
use Rattle.tora_sim.specs.Steps.{IsDone, IsRefused}
use Rattle.tora_sim.proofs.Stores.{each_at, IsSameLink, link_changes, link_stays, store_set}
use Rattle.tora_sim.proofs.Opens.{effect_is, refused_for, links_same, at_place, at_end, end_there}
use Rattle.tora_sim.proofs.Needs.{named, of_node, room_is, item_world, item_store, same_nodes}
use Rattle.tora_sim.proofs.Peers.{place-within}

has_first : (events : List LinkEvent) (event : LinkEvent) → slice_get events 0 ≡ Some event → is_empty events ≡ false
has_first [] event e = absurd (let z : None ≡ Some event = e in cc)
has_first (x ∷ events) event e = refl

has_none : (events : List LinkEvent) → slice_get events 0 ≡ None → is_empty events ≡ true
has_none [] e = refl
has_none (x ∷ events) e = absurd (let z : Some x ≡ None = e in cc)

module _ (t : Topology) (times : Times) (clock : ℕ) (nodes : List NodeView) (links : List LinkView) (ds : List FrameParts) (h : IsStore (state_of t times clock nodes links ds))
    (n k i : ℕ) (x : LinkView) (first : IsFirst (is_at n k) links i) (read : x ≡ slice_index_or links i x) where
  abbrev w : World
  w = world_of (state_of t times clock nodes links ds)

  there : link_at links n k ≡ Some x
  there = end_there t times clock nodes links ds h n k i x first read

  at : slice_get links i ≡ Some x
  at = at_place t times clock nodes links ds h n k i x first read

  possible : (a b : Bool) → is_empty x.state.events ≡ a → has_room w n ≡ b → refusal_of w (Happens.Pump n k) ≡ unless_possible (not a && b)
  possible a b p q =
      at_end t times clock nodes links ds h n k i x first read (not (is_empty (end_in (link_at links n k)).events) && has_room w n) (not a && b)
      (ap₂ (λ (y z : Bool). not y && z) (ap (λ o. is_empty (end_in o).events) there ∙ p) q)

  pub pump_without : first_event x.state ≡ None → IsRefused w (Happens.Pump n k) Refused.NotPossible w
  pump_without e = refused_for w (Happens.Pump n k) Refused.NotPossible (possible true (has_room w n) (has_none x.state.events e) refl)

  module _ (event : LinkEvent) (e : first_event x.state ≡ Some event) (j : ℕ) (y : NodeView) (first' : IsFirst (is_of n) nodes j) (read' : y ≡ slice_index_or nodes j y) where
    pub pump_full : nat_lt (length y.items) 1024 ≡ false → IsRefused w (Happens.Pump n k) Refused.NotPossible w
    pump_full q = refused_for w (Happens.Pump n k) Refused.NotPossible (possible false false (has_first x.state.events event e) (room_is t times clock nodes links ds h n j y first' read' false q))

    accepted : nat_lt (length y.items) 1024 ≡ true → refusal_of w (Happens.Pump n k) ≡ None
    accepted q = possible false true (has_first x.state.events event e) (room_is t times clock nodes links ds h n j y first' read' true q)

    pub pump_starved : (node : NodeView) → nat_lt (length y.items) 1024 ≡ true → node ≡ y → IsRefused w (Happens.Pump n k) Refused.Memory (world_of (state_of t times clock (set nodes j node) links ds))
    pump_starved node q a = record {
      cause = inl (refl, accepted q);
      world = ap (λ z. world_of (state_of t times clock z links ds)) (same_nodes t times clock nodes links ds h n j y first' read' node a);
    }

    abbrev polled : LinkView
    polled = with_state x (after_poll_event x.state)

    same : IsSameLink x polled
    same = record { node = refl; peer = refl; seat = refl; settings = refl; pulled = λ q. q }

    effect : nat_lt (length y.items) 1024 ≡ true → world_after w (Happens.Pump n k) ≡ with_item (with_end w n k (after_poll_event (end_in (link_at links n k)))) n (place_of k (neighbours_of t n)) clock (what_of event)
    unfolding effect_by
    effect q =
        effect_is w (Happens.Pump n k) (accepted q)
        ∙ ap (after_pump w (own_choice w (Happens.Pump n k)) n k) (ap (λ o. first_event (end_in o)) there ∙ e)

    ends_of_it : (x.node ≡ n) × (x.peer ≡ k)
    ends_of_it = let q = and_parts _ _ (subst (λ z. is_at n k z ≡ true) (sym read) (first.here x)) in (eqb-true x.node n q.0, eqb-true x.peer k q.1)

    seat_is : x.seat ≡ place_of k (neighbours_of t n)
    seat_is = (h.each_link i x at).seat ∙ ap₂ (λ p m. place_of p (neighbours_of t m)) ends_of_it.1 ends_of_it.0

    -- the node has a seat for the link
    pub seat_room : x.seat < length y.counts
    seat_room =
        let node = of_node t times clock nodes links ds h n j y first' read' in
        let within = place-within k (neighbours_of t n) in
        let count = node.count ∙ ap (λ m. length (neighbours_of t m)) (named t times clock nodes links ds h n j y first' read') in
        omega (arith, node.seats, within, count, seat_is)

    pumped_world : nat_lt (length y.items) 1024 ≡ true → world_of (state_of t times clock (set nodes j (after_item y x.seat clock (what_of event))) (set links i polled) ds) ≡ world_after w (Happens.Pump n k)
    pumped_world q =
        let ends = link_changes n k links i x polled first at same end_in
        ∙ ap (λ o. put_at (λ a b. end_in (link_at links a b)) n k (after_poll_event (end_in o))) (sym there) in
        let files = each_at file_in (link_at (set links i polled)) (link_at links) (λ a b. link_stays n k links i x polled first at same (file_in a b) refl) in
        let lanes = link_stays n k links i x polled first at same lane_in refl in
        let puts = link_stays n k links i x polled first at same put_in refl in
        let steps = link_stays n k links i x polled first at same steps_in refl in
        let u = world_of (state_of t times clock (set nodes j (after_item y x.seat clock (what_of event))) links ds) in
        links_same u ends files lanes puts steps
        ∙ ap (λ (z : World). record z { ends = put_at (λ a b. end_in (link_at links a b)) n k (after_poll_event (end_in (link_at links n k))) })
        (item_world t times clock nodes links ds h n j y first' read' x.seat (what_of event) seat_room)
        ∙ ap (λ m. with_item (with_end w n k (after_poll_event (end_in (link_at links n k)))) n m clock (what_of event)) seat_is
        ∙ sym (effect q)

    pub pump_done : (link : LinkView) (node : NodeView) → nat_lt (length y.items) 1024 ≡ true → link ≡ polled → node ≡ after_item y x.seat clock (what_of event)
        → IsDone w (Happens.Pump n k) (world_of (state_of t times clock (set nodes j node) (set links i link) ds))
    pump_done link node q a b = record {
      accepted = accepted q;
      world = ap₂ (λ p r. world_of (state_of t times clock (set nodes j p) (set links i r) ds)) b a ∙ pumped_world q;
    }

    pub pump_store : (link : LinkView) (node : NodeView) → link ≡ polled → node ≡ after_item y x.seat clock (what_of event) → IsStore (state_of t times clock (set nodes j node) (set links i link) ds)
    pump_store link node a b =
        subst (λ p. IsStore (state_of t times clock (set nodes j p) (set links i link) ds)) (sym b)
        (subst (λ r. IsStore (state_of t times clock (set nodes j (after_item y x.seat clock (what_of event))) (set links i r) ds)) (sym a)
        (store_set n k links i x polled first at same t times clock (set nodes j (after_item y x.seat clock (what_of event))) ds
        (item_store t times clock nodes links ds h n j y first' read' x.seat (what_of event) seat_room)))
