-- A datagram is handed to its receiver.
use Rattle.std.proofs.Common.{◌≡◌, ℕ, zero, suc, true, false, List, Option, Some, None, refl, sym, ap, ap₂, ◌∙◌, subst, set, slice_get, is_some, if◌then◌else◌, eqb-true, true≢false}
use Rattle.std.proofs.lemmas.Bool.{and_parts}
use Rattle.std.specs.Prelude.{slice_index_or}
use Rattle.tora_frame.specs.FrameParts.{FrameParts}
use Rattle.tora_arq.specs.declared.times.Times.{Times}
use Rattle.tora_arq.specs.Settings.{Settings, settings_of}
use Rattle.tora_arq.specs.LinkEnd.{after_frame}
use Rattle.tora_world.specs.declared.event.Event.TheVariants as Happens
use Rattle.tora_world.specs.declared.sim_error.SimError.TheVariants as Refused
use Rattle.tora_world.specs.LinkMachine.{put_at}
use Rattle.tora_world.specs.Topology.{version_at, Topology, is_node, is_link}
use Rattle.tora_world.specs.World.{World, refusal_of, effect_by, world_after, own_choice, with_end, after_receiving, datagram}
use Rattle.tora_seat.specs.Serving.{put_one}
use Rattle.tora_sim.specs.Keyed.{IsFirst}
use Rattle.tora_sim.specs.Links.{LinkView, is_at, with_state}
use Rattle.tora_sim.specs.Nodes.{NodeView, is_of}
use Rattle.tora_sim.specs.Store.{state_of, world_of, numbered, IsStore, link_at, end_in, file_in, lane_in, put_in, steps_in, node_at, seat_in, items_in, inputs_in, counts_in, arms_in}
use Rattle.tora_sim.specs.Steps.{IsDone, IsRefused}
use Rattle.tora_sim.proofs.Stores.{each_at, is_found, IsSameLink, IsSameNode, link_changes, link_stays, store_set, node_changes, node_stays, node_stays_by, store_set_node}
use Rattle.tora_sim.proofs.Opens.{effect_is, refused_for, links_same, at_place, end_there}
use Rattle.tora_sim.proofs.Needs.{nodes_same, node_place, is_there}

module _ (t : Topology) (times : Times) (clock : ℕ) (nodes : List NodeView) (links : List LinkView) (ds : List FrameParts) (h : IsStore (state_of t times clock nodes links ds)) where
  abbrev w : World
  w = world_of (state_of t times clock nodes links ds)

  numbered_is : (i : ℕ) → datagram w i ≡ numbered i ds
  numbered_is zero = refl
  numbered_is (suc i) = refl

  pub deliver_refused : (i : ℕ) → numbered i ds ≡ None → IsRefused w (Happens.Deliver i) Refused.NoDatagram w
  deliver_refused i e = refused_for w (Happens.Deliver i) Refused.NoDatagram (ap (λ (o : Option FrameParts). if is_some o then None else Some Refused.NoDatagram) (numbered_is i ∙ e))

  module _ (i : ℕ) (f : FrameParts) (e : numbered i ds ≡ Some f) where
    of_link : is_link t f.header.receiver f.header.sender ≡ true
    of_link = go i e
      where
        go : (m : ℕ) → numbered m ds ≡ Some f → is_link t f.header.receiver f.header.sender ≡ true
        go zero q = absurd (let z : None ≡ Some f = q in cc)
        go (suc m) q = h.each_datagram m f q

    pub link_is_there : link_at links f.header.receiver f.header.sender ≡ None → ⊥
    link_is_there none = true≢false (sym of_link ∙ h.links f.header.receiver f.header.sender ∙ ap is_some none)

    pub home_is_there : node_at nodes f.header.receiver ≡ None → ⊥
    home_is_there none = go (link_at links f.header.receiver f.header.sender) refl
      where
        go : (o : Option LinkView) → link_at links f.header.receiver f.header.sender ≡ o → ⊥
        go None q = link_is_there q
        go (Some x) q =
            let found = is_found (is_at f.header.receiver f.header.sender) links x q in
            true≢false (sym (h.each_link found.place x found.there).home ∙ ap (is_node t) (eqb-true x.node f.header.receiver (and_parts _ _ found.passes).0) ∙ h.nodes f.header.receiver ∙ ap is_some none)

    accepted : refusal_of w (Happens.Deliver i) ≡ None
    accepted = ap (λ (o : Option FrameParts). if is_some o then None else Some Refused.NoDatagram) (numbered_is i ∙ e)

    effect : world_after w (Happens.Deliver i) ≡ after_receiving w (own_choice w (Happens.Deliver i)) (Some f)
    unfolding effect_by
    effect = effect_is w (Happens.Deliver i) accepted ∙ ap (after_receiving w (own_choice w (Happens.Deliver i))) (numbered_is i ∙ e)

    module _ (j : ℕ) (y : NodeView) (first' : IsFirst (is_of f.header.receiver) nodes j) (read' : y ≡ slice_index_or nodes j y) where
      abbrev n : ℕ
      n = f.header.receiver

      there' : node_at nodes n ≡ Some y
      there' = is_there t times clock nodes links ds h n j y first' read'

      -- the receive is armed to fail
      abbrev disarmed : NodeView
      disarmed = record y { receive = false }

      same' : IsSameNode y disarmed
      same' = record { node = refl; first = refl; count = refl; me = refl; erasure = refl; neighbours = refl; destinations = refl; seats = refl }

      at' : slice_get nodes j ≡ Some y
      at' = node_place t times clock nodes links ds h n j y first' read'

      failed_world : y.receive ≡ true → world_of (state_of t times clock (set nodes j disarmed) links ds) ≡ world_after w (Happens.Deliver i)
      failed_world armed =
          let seats = node_stays_by n nodes j y disarmed first' at' same' (seat_in t) refl in
          let inputs = node_stays n nodes j y disarmed first' at' same' inputs_in refl in
          let items = node_stays n nodes j y disarmed first' at' same' items_in refl in
          let counts = node_stays n nodes j y disarmed first' at' same' counts_in refl in
          let arms = node_changes n nodes j y disarmed first' at' same' arms_in
          ∙ ap (λ o. put_one (λ a. arms_in (node_at nodes a)) n (record (arms_in o) { receive = false })) (sym there') in
          nodes_same w seats inputs items counts arms
          ∙ sym (effect ∙ ap (λ b. if b then record w { arms = put_one w.arms n (record (w.arms n) { receive = false }) } else with_end w n f.header.sender (after_frame (settings_of (version_at t n) n f.header.sender times) (w.ends n f.header.sender) f clock)) (ap (λ o. (arms_in o).receive) there' ∙ armed))

      pub failed_done : (node : NodeView) → y.receive ≡ true → node ≡ disarmed → IsDone w (Happens.Deliver i) (world_of (state_of t times clock (set nodes j node) links ds))
      failed_done node armed a = record { accepted = accepted; world = ap (λ z. world_of (state_of t times clock (set nodes j z) links ds)) a ∙ failed_world armed }

      pub failed_store : (node : NodeView) → node ≡ disarmed → IsStore (state_of t times clock (set nodes j node) links ds)
      failed_store node a =
          subst (λ z. IsStore (state_of t times clock (set nodes j z) links ds)) (sym a)
          (store_set_node n nodes j y disarmed first' at' same' t times clock links ds h)

      -- the receive is not armed
      module _ (m : ℕ) (x : LinkView) (first : IsFirst (is_at f.header.receiver f.header.sender) links m) (read : x ≡ slice_index_or links m x) where
        abbrev k : ℕ
        k = f.header.sender

        there : link_at links n k ≡ Some x
        there = end_there t times clock nodes links ds h n k m x first read

        at : slice_get links m ≡ Some x
        at = at_place t times clock nodes links ds h n k m x first read

        set_for : x.settings ≡ settings_of (version_at t n) n k times
        set_for =
            let q = and_parts _ _ (subst (λ z. is_at n k z ≡ true) (sym read) (first.here x)) in
            (h.each_link m x at).settings ∙ ap₂ (λ p r. settings_of (version_at t p) p r times) (eqb-true x.node n q.0) (eqb-true x.peer k q.1)

        abbrev received : LinkView
        received = with_state x (after_frame x.settings x.state f clock)

        same : IsSameLink x received
        same = record { node = refl; peer = refl; seat = refl; settings = refl; pulled = λ q. q }

        received_world : y.receive ≡ false → world_of (state_of t times clock nodes (set links m received) ds) ≡ world_after w (Happens.Deliver i)
        received_world armed =
            let ends = link_changes n k links m x received first at same end_in
            ∙ ap₂ (λ (s : Settings) o. put_at (λ a b. end_in (link_at links a b)) n k (after_frame s (end_in o) f clock)) set_for (sym there) in
            let files = each_at file_in (link_at (set links m received)) (link_at links) (λ a b. link_stays n k links m x received first at same (file_in a b) refl) in
            let lanes = link_stays n k links m x received first at same lane_in refl in
            let puts = link_stays n k links m x received first at same put_in refl in
            let steps = link_stays n k links m x received first at same steps_in refl in
            links_same w ends files lanes puts steps
            ∙ sym (effect ∙ ap (λ b. if b then record w { arms = put_one w.arms n (record (w.arms n) { receive = false }) } else with_end w n k (after_frame (settings_of (version_at t n) n k times) (w.ends n k) f clock)) (ap (λ o. (arms_in o).receive) there' ∙ armed))

        pub received_done : (link : LinkView) → y.receive ≡ false → link ≡ received → IsDone w (Happens.Deliver i) (world_of (state_of t times clock nodes (set links m link) ds))
        received_done link armed a = record { accepted = accepted; world = ap (λ z. world_of (state_of t times clock nodes (set links m z) ds)) a ∙ received_world armed }

        pub received_store : (link : LinkView) → link ≡ received → IsStore (state_of t times clock nodes (set links m link) ds)
        received_store link a =
            subst (λ z. IsStore (state_of t times clock nodes (set links m z) ds)) (sym a)
            (store_set n k links m x received first at same t times clock nodes ds h)
