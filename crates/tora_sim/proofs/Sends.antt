-- The first due frame is sent.
use Rattle.std.proofs.Common.{◌≡◌, ℕ, inl, Bool, true, false, List, Some, None, refl, sym, ap, ap₂, ◌∙◌, subst, set, slice_get, is_some, eqb-true, true≢false}
use Rattle.std.proofs.lemmas.Bool.{and_parts}
use Rattle.std.specs.Prelude.{slice_index_or}
use Rattle.tora_frame.specs.FrameParts.{FrameParts}
use Rattle.tora_arq.specs.declared.times.Times.{Times}
use Rattle.tora_arq.specs.declared.phase.Phase.{Phase}
use Rattle.tora_arq.specs.declared.phase.Phase.TheVariants.{Closed, Unbound, Bound}
use Rattle.tora_arq.specs.Settings.{Settings, settings_of}
use Rattle.tora_arq.specs.LinkEnd.{EndState, frame_due, after_transmit}
use Rattle.tora_arq.specs.LinkFacts.{LinkCall, frame_sent_by, IsFrameSent, IsFrameSentIn}
use Rattle.tora_arq.specs.LinkFacts.LinkCall.{Transmit as Transmits}
use Rattle.tora_world.specs.declared.event.Event.TheVariants as Happens
use Rattle.tora_world.specs.declared.sim_error.SimError.TheVariants as Refused
use Rattle.tora_world.specs.LinkMachine.{put_at}
use Rattle.tora_world.specs.Topology.{version_at, Topology, is_node, is_link}
use Rattle.tora_world.specs.World.{World, refusal_of, effect_by, world_after, unless_possible, after_sending, with_datagram, Sending as Sent}
use Rattle.tora_world.specs.World.Sending.{Goes, IsLost, IsGone}
use Rattle.tora_seat.specs.Serving.{put_one}
use Rattle.tora_sim.specs.declared.nodes.Sending.TheVariants as Sends
use Rattle.tora_sim.specs.Keyed.{IsFirst}
use Rattle.tora_sim.specs.Links.{LinkView, is_at, with_state}
use Rattle.tora_sim.specs.Nodes.{NodeView, is_of, sending_of}
use Rattle.tora_sim.specs.Store.{state_of, world_of, IsStore, IsOfLink, link_at, end_in, file_in, lane_in, put_in, steps_in, node_at, seat_in, items_in, inputs_in, counts_in, arms_in}
use Rattle.tora_sim.specs.Steps.{IsDone, IsRefused}
use Rattle.tora_sim.proofs.Stores.{each_at, IsSameLink, IsSameNode, link_changes, link_stays, store_set, node_changes, node_stays, node_stays_by, store_set_node, store_push}
use Rattle.tora_sim.proofs.Opens.{effect_is, refused_for, links_same, at_place, at_end, end_there}
use Rattle.tora_sim.proofs.Needs.{nodes_same, node_place, is_there}

-- a frame of an end goes from its node to its peer
abbrev pub FramesAreSent : Type 0
FramesAreSent = (s : Settings) (e : EndState) (call : LinkCall) (f : FrameParts) → frame_sent_by s e call ≡ Some f → IsFrameSent s e f

pub goes_between : FramesAreSent → (s : Settings) (e : EndState) (now : ℕ) (f : FrameParts) → frame_due s e now ≡ Some f → (f.header.sender ≡ s.me) × (f.header.receiver ≡ s.peer)
goes_between law s e now f due = go e.phase (law s e (Transmits now) f due)
  where
    go : (p : Phase) → IsFrameSentIn s e f p → (f.header.sender ≡ s.me) × (f.header.receiver ≡ s.peer)
    go Closed h = absurd h
    go (Unbound own) h = (ap (λ (x : FrameParts). x.header.sender) h, ap (λ (x : FrameParts). x.header.receiver) h)
    go (Bound life) h = (ap (λ (x : FrameParts). x.header.sender) h.0, ap (λ (x : FrameParts). x.header.receiver) h.0)

module _ (t : Topology) (times : Times) (clock : ℕ) (nodes : List NodeView) (links : List LinkView) (ds : List FrameParts) (h : IsStore (state_of t times clock nodes links ds))
    (n k i : ℕ) (x : LinkView) (first : IsFirst (is_at n k) links i) (read : x ≡ slice_index_or links i x) where
  abbrev w : World
  w = world_of (state_of t times clock nodes links ds)

  there : link_at links n k ≡ Some x
  there = end_there t times clock nodes links ds h n k i x first read

  at : slice_get links i ≡ Some x
  at = at_place t times clock nodes links ds h n k i x first read

  ends_of_it : (x.node ≡ n) × (x.peer ≡ k)
  ends_of_it = let q = and_parts _ _ (subst (λ z. is_at n k z ≡ true) (sym read) (first.here x)) in (eqb-true x.node n q.0, eqb-true x.peer k q.1)

  set_for : x.settings ≡ settings_of (version_at t n) n k times
  set_for = (h.each_link i x at).settings ∙ ap₂ (λ y z. settings_of (version_at t y) y z times) ends_of_it.0 ends_of_it.1

  due_is : frame_due (settings_of (version_at t n) n k times) (end_in (link_at links n k)) clock ≡ frame_due x.settings x.state clock
  due_is = ap₂ (λ (s : Settings) o. frame_due s (end_in o) clock) (sym set_for) there

  possible : (b : Bool) → is_some (frame_due x.settings x.state clock) ≡ b → refusal_of w (Happens.Transmit n k) ≡ unless_possible b
  possible b e = at_end t times clock nodes links ds h n k i x first read (is_some (frame_due (settings_of (version_at t n) n k times) (end_in (link_at links n k)) clock)) b (ap is_some due_is ∙ e)

  pub transmit_refused : is_some (frame_due x.settings x.state clock) ≡ false → IsRefused w (Happens.Transmit n k) Refused.NotPossible w
  transmit_refused e = refused_for w (Happens.Transmit n k) Refused.NotPossible (possible false e)

  pub transmit_starved : is_some (frame_due x.settings x.state clock) ≡ true → IsRefused w (Happens.Transmit n k) Refused.Memory w
  transmit_starved e = record { cause = inl (refl, possible true e); world = refl }

  -- the node of the end exists
  pub at_home : node_at nodes n ≡ None → ⊥
  at_home e = true≢false (sym (ap (is_node t) (sym ends_of_it.0) ∙ (h.each_link i x at).home) ∙ h.nodes n ∙ ap is_some e)

  module _ (j : ℕ) (y : NodeView) (first' : IsFirst (is_of n) nodes j) (read' : y ≡ slice_index_or nodes j y) (f : FrameParts) (due : frame_due x.settings x.state clock ≡ Some f) where
    abbrev sent : LinkView
    sent = with_state x (after_transmit x.settings x.state clock)

    abbrev disarmed : NodeView
    disarmed = record y { sending = Sends.Goes }

    abbrev datagrams : List FrameParts
    datagrams = with_datagram (sending_of y.sending) ds f

    same : IsSameLink x sent
    same = record { node = refl; peer = refl; seat = refl; settings = refl; pulled = λ q. q }

    same' : IsSameNode y disarmed
    same' = record { node = refl; first = refl; count = refl; me = refl; erasure = refl; neighbours = refl; destinations = refl; seats = refl }

    at' : slice_get nodes j ≡ Some y
    at' = node_place t times clock nodes links ds h n j y first' read'

    there' : node_at nodes n ≡ Some y
    there' = is_there t times clock nodes links ds h n j y first' read'

    effect : world_after w (Happens.Transmit n k) ≡ after_sending w n k (after_transmit (settings_of (version_at t n) n k times) (end_in (link_at links n k)) clock) (Some f)
    unfolding effect_by
    effect = effect_is w (Happens.Transmit n k) (possible true (ap is_some due)) ∙ ap (after_sending w n k (after_transmit (settings_of (version_at t n) n k times) (end_in (link_at links n k)) clock)) (due_is ∙ due)

    sent_world : world_of (state_of t times clock (set nodes j disarmed) (set links i sent) datagrams) ≡ world_after w (Happens.Transmit n k)
    sent_world =
        let ends = link_changes n k links i x sent first at same end_in
        ∙ ap₂ (λ (s : Settings) o. put_at (λ a b. end_in (link_at links a b)) n k (after_transmit s (end_in o) clock)) set_for (sym there) in
        let files = each_at file_in (link_at (set links i sent)) (link_at links) (λ a b. link_stays n k links i x sent first at same (file_in a b) refl) in
        let lanes = link_stays n k links i x sent first at same lane_in refl in
        let puts = link_stays n k links i x sent first at same put_in refl in
        let steps = link_stays n k links i x sent first at same steps_in refl in
        let seats = node_stays_by n nodes j y disarmed first' at' same' (seat_in t) refl in
        let inputs = node_stays n nodes j y disarmed first' at' same' inputs_in refl in
        let items = node_stays n nodes j y disarmed first' at' same' items_in refl in
        let counts = node_stays n nodes j y disarmed first' at' same' counts_in refl in
        let arms = node_changes n nodes j y disarmed first' at' same' arms_in
        ∙ ap (λ o. put_one (λ a. arms_in (node_at nodes a)) n (record (arms_in o) { sending = Goes })) (sym there') in
        let w' = world_of (state_of t times clock nodes links datagrams) in
        let u = world_of (state_of t times clock (set nodes j disarmed) links datagrams) in
        links_same u ends files lanes puts steps
        ∙ nodes_same (record w' { ends = put_at (λ a b. end_in (link_at links a b)) n k (after_transmit (settings_of (version_at t n) n k times) (end_in (link_at links n k)) clock) }) seats inputs items counts arms
        ∙ ap (λ o. record w {
          ends = put_at (λ a b. end_in (link_at links a b)) n k (after_transmit (settings_of (version_at t n) n k times) (end_in (link_at links n k)) clock);
          arms = put_one (λ a. arms_in (node_at nodes a)) n (record (arms_in (node_at nodes n)) { sending = Goes });
          datagrams = with_datagram (arms_in o).sending ds f;
        }) (sym there')
        ∙ sym effect

    pub transmit_done : (link : LinkView) (node : NodeView) (all : List FrameParts) → link ≡ sent → node ≡ disarmed → all ≡ datagrams
        → IsDone w (Happens.Transmit n k) (world_of (state_of t times clock (set nodes j node) (set links i link) all))
    transmit_done link node all a b c = record {
      accepted = possible true (ap is_some due);
      world =
          ap₂ (λ p q. world_of (state_of t times clock (set nodes j p) (set links i q) all)) b a
          ∙ ap (λ r. world_of (state_of t times clock (set nodes j disarmed) (set links i sent) r)) c
          ∙ sent_world;
    }

    pub transmit_store : FramesAreSent → (link : LinkView) (node : NodeView) (all : List FrameParts) → link ≡ sent → node ≡ disarmed → all ≡ datagrams
        → IsStore (state_of t times clock (set nodes j node) (set links i link) all)
    transmit_store law link node all a b c =
        subst (λ p. IsStore (state_of t times clock (set nodes j p) (set links i link) all)) (sym b)
        (subst (λ q. IsStore (state_of t times clock (set nodes j disarmed) (set links i q) all)) (sym a)
        (subst (λ r. IsStore (state_of t times clock (set nodes j disarmed) (set links i sent) r)) (sym c)
        (store_set_node n nodes j y disarmed first' at' same' t times clock (set links i sent) datagrams
        (store_set n k links i x sent first at same t times clock nodes datagrams (kept (sending_of y.sending))))))
      where
        of_link : IsOfLink t f
        of_link =
            let b = goes_between law x.settings x.state clock f due in
            ap₂ (λ p q. is_link t p q) (b.1 ∙ ap (λ (s : Settings). s.peer) set_for ∙ sym ends_of_it.1) (b.0 ∙ ap (λ (s : Settings). s.me) set_for ∙ sym ends_of_it.0) ∙ (h.each_link i x at).back

        kept : (s : Sent) → IsStore (state_of t times clock nodes links (with_datagram s ds f))
        kept Goes = store_push t times clock nodes links ds f of_link h
        kept IsLost = h
        kept IsGone = store_push t times clock nodes links ds f of_link h
