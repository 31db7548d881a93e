-- A turn of the core keeps the invariant of all ends, and makes the steps of the machine that are defined for it.
use Rattle.std.proofs.Common.{◌≡◌, ◌≢◌, ℕ, zero, suc, Bool, true, false, true≢false, ◌&&◌, ◌⊎◌, inl, inr, List, [], ◌∷◌, ◌++◌, length, map, Option, Some, None, nat_eq, if◌then◌else◌, refl, sym, ap, ap₂, ◌∙◌, subst, append_assoc, append-nil, eqb-true, eq-eqb}
use Rattle.tora_seat.proofs.Places.{turned}
use Rattle.std.proofs.lemmas.Bool.{cond_both, cases_Bool}
use Rattle.std.specs.Prelude.{slice_get}
use Rattle.tora_packet.specs.declared.Packet.{Packet}
use Rattle.tora_arq.specs.declared.life.Life.{Life}
use Rattle.tora_core.specs.declared.Input.{Input}
use Rattle.tora_core.specs.declared.Input.TheVariants as In
use Rattle.tora_core.specs.declared.errors.StepError.{StepError}
use Rattle.tora_core.specs.Numbers.{has_number}
use Rattle.tora_core.specs.CoreRun.{refusal_of, sends_of}
use Rattle.tora_seat.specs.declared.what.What.{What}
use Rattle.tora_seat.specs.declared.what.What.TheVariants as Tells
use Rattle.tora_seat.specs.declared.item.Item.{Item}
use Rattle.tora_seat.specs.declared.cargo.Cargo.{Cargo}
use Rattle.tora_seat.specs.declared.cargo.Cargo.TheVariants as Gives
use Rattle.tora_seat.specs.Serving.{Offer, Parcel, Step, Serving, Answers, offered, with_current, with_pending, after_cut_tried, after_cuts_tried, after_sent, after_broadcast, after_broadcasts, accepting, after_answer, after_step, first_cut, after_settling, after_input, is_current, after_down, after_old_down, after_cut_asked, after_life_cut, after_packet, after_link_item, after_other_item, after_item_of, begin_serving, serving_of, put_to, stepped_from}
use Rattle.tora_world.specs.Lists.{parcels_in, parcel_of}
use Rattle.tora_world.specs.LinkMachine.{MachineStep, machine_after, made}
use Rattle.tora_world.specs.LinkMachine.MachineStep.{Take, Close}
use Rattle.tora_world.specs.MachineRun.{steps_of_end, steps_of_link_item, steps_of_other_item, steps_of_item, steps_of_cargo, steps_of_offers, steps_of_turn}
use Rattle.tora_world.specs.World.{World, Choice, settings, neighbours, after_serving, after_turn}
use Rattle.tora_world.proofs.PacketLists.{at_pair, same_true, same_refl}
use Rattle.tora_world.proofs.Invariant.{Arrival, EndView, arrival_of, AllEndsFollow, Seen, seen_at_other}
use Rattle.tora_world.proofs.Invariant.Arrival.{LifeComes, PacketComes, OtherComes}
use Rattle.tora_world.proofs.Moves.{passes, skips, ups}
use Rattle.tora_world.proofs.AllEnds.{Changes, no_step, same_views, taking_follows, putting_follows, closing_follows}
use Rattle.tora_world.proofs.EndViews.{arrival_in, arrivals_in, arrivals_of, view_of, end_views, parcels-append}
use Rattle.tora_world.proofs.Events.{put_one_here, put_one_there}

-- ---- lists that grow

abbrev pub cargo_where : ℕ → Offer → List Cargo
cargo_where k o = if nat_eq o.to k && o.put then o.cargo ∷ [] else []

pub put-push : (k : ℕ) (offers : List Offer) (o : Offer) → put_to k (offers ++ o ∷ []) ≡ put_to k offers ++ cargo_where k o
put-push k [] o = append-nil (cargo_where k o)
put-push k (x ∷ offers) o = ap (λ ys. cargo_where k x ++ ys) (put-push k offers o) ∙ sym (append_assoc (cargo_where k x) (put_to k offers) (cargo_where k o))

abbrev step_where : ℕ → Step → List Parcel
step_where k s = if nat_eq s.from k then s.parcel ∷ [] else []

stepped-push : (k : ℕ) (steps : List Step) (s : Step) → stepped_from k (steps ++ s ∷ []) ≡ stepped_from k steps ++ step_where k s
stepped-push k [] s = append-nil (step_where k s)
stepped-push k (x ∷ steps) s = ap (λ ys. step_where k x ++ ys) (stepped-push k steps s) ∙ sym (append_assoc (step_where k x) (stepped_from k steps) (step_where k s))

-- the packets in a queue after an outbound message was offered
pub offer_parcels : (k : ℕ) (cs : List Cargo) (offers : List Offer) (o : Offer) → parcels_in (cs ++ put_to k (offers ++ o ∷ [])) ≡ parcels_in (cs ++ put_to k offers) ++ parcels_in (cargo_where k o)
offer_parcels k cs offers o =
    ap (λ ys. parcels_in (cs ++ ys)) (put-push k offers o) ∙ ap parcels_in (sym (append_assoc cs (put_to k offers) (cargo_where k o)))
    ∙ parcels-append (cs ++ put_to k offers) (cargo_where k o)

-- an outbound message that is not a packet for this neighbour, or was returned
pub nothing_more : (k : ℕ) (cs : List Cargo) (offers : List Offer) (o : Offer) → parcels_in (cargo_where k o) ≡ [] → parcels_in (cs ++ put_to k (offers ++ o ∷ [])) ≡ parcels_in (cs ++ put_to k offers)
nothing_more k cs offers o e = offer_parcels k cs offers o ∙ ap (λ ys. parcels_in (cs ++ put_to k offers) ++ ys) e ∙ append-nil (parcels_in (cs ++ put_to k offers))

pub no_cut : (k : ℕ) (to : ℕ) (life : Life) (put : Bool) → parcels_in (cargo_where k (record { to = to; cargo = Gives.Cut life; put = put })) ≡ []
no_cut k to life put = go (nat_eq to k && put)
  where
    go : (b : Bool) → parcels_in (if b then Gives.Cut life ∷ [] else []) ≡ []
    go true = refl
    go false = refl

pub no_back : (k : ℕ) (to : ℕ) (cargo : Cargo) → parcels_in (cargo_where k (record { to = to; cargo = cargo; put = false })) ≡ []
no_back k to cargo = go (nat_eq to k)
  where
    go : (b : Bool) → parcels_in (if b && false then cargo ∷ [] else []) ≡ []
    go true = refl
    go false = refl

-- ---- the machine's steps

made-append : (xs ys before : List MachineStep) → made (xs ++ ys) before ≡ made ys (made xs before)
made-append [] ys before = refl
made-append (x ∷ xs) ys before = made-append xs ys (x ∷ before)

-- one more outbound message is offered
steps-push : (n : ℕ) (offers : List Offer) (o : Offer) (before : List MachineStep) → made (steps_of_offers n (offers ++ o ∷ [])) before ≡ made (steps_of_cargo n o.to o.cargo o.put) (made (steps_of_offers n offers) before)
steps-push n [] o before = ap (λ xs. made xs before) (append-nil (steps_of_cargo n o.to o.cargo o.put))
steps-push n (x ∷ offers) o before =
    made-append (steps_of_cargo n x.to x.cargo x.put) (steps_of_offers n (offers ++ o ∷ [])) before ∙ steps-push n offers o (made (steps_of_cargo n x.to x.cargo x.put) before)
    ∙ ap (made (steps_of_cargo n o.to o.cargo o.put)) (sym (made-append (steps_of_cargo n x.to x.cargo x.put) (steps_of_offers n offers) before))

module _ (w : World) (seen : Seen) (n : ℕ) where
  abbrev ks : List ℕ
  ks = neighbours w n

  -- the invariant while an item is served, after steps of the machine and those of the offers
  abbrev pub Served : List MachineStep → List Item → Serving → Type 0
  Served before lane v = AllEndsFollow (made (steps_of_offers n v.offers) before) (end_views (after_serving w n lane v)) w.datagrams seen

  abbrev pub seen_at : ℕ → Serving → List Arrival → EndView
  seen_at k v arrivals = view_of (settings w n k) (w.ends n k) (w.files n k) (v.seat.current k) arrivals (w.cargoes n k ++ put_to k v.offers) (w.put n k ++ put_to k v.offers) (w.steps n k ++ stepped_from k v.steps)

  abbrev split : Bool → List Item → Serving → ℕ → ℕ → EndView
  split t lane v a b = view_of (settings w a b) (w.ends a b) (w.files a b) ((if t then v.seat else w.seats a).current b) (arrivals_of (neighbours w a) b (if t then lane else w.items a))
      ((if t then (λ k. w.cargoes n k ++ put_to k v.offers) else w.cargoes a) b) ((if t then (λ k. w.put n k ++ put_to k v.offers) else w.put a) b) ((if t then (λ k. w.steps n k ++ stepped_from k v.steps) else w.steps a) b)

  look_at : (lane : List Item) (v : Serving) (k : ℕ) → end_views (after_serving w n lane v) n k ≡ seen_at k v (arrivals_of ks k lane)
  look_at lane v k = ap (λ t. split t lane v n k) (eq-eqb n n refl)

  look_off : (lane : List Item) (v : Serving) (a b : ℕ) → nat_eq a n ≡ false → end_views (after_serving w n lane v) a b ≡ end_views w a b
  look_off lane v a b e = ap (λ t. split t lane v a b) e

  serve_changed : (lane lane' : List Item) (v v' : Serving) (k : ℕ) (u : EndView) → ((b : ℕ) → nat_eq b k ≡ false → seen_at b v' (arrivals_of ks b lane') ≡ seen_at b v (arrivals_of ks b lane)) →
      seen_at k v' (arrivals_of ks k lane') ≡ u → Changes (end_views (after_serving w n lane v)) (end_views (after_serving w n lane' v')) n k (seen_at k v (arrivals_of ks k lane)) u
  serve_changed lane lane' v v' k u off q = record {
    was = look_at lane v k;
    here = look_at lane' v' k ∙ q;
    there = λ a b o. there a b o (cases_Bool (nat_eq a n));
  }
    where
      there : (a b : ℕ) → at_pair n k a b ≡ false → (nat_eq a n ≡ true) ⊎ (nat_eq a n ≡ false) → end_views (after_serving w n lane' v') a b ≡ end_views (after_serving w n lane v) a b
      there a b o (inl e) =
          let o' : nat_eq b k ≡ false = subst (λ t. (t && nat_eq b k) ≡ false) e o in
          subst (λ x. end_views (after_serving w n lane' v') x b ≡ end_views (after_serving w n lane v) x b) (sym (eqb-true a n e))
          (look_at lane' v' b ∙ off b o' ∙ sym (look_at lane v b))
      there a b o (inr e) = look_off lane' v' a b e ∙ sym (look_off lane v a b e)

  -- a change that the invariant does not see
  served_same : (steps : List MachineStep) (lane lane' : List Item) (v v' : Serving) → ((b : ℕ) → seen_at b v' (arrivals_of ks b lane') ≡ seen_at b v (arrivals_of ks b lane)) →
      AllEndsFollow steps (end_views (after_serving w n lane v)) w.datagrams seen → AllEndsFollow steps (end_views (after_serving w n lane' v')) w.datagrams seen
  served_same steps lane lane' v v' e g = same_views steps (end_views (after_serving w n lane v)) (end_views (after_serving w n lane' v')) w.datagrams seen (λ a b. there a b (cases_Bool (nat_eq a n))) g
    where
      there : (a b : ℕ) → (nat_eq a n ≡ true) ⊎ (nat_eq a n ≡ false) → end_views (after_serving w n lane' v') a b ≡ end_views (after_serving w n lane v) a b
      there a b (inl t) =
          subst (λ x. end_views (after_serving w n lane' v') x b ≡ end_views (after_serving w n lane v) x b) (sym (eqb-true a n t))
          (look_at lane' v' b ∙ e b ∙ sym (look_at lane v b))
      there a b (inr t) = look_off lane' v' a b t ∙ sym (look_off lane v a b t)

  -- a session is no longer current, and is closed
  life_closed : (steps : List MachineStep) (lane : List Item) (v v' : Serving) (k : ℕ) (life : Life) → v.seat.current k ≡ Some life →
      ((b : ℕ) → seen_at b v' (arrivals_of ks b lane) ≡ seen_at b (with_current v k None) (arrivals_of ks b lane)) →
      AllEndsFollow steps (end_views (after_serving w n lane v)) w.datagrams seen → AllEndsFollow (Close n k life ∷ steps) (end_views (after_serving w n lane v')) w.datagrams seen
  life_closed steps lane v v' k life on alike g =
      let u : EndView = seen_at k v (arrivals_of ks k lane) in
      closing_follows steps (end_views (after_serving w n lane v)) (end_views (after_serving w n lane v')) w.datagrams seen n k u life on
      (serve_changed lane lane v v' k (record u { current = None })
      (λ b e. alike b ∙ ap (λ x. record (seen_at b v (arrivals_of ks b lane)) { current = x }) (put_one_there v.seat.current k None b e))
      (alike k ∙ ap (λ x. record u { current = x }) (put_one_here v.seat.current k None))) g

  module _ (before : List MachineStep) where
    -- a cut is offered
    offer_cut : (lane : List Item) (v : Serving) (k : ℕ) (life : Life) (put : Bool) → Served before lane v → Served before lane (offered v k (Gives.Cut life) put)
    offer_cut lane v k life put g =
        let o : Offer = record { to = k; cargo = Gives.Cut life; put = put } in
        subst (λ ss. AllEndsFollow ss (end_views (after_serving w n lane (offered v k (Gives.Cut life) put))) w.datagrams seen) (sym (steps-push n v.offers o before))
        (served_same (made (steps_of_offers n v.offers) before) lane lane v (offered v k (Gives.Cut life) put)
        (λ b. ap₂ (λ xs ys. record (seen_at b v (arrivals_of ks b lane)) { out = xs; sent = ys })
        (nothing_more b (w.cargoes n b) v.offers o (no_cut b k life put)) (nothing_more b (w.put n b) v.offers o (no_cut b k life put))) g)

    -- a packet of the current session is returned
    hand_back : (lane : List Item) (v : Serving) (k : ℕ) (life : Life) (packet : Packet) → v.seat.current k ≡ Some life → Served before lane v → Served before lane (with_current (offered v k (Gives.Packet life packet) false) k None)
    hand_back lane v k life packet on g =
        let o : Offer = record { to = k; cargo = Gives.Packet life packet; put = false } in
        subst (λ ss. AllEndsFollow ss (end_views (after_serving w n lane (with_current (offered v k (Gives.Packet life packet) false) k None))) w.datagrams seen) (sym (steps-push n v.offers o before))
        (life_closed (made (steps_of_offers n v.offers) before) lane v (with_current (offered v k (Gives.Packet life packet) false) k None) k life on
        (λ b. ap₂ (λ xs ys. record (seen_at b (with_current v k None) (arrivals_of ks b lane)) { out = xs; sent = ys })
        (nothing_more b (w.cargoes n b) v.offers o (no_back b k (Gives.Packet life packet))) (nothing_more b (w.put n b) v.offers o (no_back b k (Gives.Packet life packet)))) g)

    -- a packet of the current session is put
    offer_packet : (lane : List Item) (v : Serving) (k : ℕ) (life : Life) (packet : Packet) → v.seat.current k ≡ Some life → Served before lane v → Served before lane (offered v k (Gives.Packet life packet) true)
    offer_packet lane v k life packet on g =
        let x : Parcel = parcel_of life packet in
        let o : Offer = record { to = k; cargo = Gives.Packet life packet; put = true } in
        let u : EndView = seen_at k v (arrivals_of ks k lane) in
        subst (λ ss. AllEndsFollow ss (end_views (after_serving w n lane (offered v k (Gives.Packet life packet) true))) w.datagrams seen) (sym (steps-push n v.offers o before))
        (putting_follows (made (steps_of_offers n v.offers) before) (end_views (after_serving w n lane v)) (end_views (after_serving w n lane (offered v k (Gives.Packet life packet) true))) w.datagrams seen n k u x on
        (serve_changed lane lane v (offered v k (Gives.Packet life packet) true) k (record u { sent = u.sent ++ x ∷ []; out = u.out ++ x ∷ [] })
        (λ b e. ap₂ (λ xs ys. record (seen_at b v (arrivals_of ks b lane)) { out = xs; sent = ys }) (nothing_more b (w.cargoes n b) v.offers o (none b e)) (nothing_more b (w.put n b) v.offers o (none b e)))
        (ap₂ (λ xs ys. record u { sent = ys; out = xs }) (more (w.cargoes n k)) (more (w.put n k)))) g)
      where
        none : (b : ℕ) → nat_eq b k ≡ false → parcels_in (cargo_where b (record { to = k; cargo = Gives.Packet life packet; put = true })) ≡ []
        none b e = ap (λ (t : Bool). parcels_in (if t && true then Gives.Packet life packet ∷ [] else [])) (turned b k e)

        more : (cs : List Cargo) → parcels_in (cs ++ put_to k (v.offers ++ record { to = k; cargo = Gives.Packet life packet; put = true } ∷ [])) ≡ parcels_in (cs ++ put_to k v.offers) ++ parcel_of life packet ∷ []
        more cs = offer_parcels k cs v.offers (record { to = k; cargo = Gives.Packet life packet; put = true })
            ∙ ap (λ (t : Bool). parcels_in (cs ++ put_to k v.offers) ++ parcels_in (if t && true then Gives.Packet life packet ∷ [] else [])) (eq-eqb k k refl)

    pending_quiet : (lane : List Item) (v : Serving) (k : ℕ) (life : Option Life) → Served before lane v → Served before lane (with_pending v k life)
    pending_quiet lane v k life g = served_same (made (steps_of_offers n v.offers) before) lane lane v (with_pending v k life) (λ b. refl) g

  module _ (before : List MachineStep) (answers : Answers) (lane : List Item) where
    cut_tried_keeps : (v : Serving) (k : ℕ) (o : Option Life) → Served before lane v → Served before lane (after_cut_tried answers v k o)
    cut_tried_keeps v k None g = g
    cut_tried_keeps v k (Some life) g =
        cond_both (answers v.offers k) _ _ (Served before lane)
        (λ _. pending_quiet before lane (offered v k (Gives.Cut life) true) k None (offer_cut before lane v k life true g))
        (λ _. offer_cut before lane v k life false g)

    pub cuts_tried_keep : (js : List ℕ) (v : Serving) → Served before lane v → Served before lane (after_cuts_tried answers js v)
    unfolding after_cuts_tried
    cuts_tried_keep [] v g = g
    cuts_tried_keep (k ∷ js) v g = cuts_tried_keep js (after_cut_tried answers v k (v.seat.pending k)) (cut_tried_keeps v k (v.seat.pending k) g)

    sent_keeps : (packet : Packet) (v : Serving) (k : ℕ) (o : Option Life) → v.seat.current k ≡ o → Served before lane v → Served before lane (after_sent answers packet v k o)
    sent_keeps packet v k None e g = g
    sent_keeps packet v k (Some life) e g =
        cond_both (answers v.offers k) _ _ (Served before lane)
        (λ _. offer_packet before lane v k life packet e g)
        (λ _. pending_quiet before lane (with_current (offered v k (Gives.Packet life packet) false) k None) k (Some life) (hand_back before lane v k life packet e g))

    broadcast_keeps : (packet : Packet) (js : List ℕ) (v : Serving) → Served before lane v → Served before lane (after_broadcast answers packet js v)
    unfolding after_broadcast
    broadcast_keeps packet [] v g = g
    broadcast_keeps packet (k ∷ js) v g = broadcast_keeps packet js (after_sent answers packet v k (v.seat.current k)) (sent_keeps packet v k (v.seat.current k) refl g)

    broadcasts_keep : (js : List ℕ) (packets : List Packet) (v : Serving) → Served before lane v → Served before lane (after_broadcasts answers js packets v)
    unfolding after_broadcasts
    broadcasts_keep js [] v g = g
    broadcasts_keep js (packet ∷ packets) v g = broadcasts_keep js packets (after_broadcast answers packet js v) (broadcast_keeps packet js v g)

    step_keeps : (js : List ℕ) (input : Input) (now : ℕ) (v : Serving) → Served before lane v → Served before lane (after_step answers js input now v)
    unfolding after_step
    step_keeps js input now v g = go (refusal_of v.seat.core input)
      where
        go : (o : Option StepError) → Served before lane (after_answer answers js input now v o)
        go None = broadcasts_keep js (sends_of v.seat.core input now) (accepting v input now) (served_same (made (steps_of_offers n v.offers) before) lane lane v (accepting v input now) (λ b. refl) g)
        go (Some error) = g

    settling_keeps : (most : ℕ) (js : List ℕ) (now : ℕ) (v : Serving) → Served before lane v → Served before lane (after_settling most answers js now v)
    unfolding after_settling
    settling_keeps zero js now v g = g
    settling_keeps (suc most) js now v g = go (first_cut v.seat js) (λ k. settling_keeps most js now (after_step answers js (In.LinkDown k) now v) (step_keeps js (In.LinkDown k) now v g))
      where
        go : (o : Option ℕ) → ((k : ℕ) → Served before lane (after_settling most answers js now (after_step answers js (In.LinkDown k) now v))) →
            Served before lane (elim o [ None ↦ v | Some k ↦ after_settling most answers js now (after_step answers js (In.LinkDown k) now v) ])
        go None f = g
        go (Some k) f = f k

    pub input_keeps : (js : List ℕ) (input : Input) (now : ℕ) (v : Serving) → Served before lane v → Served before lane (after_input answers js input now v)
    unfolding after_input
    input_keeps js input now v g = settling_keeps (length js) js now (after_step answers js input now v) (step_keeps js input now v g)

  -- no packet was offered yet
  abbrev pub SendsNothingYet : Serving → Type 0
  SendsNothingYet v = steps_of_offers n v.offers ≡ []

  -- the steps of the item itself come before those of its offers
  quiet_steps : (before : List MachineStep) (v : Serving) → SendsNothingYet v → made (steps_of_offers n v.offers) before ≡ before
  quiet_steps before v q = ap (λ ss. made ss before) q

  pub down_keeps : (before : List MachineStep) (answers : Answers) (lane : List Item) (js : List ℕ) (k now : ℕ) (v : Serving) (life : Life) → SendsNothingYet v → v.seat.current k ≡ Some life → Served before lane v → Served (Close n k life ∷ before) lane (after_down answers js k now v)
  down_keeps before answers lane js k now v life q on g =
      input_keeps (Close n k life ∷ before) answers lane js (In.LinkDown k) now (with_current v k None)
      (subst (λ ss. AllEndsFollow ss (end_views (after_serving w n lane (with_current v k None))) w.datagrams seen) (sym (quiet_steps (Close n k life ∷ before) v q))
      (life_closed before lane v (with_current v k None) k life on (λ b. refl)
      (subst (λ ss. AllEndsFollow ss (end_views (after_serving w n lane v)) w.datagrams seen) (quiet_steps before v q) g)))

  pub old_down_keeps : (before : List MachineStep) (answers : Answers) (lane : List Item) (js : List ℕ) (k now : ℕ) (v : Serving) (o : Option Life) → SendsNothingYet v → v.seat.current k ≡ o → Served before lane v → Served (made (steps_of_end n k o) before) lane (after_old_down answers js k now v o)
  old_down_keeps before answers lane js k now v None q e g = g
  old_down_keeps before answers lane js k now v (Some life) q e g = down_keeps before answers lane js k now v life q e g

  is_current_true : (l : Life) (o : Option Life) → is_current l o ≡ true → o ≡ Some l
  is_current_true l None e = absurd (true≢false (sym e))
  is_current_true l (Some j) e = ap Some (sym (same_true l j e))

  is_current_false : (l : Life) (o : Option Life) → is_current l o ≡ false → o ≢ Some l
  is_current_false l o e q = true≢false (sym (subst (λ x. is_current l x ≡ true) (sym q) (same_refl l)) ∙ e)

  -- an item of the link to k, at the front of the queue
  module _ (before : List MachineStep) (lane lane' : List Item) (k : ℕ) (what : What) (front : (b : ℕ) → arrivals_of ks b lane ≡ arrivals_in b (Some k) what ++ arrivals_of ks b lane') where
    front_here : arrivals_of ks k lane ≡ arrival_in what ∷ arrivals_of ks k lane'
    front_here = front k ∙ ap (λ (t : Bool). (if t then arrival_in what ∷ [] else []) ++ arrivals_of ks k lane') (eq-eqb k k refl)

    front_off : (b : ℕ) → nat_eq b k ≡ false → arrivals_of ks b lane' ≡ arrivals_of ks b lane
    front_off b e = sym (front b ∙ ap (λ (t : Bool). (if t then arrival_in what ∷ [] else []) ++ arrivals_of ks b lane') (turned b k e))

    abbrev rest_of : List Arrival
    rest_of = arrivals_of ks k lane' ++ map arrival_of (w.ends n k).events

    coming_here : (v : Serving) (x : Arrival) → arrival_in what ≡ x → (seen_at k v (arrivals_of ks k lane)).coming ≡ x ∷ rest_of
    coming_here v x e = ap (λ s. s ++ map arrival_of (w.ends n k).events) (front_here ∙ ap (λ y. y ∷ arrivals_of ks k lane') e)

    off_same : (v : Serving) (b : ℕ) → nat_eq b k ≡ false → seen_at b v (arrivals_of ks b lane') ≡ seen_at b v (arrivals_of ks b lane)
    off_same v b e = ap (λ s. seen_at b v s) (front_off b e)

    pub pass_keeps : (v : Serving) → arrival_in what ≡ OtherComes → Served before lane v → Served before lane' v
    pass_keeps v e g =
        let u : EndView = seen_at k v (arrivals_of ks k lane) in
        no_step (made (steps_of_offers n v.offers) before) (end_views (after_serving w n lane v)) (end_views (after_serving w n lane' v)) w.datagrams seen n k u (record u { coming = rest_of })
        (serve_changed lane lane' v v k (record u { coming = rest_of }) (off_same v) refl) g
        (λ h. passes u (machine_after (made (steps_of_offers n v.offers) before) n k) (machine_after (made (steps_of_offers n v.offers) before) k n).sent (seen_at_other seen n k) rest_of (coming_here v OtherComes e) h)

    pub skip_keeps : (v : Serving) (l : Life) (p : Packet) → arrival_in what ≡ PacketComes l p → v.seat.current k ≢ Some l → Served before lane v → Served before lane' v
    skip_keeps v l p e o g =
        let u : EndView = seen_at k v (arrivals_of ks k lane) in
        no_step (made (steps_of_offers n v.offers) before) (end_views (after_serving w n lane v)) (end_views (after_serving w n lane' v)) w.datagrams seen n k u (record u { coming = rest_of })
        (serve_changed lane lane' v v k (record u { coming = rest_of }) (off_same v) refl) g
        (λ h. skips u (machine_after (made (steps_of_offers n v.offers) before) n k) (machine_after (made (steps_of_offers n v.offers) before) k n).sent (seen_at_other seen n k) l p rest_of (coming_here v (PacketComes l p) e) o h)

    pub up_keeps : (v : Serving) (l : Life) → arrival_in what ≡ LifeComes l → Served before lane v → Served before lane' (with_current v k (Some l))
    up_keeps v l e g =
        let u : EndView = seen_at k v (arrivals_of ks k lane) in
        no_step (made (steps_of_offers n v.offers) before) (end_views (after_serving w n lane v)) (end_views (after_serving w n lane' (with_current v k (Some l)))) w.datagrams seen n k u (record u { coming = rest_of; current = Some l })
        (serve_changed lane lane' v (with_current v k (Some l)) k (record u { coming = rest_of; current = Some l })
        (λ b o. ap (λ x. record (seen_at b v (arrivals_of ks b lane')) { current = x }) (put_one_there v.seat.current k (Some l) b o) ∙ off_same v b o)
        (ap (λ x. record u { coming = rest_of; current = x }) (put_one_here v.seat.current k (Some l)))) g
        (λ h. ups u (machine_after (made (steps_of_offers n v.offers) before) n k) (machine_after (made (steps_of_offers n v.offers) before) k n).sent (seen_at_other seen n k) l rest_of (coming_here v (LifeComes l) e) h)

    pub take_keeps : (v : Serving) (l : Life) (p : Packet) → SendsNothingYet v → arrival_in what ≡ PacketComes l p → v.seat.current k ≡ Some l → Served before lane v → Served (Take n k l p ∷ before) lane' (record v { steps = v.steps ++ record { from = k; parcel = parcel_of l p } ∷ [] })
    take_keeps v l p quiet e on g =
        let u : EndView = seen_at k v (arrivals_of ks k lane) in
        let s : Step = record { from = k; parcel = parcel_of l p } in
        let v' : Serving = record v { steps = v.steps ++ s ∷ [] } in
        subst (λ ss. AllEndsFollow ss (end_views (after_serving w n lane' v')) w.datagrams seen) (sym (quiet_steps (Take n k l p ∷ before) v quiet))
        (taking_follows before (end_views (after_serving w n lane v)) (end_views (after_serving w n lane' v')) w.datagrams seen n k u l p rest_of (coming_here v (PacketComes l p) e) on
        (serve_changed lane lane' v v' k (record u { coming = rest_of; taken = u.taken ++ parcel_of l p ∷ [] })
        (λ b o. ap (λ t. record (seen_at b v (arrivals_of ks b lane')) { taken = t }) (taken_off v s b o) ∙ off_same v b o)
        (ap (λ t. record u { coming = rest_of; taken = t }) (taken_on v s)))
        (subst (λ ss. AllEndsFollow ss (end_views (after_serving w n lane v)) w.datagrams seen) (quiet_steps before v quiet) g))
      where
        taken_off : (v : Serving) (s : Step) (b : ℕ) → nat_eq b k ≡ false → w.steps n b ++ stepped_from b (v.steps ++ record { from = k; parcel = parcel_of l p } ∷ []) ≡ w.steps n b ++ stepped_from b v.steps
        taken_off v s b o =
            ap (λ ys. w.steps n b ++ ys) (stepped-push b v.steps (record { from = k; parcel = parcel_of l p })
            ∙ ap (λ (t : Bool). stepped_from b v.steps ++ (if t then parcel_of l p ∷ [] else [])) (turned b k o) ∙ append-nil (stepped_from b v.steps))

        taken_on : (v : Serving) (s : Step) → w.steps n k ++ stepped_from k (v.steps ++ record { from = k; parcel = parcel_of l p } ∷ []) ≡ (w.steps n k ++ stepped_from k v.steps) ++ parcel_of l p ∷ []
        taken_on v s =
            ap (λ ys. w.steps n k ++ ys) (stepped-push k v.steps (record { from = k; parcel = parcel_of l p }) ∙ ap (λ (t : Bool). stepped_from k v.steps ++ (if t then parcel_of l p ∷ [] else [])) (eq-eqb k k refl))
            ∙ sym (append_assoc (w.steps n k) (stepped_from k v.steps) (parcel_of l p ∷ []))

  link_item_keeps : (before : List MachineStep) (answers : Answers) (lane lane' : List Item) (k now : ℕ) (what : What) → ((b : ℕ) → arrivals_of ks b lane ≡ arrivals_in b (Some k) what ++ arrivals_of ks b lane') →
      (v : Serving) → SendsNothingYet v → Served before lane v → Served (made (steps_of_link_item n k (v.seat.current k) what) before) lane' (after_link_item answers ks k now what v)
  unfolding after_link_item
  link_item_keeps before answers lane lane' k now (Tells.Up l) front v q g =
      let v' : Serving = after_old_down answers ks k now v (v.seat.current k) in
      let past : List MachineStep = made (steps_of_end n k (v.seat.current k)) before in
      input_keeps past answers lane' ks (In.LinkUp k) now (with_current v' k (Some l))
      (up_keeps past lane lane' k (Tells.Up l) front v' l refl (old_down_keeps before answers lane ks k now v (v.seat.current k) q refl g))
  link_item_keeps before answers lane lane' k now (Tells.Packet l p) front v q g = go (is_current l (v.seat.current k)) refl
    where
      go : (b : Bool) → is_current l (v.seat.current k) ≡ b → Served (made (if b then Take n k l p ∷ [] else []) before) lane' (if b then after_packet answers ks k l p now v else v)
      go true t =
          input_keeps (Take n k l p ∷ before) answers lane' ks (In.Packet k p) now (record v { steps = v.steps ++ record { from = k; parcel = parcel_of l p } ∷ [] })
          (take_keeps before lane lane' k (Tells.Packet l p) front v l p q refl (is_current_true l (v.seat.current k) t) g)
      go false t = skip_keeps before lane lane' k (Tells.Packet l p) front v l p refl (is_current_false l (v.seat.current k) t) g
  link_item_keeps before answers lane lane' k now (Tells.Down l r) front v q g = go (is_current l (v.seat.current k)) refl
    where
      passed : Served before lane' v
      passed = pass_keeps before lane lane' k (Tells.Down l r) front v refl g

      go : (b : Bool) → is_current l (v.seat.current k) ≡ b → Served (made (if b then Close n k l ∷ [] else []) before) lane' (if b then after_down answers ks k now v else if is_current l (v.seat.pending k) then with_pending v k None else v)
      go true t = down_keeps before answers lane' ks k now v l q (is_current_true l (v.seat.current k) t) passed
      go false t = cond_both (is_current l (v.seat.pending k)) _ _ (Served before lane') (λ _. pending_quiet before lane' v k None passed) (λ _. passed)
  link_item_keeps before answers lane lane' k now (Tells.Need m) front v q g = input_keeps before answers lane' ks (In.Need m) now v (pass_keeps before lane lane' k (Tells.Need m) front v refl g)
  link_item_keeps before answers lane lane' k now (Tells.Cut j) front v q g = pass_keeps before lane lane' k (Tells.Cut j) front v refl g
  link_item_keeps before answers lane lane' k now Tells.Beat front v q g = pass_keeps before lane lane' k Tells.Beat front v refl g
  link_item_keeps before answers lane lane' k now Tells.Show front v q g = pass_keeps before lane lane' k Tells.Show front v refl g
  link_item_keeps before answers lane lane' k now (Tells.Status status) front v q g = pass_keeps before lane lane' k (Tells.Status status) front v refl g
  link_item_keeps before answers lane lane' k now Tells.Quit front v q g = pass_keeps before lane lane' k Tells.Quit front v refl g

  -- a cut that is offered changes no current session, and is not a step
  cut_quiet : (answers : Answers) (v : Serving) (j : ℕ) (o : Option Life) → SendsNothingYet v → SendsNothingYet (after_cut_tried answers v j o) × ((after_cut_tried answers v j o).seat.current ≡ v.seat.current)
  cut_quiet answers v j None q = (q, refl)
  cut_quiet answers v j (Some l) q =
      cond_both (answers v.offers j) _ _ (λ (x : Serving). SendsNothingYet x × (x.seat.current ≡ v.seat.current))
      (λ _. (offers_quiet v.offers (record { to = j; cargo = Gives.Cut l; put = true }) q refl, refl)) (λ _. (offers_quiet v.offers (record { to = j; cargo = Gives.Cut l; put = false }) q refl, refl))
    where
      offers_quiet : (offers : List Offer) (o : Offer) → steps_of_offers n offers ≡ [] → steps_of_cargo n o.to o.cargo o.put ≡ [] → steps_of_offers n (offers ++ o ∷ []) ≡ []
      offers_quiet [] o q e = append-nil (steps_of_cargo n o.to o.cargo o.put) ∙ e
      offers_quiet (x ∷ offers) o q e = go (steps_of_cargo n x.to x.cargo x.put) q (offers_quiet offers o)
        where
          go : (xs : List MachineStep) → xs ++ steps_of_offers n offers ≡ [] → (steps_of_offers n offers ≡ [] → steps_of_cargo n o.to o.cargo o.put ≡ [] → steps_of_offers n (offers ++ o ∷ []) ≡ []) → xs ++ steps_of_offers n (offers ++ o ∷ []) ≡ []
          go [] q again = again q e
          go (y ∷ ys) q again = absurd (cc)

  life_cut_keeps : (before : List MachineStep) (answers : Answers) (lane : List Item) (js : List ℕ) (k now : ℕ) (v : Serving) (o : Option Life) → SendsNothingYet v → v.seat.current k ≡ o → Served before lane v → Served (made (steps_of_end n k o) before) lane (after_life_cut answers js k now v o)
  life_cut_keeps before answers lane js k now v None q e g = g
  life_cut_keeps before answers lane js k now v (Some life) q e g =
      let asked : Serving = with_pending v k (Some life) in
      let c = cut_quiet answers asked k (Some life) q in
      down_keeps before answers lane js k now (after_cut_asked answers v k life) life c.0 (ap (λ (f : ℕ → Option Life). f k) c.1 ∙ e)
      (cut_tried_keeps before answers lane asked k (Some life) (pending_quiet before lane v k (Some life) g))

  other_item_keeps : (before : List MachineStep) (answers : Answers) (lane lane' : List Item) (now : ℕ) (what : What) → ((b : ℕ) → arrivals_of ks b lane' ≡ arrivals_of ks b lane) →
      (v : Serving) → SendsNothingYet v → Served before lane v → Served (made (steps_of_other_item n ks v.seat.current what) before) lane' (after_other_item answers ks now what v)
  unfolding after_other_item
  other_item_keeps before answers lane lane' now what e v q g = go what
    where
      past : Served before lane' v
      past = served_same (made (steps_of_offers n v.offers) before) lane lane' v v (λ b. ap (λ s. seen_at b v s) (e b)) g

      cut : (k : ℕ) (b : Bool) → Served (made (if b then steps_of_end n k (v.seat.current k) else []) before) lane' (if b then after_life_cut answers ks k now v (v.seat.current k) else v)
      cut k true = life_cut_keeps before answers lane' ks k now v (v.seat.current k) q refl past
      cut k false = past

      go : (x : What) → Served (made (steps_of_other_item n ks v.seat.current x) before) lane' (after_other_item answers ks now x v)
      go (Tells.Cut k) = cut k (has_number k ks)
      go (Tells.Need m) = input_keeps before answers lane' ks (In.Need m) now v past
      go (Tells.Up l) = past
      go (Tells.Packet l p) = past
      go (Tells.Down l r) = past
      go Tells.Beat = past
      go Tells.Show = past
      go (Tells.Status status) = past
      go Tells.Quit = past

  cuts_quiet : (answers : Answers) (js : List ℕ) (v : Serving) → SendsNothingYet v → SendsNothingYet (after_cuts_tried answers js v) × ((after_cuts_tried answers js v).seat.current ≡ v.seat.current)
  unfolding after_cuts_tried
  cuts_quiet answers [] v q = (q, refl)
  cuts_quiet answers (j ∷ js) v q =
      let a = cut_quiet answers v j (v.seat.pending j) q in
      let b = cuts_quiet answers js (after_cut_tried answers v j (v.seat.pending j)) a.0 in
      (b.0, b.1 ∙ a.1)

  pub serving_keeps : (before : List MachineStep) (answers : Answers) (item : Item) (items : List Item) → Served before (item ∷ items) (begin_serving (w.seats n)) →
      Served (made (steps_of_item n ks (slice_get ks item.seat) (w.seats n).current item.what) before) items (serving_of answers ks (w.seats n) item)
  unfolding serving_of
  serving_keeps before answers item items g = go (slice_get ks item.seat) refl
    where
      v : Serving
      v = after_cuts_tried answers ks (begin_serving (w.seats n))

      go : (o : Option ℕ) → slice_get ks item.seat ≡ o → Served (made (steps_of_item n ks o (w.seats n).current item.what) before) items (after_item_of answers ks o item.now item.what (after_cuts_tried answers ks (begin_serving (w.seats n))))
      go (Some k) e =
          let q = cuts_quiet answers ks (begin_serving (w.seats n)) refl in
          subst (λ (f : ℕ → Option Life). Served (made (steps_of_link_item n k (f k) item.what) before) items (after_link_item answers ks k item.now item.what (after_cuts_tried answers ks (begin_serving (w.seats n))))) q.1
          (link_item_keeps before answers (item ∷ items) items k item.now item.what (λ b. ap (λ s. arrivals_in b s item.what ++ arrivals_of ks b items) e) (after_cuts_tried answers ks (begin_serving (w.seats n))) q.0
          (cuts_tried_keep before answers (item ∷ items) ks (begin_serving (w.seats n)) g))
      go None e =
          let q = cuts_quiet answers ks (begin_serving (w.seats n)) refl in
          subst (λ (f : ℕ → Option Life). Served (made (steps_of_other_item n ks f item.what) before) items (after_other_item answers ks item.now item.what (after_cuts_tried answers ks (begin_serving (w.seats n))))) q.1
          (other_item_keeps before answers (item ∷ items) items item.now item.what (λ b. sym (ap (λ s. arrivals_in b s item.what ++ arrivals_of ks b items) e)) (after_cuts_tried answers ks (begin_serving (w.seats n))) q.0
          (cuts_tried_keep before answers (item ∷ items) ks (begin_serving (w.seats n)) g))

  -- the world before the item is taken
  begins : (steps : List MachineStep) (items : List Item) → w.items n ≡ items → AllEndsFollow steps (end_views w) w.datagrams seen → Served steps items (begin_serving (w.seats n))
  begins steps items q g = same_views steps (end_views w) (end_views (after_serving w n items (begin_serving (w.seats n)))) w.datagrams seen (λ a b. there a b (cases_Bool (nat_eq a n))) g
    where
      here : (b : ℕ) → seen_at b (begin_serving (w.seats n)) (arrivals_of ks b items) ≡ end_views w n b
      here b =
          ap (λ is. seen_at b (begin_serving (w.seats n)) (arrivals_of ks b is)) (sym q)
          ∙ ap (λ xs. view_of (settings w n b) (w.ends n b) (w.files n b) ((w.seats n).current b) (arrivals_of ks b (w.items n)) xs (w.put n b ++ []) (w.steps n b ++ [])) (append-nil (w.cargoes n b))
          ∙ ap₂ (λ xs ys. view_of (settings w n b) (w.ends n b) (w.files n b) ((w.seats n).current b) (arrivals_of ks b (w.items n)) (w.cargoes n b) xs ys) (append-nil (w.put n b)) (append-nil (w.steps n b))

      there : (a b : ℕ) → (nat_eq a n ≡ true) ⊎ (nat_eq a n ≡ false) → end_views (after_serving w n items (begin_serving (w.seats n))) a b ≡ end_views w a b
      there a b (inl t) = subst (λ x. end_views (after_serving w n items (begin_serving (w.seats n))) x b ≡ end_views w x b) (sym (eqb-true a n t)) (look_at items (begin_serving (w.seats n)) b ∙ here b)
      there a b (inr t) = look_off items (begin_serving (w.seats n)) a b t

  pub turn_keeps : (steps : List MachineStep) (c : Choice) → AllEndsFollow steps (end_views w) w.datagrams seen → (items : List Item) → w.items n ≡ items →
      AllEndsFollow (made (steps_of_turn w c n items) steps) (end_views (after_turn w c n items)) (after_turn w c n items).datagrams seen
  turn_keeps steps c g [] q = g
  turn_keeps steps c g (item ∷ items) q =
      subst (λ ss. AllEndsFollow ss (end_views (after_turn w c n (item ∷ items))) w.datagrams seen)
      (sym (made-append (steps_of_item n ks (slice_get ks item.seat) (w.seats n).current item.what) (steps_of_offers n (serving_of c.answers ks (w.seats n) item).offers) steps))
      (serving_keeps steps c.answers item items (begins steps (item ∷ items) q g))
