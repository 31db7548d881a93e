-- While an item is served, the core refuses nothing but a need.
use Rattle.std.proofs.Common.{◌≡◌, ◌≢◌, ℕ, zero, suc, Bool, true, false, true≢false, ◌&&◌, ◌||◌, ◌⊎◌, inl, inr, List, [], ◌∷◌, ◌++◌, length, Option, Some, None, nat_eq, if◌then◌else◌, refl, sym, ap, ◌∙◌, subst, append_assoc, append-nil, eqb-true, eq-eqb}
use Rattle.std.proofs.lemmas.Bool.{cond_both, cases_Bool, false_from_ne_true, or_right}
use Rattle.std.specs.Prelude.{slice_get}
use Rattle.tora_packet.specs.declared.Packet.{Packet}
use Rattle.tora_arq.specs.declared.life.Life.{Life}
use Rattle.tora_core.specs.declared.Input.{Input}
use Rattle.tora_core.specs.declared.Input.TheVariants as In
use Rattle.tora_core.specs.declared.errors.StepError.{StepError}
use Rattle.tora_core.specs.Numbers.{has_number}
use Rattle.tora_core.specs.CoreRun.{CoreView, is_from, refusal_of, core_after, sends_of}
use Rattle.tora_seat.specs.declared.what.What.{What}
use Rattle.tora_seat.specs.declared.what.What.TheVariants as Tells
use Rattle.tora_seat.specs.declared.answer.Answer.TheVariants as Says
use Rattle.tora_seat.specs.declared.item.Item.{Item}
use Rattle.tora_seat.specs.declared.cargo.Cargo.{Cargo}
use Rattle.tora_seat.specs.declared.cargo.Cargo.TheVariants as Gives
use Rattle.tora_seat.specs.Serving.{SeatState, Offer, Parcel, Step, Serving, Answers, put_one, with_current, with_pending, after_cut_tried, after_cuts_tried, after_sent, after_broadcast, after_broadcasts, accepting, after_answer, after_step, first_cut, after_settling, after_input, is_current, after_down, after_old_down, after_cut_asked, after_life_cut, after_up, after_packet, after_link_item, after_other_item, after_item_of, begin_serving, serving_of, put_to, stepped_from}
use Rattle.tora_world.specs.Lists.{parcel_of, Each}
use Rattle.tora_world.specs.Refusals.{packet_in, packets_accepted, packets_in}
use Rattle.tora_world.proofs.PacketLists.{same_true}
use Rattle.tora_world.proofs.Events.{put_one_here, put_one_there}
use Rattle.tora_world.proofs.EndViews.{map-append}
use Rattle.tora_seat.specs.Serves.{IsCut}
use Rattle.tora_world.specs.Layers.{CoreLaws, SeatLaws}
use Rattle.tora_world.proofs.LinksUp.{up_accepted, down_accepted}
use Rattle.tora_world.proofs.OwnHeights.{IsOwnView, IsSentBy, views_own, sends_own}
use Rattle.tora_seat.proofs.Calm.{tried_current, accepted_step, accepted_up}

accepted-push : (k : ℕ) (is : List (Input × ℕ)) (input : Input) (now : ℕ) → packets_accepted k (is ++ (input, now) ∷ []) ≡ packets_accepted k is ++ packet_in k input
accepted-push k [] input now = append-nil (packet_in k input)
accepted-push k ((i, t) ∷ is) input now = ap (λ xs. packet_in k i ++ xs) (accepted-push k is input now) ∙ sym (append_assoc (packet_in k i) (packets_accepted k is) (packet_in k input))

pub accepted-append : (k : ℕ) (is js : List (Input × ℕ)) → packets_accepted k (is ++ js) ≡ packets_accepted k is ++ packets_accepted k js
accepted-append k [] js = refl
accepted-append k ((i, t) ∷ is) js = ap (λ xs. packet_in k i ++ xs) (accepted-append k is js) ∙ sym (append_assoc (packet_in k i) (packets_accepted k is) (packets_accepted k js))

stepped-push : (k : ℕ) (steps : List Step) (s : Step) → stepped_from k (steps ++ s ∷ []) ≡ stepped_from k steps ++ (if nat_eq s.from k then s.parcel ∷ [] else [])
stepped-push k [] s = append-nil (if nat_eq s.from k then s.parcel ∷ [] else [])
stepped-push k (x ∷ steps) s =
    ap (λ ys. (if nat_eq x.from k then x.parcel ∷ [] else []) ++ ys) (stepped-push k steps s)
    ∙ sym (append_assoc (if nat_eq x.from k then x.parcel ∷ [] else []) (stepped_from k steps) (if nat_eq s.from k then s.parcel ∷ [] else []))

pub each_push : {A : Type 0} (P : A → Type 0) (xs : List A) (y : A) → Each P xs → P y → Each P (xs ++ y ∷ [])
each_push P [] y a p = (p, tt)
each_push P (x ∷ xs) y a p = (a.0, each_push P xs y a.1 p)

-- an outbound message whose packet, if it has one, has the property
abbrev pub IsCargoWith : (Packet → Type 0) → Cargo → Type 0
IsCargoWith P (Gives.Packet life packet) = P packet
IsCargoWith P (Gives.Cut life) = Unit {0}

-- an outbound message whose packet, if it has one, may come from this node
abbrev pub IsCargoOf : ℕ → Cargo → Type 0
IsCargoOf n cargo = IsCargoWith (IsSentBy n) cargo

abbrev pub AreOffersOf : ℕ → List Offer → Type 0
AreOffersOf n offers = Each (λ (o : Offer). IsCargoOf n o.cargo) offers

pub put_with : (P : Cargo → Type 0) (k : ℕ) (offers : List Offer) → Each (λ (o : Offer). P o.cargo) offers → Each P (put_to k offers)
put_with P k [] h = tt
put_with P k (o ∷ offers) h = go (nat_eq o.to k && o.put) (put_with P k offers h.1)
  where
    go : (b : Bool) → Each P (put_to k offers) → Each P ((if b then o.cargo ∷ [] else []) ++ put_to k offers)
    go true r = (h.0, r)
    go false r = r

pub put_of : (n k : ℕ) (offers : List Offer) → AreOffersOf n offers → Each (IsCargoOf n) (put_to k offers)
put_of n k offers h = put_with (IsCargoOf n) k offers h

pub current_is : (l : Life) (o : Option Life) → is_current l o ≡ true → o ≡ Some l
current_is l None e = absurd (true≢false (sym e))
current_is l (Some j) e = ap Some (sym (same_true l j e))

-- a number at a place is in the list
pub at_in : (ks : List ℕ) (i k : ℕ) → slice_get ks i ≡ Some k → has_number k ks ≡ true
at_in [] i k e = absurd (cc)
at_in (x ∷ xs) zero k e = let q : x ≡ k = cc in ap (λ b. b || has_number k xs) (eq-eqb x k q)
at_in (x ∷ xs) (suc i) k e = ap (λ b. nat_eq x k || b) (at_in xs i k e) ∙ or_right (nat_eq x k) true refl

module _ (cores : CoreLaws) (seats : SeatLaws) (n : ℕ) (ks : List ℕ) (answers : Answers) (Excuse : StepError → Type 0) where
  -- each neighbour with a current session has its link up, and the core has refused nothing without an excuse
  pub record Sound (v : Serving) : Type 0 where
    pub near : (j : ℕ) → has_number j ks ≡ true → has_number j v.seat.core.neighbours ≡ true
    pub up : (j : ℕ) (l : Life) → has_number j ks ≡ true → v.seat.current j ≡ Some l → has_number j v.seat.core.up ≡ true
    pub silent : (e : StepError) → v.answer ≡ Says.Refused e → Excuse e
    pub agreed : (k : ℕ) → packets_accepted k v.inputs ≡ packets_in (stepped_from k v.steps)
    pub own : Each (IsOwnView n) v.seat.core.views
    pub sends : AreOffersOf n v.offers

  -- ---- outbound messages

  cut_sound : (v : Serving) (k : ℕ) (o : Option Life) → Sound v → Sound (after_cut_tried answers v k o)
  cut_sound v k None h = h
  cut_sound v k (Some l) h =
      cond_both (answers v.offers k) _ _ Sound
      (λ _. record { near = h.near; up = h.up; silent = h.silent; agreed = h.agreed; own = h.own; sends = each_push (λ (o : Offer). IsCargoOf n o.cargo) v.offers (record { to = k; cargo = Gives.Cut l; put = true }) h.sends tt })
      (λ _. record { near = h.near; up = h.up; silent = h.silent; agreed = h.agreed; own = h.own; sends = each_push (λ (o : Offer). IsCargoOf n o.cargo) v.offers (record { to = k; cargo = Gives.Cut l; put = false }) h.sends tt })

  cuts_sound : (js : List ℕ) (v : Serving) → Sound v → Sound (after_cuts_tried answers js v)
  unfolding after_cuts_tried
  cuts_sound [] v h = h
  cuts_sound (k ∷ js) v h = cuts_sound js (after_cut_tried answers v k (v.seat.pending k)) (cut_sound v k (v.seat.pending k) h)

  -- one current session fewer
  fewer_current : (f : ℕ → Option Life) (k j : ℕ) (l : Life) → put_one f k None j ≡ Some l → f j ≡ Some l
  fewer_current f k j l e = go (cases_Bool (nat_eq j k))
    where
      go : (nat_eq j k ≡ true) ⊎ (nat_eq j k ≡ false) → f j ≡ Some l
      go (inl t) = absurd (let q : None ≡ Some l = sym (ap (λ b. if b then None else f j) t) ∙ e in cc)
      go (inr t) = sym (ap (λ b. if b then None else f j) t) ∙ e

  sent_sound : (packet : Packet) → IsSentBy n packet → (v : Serving) (k : ℕ) (o : Option Life) → Sound v → Sound (after_sent answers packet v k o)
  sent_sound packet from v k None h = h
  sent_sound packet from v k (Some l) h =
      cond_both (answers v.offers k) _ _ Sound
      (λ _. record { near = h.near; up = h.up; silent = h.silent; agreed = h.agreed; own = h.own; sends = each_push (λ (o : Offer). IsCargoOf n o.cargo) v.offers (record { to = k; cargo = Gives.Packet l packet; put = true }) h.sends from })
      (λ _. record {
        near = h.near;
        up = λ j i m e. h.up j i m (fewer_current v.seat.current k j i e);
        silent = h.silent;
        agreed = h.agreed;
        own = h.own;
        sends = each_push (λ (o : Offer). IsCargoOf n o.cargo) v.offers (record { to = k; cargo = Gives.Packet l packet; put = false }) h.sends from;
      })

  broadcast_sound : (packet : Packet) → IsSentBy n packet → (js : List ℕ) (v : Serving) → Sound v → Sound (after_broadcast answers packet js v)
  unfolding after_broadcast
  broadcast_sound packet from [] v h = h
  broadcast_sound packet from (k ∷ js) v h = broadcast_sound packet from js (after_sent answers packet v k (v.seat.current k)) (sent_sound packet from v k (v.seat.current k) h)

  broadcasts_sound : (packets : List Packet) (v : Serving) → Each (IsSentBy n) packets → Sound v → Sound (after_broadcasts answers ks packets v)
  unfolding after_broadcasts
  broadcasts_sound [] v from h = h
  broadcasts_sound (packet ∷ packets) v from h = broadcasts_sound packets (after_broadcast answers packet ks v) from.1 (broadcast_sound packet from.0 ks v h)

  -- ---- inputs

  -- the conditions when the core takes an input, apart from those on the links that are up and on packets
  record Ready (v : Serving) : Type 0 where
    near : (j : ℕ) → has_number j ks ≡ true → has_number j v.seat.core.neighbours ≡ true
    silent : (e : StepError) → v.answer ≡ Says.Refused e → Excuse e
    own : Each (IsOwnView n) v.seat.core.views
    sends : AreOffersOf n v.offers

  ready : (v : Serving) → Sound v → Ready v
  ready v h = record { near = h.near; silent = h.silent; own = h.own; sends = h.sends }

  accepts : (v : Serving) (input : Input) (now : ℕ) → refusal_of v.seat.core input ≡ None → Ready v →
      ((j : ℕ) (l : Life) → has_number j ks ≡ true → v.seat.current j ≡ Some l → has_number j (core_after v.seat.core input now).up ≡ true) →
      ((k : ℕ) → packets_accepted k v.inputs ++ packet_in k input ≡ packets_in (stepped_from k v.steps)) → Sound (after_step answers ks input now v)
  accepts v input now ok h up agreed =
      subst Sound (sym (accepted_step answers ks v input now ok))
      (broadcasts_sound (sends_of v.seat.core input now) (accepting v input now) (sends_own n v.seat.core input now h.own)
      (record {
        near = λ j m. ap (λ ns. has_number j ns) (cores.neighbours v.seat.core input now) ∙ h.near j m;
        up = up;
        silent = h.silent;
        agreed = λ k. accepted-push k v.inputs input now ∙ agreed k;
        own = views_own n v.seat.core input now h.own;
        sends = h.sends;
      }))

  -- an input without a packet
  no_packet : (v : Serving) (input : Input) → ((k : ℕ) → packet_in k input ≡ []) → ((k : ℕ) → packets_accepted k v.inputs ≡ packets_in (stepped_from k v.steps)) → (k : ℕ) → packets_accepted k v.inputs ++ packet_in k input ≡ packets_in (stepped_from k v.steps)
  no_packet v input none agreed k = ap (λ xs. packets_accepted k v.inputs ++ xs) (none k) ∙ append-nil (packets_accepted k v.inputs) ∙ agreed k

  -- the link goes down after its session is no longer current
  down_sound : (v : Serving) (k now : ℕ) → has_number k ks ≡ true → has_number k v.seat.core.up ≡ true → v.seat.current k ≡ None → Sound v → Sound (after_step answers ks (In.LinkDown k) now v)
  down_sound v k now m u none h =
      accepts v (In.LinkDown k) now (down_accepted cores v.seat.core k (h.near k m) u) (ready v h)
      (λ j l i e. cores.others_at_down v.seat.core j k now (other j l e) ∙ h.up j l i e)
      (no_packet v (In.LinkDown k) (λ j. refl) h.agreed)
    where
      other : (j : ℕ) (l : Life) → v.seat.current j ≡ Some l → j ≢ k
      other j l e q = let z : None ≡ Some l = sym none ∙ ap v.seat.current (sym q) ∙ e in absurd (cc)

  settling_sound : (most now : ℕ) (v : Serving) → Sound v → Sound (after_settling most answers ks now v)
  unfolding after_settling
  settling_sound zero now v h = h
  settling_sound (suc most) now v h = go (first_cut v.seat ks) refl (λ x y. settling_sound most now x y)
    where
      go : (r : Option ℕ) → first_cut v.seat ks ≡ r → ((x : Serving) → Sound x → Sound (after_settling most answers ks now x)) →
          Sound (elim r [ None ↦ v | Some j ↦ after_settling most answers ks now (after_step answers ks (In.LinkDown j) now v) ])
      go None e again = h
      go (Some j) e again =
          let f = seats.next ks v.seat j e in
          again (after_step answers ks (In.LinkDown j) now v) (down_sound v j now f.neighbour f.up f.none h)

  -- a link that is down stays down
  stays_down : (k most now : ℕ) (v : Serving) → Sound v → has_number k v.seat.core.up ≡ false → has_number k (after_settling most answers ks now v).seat.core.up ≡ false
  unfolding after_settling
  stays_down k zero now v h off = off
  stays_down k (suc most) now v h off = go (first_cut v.seat ks) refl (λ x y z. stays_down k most now x y z)
    where
      go : (r : Option ℕ) → first_cut v.seat ks ≡ r → ((x : Serving) → Sound x → has_number k x.seat.core.up ≡ false → has_number k (after_settling most answers ks now x).seat.core.up ≡ false) →
          has_number k (elim r as (λ _. Serving) [ None ↦ v | Some j ↦ after_settling most answers ks now (after_step answers ks (In.LinkDown j) now v) ]).seat.core.up ≡ false
      go None e again = off
      go (Some j) e again =
          let f = seats.next ks v.seat j e in
          let ok : refusal_of v.seat.core (In.LinkDown j) ≡ None = down_accepted cores v.seat.core j (h.near j f.neighbour) f.up in
          again (after_step answers ks (In.LinkDown j) now v) (down_sound v j now f.neighbour f.up f.none h)
          (ap (λ up. has_number k up) (accepted_up answers ks v (In.LinkDown j) now ok) ∙ gone j ok (cases_Bool (nat_eq j k)))
        where
          gone : (j : ℕ) → refusal_of v.seat.core (In.LinkDown j) ≡ None → (nat_eq j k ≡ true) ⊎ (nat_eq j k ≡ false) → has_number k (core_after v.seat.core (In.LinkDown j) now).up ≡ false
          gone j ok (inl t) = subst (λ x. has_number x (core_after v.seat.core (In.LinkDown j) now).up ≡ false) (eqb-true j k t) (cores.goes v.seat.core j now ok)
          gone j ok (inr t) = cores.others_at_down v.seat.core k j now (λ q. true≢false (sym (eq-eqb j k (sym q)) ∙ t)) ∙ off

  -- the state after an item: no link has to go down
  pub record Done (v : Serving) : Type 0 where
    pub sound : Sound v
    pub settled : (j : ℕ) → ¬ IsCut ks v.seat j

  input_done : (v : Serving) (input : Input) (now : ℕ) → ((j : ℕ) → has_number j ks ≡ true → has_number j v.seat.core.neighbours ≡ true) → Sound (after_step answers ks input now v) → Done (after_input answers ks input now v)
  unfolding after_input
  input_done v input now near h = record { sound = settling_sound (length ks) now (after_step answers ks input now v) h; settled = seats.none_left answers ks input now v near }

  -- a need may be refused
  need_done : (v : Serving) (d now : ℕ) → ((e : StepError) → refusal_of v.seat.core (In.Need d) ≡ Some e → Excuse e) → Sound v → Done (after_input answers ks (In.Need d) now v)
  unfolding after_step
  need_done v d now excuse h = input_done v (In.Need d) now h.near (go (refusal_of v.seat.core (In.Need d)) refl)
    where
      go : (r : Option StepError) → refusal_of v.seat.core (In.Need d) ≡ r → Sound (after_step answers ks (In.Need d) now v)
      go None e = accepts v (In.Need d) now e (ready v h) (λ j l i c. ap (has_number j) (cores.at_need v.seat.core d now) ∙ h.up j l i c) (no_packet v (In.Need d) (λ j. refl) h.agreed)
      go (Some error) e =
          subst (λ r. Sound (after_answer answers ks (In.Need d) now v r)) (sym e)
          (record { near = h.near; up = h.up; silent = λ x y. let q : error ≡ x = cc in subst Excuse q (excuse error e); agreed = h.agreed; own = h.own; sends = h.sends })

  -- the current session of a neighbour is over
  down_step : (v : Serving) (k now : ℕ) (l : Life) → has_number k ks ≡ true → v.seat.current k ≡ Some l → Sound v → Sound (after_step answers ks (In.LinkDown k) now (with_current v k None))
  down_step v k now l m on h =
      down_sound (with_current v k None) k now m (h.up k l m on) (put_one_here v.seat.current k None)
      (record { near = h.near; up = λ j i x e. h.up j i x (fewer_current v.seat.current k j i e); silent = h.silent; agreed = h.agreed; own = h.own; sends = h.sends })

  down_done : (v : Serving) (k now : ℕ) (l : Life) → has_number k ks ≡ true → v.seat.current k ≡ Some l → Sound v → Done (after_down answers ks k now v)
  down_done v k now l m on h = input_done (with_current v k None) (In.LinkDown k) now h.near (down_step v k now l m on h)

  -- the current session of a neighbour is cut
  life_cut_done : (v : Serving) (k now : ℕ) (o : Option Life) → has_number k ks ≡ true → v.seat.current k ≡ o → Done v → Done (after_life_cut answers ks k now v o)
  life_cut_done v k now None m e d = d
  life_cut_done v k now (Some l) m e d =
      let asked : Serving = with_pending v k (Some l) in
      let h = d.sound in
      down_done (after_cut_asked answers v k l) k now l m (ap (λ (f : ℕ → Option Life). f k) (tried_current answers asked k (Some l)) ∙ e)
      (cut_sound asked k (Some l) (record { near = h.near; up = h.up; silent = h.silent; agreed = h.agreed; own = h.own; sends = h.sends }))

  down_off : (v : Serving) (k now : ℕ) (l : Life) → has_number k ks ≡ true → v.seat.current k ≡ Some l → Sound v → has_number k (after_down answers ks k now v).seat.core.up ≡ false
  unfolding after_input
  down_off v k now l m on h =
      let v' : Serving = with_current v k None in
      let s : Sound (after_step answers ks (In.LinkDown k) now v') = down_step v k now l m on h in
      let ok : refusal_of v.seat.core (In.LinkDown k) ≡ None = down_accepted cores v.seat.core k (h.near k m) (h.up k l m on) in
      stays_down k (length ks) now (after_step answers ks (In.LinkDown k) now v') s
      (ap (λ up. has_number k up) (accepted_up answers ks v' (In.LinkDown k) now ok) ∙ cores.goes v.seat.core k now ok)

  -- the old link is down at the core before a new session comes up
  old_done : (v : Serving) (k now : ℕ) (o : Option Life) → has_number k ks ≡ true → v.seat.current k ≡ o → Done v → Sound (after_old_down answers ks k now v o) × (has_number k (after_old_down answers ks k now v o).seat.core.up ≡ false)
  old_done v k now None m e d = (d.sound, false_from_ne_true (has_number k v.seat.core.up) (λ u. d.settled k (record { neighbour = m; up = u; none = e })))
  old_done v k now (Some l) m e d = ((down_done v k now l m e d.sound).sound, down_off v k now l m e d.sound)

  up_done : (v : Serving) (k now : ℕ) (life : Life) → has_number k ks ≡ true → has_number k v.seat.core.up ≡ false → Sound v → Done (after_up answers ks k life now v)
  up_done v k now life m off h =
      let v' : Serving = with_current v k (Some life) in
      let ok : refusal_of v.seat.core (In.LinkUp k) ≡ None = up_accepted cores v.seat.core k (h.near k m) off in
      input_done v' (In.LinkUp k) now h.near
      (accepts v' (In.LinkUp k) now ok (record { near = h.near; silent = h.silent; own = h.own; sends = h.sends })
      (λ j l i e. ups ok j l i e (cases_Bool (nat_eq j k)))
      (no_packet v' (In.LinkUp k) (λ j. refl) h.agreed))
    where
      ups : refusal_of v.seat.core (In.LinkUp k) ≡ None → (j : ℕ) (l : Life) → has_number j ks ≡ true → put_one v.seat.current k (Some life) j ≡ Some l → (nat_eq j k ≡ true) ⊎ (nat_eq j k ≡ false) → has_number j (core_after v.seat.core (In.LinkUp k) now).up ≡ true
      ups ok j l i e (inl t) = subst (λ x. has_number x (core_after v.seat.core (In.LinkUp k) now).up ≡ true) (sym (eqb-true j k t)) (cores.comes v.seat.core k now ok)
      ups ok j l i e (inr t) = cores.others_at_up v.seat.core j k now (λ q. true≢false (sym (eq-eqb j k q) ∙ t)) ∙ h.up j l i (sym (put_one_there v.seat.current k (Some life) j t) ∙ e)

  packet_done : (v : Serving) (k now : ℕ) (life : Life) (packet : Packet) → has_number k ks ≡ true → v.seat.current k ≡ Some life → is_from k packet ≡ true → Sound v → Done (after_packet answers ks k life packet now v)
  packet_done v k now life packet m on from h =
      let s : Step = record { from = k; parcel = parcel_of life packet } in
      let v' : Serving = record v { steps = v.steps ++ s ∷ [] } in
      input_done v' (In.Packet k packet) now h.near
      (accepts v' (In.Packet k packet) now ((cores.packet v.seat.core k packet).1 (h.near k m, h.up k life m on, from)) (record { near = h.near; silent = h.silent; own = h.own; sends = h.sends })
      (λ j l i c. ap (has_number j) (cores.at_packet v.seat.core k packet now) ∙ h.up j l i c)
      (λ j. ap (λ xs. xs ++ packet_in j (In.Packet k packet)) (h.agreed j) ∙ ap (λ xs. packets_in (stepped_from j v.steps) ++ xs) (one (nat_eq k j))
      ∙ sym (map-append (λ (x : Parcel). x.packet) (stepped_from j v.steps) (if nat_eq k j then parcel_of life packet ∷ [] else [])) ∙ ap packets_in (sym (stepped-push j v.steps s))))
    where
      one : (b : Bool) → (if b then packet ∷ [] else []) ≡ packets_in (if b then parcel_of life packet ∷ [] else [])
      one true = refl
      one false = refl

  link_item_done : (v : Serving) (k now : ℕ) (what : What) → has_number k ks ≡ true →
      ((l : Life) (p : Packet) → what ≡ Tells.Packet l p → v.seat.current k ≡ Some l → is_from k p ≡ true) → ((d : ℕ) → what ≡ Tells.Need d → (e : StepError) → refusal_of v.seat.core (In.Need d) ≡ Some e → Excuse e) → Done v → Done (after_link_item answers ks k now what v)
  unfolding after_link_item
  link_item_done v k now (Tells.Up l) m from excuse d =
      let o = old_done v k now (v.seat.current k) m refl d in
      up_done (after_old_down answers ks k now v (v.seat.current k)) k now l m o.1 o.0
  link_item_done v k now (Tells.Packet l p) m from excuse d =
      cond_both (is_current l (v.seat.current k)) _ _ Done
      (λ t. let on = current_is l (v.seat.current k) t in packet_done v k now l p m on (from l p refl on) d.sound)
      (λ _. d)
  link_item_done v k now (Tells.Down l r) m from excuse d =
      cond_both (is_current l (v.seat.current k)) _ _ Done
      (λ t. down_done v k now l m (current_is l (v.seat.current k) t) d.sound)
      (λ _. cond_both (is_current l (v.seat.pending k)) _ _ Done
      (λ _. record { sound = record { near = d.sound.near; up = d.sound.up; silent = d.sound.silent; agreed = d.sound.agreed; own = d.sound.own; sends = d.sound.sends }; settled = λ j c. d.settled j (record { neighbour = c.neighbour; up = c.up; none = c.none }) })
      (λ _. d))
  link_item_done v k now (Tells.Need m) i from excuse d = need_done v m now (excuse m refl) d.sound
  link_item_done v k now (Tells.Cut j) m from excuse d = d
  link_item_done v k now Tells.Beat m from excuse d = d
  link_item_done v k now Tells.Show m from excuse d = record { sound = record { near = d.sound.near; up = d.sound.up; silent = λ e q. absurd (cc); agreed = d.sound.agreed; own = d.sound.own; sends = d.sound.sends }; settled = λ j c. d.settled j (record { neighbour = c.neighbour; up = c.up; none = c.none }) }
  link_item_done v k now (Tells.Status status) m from excuse d = record { sound = record { near = d.sound.near; up = d.sound.up; silent = λ e q. absurd (cc); agreed = d.sound.agreed; own = d.sound.own; sends = d.sound.sends }; settled = λ j c. d.settled j (record { neighbour = c.neighbour; up = c.up; none = c.none }) }
  link_item_done v k now Tells.Quit m from excuse d = record { sound = record { near = d.sound.near; up = d.sound.up; silent = λ e q. absurd (cc); agreed = d.sound.agreed; own = d.sound.own; sends = d.sound.sends }; settled = λ j c. d.settled j (record { neighbour = c.neighbour; up = c.up; none = c.none }) }

  other_item_done : (v : Serving) (now : ℕ) (what : What) → ((d : ℕ) → what ≡ Tells.Need d → (e : StepError) → refusal_of v.seat.core (In.Need d) ≡ Some e → Excuse e) → Done v → Done (after_other_item answers ks now what v)
  unfolding after_other_item
  other_item_done v now (Tells.Need m) excuse d = need_done v m now (excuse m refl) d.sound
  other_item_done v now (Tells.Cut k) excuse d = cond_both (has_number k ks) _ _ Done (λ m. life_cut_done v k now (v.seat.current k) m refl d) (λ _. d)
  other_item_done v now (Tells.Up l) excuse d = d
  other_item_done v now (Tells.Packet l p) excuse d = d
  other_item_done v now (Tells.Down l r) excuse d = d
  other_item_done v now Tells.Beat excuse d = d
  other_item_done v now Tells.Show excuse d = record { sound = record { near = d.sound.near; up = d.sound.up; silent = λ e q. absurd (cc); agreed = d.sound.agreed; own = d.sound.own; sends = d.sound.sends }; settled = λ j c. d.settled j (record { neighbour = c.neighbour; up = c.up; none = c.none }) }
  other_item_done v now (Tells.Status status) excuse d = record { sound = record { near = d.sound.near; up = d.sound.up; silent = λ e q. absurd (cc); agreed = d.sound.agreed; own = d.sound.own; sends = d.sound.sends }; settled = λ j c. d.settled j (record { neighbour = c.neighbour; up = c.up; none = c.none }) }
  other_item_done v now Tells.Quit excuse d = record { sound = record { near = d.sound.near; up = d.sound.up; silent = λ e q. absurd (cc); agreed = d.sound.agreed; own = d.sound.own; sends = d.sound.sends }; settled = λ j c. d.settled j (record { neighbour = c.neighbour; up = c.up; none = c.none }) }

  -- offering the pending cuts changes neither the core nor a current session
  record Started (seat : SeatState) (v : Serving) : Type 0 where
    core : v.seat.core ≡ seat.core
    current : v.seat.current ≡ seat.current

  start_cut : (seat : SeatState) (v : Serving) (j : ℕ) (o : Option Life) → Started seat v → Started seat (after_cut_tried answers v j o)
  start_cut seat v j None s = s
  start_cut seat v j (Some l) s = cond_both (answers v.offers j) _ _ (Started seat) (λ _. record { core = s.core; current = s.current }) (λ _. record { core = s.core; current = s.current })

  start_cuts : (seat : SeatState) (js : List ℕ) (v : Serving) → Started seat v → Started seat (after_cuts_tried answers js v)
  unfolding after_cuts_tried
  start_cuts seat [] v s = s
  start_cuts seat (j ∷ js) v s = start_cuts seat js (after_cut_tried answers v j (v.seat.pending j)) (start_cut seat v j (v.seat.pending j) s)

  pub serving_done : (seat : SeatState) (item : Item) → Done (begin_serving seat) →
      ((k : ℕ) (l : Life) (p : Packet) → slice_get ks item.seat ≡ Some k → item.what ≡ Tells.Packet l p → seat.current k ≡ Some l → is_from k p ≡ true) → ((d : ℕ) → item.what ≡ Tells.Need d → (e : StepError) → refusal_of seat.core (In.Need d) ≡ Some e → Excuse e) → Done (serving_of answers ks seat item)
  unfolding serving_of
  serving_done seat item d from excuse = go (slice_get ks item.seat) refl
    where
      s : Started seat (after_cuts_tried answers ks (begin_serving seat))
      s = start_cuts seat ks (begin_serving seat) (record { core = refl; current = refl })

      begun : Done (after_cuts_tried answers ks (begin_serving seat))
      begun = record { sound = cuts_sound ks (begin_serving seat) d.sound; settled = λ j c. d.settled j (record { neighbour = c.neighbour; up = ap (λ (x : CoreView). has_number j x.up) (sym s.core) ∙ c.up; none = ap (λ (f : ℕ → Option Life). f j) (sym s.current) ∙ c.none }) }

      still : (d : ℕ) → item.what ≡ Tells.Need d → (e : StepError) → refusal_of (after_cuts_tried answers ks (begin_serving seat)).seat.core (In.Need d) ≡ Some e → Excuse e
      still d what e r = excuse d what e (ap (λ (x : CoreView). refusal_of x (In.Need d)) (sym s.core) ∙ r)

      go : (o : Option ℕ) → slice_get ks item.seat ≡ o → Done (after_item_of answers ks o item.now item.what (after_cuts_tried answers ks (begin_serving seat)))
      go (Some k) e =
          link_item_done (after_cuts_tried answers ks (begin_serving seat)) k item.now item.what (at_in ks item.seat k e)
          (λ l p w on. from k l p e w (sym (ap (λ (f : ℕ → Option Life). f k) s.current) ∙ on)) still begun
      go None e = other_item_done (after_cuts_tried answers ks (begin_serving seat)) item.now item.what still begun
