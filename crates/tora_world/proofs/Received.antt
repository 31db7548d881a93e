-- What a core has taken in a current session is what it has accepted from the neighbour since the link came up.
use Rattle.std.proofs.Common.{◌≡◌, ◌≢◌, ℕ, zero, suc, Bool, true, false, true≢false, ◌⊎◌, inl, inr, List, [], ◌∷◌, ◌++◌, length, Option, Some, None, nat_eq, if◌then◌else◌, refl, sym, ap, ◌∙◌, subst, append_assoc, append-nil, eqb-true, eq-eqb}
use Rattle.std.proofs.lemmas.Bool.{cond_both, cases_Bool, false_from_ne_true}
use Rattle.std.specs.Prelude.{slice_get, is_some, ◌==◌}
use Rattle.tora_packet.specs.declared.Packet.{Packet}
use Rattle.tora_arq.specs.declared.life.Life.{Life}
use Rattle.tora_core.specs.declared.Input.{Input}
use Rattle.tora_core.specs.declared.Input.TheVariants as In
use Rattle.tora_core.specs.declared.errors.StepError.{StepError}
use Rattle.tora_core.specs.Numbers.{has_number}
use Rattle.tora_core.specs.CoreRun.{CoreView, is_from, refusal_of, core_after, core_after_all, sends_of}
use Rattle.tora_seat.specs.declared.what.What.{What}
use Rattle.tora_seat.specs.declared.what.What.TheVariants as Tells
use Rattle.tora_seat.specs.declared.item.Item.{Item}
use Rattle.tora_seat.specs.Serving.{SeatState, Parcel, Step, Serving, Answers, put_one, with_current, with_pending, after_cut_tried, after_cuts_tried, after_sent, after_broadcast, after_broadcasts, accepting, after_answer, after_step, first_cut, after_settling, after_input, is_current, after_down, after_old_down, after_cut_asked, after_life_cut, after_up, after_packet, after_link_item, after_other_item, after_item_of, begin_serving, serving_of, stepped_from}
use Rattle.tora_seat.specs.Serves.{IsCut}
use Rattle.tora_world.specs.Lists.{parcel_of, packet_where, packets_of}
use Rattle.tora_world.specs.Layers.{CoreLaws, SeatLaws}
use Rattle.tora_world.proofs.PacketLists.{of-push, only_same}
use Rattle.tora_world.proofs.Events.{put_one_here, put_one_there}
use Rattle.tora_world.proofs.LinksUp.{up_accepted, down_accepted}
use Rattle.tora_world.proofs.Cores.{core_after-push}
use Rattle.tora_world.proofs.Accepted.{current_is, at_in}
use Rattle.tora_seat.proofs.Calm.{tried_current, accepted_step, accepted_up}

-- ---- the packets of a neighbour that a core has accepted since its link came up last

abbrev pub with_received : ℕ → Input → List Packet → List Packet
with_received k (In.LinkUp j) ps = if j == k then [] else ps
with_received k (In.LinkDown j) ps = ps
with_received k (In.Packet j packet) ps = if j == k then ps ++ packet ∷ [] else ps
with_received k (In.Need d) ps = ps

abbrev pub received_from : ℕ → CoreView → List (Input × ℕ) → List Packet → List Packet
received_from k c [] ps = ps
received_from k c ((input, now) ∷ inputs) ps = received_from k (core_after c input now) inputs (if is_some (refusal_of c input) then ps else with_received k input ps)

received-push : (k : ℕ) (c : CoreView) (is : List (Input × ℕ)) (input : Input) (now : ℕ) (ps : List Packet) → refusal_of (core_after_all c is) input ≡ None →
    received_from k c (is ++ (input, now) ∷ []) ps ≡ with_received k input (received_from k c is ps)
received-push k c [] input now ps ok = ap (λ (o : Option StepError). if is_some o then ps else with_received k input ps) ok
received-push k c ((i, t) ∷ is) input now ps ok = received-push k (core_after c i t) is input now (if is_some (refusal_of c i) then ps else with_received k i ps) ok

stepped-push : (k : ℕ) (steps : List Step) (s : Step) → stepped_from k (steps ++ s ∷ []) ≡ stepped_from k steps ++ (if nat_eq s.from k then s.parcel ∷ [] else [])
stepped-push k [] s = append-nil (if nat_eq s.from k then s.parcel ∷ [] else [])
stepped-push k (x ∷ steps) s =
    ap (λ ys. (if nat_eq x.from k then x.parcel ∷ [] else []) ++ ys) (stepped-push k steps s)
    ∙ sym (append_assoc (if nat_eq x.from k then x.parcel ∷ [] else []) (stepped_from k steps) (if nat_eq s.from k then s.parcel ∷ [] else []))

-- one current session fewer
fewer_current : (f : ℕ → Option Life) (k j : ℕ) (l : Life) → put_one f k None j ≡ Some l → f j ≡ Some l
fewer_current f k j l e = go (cases_Bool (nat_eq j k))
  where
    go : (nat_eq j k ≡ true) ⊎ (nat_eq j k ≡ false) → f j ≡ Some l
    go (inl t) = absurd (let q : None ≡ Some l = sym (ap (λ b. if b then None else f j) t) ∙ e in cc)
    go (inr t) = sym (ap (λ b. if b then None else f j) t) ∙ e

module _ (cores : CoreLaws) (seats : SeatLaws) (ks : List ℕ) (answers : Answers) (first : CoreView) (before : List (Input × ℕ)) (base : ℕ → List Parcel) where
  -- all that the core has taken in this session, including the packets that were passed to it while the item is served
  abbrev taken_in : List Step → ℕ → Life → List Packet
  taken_in ss k l = packets_of l (base k ++ stepped_from k ss)

  abbrev received : ℕ → List (Input × ℕ) → List Packet
  received k inputs = received_from k first (before ++ inputs) []

  -- an item that is being served, after these packets were passed to the core
  pub record Sound (ss : List Step) (v : Serving) : Type 0 where
    pub near : (j : ℕ) → has_number j ks ≡ true → has_number j v.seat.core.neighbours ≡ true
    pub up : (j : ℕ) (l : Life) → has_number j ks ≡ true → v.seat.current j ≡ Some l → has_number j v.seat.core.up ≡ true
    pub stepped : v.steps ≡ ss
    pub follows : v.seat.core ≡ core_after_all first (before ++ v.inputs)
    pub same : (k : ℕ) (l : Life) → v.seat.current k ≡ Some l → taken_in ss k l ≡ received k v.inputs

  -- ---- outbound messages

  cut_sound : (ss : List Step) (v : Serving) (k : ℕ) (o : Option Life) → Sound ss v → Sound ss (after_cut_tried answers v k o)
  cut_sound ss v k None h = h
  cut_sound ss v k (Some l) h =
      cond_both (answers v.offers k) _ _ (Sound ss)
      (λ _. record { near = h.near; up = h.up; stepped = h.stepped; follows = h.follows; same = h.same })
      (λ _. record { near = h.near; up = h.up; stepped = h.stepped; follows = h.follows; same = h.same })

  cuts_sound : (ss : List Step) (js : List ℕ) (v : Serving) → Sound ss v → Sound ss (after_cuts_tried answers js v)
  unfolding after_cuts_tried
  cuts_sound ss [] v h = h
  cuts_sound ss (k ∷ js) v h = cuts_sound ss js (after_cut_tried answers v k (v.seat.pending k)) (cut_sound ss v k (v.seat.pending k) h)

  sent_sound : (ss : List Step) (packet : Packet) (v : Serving) (k : ℕ) (o : Option Life) → Sound ss v → Sound ss (after_sent answers packet v k o)
  sent_sound ss packet v k None h = h
  sent_sound ss packet v k (Some l) h =
      cond_both (answers v.offers k) _ _ (Sound ss)
      (λ _. record { near = h.near; up = h.up; stepped = h.stepped; follows = h.follows; same = h.same })
      (λ _. record {
        near = h.near;
        up = λ j i m e. h.up j i m (fewer_current v.seat.current k j i e);
        stepped = h.stepped;
        follows = h.follows;
        same = λ j i e. h.same j i (fewer_current v.seat.current k j i e);
      })

  broadcast_sound : (ss : List Step) (packet : Packet) (js : List ℕ) (v : Serving) → Sound ss v → Sound ss (after_broadcast answers packet js v)
  unfolding after_broadcast
  broadcast_sound ss packet [] v h = h
  broadcast_sound ss packet (k ∷ js) v h = broadcast_sound ss packet js (after_sent answers packet v k (v.seat.current k)) (sent_sound ss packet v k (v.seat.current k) h)

  broadcasts_sound : (ss : List Step) (packets : List Packet) (v : Serving) → Sound ss v → Sound ss (after_broadcasts answers ks packets v)
  unfolding after_broadcasts
  broadcasts_sound ss [] v h = h
  broadcasts_sound ss (packet ∷ packets) v h = broadcasts_sound ss packets (after_broadcast answers packet ks v) (broadcast_sound ss packet ks v h)

  -- ---- inputs

  -- the conditions when the core takes an input, apart from those on the links that are up and on the packets received
  record Ready (ss : List Step) (v : Serving) : Type 0 where
    near : (j : ℕ) → has_number j ks ≡ true → has_number j v.seat.core.neighbours ≡ true
    stepped : v.steps ≡ ss
    follows : v.seat.core ≡ core_after_all first (before ++ v.inputs)

  ready : (ss : List Step) (v : Serving) → Sound ss v → Ready ss v
  ready ss v h = record { near = h.near; stepped = h.stepped; follows = h.follows }

  accepts : (ss : List Step) (v : Serving) (input : Input) (now : ℕ) → refusal_of v.seat.core input ≡ None → Ready ss v →
      ((j : ℕ) (l : Life) → has_number j ks ≡ true → v.seat.current j ≡ Some l → has_number j (core_after v.seat.core input now).up ≡ true) →
      ((k : ℕ) (l : Life) → v.seat.current k ≡ Some l → taken_in ss k l ≡ with_received k input (received k v.inputs)) → Sound ss (after_step answers ks input now v)
  accepts ss v input now ok h up same =
      subst (Sound ss) (sym (accepted_step answers ks v input now ok))
      (broadcasts_sound ss (sends_of v.seat.core input now) (accepting v input now)
      (record {
        near = λ j m. ap (λ ns. has_number j ns) (cores.neighbours v.seat.core input now) ∙ h.near j m;
        up = up;
        stepped = h.stepped;
        follows = ap (λ x. core_after x input now) h.follows ∙ sym (core_after-push first (before ++ v.inputs) input now) ∙ ap (core_after_all first) pushed;
        same = λ k l e.
            same k l e ∙ sym (received-push k first (before ++ v.inputs) input now [] (ap (λ x. refusal_of x input) (sym h.follows) ∙ ok))
            ∙ ap (λ is. received_from k first is []) pushed;
      }))
    where
      pushed : (before ++ v.inputs) ++ (input, now) ∷ [] ≡ before ++ (v.inputs ++ (input, now) ∷ [])
      pushed = append_assoc before v.inputs ((input, now) ∷ [])

  -- the link goes down after its session is no longer current
  down_sound : (ss : List Step) (v : Serving) (k now : ℕ) → has_number k ks ≡ true → has_number k v.seat.core.up ≡ true → v.seat.current k ≡ None → Sound ss v → Sound ss (after_step answers ks (In.LinkDown k) now v)
  down_sound ss v k now m u none h =
      accepts ss v (In.LinkDown k) now (down_accepted cores v.seat.core k (h.near k m) u) (ready ss v h)
      (λ j l i e. cores.others_at_down v.seat.core j k now (other j l e) ∙ h.up j l i e) h.same
    where
      other : (j : ℕ) (l : Life) → v.seat.current j ≡ Some l → j ≢ k
      other j l e q = let z : None ≡ Some l = sym none ∙ ap v.seat.current (sym q) ∙ e in absurd (cc)

  settling_sound : (ss : List Step) (most now : ℕ) (v : Serving) → Sound ss v → Sound ss (after_settling most answers ks now v)
  unfolding after_settling
  settling_sound ss zero now v h = h
  settling_sound ss (suc most) now v h = go (first_cut v.seat ks) refl (λ x y. settling_sound ss most now x y)
    where
      go : (r : Option ℕ) → first_cut v.seat ks ≡ r → ((x : Serving) → Sound ss x → Sound ss (after_settling most answers ks now x)) →
          Sound ss (elim r [ None ↦ v | Some j ↦ after_settling most answers ks now (after_step answers ks (In.LinkDown j) now v) ])
      go None e again = h
      go (Some j) e again =
          let f = seats.next ks v.seat j e in
          again (after_step answers ks (In.LinkDown j) now v) (down_sound ss v j now f.neighbour f.up f.none h)

  -- a link that is down stays down
  stays_down : (ss : List Step) (k most now : ℕ) (v : Serving) → Sound ss v → has_number k v.seat.core.up ≡ false → has_number k (after_settling most answers ks now v).seat.core.up ≡ false
  unfolding after_settling
  stays_down ss k zero now v h off = off
  stays_down ss k (suc most) now v h off = go (first_cut v.seat ks) refl (λ x y z. stays_down ss k most now x y z)
    where
      go : (r : Option ℕ) → first_cut v.seat ks ≡ r → ((x : Serving) → Sound ss x → has_number k x.seat.core.up ≡ false → has_number k (after_settling most answers ks now x).seat.core.up ≡ false) →
          has_number k (elim r as (λ _. Serving) [ None ↦ v | Some j ↦ after_settling most answers ks now (after_step answers ks (In.LinkDown j) now v) ]).seat.core.up ≡ false
      go None e again = off
      go (Some j) e again =
          let f = seats.next ks v.seat j e in
          let ok : refusal_of v.seat.core (In.LinkDown j) ≡ None = down_accepted cores v.seat.core j (h.near j f.neighbour) f.up in
          again (after_step answers ks (In.LinkDown j) now v) (down_sound ss v j now f.neighbour f.up f.none h)
          (ap (λ up. has_number k up) (accepted_up answers ks v (In.LinkDown j) now ok) ∙ gone j ok (cases_Bool (nat_eq j k)))
        where
          gone : (j : ℕ) → refusal_of v.seat.core (In.LinkDown j) ≡ None → (nat_eq j k ≡ true) ⊎ (nat_eq j k ≡ false) → has_number k (core_after v.seat.core (In.LinkDown j) now).up ≡ false
          gone j ok (inl t) = subst (λ x. has_number x (core_after v.seat.core (In.LinkDown j) now).up ≡ false) (eqb-true j k t) (cores.goes v.seat.core j now ok)
          gone j ok (inr t) = cores.others_at_down v.seat.core k j now (λ q. true≢false (sym (eq-eqb j k (sym q)) ∙ t)) ∙ off

  input_sound : (ss : List Step) (v : Serving) (input : Input) (now : ℕ) → Sound ss (after_step answers ks input now v) → Sound ss (after_input answers ks input now v)
  unfolding after_input
  input_sound ss v input now h = settling_sound ss (length ks) now (after_step answers ks input now v) h

  -- a need may be refused
  need_sound : (ss : List Step) (v : Serving) (d now : ℕ) → Sound ss v → Sound ss (after_input answers ks (In.Need d) now v)
  unfolding after_step
  need_sound ss v d now h = input_sound ss v (In.Need d) now (go (refusal_of v.seat.core (In.Need d)) refl)
    where
      go : (r : Option StepError) → refusal_of v.seat.core (In.Need d) ≡ r → Sound ss (after_step answers ks (In.Need d) now v)
      go None e = accepts ss v (In.Need d) now e (ready ss v h) (λ j l i c. ap (has_number j) (cores.at_need v.seat.core d now) ∙ h.up j l i c) h.same
      go (Some error) e =
          subst (λ r. Sound ss (after_answer answers ks (In.Need d) now v r)) (sym e)
          (record { near = h.near; up = h.up; stepped = h.stepped; follows = h.follows; same = h.same })

  -- the current session of a neighbour is over
  none_sound : (ss : List Step) (v : Serving) (k : ℕ) → Sound ss v → Sound ss (with_current v k None)
  none_sound ss v k h = record {
    near = h.near;
    up = λ j i x e. h.up j i x (fewer_current v.seat.current k j i e);
    stepped = h.stepped;
    follows = h.follows;
    same = λ j i e. h.same j i (fewer_current v.seat.current k j i e);
  }

  down_step : (ss : List Step) (v : Serving) (k now : ℕ) (l : Life) → has_number k ks ≡ true → v.seat.current k ≡ Some l → Sound ss v → Sound ss (after_step answers ks (In.LinkDown k) now (with_current v k None))
  down_step ss v k now l m on h = down_sound ss (with_current v k None) k now m (h.up k l m on) (put_one_here v.seat.current k None) (none_sound ss v k h)

  down_done : (ss : List Step) (v : Serving) (k now : ℕ) (l : Life) → has_number k ks ≡ true → v.seat.current k ≡ Some l → Sound ss v → Sound ss (after_down answers ks k now v)
  down_done ss v k now l m on h = input_sound ss (with_current v k None) (In.LinkDown k) now (down_step ss v k now l m on h)

  -- the current session of a neighbour is cut
  life_cut_sound : (ss : List Step) (v : Serving) (k now : ℕ) (o : Option Life) → has_number k ks ≡ true → v.seat.current k ≡ o → Sound ss v → Sound ss (after_life_cut answers ks k now v o)
  life_cut_sound ss v k now None m e h = h
  life_cut_sound ss v k now (Some l) m e h =
      let asked : Serving = with_pending v k (Some l) in
      down_done ss (after_cut_asked answers v k l) k now l m (ap (λ (f : ℕ → Option Life). f k) (tried_current answers asked k (Some l)) ∙ e)
      (cut_sound ss asked k (Some l) (record { near = h.near; up = h.up; stepped = h.stepped; follows = h.follows; same = h.same }))

  down_off : (ss : List Step) (v : Serving) (k now : ℕ) (l : Life) → has_number k ks ≡ true → v.seat.current k ≡ Some l → Sound ss v → has_number k (after_down answers ks k now v).seat.core.up ≡ false
  unfolding after_input
  down_off ss v k now l m on h =
      let v' : Serving = with_current v k None in
      let s : Sound ss (after_step answers ks (In.LinkDown k) now v') = down_step ss v k now l m on h in
      let ok : refusal_of v.seat.core (In.LinkDown k) ≡ None = down_accepted cores v.seat.core k (h.near k m) (h.up k l m on) in
      stays_down ss k (length ks) now (after_step answers ks (In.LinkDown k) now v') s
      (ap (λ up. has_number k up) (accepted_up answers ks v' (In.LinkDown k) now ok) ∙ cores.goes v.seat.core k now ok)

  -- no link has to go down
  abbrev Settled : Serving → Type 0
  Settled v = (j : ℕ) → ¬ IsCut ks v.seat j

  -- the old link is down at the core before a new session comes up
  old_done : (ss : List Step) (v : Serving) (k now : ℕ) (o : Option Life) → has_number k ks ≡ true → v.seat.current k ≡ o → Settled v → Sound ss v →
      Sound ss (after_old_down answers ks k now v o) × (has_number k (after_old_down answers ks k now v o).seat.core.up ≡ false)
  old_done ss v k now None m e settled h = (h, false_from_ne_true (has_number k v.seat.core.up) (λ u. settled k (record { neighbour = m; up = u; none = e })))
  old_done ss v k now (Some l) m e settled h = (down_done ss v k now l m e h, down_off ss v k now l m e h)

  up_done : (v : Serving) (k now : ℕ) (life : Life) → has_number k ks ≡ true → has_number k v.seat.core.up ≡ false → packets_of life (base k) ≡ [] → Sound [] v → Sound [] (after_up answers ks k life now v)
  up_done v k now life m off fresh h =
      let v' : Serving = with_current v k (Some life) in
      let ok : refusal_of v.seat.core (In.LinkUp k) ≡ None = up_accepted cores v.seat.core k (h.near k m) off in
      input_sound [] v' (In.LinkUp k) now
      (accepts [] v' (In.LinkUp k) now ok (record { near = h.near; stepped = h.stepped; follows = h.follows })
      (λ j l i e. ups ok j l i e (cases_Bool (nat_eq j k)))
      (λ j l e. comes j l e (cases_Bool (nat_eq j k))))
    where
      ups : refusal_of v.seat.core (In.LinkUp k) ≡ None → (j : ℕ) (l : Life) → has_number j ks ≡ true → put_one v.seat.current k (Some life) j ≡ Some l → (nat_eq j k ≡ true) ⊎ (nat_eq j k ≡ false) → has_number j (core_after v.seat.core (In.LinkUp k) now).up ≡ true
      ups ok j l i e (inl t) = subst (λ x. has_number x (core_after v.seat.core (In.LinkUp k) now).up ≡ true) (sym (eqb-true j k t)) (cores.comes v.seat.core k now ok)
      ups ok j l i e (inr t) = cores.others_at_up v.seat.core j k now (λ q. true≢false (sym (eq-eqb j k q) ∙ t)) ∙ h.up j l i (sym (put_one_there v.seat.current k (Some life) j t) ∙ e)

      comes : (j : ℕ) (l : Life) → put_one v.seat.current k (Some life) j ≡ Some l → (nat_eq j k ≡ true) ⊎ (nat_eq j k ≡ false) → taken_in [] j l ≡ with_received j (In.LinkUp k) (received j v.inputs)
      comes j l e (inl t) =
          let q : j ≡ k = eqb-true j k t in
          let on : Some life ≡ Some l = sym (ap (λ b. if b then Some life else v.seat.current j) t) ∙ e in
          let same_life : life ≡ l = cc in
          ap (packets_of l) (append-nil (base j)) ∙ ap (λ x. packets_of l (base x)) q ∙ ap (λ x. packets_of x (base k)) (sym same_life) ∙ fresh
          ∙ sym (ap (λ (b : Bool). if b then [] else received j v.inputs) (eq-eqb k j (sym q)))
      comes j l e (inr t) =
          h.same j l (sym (put_one_there v.seat.current k (Some life) j t) ∙ e)
          ∙ sym (ap (λ (b : Bool). if b then [] else received j v.inputs) (false_from_ne_true (nat_eq k j) (λ x. true≢false (sym (eq-eqb j k (sym (eqb-true k j x))) ∙ t))))

  packet_done : (v : Serving) (k now : ℕ) (life : Life) (packet : Packet) → has_number k ks ≡ true → v.seat.current k ≡ Some life → is_from k packet ≡ true → Sound [] v →
      Sound (record { from = k; parcel = parcel_of life packet } ∷ []) (after_packet answers ks k life packet now v)
  packet_done v k now life packet m on from h =
      let s : Step = record { from = k; parcel = parcel_of life packet } in
      let v' : Serving = record v { steps = v.steps ++ s ∷ [] } in
      input_sound (s ∷ []) v' (In.Packet k packet) now
      (accepts (s ∷ []) v' (In.Packet k packet) now ((cores.packet v.seat.core k packet).1 (h.near k m, h.up k life m on, from))
      (record { near = h.near; stepped = ap (λ ss. ss ++ s ∷ []) h.stepped; follows = h.follows })
      (λ j l i c. ap (has_number j) (cores.at_packet v.seat.core k packet now) ∙ h.up j l i c)
      (λ j l e. takes j l e (cases_Bool (nat_eq k j))))
    where
      takes : (j : ℕ) (l : Life) → v.seat.current j ≡ Some l → (nat_eq k j ≡ true) ⊎ (nat_eq k j ≡ false) →
          packets_of l (base j ++ ((if nat_eq k j then parcel_of life packet ∷ [] else []) ++ [])) ≡ (if nat_eq k j then received j v.inputs ++ packet ∷ [] else received j v.inputs)
      takes j l e (inl t) =
          let q : k ≡ j = eqb-true k j t in
          let one : Some life ≡ Some l = sym on ∙ ap v.seat.current q ∙ e in
          let same_life : life ≡ l = cc in
          let was : packets_of l (base j) ≡ received j v.inputs = sym (ap (packets_of l) (append-nil (base j))) ∙ h.same j l e in
          subst (λ (b : Bool). packets_of l (base j ++ ((if b then parcel_of life packet ∷ [] else []) ++ [])) ≡ (if b then received j v.inputs ++ packet ∷ [] else received j v.inputs)) (sym t)
          (of-push l (base j) (parcel_of life packet) ∙ ap (λ x. packets_of l (base j) ++ packet_where l (parcel_of x packet)) same_life ∙ ap (λ ys. packets_of l (base j) ++ ys) (only_same l packet)
          ∙ ap (λ xs. xs ++ packet ∷ []) was)
      takes j l e (inr t) =
          subst (λ (b : Bool). packets_of l (base j ++ ((if b then parcel_of life packet ∷ [] else []) ++ [])) ≡ (if b then received j v.inputs ++ packet ∷ [] else received j v.inputs)) (sym t) (h.same j l e)

  -- the state after an item
  record Done (v : Serving) : Type 0 where
    ss : List Step
    sound : Sound ss v

  link_item_done : (v : Serving) (k now : ℕ) (what : What) → has_number k ks ≡ true →
      ((l : Life) (p : Packet) → what ≡ Tells.Packet l p → v.seat.current k ≡ Some l → is_from k p ≡ true) → ((l : Life) → what ≡ Tells.Up l → packets_of l (base k) ≡ []) →
      Settled v → Sound [] v → Done (after_link_item answers ks k now what v)
  unfolding after_link_item
  link_item_done v k now (Tells.Up l) m from fresh settled h =
      let o = old_done [] v k now (v.seat.current k) m refl settled h in
      record { ss = []; sound = up_done (after_old_down answers ks k now v (v.seat.current k)) k now l m o.1 (fresh l refl) o.0 }
  link_item_done v k now (Tells.Packet l p) m from fresh settled h =
      cond_both (is_current l (v.seat.current k)) _ _ Done
      (λ t. let on = current_is l (v.seat.current k) t in record { ss = record { from = k; parcel = parcel_of l p } ∷ []; sound = packet_done v k now l p m on (from l p refl on) h })
      (λ _. record { ss = []; sound = h })
  link_item_done v k now (Tells.Down l r) m from fresh settled h =
      cond_both (is_current l (v.seat.current k)) _ _ Done
      (λ t. record { ss = []; sound = down_done [] v k now l m (current_is l (v.seat.current k) t) h })
      (λ _. cond_both (is_current l (v.seat.pending k)) _ _ Done
      (λ _. record { ss = []; sound = record { near = h.near; up = h.up; stepped = h.stepped; follows = h.follows; same = h.same } })
      (λ _. record { ss = []; sound = h }))
  link_item_done v k now (Tells.Need d) m from fresh settled h = record { ss = []; sound = need_sound [] v d now h }
  link_item_done v k now (Tells.Cut j) m from fresh settled h = record { ss = []; sound = h }
  link_item_done v k now Tells.Beat m from fresh settled h = record { ss = []; sound = h }
  link_item_done v k now Tells.Show m from fresh settled h = record { ss = []; sound = record { near = h.near; up = h.up; stepped = h.stepped; follows = h.follows; same = h.same } }
  link_item_done v k now (Tells.Status status) m from fresh settled h = record { ss = []; sound = record { near = h.near; up = h.up; stepped = h.stepped; follows = h.follows; same = h.same } }
  link_item_done v k now Tells.Quit m from fresh settled h = record { ss = []; sound = record { near = h.near; up = h.up; stepped = h.stepped; follows = h.follows; same = h.same } }

  other_item_done : (v : Serving) (now : ℕ) (what : What) → Sound [] v → Done (after_other_item answers ks now what v)
  unfolding after_other_item
  other_item_done v now (Tells.Need d) h = record { ss = []; sound = need_sound [] v d now h }
  other_item_done v now (Tells.Cut k) h =
      cond_both (has_number k ks) _ _ Done (λ m. record { ss = []; sound = life_cut_sound [] v k now (v.seat.current k) m refl h }) (λ _. record { ss = []; sound = h })
  other_item_done v now (Tells.Up l) h = record { ss = []; sound = h }
  other_item_done v now (Tells.Packet l p) h = record { ss = []; sound = h }
  other_item_done v now (Tells.Down l r) h = record { ss = []; sound = h }
  other_item_done v now Tells.Beat h = record { ss = []; sound = h }
  other_item_done v now Tells.Show h = record { ss = []; sound = record { near = h.near; up = h.up; stepped = h.stepped; follows = h.follows; same = h.same } }
  other_item_done v now (Tells.Status status) h = record { ss = []; sound = record { near = h.near; up = h.up; stepped = h.stepped; follows = h.follows; same = h.same } }
  other_item_done v now Tells.Quit h = record { ss = []; sound = record { near = h.near; up = h.up; stepped = h.stepped; follows = h.follows; same = h.same } }

  -- offering the pending cuts changes neither the core nor a current session
  record Started (seat : SeatState) (v : Serving) : Type 0 where
    core : v.seat.core ≡ seat.core
    current : v.seat.current ≡ seat.current

  start_cut : (seat : SeatState) (v : Serving) (j : ℕ) (o : Option Life) → Started seat v → Started seat (after_cut_tried answers v j o)
  start_cut seat v j None s = s
  start_cut seat v j (Some l) s = cond_both (answers v.offers j) _ _ (Started seat) (λ _. record { core = s.core; current = s.current }) (λ _. record { core = s.core; current = s.current })

  start_cuts : (seat : SeatState) (js : List ℕ) (v : Serving) → Started seat v → Started seat (after_cuts_tried answers js v)
  unfolding after_cuts_tried
  start_cuts seat [] v s = s
  start_cuts seat (j ∷ js) v s = start_cuts seat js (after_cut_tried answers v j (v.seat.pending j)) (start_cut seat v j (v.seat.pending j) s)

  -- after an item, what is taken in a current session is what was received since the link came up
  pub record Received (v : Serving) : Type 0 where
    pub follows : v.seat.core ≡ core_after_all first (before ++ v.inputs)
    pub same : (k : ℕ) (l : Life) → v.seat.current k ≡ Some l → packets_of l (base k ++ stepped_from k v.steps) ≡ received k v.inputs

  pub serving_received : (seat : SeatState) (item : Item) → ((j : ℕ) → ¬ IsCut ks seat j) → Sound [] (begin_serving seat) →
      ((k : ℕ) (l : Life) (p : Packet) → slice_get ks item.seat ≡ Some k → item.what ≡ Tells.Packet l p → seat.current k ≡ Some l → is_from k p ≡ true) →
      ((k : ℕ) (l : Life) → slice_get ks item.seat ≡ Some k → item.what ≡ Tells.Up l → packets_of l (base k) ≡ []) → Received (serving_of answers ks seat item)
  unfolding serving_of
  serving_received seat item settled h from fresh =
      let d = go (slice_get ks item.seat) refl in
      record { follows = d.sound.follows; same = λ k l on. ap (λ ss. packets_of l (base k ++ stepped_from k ss)) d.sound.stepped ∙ d.sound.same k l on }
    where
      s : Started seat (after_cuts_tried answers ks (begin_serving seat))
      s = start_cuts seat ks (begin_serving seat) (record { core = refl; current = refl })

      rests : Settled (after_cuts_tried answers ks (begin_serving seat))
      rests j c = settled j (record { neighbour = c.neighbour; up = ap (λ (x : CoreView). has_number j x.up) (sym s.core) ∙ c.up; none = ap (λ (f : ℕ → Option Life). f j) (sym s.current) ∙ c.none })

      begun : Sound [] (after_cuts_tried answers ks (begin_serving seat))
      begun = cuts_sound [] ks (begin_serving seat) h

      go : (o : Option ℕ) → slice_get ks item.seat ≡ o → Done (after_item_of answers ks o item.now item.what (after_cuts_tried answers ks (begin_serving seat)))
      go (Some j) e =
          link_item_done (after_cuts_tried answers ks (begin_serving seat)) j item.now item.what (at_in ks item.seat j e)
          (λ i p w c. from j i p e w (sym (ap (λ (f : ℕ → Option Life). f j) s.current) ∙ c)) (λ i w. fresh j i e w) rests begun
      go None e = other_item_done (after_cuts_tried answers ks (begin_serving seat)) item.now item.what begun
