-- The invariant of one neighbour while an item is served.
use Rattle.std.proofs.Common.{◌≡◌, ℕ, zero, suc, ◌<◌, ◌≤◌, Bool, true, false, true≢false, not, ◌&&◌, ◌||◌, ◌⊎◌, inl, inr, ⊎_elim, List, [], ◌∷◌, ◌++◌, length, Option, Some, None, nat_eq, if◌then◌else◌, refl, sym, ap, ap₂, ◌∙◌, subst, append_assoc, append-nil, eqb-true, eq-eqb, arith}
use Rattle.std.proofs.lemmas.Bool.{cond_both, cases_Bool, or_right, or_parts}
use Rattle.std.specs.Prelude.{is_none, is_some}
use Rattle.tora_packet.specs.declared.Packet.{Packet}
use Rattle.tora_arq.specs.declared.life.Life.{Life}
use Rattle.tora_core.specs.declared.Input.{Input}
use Rattle.tora_core.specs.declared.Input.TheVariants as In
use Rattle.tora_core.specs.declared.errors.StepError.{StepError}
use Rattle.tora_core.specs.Numbers.{has_number, without_number, has_repeat}
use Rattle.tora_core.specs.CoreRun.{CoreView, refusal_of, up_after, core_after, core_after_all, sends_of}
use Rattle.tora_seat.specs.declared.cargo.Cargo.{Cargo}
use Rattle.tora_seat.specs.declared.cargo.Cargo.TheVariants as Gives
use Rattle.tora_seat.specs.Serving.{SeatState, Offer, Serving, Answers, put_one, offered, with_current, with_pending, after_cut_tried, after_cuts_tried, after_sent, after_broadcast, after_broadcasts, accepting, after_answer, after_step, first_cut, after_settling, after_input, after_down, after_old_down, after_up, begin_serving}
use Rattle.tora_seat.specs.SeatLaws.{is_packet, packet_in, has_back, NothingAfterBack, packets_put, IsOfLife, AreOfLife, broadcast_to, is_link_down, has_link_down, Begins}
use Rattle.tora_seat.proofs.Places.{turned}
use Rattle.tora_core.proofs.AfterInputs.{same-neighbours}
use Rattle.tora_seat.proofs.Ups.{is_link_up, up_same, up_come, up_gone, core_accepted, up_accepted, down_accepted, count_up, count_most, count_drops, first_cut_is, first_cut_none, settled_at}
use Rattle.tora_seat.proofs.Histories.{back-push, nothing_other, nothing_first, put-push, life-push, core-push, broadcast-push, down-push, begins_more, or_false}
use Rattle.tora_seat.proofs.Calm.{calm_broadcasts, accepted_step, accepted_core}

pub put_at : {A : Type 0} (f : ℕ → A) (k : ℕ) (a : A) → put_one f k a k ≡ a
put_at f k a = ap (λ b. if b then a else f k) (eq-eqb k k refl)

pub put_off : {A : Type 0} (f : ℕ → A) (j : ℕ) (a : A) (k : ℕ) → nat_eq j k ≡ false → put_one f j a k ≡ f k
put_off f j a k off = ap (λ b. if b then a else f k) (turned j k off)

-- a session is current: it is the one served, and all that was broadcast is put or still to send; or none is: either
-- nothing was returned and the link is not up, or the session served is cut
abbrev pub Stands : Option Life → List Packet → Option Life → Bool → List Packet → List Packet → Bool → Bool → Option Life → Type 0
Stands served ps pending up put all back down None = ((back ≡ false) × (up ≡ false) × (put ≡ all)) ⊎ ((back ≡ true) × (pending ≡ served) × Begins put all × (up ≡ false → down ≡ true))
Stands served ps pending up put all back down (Some l) = (served ≡ Some l) × (back ≡ false) × (up ≡ true) × (put ++ ps ≡ all)

abbrev no_packets : List Packet
no_packets = []

none_is : (o : Option Life) → is_none o ≡ true → o ≡ None
none_is None e = refl
none_is (Some l) e = absurd (true≢false (sym e))

module _ (answers : Answers) (ks : List ℕ) (k : ℕ) (first : SeatState) (served : Option Life) (inside : has_number k ks ≡ true) (apart : has_repeat ks ≡ false) where
  abbrev pub StandsIn : List Packet → List Packet → Serving → Type 0
  StandsIn ps all v = Stands served ps (v.seat.pending k) (has_number k v.seat.core.up) (packets_put k v.offers) all (has_back k v.offers) (has_link_down k v.inputs) (v.seat.current k)

  -- the invariant while packets are sent; `ps` are those that are still to be sent to this neighbour
  pub record Sends (ps all : List Packet) (v : Serving) : Type 0 where
    pub life : AreOfLife k served v.offers
    pub quiet : NothingAfterBack k v.offers
    pub stands : StandsIn ps all v

  stands_of : (ps all : List Packet) (v : Serving) (pending cur : Option Life) (up : Bool) (put : List Packet) (back down : Bool) → v.seat.pending k ≡ pending → v.seat.current k ≡ cur → has_number k v.seat.core.up ≡ up → packets_put k v.offers ≡ put → has_back k v.offers ≡ back → has_link_down k v.inputs ≡ down →
      Stands served ps pending up put all back down cur → StandsIn ps all v
  stands_of ps all v pending cur up put back down a b c d e f h =
      subst (λ x. Stands served ps x (has_number k v.seat.core.up) (packets_put k v.offers) all (has_back k v.offers) (has_link_down k v.inputs) (v.seat.current k)) (sym a)
      (subst (λ x. Stands served ps pending (has_number k v.seat.core.up) (packets_put k v.offers) all (has_back k v.offers) (has_link_down k v.inputs) x) (sym b)
      (subst (λ x. Stands served ps pending x (packets_put k v.offers) all (has_back k v.offers) (has_link_down k v.inputs) cur) (sym c)
      (subst (λ x. Stands served ps pending up x all (has_back k v.offers) (has_link_down k v.inputs) cur) (sym d)
      (subst (λ x. Stands served ps pending up put all x (has_link_down k v.inputs) cur) (sym e)
      (subst (λ x. Stands served ps pending up put all back x cur) (sym f) h)))))

  -- an offer to another neighbour
  other_offer : (ps all : List Packet) (v new : Serving) (o : Offer) → nat_eq o.to k ≡ false → new.offers ≡ v.offers ++ o ∷ [] → new.seat.pending k ≡ v.seat.pending k → new.seat.current k ≡ v.seat.current k → new.seat.core ≡ v.seat.core → new.inputs ≡ v.inputs →
      Sends ps all v → Sends ps all new
  other_offer ps all v new o off e a b c d h =
      let not_it : o.to ≡ k → IsOfLife served o.cargo = λ q. absurd (true≢false (sym (eq-eqb o.to k q) ∙ off)) in record {
        life = subst (AreOfLife k served) (sym e) (life-push k served v.offers o h.life not_it);
        quiet = subst (NothingAfterBack k) (sym e) (nothing_other k v.offers o off h.quiet);
        stands = stands_of ps all new (v.seat.pending k) (v.seat.current k) (has_number k v.seat.core.up) (packets_put k v.offers) (has_back k v.offers) (has_link_down k v.inputs) a b (ap (λ (x : CoreView). has_number k x.up) c)
            (ap (packets_put k) e ∙ put-push k v.offers o ∙ ap (λ t. packets_put k v.offers ++ (if t && o.put then packet_in o.cargo else [])) off ∙ append-nil (packets_put k v.offers))
            (ap (has_back k) e ∙ back-push k v.offers o ∙ ap (λ t. has_back k v.offers || (t && (is_packet o.cargo && not o.put))) off ∙ or_false (has_back k v.offers))
            (ap (has_link_down k) d) h.stands;
      }

  sent_off : (ps all : List Packet) (p : Packet) (v : Serving) (j : ℕ) (cur : Option Life) → nat_eq j k ≡ false → Sends ps all v → Sends ps all (after_sent answers p v j cur)
  sent_off ps all p v j None off h = h
  sent_off ps all p v j (Some l) off h =
      cond_both (answers v.offers j) _ _ (Sends ps all)
      (λ _. other_offer ps all v (offered v j (Gives.Packet l p) true) (record { to = j; cargo = Gives.Packet l p; put = true }) off refl refl refl refl refl h)
      (λ _. other_offer ps all v (with_pending (with_current (offered v j (Gives.Packet l p) false) j None) j (Some l)) (record { to = j; cargo = Gives.Packet l p; put = false }) off refl
      (put_off v.seat.pending j (Some l) k off) (put_off v.seat.current j None k off) refl refl h)

  -- a packet for this neighbour
  sent_on : (ps all : List Packet) (p : Packet) (v : Serving) (cur : Option Life) → v.seat.current k ≡ cur → Sends (p ∷ ps) all v → Sends ps all (after_sent answers p v k cur)
  sent_on ps all p v None e h = record {
    life = h.life;
    quiet = h.quiet;
    stands = subst (λ c. Stands served ps (v.seat.pending k) (has_number k v.seat.core.up) (packets_put k v.offers) all (has_back k v.offers) (has_link_down k v.inputs) c) (sym e)
        (subst (λ c. Stands served (p ∷ ps) (v.seat.pending k) (has_number k v.seat.core.up) (packets_put k v.offers) all (has_back k v.offers) (has_link_down k v.inputs) c) e h.stands);
  }
  sent_on ps all p v (Some l) e h =
      cond_both (answers v.offers k) _ _ (Sends ps all)
      (λ _. record {
        life = life-push k served v.offers good h.life (λ _. n.0);
        quiet = nothing_first k v.offers good n.1 h.quiet;
        stands = stands_of ps all (offered v k (Gives.Packet l p) true) (v.seat.pending k) (Some l) true (packets_put k v.offers ++ p ∷ []) false (has_link_down k v.inputs) refl e n.2
            (put-push k v.offers good ∙ ap (λ t. packets_put k v.offers ++ (if t && true then p ∷ [] else [])) (eq-eqb k k refl))
            (back-push k v.offers good ∙ ap₂ (λ x y. x || (y && (true && false))) n.1 (eq-eqb k k refl)) refl
            (n.0, refl, refl, append_assoc (packets_put k v.offers) (p ∷ []) ps ∙ n.3);
      })
      (λ _. record {
        life = life-push k served v.offers bad h.life (λ _. n.0);
        quiet = nothing_first k v.offers bad n.1 h.quiet;
        stands = stands_of ps all (with_pending (with_current (offered v k (Gives.Packet l p) false) k None) k (Some l)) (Some l) None true (packets_put k v.offers) true (has_link_down k v.inputs)
            (put_at v.seat.pending k (Some l)) (put_at v.seat.current k None) n.2
            (put-push k v.offers bad ∙ ap (λ t. packets_put k v.offers ++ (if t && false then p ∷ [] else [])) (eq-eqb k k refl) ∙ append-nil (packets_put k v.offers))
            (back-push k v.offers bad ∙ ap₂ (λ x y. x || (y && (true && true))) n.1 (eq-eqb k k refl)) refl
            (inr (refl, sym n.0, (p ∷ ps, n.3), λ z. absurd (true≢false z)));
      })
    where
      n : Stands served (p ∷ ps) (v.seat.pending k) (has_number k v.seat.core.up) (packets_put k v.offers) all (has_back k v.offers) (has_link_down k v.inputs) (Some l)
      n = subst (λ c. Stands served (p ∷ ps) (v.seat.pending k) (has_number k v.seat.core.up) (packets_put k v.offers) all (has_back k v.offers) (has_link_down k v.inputs) c) e h.stands

      good : Offer
      good = record { to = k; cargo = Gives.Packet l p; put = true }

      bad : Offer
      bad = record { to = k; cargo = Gives.Packet l p; put = false }

  broadcast_off : (ps all : List Packet) (p : Packet) (js : List ℕ) (v : Serving) → has_number k js ≡ false → Sends ps all v → Sends ps all (after_broadcast answers p js v)
  unfolding after_broadcast
  broadcast_off ps all p [] v i h = h
  broadcast_off ps all p (j ∷ js) v i h =
      let e = or_parts (nat_eq j k) (has_number k js) i in
      broadcast_off ps all p js (after_sent answers p v j (v.seat.current j)) e.1 (sent_off ps all p v j (v.seat.current j) e.0 h)

  broadcast_on : (ps all : List Packet) (p : Packet) (js : List ℕ) (v : Serving) → has_number k js ≡ true → has_repeat js ≡ false → Sends (p ∷ ps) all v → Sends ps all (after_broadcast answers p js v)
  unfolding after_broadcast
  broadcast_on ps all p [] v i a h = absurd (true≢false (sym i))
  broadcast_on ps all p (j ∷ js) v i a h = go (cases_Bool (nat_eq j k)) (or_parts (has_number j js) (has_repeat js) a) (λ x y z. broadcast_on ps all p js x y (or_parts (has_number j js) (has_repeat js) a).1 z)
    where
      go : (nat_eq j k ≡ true) ⊎ (nat_eq j k ≡ false) → (has_number j js ≡ false) × (has_repeat js ≡ false) → ((x : Serving) → has_number k js ≡ true → Sends (p ∷ ps) all x → Sends ps all (after_broadcast answers p js x)) →
          Sends ps all (after_broadcast answers p js (after_sent answers p v j (v.seat.current j)))
      go (inl e) d again =
          let q : j ≡ k = eqb-true j k e in
          broadcast_off ps all p js (after_sent answers p v j (v.seat.current j)) (subst (λ x. has_number x js ≡ false) q d.0)
          (subst (λ x. Sends ps all (after_sent answers p v x (v.seat.current x))) (sym q) (sent_on ps all p v (v.seat.current k) refl h))
      go (inr e) d again = again (after_sent answers p v j (v.seat.current j)) (ap (λ b. b || has_number k js) (sym e) ∙ i) (sent_off (p ∷ ps) all p v j (v.seat.current j) e h)

  broadcasts_on : (ps all : List Packet) (v : Serving) → Sends ps all v → Sends [] all (after_broadcasts answers ks ps v)
  unfolding after_broadcasts
  broadcasts_on [] all v h = h
  broadcasts_on (p ∷ ps) all v h = broadcasts_on ps all (after_broadcast answers p ks v) (broadcast_on ps all p ks v inside apart h)

  -- ---- inputs

  abbrev pub all_of : Serving → List Packet
  all_of v = broadcast_to k first.core v.inputs

  -- the invariant between inputs
  pub record Keeps (v : Serving) : Type 0 where
    pub sends : Sends [] (all_of v) v
    pub core_is : v.seat.core ≡ core_after_all first.core v.inputs
    pub near : v.seat.core.neighbours ≡ ks

  all_accepting : (v : Serving) (input : Input) (now : ℕ) (b : Bool) → v.seat.core ≡ core_after_all first.core v.inputs → has_number k (core_after v.seat.core input now).up ≡ b →
      all_of (accepting v input now) ≡ all_of v ++ (if b then sends_of v.seat.core input now else [])
  all_accepting v input now b f e =
      broadcast-push k first.core v.inputs input now
      ∙ ap (λ c. all_of v ++ (if has_number k (core_after c input now).up then sends_of c input now else [])) (sym f)
      ∙ ap (λ t. all_of v ++ (if t then sends_of v.seat.core input now else [])) e

  -- an input is accepted, and its packets are sent
  accepts : (v : Serving) (input : Input) (now : ℕ) → v.seat.core ≡ core_after_all first.core v.inputs → v.seat.core.neighbours ≡ ks →
      Sends (sends_of v.seat.core input now) (all_of (accepting v input now)) (accepting v input now) → Keeps (after_broadcasts answers ks (sends_of v.seat.core input now) (accepting v input now))
  accepts v input now f near h =
      let v' : Serving = accepting v input now in
      let v'' : Serving = after_broadcasts answers ks (sends_of v.seat.core input now) v' in
      let c = calm_broadcasts answers ks (sends_of v.seat.core input now) v' in record {
        sends = subst (λ a. Sends [] a v'') (ap (broadcast_to k first.core) (sym c.inputs)) (broadcasts_on (sends_of v.seat.core input now) (all_of v') v' h);
        core_is = c.core ∙ ap (λ x. core_after x input now) f ∙ sym (core-push first.core v.inputs input now) ∙ ap (core_after_all first.core) (sym c.inputs);
        near = ap (λ (x : CoreView). x.neighbours) c.core ∙ same-neighbours v.seat.core input now ∙ near;
      }

  -- a session is current after an accepted input: the packets of the input are still to be sent in it
  enters_up : (v : Serving) (input : Input) (now : ℕ) (l : Life) → AreOfLife k served v.offers → NothingAfterBack k v.offers → has_back k v.offers ≡ false → v.seat.core ≡ core_after_all first.core v.inputs → served ≡ Some l → v.seat.current k ≡ Some l →
      has_number k (core_after v.seat.core input now).up ≡ true → packets_put k v.offers ≡ all_of v → Sends (sends_of v.seat.core input now) (all_of (accepting v input now)) (accepting v input now)
  enters_up v input now l life quiet none f s cur up put = record {
    life = life;
    quiet = quiet;
    stands = stands_of (sends_of v.seat.core input now) (all_of (accepting v input now)) (accepting v input now) (v.seat.pending k) (Some l) true (packets_put k v.offers) false (has_link_down k (v.inputs ++ (input, now) ∷ [])) refl cur up refl none refl
        (s, refl, refl, ap (λ ps. ps ++ sends_of v.seat.core input now) put ∙ sym (all_accepting v input now true f up));
  }

  -- no session is current after an accepted input: nothing is to be sent
  enters_none : (v : Serving) (input : Input) (now : ℕ) (ps : List Packet) (up : Bool) → AreOfLife k served v.offers → NothingAfterBack k v.offers → v.seat.core ≡ core_after_all first.core v.inputs → v.seat.current k ≡ None →
      has_number k (core_after v.seat.core input now).up ≡ up →
      ((has_back k v.offers ≡ false) × (up ≡ false) × (packets_put k v.offers ≡ all_of v))
      ⊎ ((has_back k v.offers ≡ true) × (v.seat.pending k ≡ served) × Begins (packets_put k v.offers) (all_of v) × (up ≡ false → (has_link_down k v.inputs || is_link_down k input) ≡ true)) →
      Sends ps (all_of (accepting v input now)) (accepting v input now)
  enters_none v input now ps up life quiet f cur e h = record {
    life = life;
    quiet = quiet;
    stands = stands_of ps (all_of (accepting v input now)) (accepting v input now) (v.seat.pending k) None up (packets_put k v.offers) (has_back k v.offers) (has_link_down k v.inputs || is_link_down k input) refl cur e refl refl (down-push k v.inputs input now)
        (⊎_elim
        (λ a. inl (a.0, a.1, a.2 ∙ sym (append-nil (all_of v)) ∙ ap (λ t. all_of v ++ (if t then sends_of v.seat.core input now else [])) (sym a.1) ∙ sym (all_accepting v input now up f e)))
        (λ a. inr (a.0, a.1, subst (Begins (packets_put k v.offers)) (sym (all_accepting v input now up f e)) (begins_more (packets_put k v.offers) (all_of v) (if up then sends_of v.seat.core input now else []) a.2), a.3))
        h);
  }

  -- an input that does not bring this link up, and does not take it down under a current session
  enters : (v : Serving) (input : Input) (now : ℕ) → refusal_of v.seat.core input ≡ None → is_link_up k input ≡ false → (is_link_down k input ≡ true → v.seat.current k ≡ None) → Keeps v →
      Sends (sends_of v.seat.core input now) (all_of (accepting v input now)) (accepting v input now)
  enters v input now ok not_up down h = go (cases_Bool (is_link_down k input))
    where
      taken : has_number k (core_after v.seat.core input now).up ≡ has_number k (up_after v.seat.core.up input)
      taken = ap (λ (c : CoreView). has_number k c.up) (core_accepted v.seat.core input now ok)

      was : (cur : Option Life) → v.seat.current k ≡ cur → Stands served [] (v.seat.pending k) (has_number k v.seat.core.up) (packets_put k v.offers) (all_of v) (has_back k v.offers) (has_link_down k v.inputs) cur
      was cur e = subst (λ c. Stands served [] (v.seat.pending k) (has_number k v.seat.core.up) (packets_put k v.offers) (all_of v) (has_back k v.offers) (has_link_down k v.inputs) c) e h.sends.stands

      gone : is_link_down k input ≡ true → Sends (sends_of v.seat.core input now) (all_of (accepting v input now)) (accepting v input now)
      gone d =
          enters_none v input now (sends_of v.seat.core input now) false h.sends.life h.sends.quiet h.core_is (down d) (taken ∙ up_gone k v.seat.core.up input d)
          (⊎_elim (λ a. inl (a.0, refl, a.2)) (λ a. inr (a.0, a.1, a.2, λ _. or_right (has_link_down k v.inputs) (is_link_down k input) d)) (was None (down d)))

      other : is_link_down k input ≡ false → (cur : Option Life) → v.seat.current k ≡ cur → Sends (sends_of v.seat.core input now) (all_of (accepting v input now)) (accepting v input now)
      other d None e =
          enters_none v input now (sends_of v.seat.core input now) (has_number k v.seat.core.up) h.sends.life h.sends.quiet h.core_is e (taken ∙ up_same k v.seat.core.up input not_up d)
          (⊎_elim (λ a. inl a) (λ a. inr (a.0, a.1, a.2, λ z. ap (λ t. has_link_down k v.inputs || t) d ∙ or_false (has_link_down k v.inputs) ∙ a.3 z)) (was None e))
      other d (Some l) e =
          let n = was (Some l) e in
          enters_up v input now l h.sends.life h.sends.quiet n.1 h.core_is n.0 e (taken ∙ up_same k v.seat.core.up input not_up d ∙ n.2) (sym (append-nil (packets_put k v.offers)) ∙ n.3)

      go : (is_link_down k input ≡ true) ⊎ (is_link_down k input ≡ false) → Sends (sends_of v.seat.core input now) (all_of (accepting v input now)) (accepting v input now)
      go (inl d) = gone d
      go (inr d) = other d (v.seat.current k) refl

  step_keeps : (v : Serving) (input : Input) (now : ℕ) → is_link_up k input ≡ false → (is_link_down k input ≡ true → v.seat.current k ≡ None) → Keeps v → Keeps (after_step answers ks input now v)
  unfolding after_step
  step_keeps v input now not_up down h = go (refusal_of v.seat.core input) refl
    where
      go : (r : Option StepError) → refusal_of v.seat.core input ≡ r → Keeps (after_answer answers ks input now v r)
      go None e = accepts v input now h.core_is h.near (enters v input now e not_up down h)
      go (Some error) e = record { sends = record { life = h.sends.life; quiet = h.sends.quiet; stands = h.sends.stands }; core_is = h.core_is; near = h.near }

  near_k : (c : CoreView) → c.neighbours ≡ ks → (j : ℕ) → has_number j ks ≡ true → has_number j c.neighbours ≡ true
  near_k c e j i = ap (has_number j) e ∙ i

  -- ---- the links of neighbours whose session was cut go down

  settling_keeps : (most now : ℕ) (v : Serving) → Keeps v → Keeps (after_settling most answers ks now v)
  unfolding after_settling
  settling_keeps zero now v h = h
  settling_keeps (suc most) now v h = go (first_cut v.seat ks) refl (λ x y. settling_keeps most now x y)
    where
      go : (r : Option ℕ) → first_cut v.seat ks ≡ r → ((x : Serving) → Keeps x → Keeps (after_settling most answers ks now x)) →
          Keeps (elim r [ None ↦ v | Some j ↦ after_settling most answers ks now (after_step answers ks (In.LinkDown j) now v) ])
      go None e again = h
      go (Some j) e again =
          let f = first_cut_is v.seat ks j e in
          again (after_step answers ks (In.LinkDown j) now v)
          (step_keeps v (In.LinkDown j) now refl (λ d. subst (λ x. v.seat.current x ≡ None) (eqb-true j k d) (none_is (v.seat.current j) f.2)) h)

  -- no such neighbour is left
  settles : (most now : ℕ) (v : Serving) → v.seat.core.neighbours ≡ ks → count_up ks v.seat.core.up ≤ most → first_cut (after_settling most answers ks now v).seat ks ≡ None
  unfolding after_settling
  settles zero now v near le = first_cut_none v.seat ks le
  settles (suc most) now v near le = go (first_cut v.seat ks) refl (λ x y z. settles most now x y z)
    where
      go : (r : Option ℕ) → first_cut v.seat ks ≡ r → ((x : Serving) → x.seat.core.neighbours ≡ ks → count_up ks x.seat.core.up ≤ most → first_cut (after_settling most answers ks now x).seat ks ≡ None) →
          first_cut (elim r as (λ _. Serving) [ None ↦ v | Some j ↦ after_settling most answers ks now (after_step answers ks (In.LinkDown j) now v) ]).seat ks ≡ None
      go None e again = e
      go (Some j) e again =
          let f = first_cut_is v.seat ks j e in
          let fewer : count_up ks (without_number j v.seat.core.up) < count_up ks v.seat.core.up = count_drops ks v.seat.core.up j f.0 f.1 in
          let ok = down_accepted v.seat.core j (near_k v.seat.core near j f.0) f.1 in
          let c = accepted_core answers ks v (In.LinkDown j) now ok in
          let ups : (after_step answers ks (In.LinkDown j) now v).seat.core.up ≡ without_number j v.seat.core.up = ap (λ (x : CoreView). x.up) (c ∙ core_accepted v.seat.core (In.LinkDown j) now ok) in
          again (after_step answers ks (In.LinkDown j) now v) (ap (λ (x : CoreView). x.neighbours) c ∙ same-neighbours v.seat.core (In.LinkDown j) now ∙ near)
          (subst (λ up. count_up ks up ≤ most) (sym ups) (omega (arith, fewer, le)))

  -- ---- an input and all its consequences

  -- the invariant after the item
  pub record Ended (v : Serving) : Type 0 where
    pub keeps : Keeps v
    pub settled : has_back k v.offers ≡ true → has_number k v.seat.core.up ≡ false

  settle : (now : ℕ) (v : Serving) → Keeps v → Ended (after_settling (length ks) answers ks now v)
  settle now v h =
      let w = after_settling (length ks) answers ks now v in
      let a = settling_keeps (length ks) now v h in
      let none : first_cut w.seat ks ≡ None = settles (length ks) now v h.near (count_most ks v.seat.core.up) in
      record { keeps = a; settled = λ b. go w a none b (w.seat.current k) refl }
    where
      go : (w : Serving) → Keeps w → first_cut w.seat ks ≡ None → has_back k w.offers ≡ true → (cur : Option Life) → w.seat.current k ≡ cur → has_number k w.seat.core.up ≡ false
      go w a none b None e = settled_at w.seat ks k none inside e
      go w a none b (Some l) e =
          let n = subst (λ c. Stands served [] (w.seat.pending k) (has_number k w.seat.core.up) (packets_put k w.offers) (all_of w) (has_back k w.offers) (has_link_down k w.inputs) c) e a.sends.stands in
          absurd (true≢false (sym b ∙ n.1))

  pub input_ends : (v : Serving) (input : Input) (now : ℕ) → is_link_up k input ≡ false → (is_link_down k input ≡ true → v.seat.current k ≡ None) → Keeps v → Ended (after_input answers ks input now v)
  unfolding after_input
  input_ends v input now a b h = settle now (after_step answers ks input now v) (step_keeps v input now a b h)

  -- ---- the start of an item

  -- pending cuts were offered, and nothing else was done
  pub record Started (v : Serving) : Type 0 where
    pub core : v.seat.core ≡ first.core
    pub current : v.seat.current ≡ first.current
    pub inputs : v.inputs ≡ []
    pub life : AreOfLife k served v.offers
    pub quiet : NothingAfterBack k v.offers
    pub none : has_back k v.offers ≡ false
    pub put : packets_put k v.offers ≡ []

  cut_if : (t put : Bool) → (if t && put then no_packets else no_packets) ≡ no_packets
  cut_if true true = refl
  cut_if true false = refl
  cut_if false put = refl

  cut_back : (t put : Bool) → (t && (false && not put)) ≡ false
  cut_back true put = refl
  cut_back false put = refl

  start_offer : (v new : Serving) (j : ℕ) (l : Life) (put : Bool) → new.offers ≡ v.offers ++ record { to = j; cargo = Gives.Cut l; put = put } ∷ [] → new.seat.core ≡ v.seat.core → new.seat.current ≡ v.seat.current → new.inputs ≡ v.inputs → Started v → Started new
  start_offer v new j l put e a b c s =
      let o : Offer = record { to = j; cargo = Gives.Cut l; put = put } in record {
        core = a ∙ s.core;
        current = b ∙ s.current;
        inputs = c ∙ s.inputs;
        life = subst (AreOfLife k served) (sym e) (life-push k served v.offers o s.life (λ _. tt));
        quiet = subst (NothingAfterBack k) (sym e) (nothing_first k v.offers o s.none s.quiet);
        none = ap (has_back k) e ∙ back-push k v.offers o ∙ ap₂ (λ x y. x || y) s.none (cut_back (nat_eq j k) put);
        put = ap (packets_put k) e ∙ put-push k v.offers o ∙ ap₂ (λ xs ys. xs ++ ys) s.put (cut_if (nat_eq j k) put);
      }

  pub start_cut : (v : Serving) (j : ℕ) (o : Option Life) → Started v → Started (after_cut_tried answers v j o)
  start_cut v j None s = s
  start_cut v j (Some l) s =
      cond_both (answers v.offers j) _ _ Started
      (λ _. start_offer v (with_pending (offered v j (Gives.Cut l) true) j None) j l true refl refl refl refl s)
      (λ _. start_offer v (offered v j (Gives.Cut l) false) j l false refl refl refl refl s)

  start_cuts : (js : List ℕ) (v : Serving) → Started v → Started (after_cuts_tried answers js v)
  unfolding after_cuts_tried
  start_cuts [] v s = s
  start_cuts (j ∷ js) v s = start_cuts js (after_cut_tried answers v j (v.seat.pending j)) (start_cut v j (v.seat.pending j) s)

  pub started : Started (after_cuts_tried answers ks (begin_serving first))
  started = start_cuts ks (begin_serving first) (record { core = refl; current = refl; inputs = refl; life = tt; quiet = tt; none = refl; put = refl })

  all_start : (v : Serving) → v.inputs ≡ [] → all_of v ≡ []
  all_start v e = ap (broadcast_to k first.core) e

  core_start : (v : Serving) → Started v → v.seat.core ≡ core_after_all first.core v.inputs
  core_start v s = s.core ∙ sym (ap (core_after_all first.core) s.inputs)

  -- the session served is the current one, or none is current
  pub keeps_start : (v : Serving) → Started v → first.core.neighbours ≡ ks → is_some (first.current k) ≡ has_number k first.core.up → (served ≡ first.current k) ⊎ (first.current k ≡ None) → Keeps v
  keeps_start v s near in_step is = record {
    sends = record { life = s.life; quiet = s.quiet; stands = go (first.current k) refl };
    core_is = core_start v s;
    near = ap (λ (c : CoreView). c.neighbours) s.core ∙ near;
  }
    where
      up_is : has_number k v.seat.core.up ≡ is_some (first.current k)
      up_is = ap (λ (c : CoreView). has_number k c.up) s.core ∙ sym in_step

      cur_is : v.seat.current k ≡ first.current k
      cur_is = ap (λ (f : ℕ → Option Life). f k) s.current

      put_all : packets_put k v.offers ≡ all_of v
      put_all = s.put ∙ sym (all_start v s.inputs)

      go : (cur : Option Life) → first.current k ≡ cur → StandsIn [] (all_of v) v
      go None e =
          stands_of [] (all_of v) v (v.seat.pending k) None false (packets_put k v.offers) false (has_link_down k v.inputs) refl (cur_is ∙ e) (up_is ∙ ap is_some e) refl s.none refl (inl (refl, refl, put_all))
      go (Some l) e =
          stands_of [] (all_of v) v (v.seat.pending k) (Some l) true (packets_put k v.offers) false (has_link_down k v.inputs) refl (cur_is ∙ e) (up_is ∙ ap is_some e) refl s.none refl
          (⊎_elim (λ q. q ∙ e) (λ q. absurd (let y : None ≡ Some l = sym q ∙ e in cc)) is, refl, refl, append-nil (packets_put k v.offers) ∙ put_all)

  pub ended_start : (v : Serving) → has_back k v.offers ≡ false → Keeps v → Ended v
  ended_start v none h = record { keeps = h; settled = λ b. absurd (true≢false (sym b ∙ none)) }

  -- the current session is over at the start of an item
  down_starts : (v : Serving) (now : ℕ) → Started v → first.core.neighbours ≡ ks → has_number k first.core.up ≡ true → Keeps (after_step answers ks (In.LinkDown k) now (with_current v k None))
  down_starts v now s near up =
      let w : Serving = with_current v k None in
      let near' : v.seat.core.neighbours ≡ ks = ap (λ (c : CoreView). c.neighbours) s.core ∙ near in
      let ok : refusal_of v.seat.core (In.LinkDown k) ≡ None = down_accepted v.seat.core k (near_k v.seat.core near' k inside) (ap (λ (c : CoreView). has_number k c.up) s.core ∙ up) in
      let gone : has_number k (core_after v.seat.core (In.LinkDown k) now).up ≡ false = ap (λ (c : CoreView). has_number k c.up) (core_accepted v.seat.core (In.LinkDown k) now ok) ∙ up_gone k v.seat.core.up (In.LinkDown k) (eq-eqb k k refl) in
      subst Keeps (sym (accepted_step answers ks w (In.LinkDown k) now ok))
      (accepts w (In.LinkDown k) now (core_start v s) near'
      (enters_none w (In.LinkDown k) now (sends_of w.seat.core (In.LinkDown k) now) false s.life s.quiet (core_start v s) (put_at v.seat.current k None) gone (inl (s.none, refl, s.put ∙ sym (all_start v s.inputs)))))

  pub down_ends : (v : Serving) (now : ℕ) → Started v → first.core.neighbours ≡ ks → has_number k first.core.up ≡ true → Ended (after_down answers ks k now v)
  unfolding after_input
  down_ends v now s near up = settle now (after_step answers ks (In.LinkDown k) now (with_current v k None)) (down_starts v now s near up)

  -- a session of another neighbour
  pub keeps_off : (v : Serving) (j : ℕ) (l : Option Life) → nat_eq j k ≡ false → Keeps v → Keeps (with_current v j l)
  keeps_off v j l off h = record {
    sends = record {
      life = h.sends.life;
      quiet = h.sends.quiet;
      stands = stands_of [] (all_of v) (with_current v j l) (v.seat.pending k) (v.seat.current k) (has_number k v.seat.core.up) (packets_put k v.offers) (has_back k v.offers) (has_link_down k v.inputs) refl (put_off v.seat.current j l k off) refl refl refl refl h.sends.stands;
    };
    core_is = h.core_is;
    near = h.near;
  }

  pub forget_off : (v : Serving) (j : ℕ) (l : Option Life) → nat_eq j k ≡ false → Keeps v → Keeps (with_pending v j l)
  forget_off v j l off h = record {
    sends = record {
      life = h.sends.life;
      quiet = h.sends.quiet;
      stands = stands_of [] (all_of v) (with_pending v j l) (v.seat.pending k) (v.seat.current k) (has_number k v.seat.core.up) (packets_put k v.offers) (has_back k v.offers) (has_link_down k v.inputs) (put_off v.seat.pending j l k off) refl refl refl refl refl h.sends.stands;
    };
    core_is = h.core_is;
    near = h.near;
  }

  -- another pending session, if the queue returned nothing
  pub forget_on : (v : Serving) (l : Option Life) → has_back k v.offers ≡ false → Keeps v → Keeps (with_pending v k l)
  forget_on v l none h = record { sends = record { life = h.sends.life; quiet = h.sends.quiet; stands = go (v.seat.current k) h.sends.stands }; core_is = h.core_is; near = h.near }
    where
      go : (cur : Option Life) → Stands served [] (v.seat.pending k) (has_number k v.seat.core.up) (packets_put k v.offers) (all_of v) (has_back k v.offers) (has_link_down k v.inputs) cur →
          Stands served [] (put_one v.seat.pending k l k) (has_number k v.seat.core.up) (packets_put k v.offers) (all_of v) (has_back k v.offers) (has_link_down k v.inputs) cur
      go None h = ⊎_elim (λ a. inl a) (λ a. absurd (true≢false (sym a.0 ∙ none))) h
      go (Some life) h = h

  -- the current session of another neighbour is over, or comes up
  pub down_off : (v : Serving) (j now : ℕ) → nat_eq j k ≡ false → Keeps v → Ended (after_down answers ks j now v)
  down_off v j now off h = input_ends (with_current v j None) (In.LinkDown j) now refl (λ d. absurd (true≢false (sym d ∙ off))) (keeps_off v j None off h)

  old_down_off : (v : Serving) (j now : ℕ) (cur : Option Life) → nat_eq j k ≡ false → Keeps v → Keeps (after_old_down answers ks j now v cur)
  old_down_off v j now None off h = h
  old_down_off v j now (Some l) off h = (down_off v j now off h).keeps

  pub up_off : (v : Serving) (j : ℕ) (l : Life) (now : ℕ) → nat_eq j k ≡ false → Keeps v → Ended (after_up answers ks j l now (after_old_down answers ks j now v (v.seat.current j)))
  up_off v j l now off h =
      let w = after_old_down answers ks j now v (v.seat.current j) in
      input_ends (with_current w j (Some l)) (In.LinkUp j) now off (λ d. absurd (true≢false (sym d))) (keeps_off w j (Some l) off (old_down_off v j now (v.seat.current j) off h))

-- ---- a session comes up for the neighbour itself

none_back : (k : ℕ) (os : List Offer) → AreOfLife k None os → has_back k os ≡ false
none_back k [] h = refl
none_back k (o ∷ os) h = ap₂ (λ x y. x || y) (go (cases_Bool (nat_eq o.to k)) o.cargo h.0) (none_back k os h.1)
  where
    go : (nat_eq o.to k ≡ true) ⊎ (nat_eq o.to k ≡ false) → (cargo : Cargo) → (o.to ≡ k → IsOfLife None cargo) → (nat_eq o.to k && (is_packet cargo && not o.put)) ≡ false
    go (inr e) cargo f = ap (λ t. t && (is_packet cargo && not o.put)) e
    go (inl e) (Gives.Packet life packet) f = absurd (let y : None ≡ Some life = f (eqb-true o.to k e) in cc)
    go (inl e) (Gives.Cut life) f = ap (λ t. t && (false && not o.put)) e

any_life : (k : ℕ) (served : Option Life) (os : List Offer) → AreOfLife k None os → AreOfLife k served os
any_life k served [] h = tt
any_life k served (o ∷ os) h = ((λ q. go o.cargo (h.0 q)), any_life k served os h.1)
  where
    go : (cargo : Cargo) → IsOfLife None cargo → IsOfLife served cargo
    go (Gives.Packet life packet) f = absurd (let y : None ≡ Some life = f in cc)
    go (Gives.Cut life) f = tt

module _ (answers : Answers) (ks : List ℕ) (k : ℕ) (first : SeatState) (inside : has_number k ks ≡ true) (apart : has_repeat ks ≡ false) where
  old_down_low : (v : Serving) (now : ℕ) → Started answers ks k first None inside apart v → first.core.neighbours ≡ ks → is_some (first.current k) ≡ has_number k first.core.up → Keeps answers ks k first None inside apart (after_old_down answers ks k now v (v.seat.current k))
  old_down_low v now s near in_step = go (first.current k) refl (v.seat.current k) (ap (λ (f : ℕ → Option Life). f k) s.current)
    where
      go : (was : Option Life) → first.current k ≡ was → (cur : Option Life) → cur ≡ first.current k → Keeps answers ks k first None inside apart (after_old_down answers ks k now v cur)
      go was e None c = keeps_start answers ks k first None inside apart v s near in_step (inl c)
      go None e (Some l) c = absurd (let y : Some l ≡ None = c ∙ e in cc)
      go (Some m) e (Some l) c = (down_ends answers ks k first None inside apart v now s near (sym in_step ∙ ap is_some e)).keeps

  -- in this item nothing was sent to this neighbour so far, and its link is not up
  low : (w : Serving) → Keeps answers ks k first None inside apart w → (has_number k w.seat.core.up ≡ false) × (packets_put k w.offers ≡ all_of answers ks k first None inside apart w)
  low w h = go (w.seat.current k) h.sends.stands
    where
      go : (cur : Option Life) → Stands None [] (w.seat.pending k) (has_number k w.seat.core.up) (packets_put k w.offers) (all_of answers ks k first None inside apart w) (has_back k w.offers) (has_link_down k w.inputs) cur →
          (has_number k w.seat.core.up ≡ false) × (packets_put k w.offers ≡ all_of answers ks k first None inside apart w)
      go (Some l) n = absurd (let y : None ≡ Some l = n.0 in cc)
      go None n = ⊎_elim (λ a. (a.1, a.2)) (λ a. absurd (true≢false (sym a.0 ∙ none_back k w.offers h.sends.life))) n

  up_ends : (w : Serving) (l : Life) (now : ℕ) → Keeps answers ks k first None inside apart w → Ended answers ks k first (Some l) inside apart (after_up answers ks k l now w)
  unfolding after_input
  up_ends w l now h =
      let v : Serving = with_current w k (Some l) in
      let q = low w h in
      let ok : refusal_of w.seat.core (In.LinkUp k) ≡ None = up_accepted w.seat.core k (ap (has_number k) h.near ∙ inside) q.0 in
      let come : has_number k (core_after w.seat.core (In.LinkUp k) now).up ≡ true = ap (λ (c : CoreView). has_number k c.up) (core_accepted w.seat.core (In.LinkUp k) now ok) ∙ up_come k w.seat.core.up in
      settle answers ks k first (Some l) inside apart now (after_step answers ks (In.LinkUp k) now v)
      (subst (Keeps answers ks k first (Some l) inside apart) (sym (accepted_step answers ks v (In.LinkUp k) now ok))
      (accepts answers ks k first (Some l) inside apart v (In.LinkUp k) now h.core_is h.near
      (enters_up answers ks k first (Some l) inside apart v (In.LinkUp k) now l (any_life k (Some l) w.offers h.sends.life) h.sends.quiet (none_back k w.offers h.sends.life) h.core_is refl (put_at w.seat.current k (Some l)) come q.1)))

  pub up_on : (v : Serving) (l : Life) (now : ℕ) → Started answers ks k first None inside apart v → first.core.neighbours ≡ ks → is_some (first.current k) ≡ has_number k first.core.up →
      Ended answers ks k first (Some l) inside apart (after_up answers ks k l now (after_old_down answers ks k now v (v.seat.current k)))
  up_on v l now s near in_step = up_ends (after_old_down answers ks k now v (v.seat.current k)) l now (old_down_low v now s near in_step)
