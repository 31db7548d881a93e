-- Serving leaves no gap: what a core broadcasts while a session is current is sent in it, or the session is cut.
use Rattle.std.proofs.Common.{◌≡◌, ℕ, zero, suc, Bool, true, false, true≢false, ◌&&◌, ◌||◌, ◌⊎◌, inl, inr, ⊎_elim, List, [], ◌∷◌, ◌++◌, length, Option, Some, None, nat_eq, if◌then◌else◌, refl, sym, ap, ◌∙◌, subst, append_assoc, append-nil, eqb-true, eq-eqb}
use Rattle.tora_seat.proofs.Places.{turned}
use Rattle.tora_seat.specs.SeatLaws.{is_link_down}
use Rattle.std.proofs.lemmas.Bool.{cond_both, cases_Bool, false_from_ne_true, or_parts}
use Rattle.std.specs.Prelude.{slice_get}
use Rattle.tora_packet.specs.declared.Packet.{Packet}
use Rattle.tora_arq.specs.declared.life.Life.{Life}
use Rattle.tora_core.specs.declared.Input.{Input}
use Rattle.tora_core.specs.declared.Input.TheVariants as In
use Rattle.tora_core.specs.declared.errors.StepError.{StepError}
use Rattle.tora_core.specs.Numbers.{has_number, has_repeat}
use Rattle.tora_core.specs.CoreRun.{CoreView, refusal_of, core_after, core_after_all, sends_of}
use Rattle.tora_seat.specs.declared.what.What.{What}
use Rattle.tora_seat.specs.declared.what.What.TheVariants as Tells
use Rattle.tora_seat.specs.declared.answer.Answer.TheVariants as Says
use Rattle.tora_seat.specs.declared.item.Item.{Item}
use Rattle.tora_seat.specs.declared.cargo.Cargo.{Cargo}
use Rattle.tora_seat.specs.declared.cargo.Cargo.TheVariants as Gives
use Rattle.tora_seat.specs.Serving.{SeatState, Parcel, Serving, Answers, put_one, offered, with_current, with_pending, after_cut_tried, after_cuts_tried, after_sent, after_broadcast, after_broadcasts, accepting, after_answer, after_step, first_cut, after_settling, after_input, is_current, after_down, after_old_down, after_cut_asked, after_life_cut, after_up, after_link_item, after_other_item, after_item_of, begin_serving, serving_of, put_to}
use Rattle.tora_world.specs.Lists.{packets_of, parcels_in, parcel_of, Begins}
use Rattle.tora_world.specs.Gaps.{is_link_up, with_sends, broadcast_from, life_told}
use Rattle.tora_world.proofs.PacketLists.{same_true, of-push, only_same, only_other, begins_refl, begins_trans, begins_append}
use Rattle.tora_world.proofs.Events.{put_one_here, put_one_there}
use Rattle.tora_world.proofs.Cores.{core_after-push}
use Rattle.tora_world.proofs.Serving.{offer_parcels, nothing_more, no_cut, no_back}
use Rattle.tora_world.specs.Layers.{CoreLaws, SeatLaws}
use Rattle.tora_seat.specs.Serves.{IsCut}
use Rattle.tora_world.proofs.LinksUp.{up_same, up_gone, up_accepted, down_accepted}
use Rattle.tora_seat.proofs.Calm.{calm_broadcasts, tried_current, accepted_step}

-- if a session is current: the packets still to send in it; if none is: what was sent in the session that came up last
abbrev pub Now : (Life → Type 0) → Option Life → List Packet → List Packet → Bool → Option Life → List Parcel → Option Life → Type 0
Now Was o ps all up pending xs None = (o ≡ None → up ≡ false) × ((l : Life) → o ≡ Some l → Begins (packets_of l xs) all × (((packets_of l xs ≡ all) × (up ≡ false)) ⊎ (Was l ⊎ (pending ≡ Some l))))
Now Was o ps all up pending xs (Some l) = (o ≡ Some l) × (packets_of l xs ++ ps ≡ all) × (up ≡ true)

pub record Fits (Was : Life → Type 0) (o : Option Life) (old : List Parcel) (ps all : List Packet) (up : Bool) (current pending : Option Life) (xs : List Parcel) : Type 0 where
  pub now : Now Was o ps all up pending xs current
  pub others : (j : Life) → (o ≡ Some j → ⊥) → packets_of j xs ≡ packets_of j old

broadcast-push : (k : ℕ) (c : CoreView) (is : List (Input × ℕ)) (input : Input) (now : ℕ) (ps : List Packet) →
    broadcast_from k c (is ++ (input, now) ∷ []) ps ≡ with_sends k (core_after_all c is) input now (broadcast_from k c is ps)
broadcast-push k c [] input now ps = refl
broadcast-push k c ((i, t) ∷ is) input now ps = broadcast-push k (core_after c i t) is input now (with_sends k c i t ps)

with_sends_is : (k : ℕ) (c : CoreView) (input : Input) (now : ℕ) (ps : List Packet) (b : Bool) → is_link_up k input ≡ false → has_number k (core_after c input now).up ≡ b → with_sends k c input now ps ≡ (if b then ps ++ sends_of c input now else ps)
with_sends_is k c input now ps b e u =
    ap (λ x. if x then sends_of c input now else if has_number k (core_after c input now).up then ps ++ sends_of c input now else ps) e
    ∙ ap (λ x. if x then ps ++ sends_of c input now else ps) u

module _ (cores : CoreLaws) (seats : SeatLaws) (answers : Answers) (ks : List ℕ) (k : ℕ) (first : CoreView) (before : List (Input × ℕ)) (base : List Cargo) (Was : Life → Type 0) (inside : has_number k ks ≡ true) (apart : has_repeat ks ≡ false) where
  abbrev pub xs_of : Serving → List Parcel
  xs_of v = parcels_in (base ++ put_to k v.offers)

  abbrev pub FitsIn : Option Life → List Parcel → List Packet → List Packet → Serving → Type 0
  FitsIn o old ps all v = Fits Was o old ps all (has_number k v.seat.core.up) (v.seat.current k) (v.seat.pending k) (xs_of v)

  fits_same : (o : Option Life) (old : List Parcel) (ps all : List Packet) (v v' : Serving) → v'.seat.core ≡ v.seat.core → v'.seat.current k ≡ v.seat.current k → v'.seat.pending k ≡ v.seat.pending k → xs_of v' ≡ xs_of v → FitsIn o old ps all v → FitsIn o old ps all v'
  fits_same o old ps all v v' a b c d h =
      subst (λ x. Fits Was o old ps all (has_number k x.up) (v'.seat.current k) (v'.seat.pending k) (xs_of v')) (sym a)
      (subst (λ x. Fits Was o old ps all (has_number k v.seat.core.up) x (v'.seat.pending k) (xs_of v')) (sym b)
      (subst (λ x. Fits Was o old ps all (has_number k v.seat.core.up) (v.seat.current k) x (xs_of v')) (sym c)
      (subst (λ x. Fits Was o old ps all (has_number k v.seat.core.up) (v.seat.current k) (v.seat.pending k) x) (sym d) h)))

  -- a packet for another neighbour
  sent_off : (o : Option Life) (old : List Parcel) (ps all : List Packet) (p : Packet) (v : Serving) (j : ℕ) (cur : Option Life) → nat_eq j k ≡ false → FitsIn o old ps all v → FitsIn o old ps all (after_sent answers p v j cur)
  sent_off o old ps all p v j None off h = h
  sent_off o old ps all p v j (Some life) off h =
      cond_both (answers v.offers j) _ _ (FitsIn o old ps all)
      (λ _. fits_same o old ps all v (offered v j (Gives.Packet life p) true) refl refl refl
      (nothing_more k base v.offers (record { to = j; cargo = Gives.Packet life p; put = true }) (ap (λ (t : Bool). parcels_in (if t && true then Gives.Packet life p ∷ [] else [])) off)) h)
      (λ _. fits_same o old ps all v (with_pending (with_current (offered v j (Gives.Packet life p) false) j None) j (Some life)) refl
      (put_one_there v.seat.current j None k (turned j k off)) (put_one_there v.seat.pending j (Some life) k (turned j k off))
      (nothing_more k base v.offers (record { to = j; cargo = Gives.Packet life p; put = false }) (no_back k j (Gives.Packet life p))) h)

  -- a packet for this neighbour
  sent_on : (o : Option Life) (old : List Parcel) (ps all : List Packet) (p : Packet) (v : Serving) (cur : Option Life) → v.seat.current k ≡ cur → FitsIn o old (p ∷ ps) all v → FitsIn o old ps all (after_sent answers p v k cur)
  sent_on o old ps all p v None e h = record {
    now = subst (λ c. Now Was o ps all (has_number k v.seat.core.up) (v.seat.pending k) (xs_of v) c) (sym e) (subst (λ c. Now Was o (p ∷ ps) all (has_number k v.seat.core.up) (v.seat.pending k) (xs_of v) c) e h.now);
    others = h.others;
  }
  sent_on o old ps all p v (Some l) e h =
      cond_both (answers v.offers k) _ _ (FitsIn o old ps all)
      (λ _. subst (λ x. Fits Was o old ps all (has_number k v.seat.core.up) (v.seat.current k) (v.seat.pending k) x) (sym more)
      (record {
        now = subst (λ c. Now Was o ps all (has_number k v.seat.core.up) (v.seat.pending k) (xs_of v ++ parcel_of l p ∷ []) c) (sym e)
            (n.0, ap (λ ys. ys ++ ps) (of-push l (xs_of v) (parcel_of l p) ∙ ap (λ ys. packets_of l (xs_of v) ++ ys) (only_same l p)) ∙ append_assoc (packets_of l (xs_of v)) (p ∷ []) ps ∙ n.1, n.2);
        others = λ j no. of-push j (xs_of v) (parcel_of l p) ∙ ap (λ ys. packets_of j (xs_of v) ++ ys) (only_other j (parcel_of l p) (λ q. no (n.0 ∙ ap Some (sym q)))) ∙ append-nil (packets_of j (xs_of v)) ∙ h.others j no;
      }))
      (λ _. subst (λ c. Fits Was o old ps all (has_number k v.seat.core.up) c (put_one v.seat.pending k (Some l) k) (xs_of (offered v k (Gives.Packet l p) false))) (sym (put_one_here v.seat.current k None))
      (subst (λ x. Fits Was o old ps all (has_number k v.seat.core.up) None (put_one v.seat.pending k (Some l) k) x) (sym (nothing_more k base v.offers (record { to = k; cargo = Gives.Packet l p; put = false }) (no_back k k (Gives.Packet l p))))
      (record {
        now = (
          λ z. absurd (let y : None ≡ Some l = sym z ∙ n.0 in cc),
          λ l' q. let y : Some l ≡ Some l' = sym n.0 ∙ q in let same_life : l ≡ l' = cc in
              (subst (λ i. Begins (packets_of i (xs_of v)) all) same_life (p ∷ ps, n.1), inr (inr (put_one_here v.seat.pending k (Some l) ∙ ap Some same_life))),
        );
        others = h.others;
      })))
    where
      n : Now Was o (p ∷ ps) all (has_number k v.seat.core.up) (v.seat.pending k) (xs_of v) (Some l)
      n = subst (λ c. Now Was o (p ∷ ps) all (has_number k v.seat.core.up) (v.seat.pending k) (xs_of v) c) e h.now

      more : parcels_in (base ++ put_to k (v.offers ++ record { to = k; cargo = Gives.Packet l p; put = true } ∷ [])) ≡ parcels_in (base ++ put_to k v.offers) ++ parcel_of l p ∷ []
      more = offer_parcels k base v.offers (record { to = k; cargo = Gives.Packet l p; put = true })
          ∙ ap (λ (t : Bool). parcels_in (base ++ put_to k v.offers) ++ parcels_in (if t && true then Gives.Packet l p ∷ [] else [])) (eq-eqb k k refl)

  broadcast_off : (o : Option Life) (old : List Parcel) (ps all : List Packet) (p : Packet) (js : List ℕ) (v : Serving) → has_number k js ≡ false → FitsIn o old ps all v → FitsIn o old ps all (after_broadcast answers p js v)
  unfolding after_broadcast
  broadcast_off o old ps all p [] v i h = h
  broadcast_off o old ps all p (j ∷ js) v i h =
      let e = or_parts (nat_eq j k) (has_number k js) i in
      broadcast_off o old ps all p js (after_sent answers p v j (v.seat.current j)) e.1 (sent_off o old ps all p v j (v.seat.current j) e.0 h)

  broadcast_on : (o : Option Life) (old : List Parcel) (ps all : List Packet) (p : Packet) (js : List ℕ) (v : Serving) → has_number k js ≡ true → has_repeat js ≡ false → FitsIn o old (p ∷ ps) all v → FitsIn o old ps all (after_broadcast answers p js v)
  unfolding after_broadcast
  broadcast_on o old ps all p [] v i a h = absurd (true≢false (sym i))
  broadcast_on o old ps all p (j ∷ js) v i a h = go (cases_Bool (nat_eq j k)) (or_parts (has_number j js) (has_repeat js) a) (λ x y z. broadcast_on o old ps all p js x y (or_parts (has_number j js) (has_repeat js) a).1 z)
    where
      go : (nat_eq j k ≡ true) ⊎ (nat_eq j k ≡ false) → (has_number j js ≡ false) × (has_repeat js ≡ false) → ((x : Serving) → has_number k js ≡ true → FitsIn o old (p ∷ ps) all x → FitsIn o old ps all (after_broadcast answers p js x)) →
          FitsIn o old ps all (after_broadcast answers p js (after_sent answers p v j (v.seat.current j)))
      go (inl e) d again =
          let q : j ≡ k = eqb-true j k e in
          broadcast_off o old ps all p js (after_sent answers p v j (v.seat.current j)) (subst (λ x. has_number x js ≡ false) q d.0)
          (subst (λ x. FitsIn o old ps all (after_sent answers p v x (v.seat.current x))) (sym q) (sent_on o old ps all p v (v.seat.current k) refl h))
      go (inr e) d again =
          again (after_sent answers p v j (v.seat.current j)) (ap (λ b. b || has_number k js) (sym e) ∙ i)
          (sent_off o old (p ∷ ps) all p v j (v.seat.current j) e h)

  broadcasts_on : (o : Option Life) (old : List Parcel) (ps all : List Packet) (v : Serving) → FitsIn o old ps all v → FitsIn o old [] all (after_broadcasts answers ks ps v)
  unfolding after_broadcasts
  broadcasts_on o old [] all v h = h
  broadcasts_on o old (p ∷ ps) all v h = broadcasts_on o old ps all (after_broadcast answers p ks v) (broadcast_on o old ps all p ks v inside apart h)

  -- ---- inputs

  abbrev pub all_of : Serving → List Packet
  all_of v = broadcast_from k first (before ++ v.inputs) []

  abbrev Near : CoreView → Type 0
  Near c = (j : ℕ) → has_number j ks ≡ true → has_number j c.neighbours ≡ true

  pub record Inv (o : Option Life) (old : List Parcel) (v : Serving) : Type 0 where
    pub fits : FitsIn o old [] (all_of v) v
    pub follows : v.seat.core ≡ core_after_all first (before ++ v.inputs)
    pub near : Near v.seat.core

  all_accepting : (v : Serving) (input : Input) (now : ℕ) → v.seat.core ≡ core_after_all first (before ++ v.inputs) → all_of (accepting v input now) ≡ with_sends k v.seat.core input now (all_of v)
  all_accepting v input now f =
      ap (λ is. broadcast_from k first is []) (sym (append_assoc before v.inputs ((input, now) ∷ []))) ∙ broadcast-push k first (before ++ v.inputs) input now []
      ∙ ap (λ c. with_sends k c input now (all_of v)) (sym f)

  near_after : (c : CoreView) (input : Input) (now : ℕ) → Near c → Near (core_after c input now)
  near_after c input now h j i = ap (λ ns. has_number j ns) (cores.neighbours c input now) ∙ h j i

  -- an input is accepted, and its packets are sent
  accepts : (o : Option Life) (old : List Parcel) (v : Serving) (input : Input) (now : ℕ) → v.seat.core ≡ core_after_all first (before ++ v.inputs) → Near v.seat.core →
      FitsIn o old (sends_of v.seat.core input now) (with_sends k v.seat.core input now (all_of v)) (accepting v input now) → Inv o old (after_broadcasts answers ks (sends_of v.seat.core input now) (accepting v input now))
  accepts o old v input now f near h =
      let v' : Serving = accepting v input now in
      let v'' : Serving = after_broadcasts answers ks (sends_of v.seat.core input now) (accepting v input now) in
      let c = calm_broadcasts answers ks (sends_of v.seat.core input now) (accepting v input now) in
      let all_same : with_sends k v.seat.core input now (all_of v) ≡ all_of v'' = sym (all_accepting v input now f) ∙ ap (λ is. broadcast_from k first (before ++ is) []) (sym c.inputs) in
      record {
        fits = subst (λ a. FitsIn o old [] a v'') all_same (broadcasts_on o old (sends_of v.seat.core input now) (with_sends k v.seat.core input now (all_of v)) (accepting v input now) h);
        follows = c.core ∙ ap (λ x. core_after x input now) f ∙ sym (core_after-push first (before ++ v.inputs) input now) ∙ ap (core_after_all first) (append_assoc before v.inputs ((input, now) ∷ []))
            ∙ ap (λ is. core_after_all first (before ++ is)) (sym c.inputs);
        near = subst Near (sym c.core) (near_after v.seat.core input now near);
      }

  -- an input that does not bring this link up, and does not take it down under a current session
  entry : (o : Option Life) (old : List Parcel) (v : Serving) (input : Input) (now : ℕ) → refusal_of v.seat.core input ≡ None → is_link_up k input ≡ false → (is_link_down k input ≡ true → v.seat.current k ≡ None) → FitsIn o old [] (all_of v) v →
      FitsIn o old (sends_of v.seat.core input now) (with_sends k v.seat.core input now (all_of v)) (accepting v input now)
  entry o old v input now ok not_up down h = go (cases_Bool (is_link_down k input))
    where
      at_none : (b : Bool) → has_number k (core_after v.seat.core input now).up ≡ b → (b ≡ true → has_number k v.seat.core.up ≡ true) → (has_number k v.seat.core.up ≡ false → b ≡ false) →
          Now Was o [] (all_of v) (has_number k v.seat.core.up) (v.seat.pending k) (xs_of v) None →
          Now Was o (sends_of v.seat.core input now) (with_sends k v.seat.core input now (all_of v)) (has_number k (core_after v.seat.core input now).up) (v.seat.pending k) (xs_of v) None
      at_none true e was off n = (
        λ z. absurd (true≢false (sym (was refl) ∙ n.0 z)),
        λ l q. let d = n.1 l q in
            let all : with_sends k v.seat.core input now (all_of v) ≡ all_of v ++ sends_of v.seat.core input now = with_sends_is k v.seat.core input now (all_of v) true not_up e in (
              subst (Begins (packets_of l (xs_of v))) (sym all) (begins_trans (packets_of l (xs_of v)) (all_of v) (all_of v ++ sends_of v.seat.core input now) d.0 (begins_append (all_of v) (sends_of v.seat.core input now))),
              ⊎_elim (λ x. absurd (true≢false (sym (was refl) ∙ x.1))) (λ x. inr x) d.1,
            ),
      )
      at_none false e was off n = (
        λ z. e,
        λ l q. let d = n.1 l q in
            let all : with_sends k v.seat.core input now (all_of v) ≡ all_of v = with_sends_is k v.seat.core input now (all_of v) false not_up e in
            (subst (Begins (packets_of l (xs_of v))) (sym all) d.0, ⊎_elim (λ x. inl (x.0 ∙ sym all, e)) (λ x. inr x) d.1),
      )

      build : (cur : Option Life) → v.seat.current k ≡ cur → Now Was o (sends_of v.seat.core input now) (with_sends k v.seat.core input now (all_of v)) (has_number k (core_after v.seat.core input now).up) (v.seat.pending k) (xs_of v) cur →
          FitsIn o old (sends_of v.seat.core input now) (with_sends k v.seat.core input now (all_of v)) (accepting v input now)
      build cur e n = record {
        now = subst (λ c. Now Was o (sends_of v.seat.core input now) (with_sends k v.seat.core input now (all_of v)) (has_number k (core_after v.seat.core input now).up) (v.seat.pending k) (xs_of v) c) (sym e) n;
        others = h.others;
      }

      was : (cur : Option Life) → v.seat.current k ≡ cur → Now Was o [] (all_of v) (has_number k v.seat.core.up) (v.seat.pending k) (xs_of v) cur
      was cur e = subst (λ c. Now Was o [] (all_of v) (has_number k v.seat.core.up) (v.seat.pending k) (xs_of v) c) e h.now

      same_up : is_link_down k input ≡ false → (cur : Option Life) → v.seat.current k ≡ cur → FitsIn o old (sends_of v.seat.core input now) (with_sends k v.seat.core input now (all_of v)) (accepting v input now)
      same_up d None e =
          let u : has_number k (core_after v.seat.core input now).up ≡ has_number k v.seat.core.up = up_same cores k v.seat.core input now not_up d in
          build None e (at_none (has_number k v.seat.core.up) u (λ q. q) (λ q. q) (was None e))
      same_up d (Some l) e =
          let u : has_number k (core_after v.seat.core input now).up ≡ has_number k v.seat.core.up = up_same cores k v.seat.core input now not_up d in
          let n = was (Some l) e in
          build (Some l) e
          (n.0, ap (λ ys. ys ++ sends_of v.seat.core input now) (sym (append-nil (packets_of l (xs_of v))) ∙ n.1) ∙ sym (with_sends_is k v.seat.core input now (all_of v) true not_up (u ∙ n.2)), u ∙ n.2)

      go : (is_link_down k input ≡ true) ⊎ (is_link_down k input ≡ false) → FitsIn o old (sends_of v.seat.core input now) (with_sends k v.seat.core input now (all_of v)) (accepting v input now)
      go (inl d) = build None (down d) (at_none false (up_gone cores k v.seat.core input now ok d) (λ q. absurd (true≢false (sym q))) (λ q. refl) (was None (down d)))
      go (inr d) = same_up d (v.seat.current k) refl

  step_keeps : (o : Option Life) (old : List Parcel) (v : Serving) (input : Input) (now : ℕ) → is_link_up k input ≡ false → (is_link_down k input ≡ true → v.seat.current k ≡ None) → Inv o old v → Inv o old (after_step answers ks input now v)
  unfolding after_step
  step_keeps o old v input now not_up down h = go (refusal_of v.seat.core input) refl
    where
      go : (r : Option StepError) → refusal_of v.seat.core input ≡ r → Inv o old (after_answer answers ks input now v r)
      go None e = accepts o old v input now h.follows h.near (entry o old v input now e not_up down h.fits)
      go (Some error) e = record { fits = h.fits; follows = h.follows; near = h.near }

  -- the current session of this neighbour is over, and its link goes down at the core
  down_step : (o o' : Option Life) (old old' : List Parcel) (v : Serving) (now : ℕ) (l : Life) → v.seat.current k ≡ Some l → ((j : Life) → o' ≡ Some j → o ≡ Some j) → ((j : Life) → (o' ≡ Some j → ⊥) → packets_of j (xs_of v) ≡ packets_of j old') →
      Inv o old v → Inv o' old' (after_step answers ks (In.LinkDown k) now (with_current v k None)) × (has_number k (after_step answers ks (In.LinkDown k) now (with_current v k None)).seat.core.up ≡ false)
  down_step o o' old old' v now l e sub others h =
      let v' : Serving = with_current v k None in
      let n : Now Was o [] (all_of v) (has_number k v.seat.core.up) (v.seat.pending k) (xs_of v) (Some l) = subst (λ c. Now Was o [] (all_of v) (has_number k v.seat.core.up) (v.seat.pending k) (xs_of v) c) e h.fits.now in
      let ok : refusal_of v.seat.core (In.LinkDown k) ≡ None = down_accepted cores v.seat.core k (h.near k inside) n.2 in
      let gone : has_number k (core_after v.seat.core (In.LinkDown k) now).up ≡ false = cores.goes v.seat.core k now ok in
      let all : with_sends k v.seat.core (In.LinkDown k) now (all_of v) ≡ all_of v = with_sends_is k v.seat.core (In.LinkDown k) now (all_of v) false refl gone in
      let is : after_step answers ks (In.LinkDown k) now v' ≡ after_broadcasts answers ks (sends_of v.seat.core (In.LinkDown k) now) (accepting v' (In.LinkDown k) now) = accepted_step answers ks v' (In.LinkDown k) now ok in
      let fit : FitsIn o' old' (sends_of v.seat.core (In.LinkDown k) now) (with_sends k v.seat.core (In.LinkDown k) now (all_of v)) (accepting v' (In.LinkDown k) now) =
      record {
        now = subst (λ c. Now Was o' (sends_of v.seat.core (In.LinkDown k) now) (with_sends k v.seat.core (In.LinkDown k) now (all_of v)) (has_number k (core_after v.seat.core (In.LinkDown k) now).up) (v.seat.pending k) (xs_of v) c) (sym (put_one_here v.seat.current k None)) (
          λ z. gone,
          λ j q. let y : Some l ≡ Some j = sym n.0 ∙ sub j q in let same_life : l ≡ j = cc in
              let whole : packets_of j (xs_of v) ≡ with_sends k v.seat.core (In.LinkDown k) now (all_of v) = subst (λ i. packets_of i (xs_of v) ≡ all_of v) same_life (sym (append-nil (packets_of l (xs_of v))) ∙ n.1) ∙ sym all in
              (subst (Begins (packets_of j (xs_of v))) whole (begins_refl (packets_of j (xs_of v))), inl (whole, gone)),
        );
        others = others;
      } in
      let inv : Inv o' old' (after_broadcasts answers ks (sends_of v.seat.core (In.LinkDown k) now) (accepting v' (In.LinkDown k) now)) = accepts o' old' v' (In.LinkDown k) now h.follows h.near fit in (
        subst (Inv o' old') (sym is) inv,
        ap (λ (x : Serving). has_number k x.seat.core.up) is ∙ ap (λ (c : CoreView). has_number k c.up) (calm_broadcasts answers ks (sends_of v.seat.core (In.LinkDown k) now) (accepting v' (In.LinkDown k) now)).core ∙ gone,
      )

  -- a session comes up, in which nothing was sent before
  up_step : (o : Option Life) (old : List Parcel) (v : Serving) (now : ℕ) (l : Life) → has_number k v.seat.core.up ≡ false → packets_of l (xs_of v) ≡ [] → Inv None old v →
      Inv (Some l) old (after_step answers ks (In.LinkUp k) now (with_current v k (Some l)))
  up_step o old v now l off none h =
      let v' : Serving = with_current v k (Some l) in
      let ok : refusal_of v.seat.core (In.LinkUp k) ≡ None = up_accepted cores v.seat.core k (h.near k inside) off in
      let come : has_number k (core_after v.seat.core (In.LinkUp k) now).up ≡ true = cores.comes v.seat.core k now ok in
      let all : with_sends k v.seat.core (In.LinkUp k) now (all_of v) ≡ sends_of v.seat.core (In.LinkUp k) now =
      ap (λ x. if x then sends_of v.seat.core (In.LinkUp k) now else if has_number k (core_after v.seat.core (In.LinkUp k) now).up then all_of v ++ sends_of v.seat.core (In.LinkUp k) now else all_of v) (eq-eqb k k refl) in
      let is : after_step answers ks (In.LinkUp k) now v' ≡ after_broadcasts answers ks (sends_of v.seat.core (In.LinkUp k) now) (accepting v' (In.LinkUp k) now) = accepted_step answers ks v' (In.LinkUp k) now ok in
      let fit : FitsIn (Some l) old (sends_of v.seat.core (In.LinkUp k) now) (with_sends k v.seat.core (In.LinkUp k) now (all_of v)) (accepting v' (In.LinkUp k) now) =
      record {
        now = subst (λ c. Now Was (Some l) (sends_of v.seat.core (In.LinkUp k) now) (with_sends k v.seat.core (In.LinkUp k) now (all_of v)) (has_number k (core_after v.seat.core (In.LinkUp k) now).up) (v.seat.pending k) (xs_of v) c) (sym (put_one_here v.seat.current k (Some l)))
            (refl, ap (λ ys. ys ++ sends_of v.seat.core (In.LinkUp k) now) none ∙ sym all, come);
        others = λ j no. h.fits.others j (λ q. cc);
      } in
      subst (Inv (Some l) old) (sym is) (accepts (Some l) old v' (In.LinkUp k) now h.follows h.near fit)

  -- ---- the links of neighbours whose session was cut go down

  settling_keeps : (o : Option Life) (old : List Parcel) (most now : ℕ) (v : Serving) → Inv o old v → Inv o old (after_settling most answers ks now v)
  unfolding after_settling
  settling_keeps o old zero now v h = h
  settling_keeps o old (suc most) now v h = go (first_cut v.seat ks) refl (λ x y. settling_keeps o old most now x y)
    where
      go : (r : Option ℕ) → first_cut v.seat ks ≡ r → ((x : Serving) → Inv o old x → Inv o old (after_settling most answers ks now x)) →
          Inv o old (elim r [ None ↦ v | Some j ↦ after_settling most answers ks now (after_step answers ks (In.LinkDown j) now v) ])
      go None e again = h
      go (Some j) e again =
          let f = seats.next ks v.seat j e in
          again (after_step answers ks (In.LinkDown j) now v)
          (step_keeps o old v (In.LinkDown j) now refl (λ d. subst (λ x. v.seat.current x ≡ None) (eqb-true j k d) f.none) h)

  -- a link that is down stays down when another goes down
  down_stays : (j now : ℕ) (v : Serving) → has_number k v.seat.core.up ≡ false → has_number k (after_step answers ks (In.LinkDown j) now v).seat.core.up ≡ false
  unfolding after_step
  down_stays j now v u = go (refusal_of v.seat.core (In.LinkDown j)) refl
    where
      gone : refusal_of v.seat.core (In.LinkDown j) ≡ None → (nat_eq j k ≡ true) ⊎ (nat_eq j k ≡ false) → has_number k (core_after v.seat.core (In.LinkDown j) now).up ≡ false
      gone e (inl d) = up_gone cores k v.seat.core (In.LinkDown j) now e d
      gone e (inr d) = up_same cores k v.seat.core (In.LinkDown j) now refl d ∙ u

      go : (r : Option StepError) → refusal_of v.seat.core (In.LinkDown j) ≡ r → has_number k (after_answer answers ks (In.LinkDown j) now v r).seat.core.up ≡ false
      go None e =
          ap (λ (c : CoreView). has_number k c.up) (calm_broadcasts answers ks (sends_of v.seat.core (In.LinkDown j) now) (accepting v (In.LinkDown j) now)).core ∙ gone e (cases_Bool (nat_eq j k))
      go (Some error) e = u

  stays_down : (most now : ℕ) (v : Serving) → has_number k v.seat.core.up ≡ false → has_number k (after_settling most answers ks now v).seat.core.up ≡ false
  unfolding after_settling
  stays_down zero now v u = u
  stays_down (suc most) now v u = go (first_cut v.seat ks) (λ x y. stays_down most now x y)
    where
      go : (r : Option ℕ) → ((x : Serving) → has_number k x.seat.core.up ≡ false → has_number k (after_settling most answers ks now x).seat.core.up ≡ false) →
          has_number k (elim r as (λ _. Serving) [ None ↦ v | Some j ↦ after_settling most answers ks now (after_step answers ks (In.LinkDown j) now v) ]).seat.core.up ≡ false
      go None again = u
      go (Some j) again = again (after_step answers ks (In.LinkDown j) now v) (down_stays j now v u)

  -- ---- an input and all its consequences

  -- no link has to go down any more
  pub record Done (o : Option Life) (old : List Parcel) (v : Serving) : Type 0 where
    pub inv : Inv o old v
    pub settled : (j : ℕ) → ¬ IsCut ks v.seat j

  settle : (o : Option Life) (old : List Parcel) (v : Serving) (input : Input) (now : ℕ) → Near v.seat.core → Inv o old (after_step answers ks input now v) → Done o old (after_input answers ks input now v)
  unfolding after_input
  settle o old v input now near h = record { inv = settling_keeps o old (length ks) now (after_step answers ks input now v) h; settled = seats.none_left answers ks input now v near }

  input_done : (o : Option Life) (old : List Parcel) (v : Serving) (input : Input) (now : ℕ) → is_link_up k input ≡ false → (is_link_down k input ≡ true → v.seat.current k ≡ None) → Inv o old v → Done o old (after_input answers ks input now v)
  input_done o old v input now a b h = settle o old v input now h.near (step_keeps o old v input now a b h)

  down_off : (v : Serving) (now : ℕ) → has_number k (after_step answers ks (In.LinkDown k) now v).seat.core.up ≡ false → has_number k (after_input answers ks (In.LinkDown k) now v).seat.core.up ≡ false
  unfolding after_input
  down_off v now off = stays_down (length ks) now (after_step answers ks (In.LinkDown k) now v) off

  down_done : (o o' : Option Life) (old old' : List Parcel) (v : Serving) (now : ℕ) (l : Life) → v.seat.current k ≡ Some l → ((j : Life) → o' ≡ Some j → o ≡ Some j) → ((j : Life) → (o' ≡ Some j → ⊥) → packets_of j (xs_of v) ≡ packets_of j old') →
      Inv o old v → Done o' old' (after_down answers ks k now v) × (has_number k (after_down answers ks k now v).seat.core.up ≡ false)
  down_done o o' old old' v now l e sub others h =
      let d = down_step o o' old old' v now l e sub others h in
      let v' : Serving = with_current v k None in
      (settle o' old' v' (In.LinkDown k) now h.near d.0, down_off v' now d.1)

  up_done : (o : Option Life) (old : List Parcel) (v : Serving) (now : ℕ) (l : Life) → has_number k v.seat.core.up ≡ false → packets_of l (xs_of v) ≡ [] → Inv None old v → Done (Some l) old (after_up answers ks k l now v)
  up_done o old v now l off none h = let v' : Serving = with_current v k (Some l) in settle (Some l) old v' (In.LinkUp k) now h.near (up_step o old v now l off none h)

  -- ---- the start of an item

  -- the invariant of a node's seat between items
  pub record Whole (o : Option Life) (seat : SeatState) : Type 0 where
    pub fits : Fits Was o (parcels_in base) [] (broadcast_from k first before []) (has_number k seat.core.up) (seat.current k) None (parcels_in base)
    pub follows : seat.core ≡ core_after_all first before
    pub near : Near seat.core
    pub settled : (j : ℕ) → ¬ IsCut ks seat j

  -- offering the pending cuts changes only what is pending
  record Started (seat : SeatState) (v : Serving) : Type 0 where
    core : v.seat.core ≡ seat.core
    current : v.seat.current ≡ seat.current
    inputs : v.inputs ≡ []
    xs : xs_of v ≡ parcels_in base

  start_cut : (seat : SeatState) (v : Serving) (j : ℕ) (o : Option Life) → Started seat v → Started seat (after_cut_tried answers v j o)
  start_cut seat v j None s = s
  start_cut seat v j (Some l) s =
      cond_both (answers v.offers j) _ _ (Started seat)
      (λ _. record { core = s.core; current = s.current; inputs = s.inputs; xs = nothing_more k base v.offers (record { to = j; cargo = Gives.Cut l; put = true }) (no_cut k j l true) ∙ s.xs })
      (λ _. record { core = s.core; current = s.current; inputs = s.inputs; xs = nothing_more k base v.offers (record { to = j; cargo = Gives.Cut l; put = false }) (no_cut k j l false) ∙ s.xs })

  start_cuts : (seat : SeatState) (js : List ℕ) (v : Serving) → Started seat v → Started seat (after_cuts_tried answers js v)
  unfolding after_cuts_tried
  start_cuts seat [] v s = s
  start_cuts seat (j ∷ js) v s = start_cuts seat js (after_cut_tried answers v j (v.seat.pending j)) (start_cut seat v j (v.seat.pending j) s)

  started : (seat : SeatState) → Started seat (after_cuts_tried answers ks (begin_serving seat))
  started seat = start_cuts seat ks (begin_serving seat) (record { core = refl; current = refl; inputs = refl; xs = ap parcels_in (append-nil base) })

  -- the invariant for any pending session
  any_pending : (o : Option Life) (old : List Parcel) (ps all : List Packet) (up : Bool) (cur pending : Option Life) (xs : List Parcel) → Fits Was o old ps all up cur None xs → Fits Was o old ps all up cur pending xs
  any_pending o old ps all up None pending xs h = record {
    now = (h.now.0, λ l q. let d = h.now.1 l q in (d.0, ⊎_elim (λ x. inl x) (λ x. ⊎_elim (λ y. inr (inl y)) (λ y. absurd (cc)) x) d.1));
    others = h.others;
  }
  any_pending o old ps all up (Some l) pending xs h = record { now = h.now; others = h.others }

  all_before : (v : Serving) → v.inputs ≡ [] → all_of v ≡ broadcast_from k first before []
  all_before v e = ap (λ is. broadcast_from k first (before ++ is) []) e ∙ ap (λ is. broadcast_from k first is []) (append-nil before)

  inv_start : (o : Option Life) (seat : SeatState) (v : Serving) → Started seat v → Whole o seat → Inv o (parcels_in base) v
  inv_start o seat v s w = record {
    fits = any_pending o (parcels_in base) [] (all_of v) (has_number k v.seat.core.up) (v.seat.current k) (v.seat.pending k) (xs_of v)
        (subst (λ a. Fits Was o (parcels_in base) [] a (has_number k v.seat.core.up) (v.seat.current k) None (xs_of v)) (sym (all_before v s.inputs))
        (subst (λ x. Fits Was o (parcels_in base) [] (broadcast_from k first before []) (has_number k v.seat.core.up) (v.seat.current k) None x) (sym s.xs)
        (subst (λ (x : CoreView). Fits Was o (parcels_in base) [] (broadcast_from k first before []) (has_number k x.up) (v.seat.current k) None (parcels_in base)) (sym s.core)
        (subst (λ (f : ℕ → Option Life). Fits Was o (parcels_in base) [] (broadcast_from k first before []) (has_number k seat.core.up) (f k) None (parcels_in base)) (sym s.current) w.fits))));
    follows = s.core ∙ w.follows ∙ ap (core_after_all first) (sym (ap (λ is. before ++ is) s.inputs ∙ append-nil before));
    near = subst Near (sym s.core) w.near;
  }

  -- at the start of an item no session is cut
  settled_start : (seat : SeatState) (v : Serving) → Started seat v → ((j : ℕ) → ¬ IsCut ks seat j) → (j : ℕ) → ¬ IsCut ks v.seat j
  settled_start seat v s none j c =
      none j (record {
        neighbour = c.neighbour;
        up = ap (λ (x : CoreView). has_number j x.up) (sym s.core) ∙ c.up;
        none = ap (λ (f : ℕ → Option Life). f j) (sym s.current) ∙ c.none;
      })

  done_start : (o : Option Life) (seat : SeatState) (v : Serving) → Started seat v → Whole o seat → Done o (parcels_in base) v
  done_start o seat v s w = record { inv = inv_start o seat v s w; settled = settled_start seat v s w.settled }

  current_life : (l : Life) (o : Option Life) → is_current l o ≡ true → o ≡ Some l
  current_life l None e = absurd (true≢false (sym e))
  current_life l (Some j) e = ap Some (sym (same_true l j e))

  -- ---- items

  -- a change of the current session of another neighbour
  other_current : (o : Option Life) (old : List Parcel) (v : Serving) (j : ℕ) (x : Option Life) → nat_eq j k ≡ false → Inv o old v → Inv o old (with_current v j x)
  other_current o old v j x off h = record {
    fits = fits_same o old [] (all_of v) v (with_current v j x) refl (put_one_there v.seat.current j x k (turned j k off)) refl refl h.fits;
    follows = h.follows;
    near = h.near;
  }

  other_old_down : (o : Option Life) (old : List Parcel) (v : Serving) (j now : ℕ) (cur : Option Life) → nat_eq j k ≡ false → Inv o old v → Inv o old (after_old_down answers ks j now v cur)
  other_old_down o old v j now None off h = h
  other_old_down o old v j now (Some l) off h =
      (input_done o old (with_current v j None) (In.LinkDown j) now refl (λ d. absurd (true≢false (sym d ∙ off))) (other_current o old v j None off h)).inv

  -- the old link of this neighbour goes down before a new session comes up
  own_old_down : (o : Option Life) (seat : SeatState) (v : Serving) (now : ℕ) → Started seat v → Whole o seat → (cur : Option Life) → v.seat.current k ≡ cur →
      Inv None (parcels_in base) (after_old_down answers ks k now v cur) × (has_number k (after_old_down answers ks k now v cur).seat.core.up ≡ false)
  own_old_down o seat v now s w None e =
      let h = inv_start o seat v s w in
      let off : has_number k v.seat.core.up ≡ false = false_from_ne_true (has_number k v.seat.core.up) (λ u. settled_start seat v s w.settled k (record { neighbour = inside; up = u; none = e })) in (
        record {
          fits = record {
            now = subst (λ c. Now Was None [] (all_of v) (has_number k v.seat.core.up) (v.seat.pending k) (xs_of v) c) (sym e) (λ z. off, λ l q. absurd (cc));
            others = λ j no. ap (packets_of j) s.xs;
          };
          follows = h.follows;
          near = h.near;
        },
        off,
      )
  own_old_down o seat v now s w (Some l) e =
      let d = down_done o None (parcels_in base) (parcels_in base) v now l e (λ j q. absurd (cc)) (λ j no. ap (packets_of j) s.xs) (inv_start o seat v s w) in
      (d.0.inv, d.1)

  -- an item of a link
  link_item_done : (o : Option Life) (seat : SeatState) (v : Serving) → Started seat v → Whole o seat → (j now : ℕ) (what : What) → ((l : Life) → nat_eq j k ≡ true → what ≡ Tells.Up l → packets_of l (parcels_in base) ≡ []) →
      Done (life_told k (Some j) what o) (parcels_in base) (after_link_item answers ks j now what v)
  unfolding after_link_item
  link_item_done o seat v s w j now (Tells.Up l) fresh = go (cases_Bool (nat_eq j k))
    where
      go : (nat_eq j k ≡ true) ⊎ (nat_eq j k ≡ false) → Done (if nat_eq j k then Some l else o) (parcels_in base) (after_up answers ks j l now (after_old_down answers ks j now v (v.seat.current j)))
      go (inl e) =
          let q : j ≡ k = eqb-true j k e in
          let d = own_old_down o seat v now s w (v.seat.current k) refl in
          let v' : Serving = after_old_down answers ks k now v (v.seat.current k) in
          let none : packets_of l (xs_of v') ≡ [] = d.0.fits.others l (λ x. cc) ∙ fresh l e refl in
          subst (λ b. Done (if b then Some l else o) (parcels_in base) (after_up answers ks j l now (after_old_down answers ks j now v (v.seat.current j)))) (sym e)
          (subst (λ x. Done (Some l) (parcels_in base) (after_up answers ks x l now (after_old_down answers ks x now v (v.seat.current x)))) (sym q)
          (up_done o (parcels_in base) v' now l d.1 none d.0))
      go (inr e) =
          let v' : Serving = after_old_down answers ks j now v (v.seat.current j) in
          subst (λ b. Done (if b then Some l else o) (parcels_in base) (after_up answers ks j l now (after_old_down answers ks j now v (v.seat.current j)))) (sym e)
          (input_done o (parcels_in base) (with_current v' j (Some l)) (In.LinkUp j) now e (λ d. absurd (true≢false (sym d)))
          (other_current o (parcels_in base) v' j (Some l) e (other_old_down o (parcels_in base) v j now (v.seat.current j) e (inv_start o seat v s w))))
  link_item_done o seat v s w j now (Tells.Packet l p) fresh =
      let h = inv_start o seat v s w in
      let v' : Serving = record v { steps = v.steps ++ record { from = j; parcel = record { life = l; packet = p } } ∷ [] } in
      cond_both (is_current l (v.seat.current j)) _ _ (Done o (parcels_in base))
      (λ _. input_done o (parcels_in base) v' (In.Packet j p) now refl (λ d. absurd (true≢false (sym d))) (record { fits = h.fits; follows = h.follows; near = h.near }))
      (λ _. done_start o seat v s w)
  link_item_done o seat v s w j now (Tells.Down l r) fresh =
      cond_both (is_current l (v.seat.current j)) _ _ (Done o (parcels_in base))
      (λ t. down t (cases_Bool (nat_eq j k)))
      (λ _. cond_both (is_current l (v.seat.pending j)) _ _ (Done o (parcels_in base))
      (λ _. done_start o seat (with_pending v j None) (record { core = s.core; current = s.current; inputs = s.inputs; xs = s.xs }) w)
      (λ _. done_start o seat v s w))
    where
      down : is_current l (v.seat.current j) ≡ true → (nat_eq j k ≡ true) ⊎ (nat_eq j k ≡ false) → Done o (parcels_in base) (after_down answers ks j now v)
      down t (inl e) =
          let q : j ≡ k = eqb-true j k e in
          let on : v.seat.current k ≡ Some l = subst (λ x. v.seat.current x ≡ Some l) q (current_life l (v.seat.current j) t) in
          subst (λ x. Done o (parcels_in base) (after_down answers ks x now v)) (sym q)
          (down_done o o (parcels_in base) (parcels_in base) v now l on (λ i z. z) (λ i no. ap (packets_of i) s.xs) (inv_start o seat v s w)).0
      down t (inr e) =
          input_done o (parcels_in base) (with_current v j None) (In.LinkDown j) now refl (λ d. absurd (true≢false (sym d ∙ e))) (other_current o (parcels_in base) v j None e (inv_start o seat v s w))
  link_item_done o seat v s w j now (Tells.Need d) fresh = input_done o (parcels_in base) v (In.Need d) now refl (λ x. absurd (true≢false (sym x))) (inv_start o seat v s w)
  link_item_done o seat v s w j now (Tells.Cut i) fresh = done_start o seat v s w
  link_item_done o seat v s w j now Tells.Beat fresh = done_start o seat v s w
  link_item_done o seat v s w j now Tells.Show fresh = done_start o seat (record v { answer = Says.Show }) (record { core = s.core; current = s.current; inputs = s.inputs; xs = s.xs }) w
  link_item_done o seat v s w j now (Tells.Status status) fresh = done_start o seat (record v { answer = Says.Show }) (record { core = s.core; current = s.current; inputs = s.inputs; xs = s.xs }) w
  link_item_done o seat v s w j now Tells.Quit fresh = done_start o seat (record v { answer = Says.Quit }) (record { core = s.core; current = s.current; inputs = s.inputs; xs = s.xs }) w

  -- the current session of a neighbour is cut
  life_cut_done : (o : Option Life) (seat : SeatState) (v : Serving) → Started seat v → Whole o seat → (j now : ℕ) (cur : Option Life) → v.seat.current j ≡ cur → Done o (parcels_in base) (after_life_cut answers ks j now v cur)
  life_cut_done o seat v s w j now None e = done_start o seat v s w
  life_cut_done o seat v s w j now (Some l) e = go (cases_Bool (nat_eq j k))
    where
      asked : Serving
      asked = with_pending v j (Some l)

      v' : Serving
      v' = after_cut_asked answers v j l

      s' : Started seat v'
      s' = start_cut seat asked j (Some l) (record { core = s.core; current = s.current; inputs = s.inputs; xs = s.xs })

      on : v'.seat.current j ≡ Some l
      on = ap (λ (f : ℕ → Option Life). f j) (tried_current answers asked j (Some l)) ∙ e

      go : (nat_eq j k ≡ true) ⊎ (nat_eq j k ≡ false) → Done o (parcels_in base) (after_down answers ks j now v')
      go (inl t) =
          let q : j ≡ k = eqb-true j k t in
          subst (λ x. Done o (parcels_in base) (after_down answers ks x now v')) (sym q)
          (down_done o o (parcels_in base) (parcels_in base) v' now l (subst (λ x. v'.seat.current x ≡ Some l) q on) (λ i z. z) (λ i no. ap (packets_of i) s'.xs) (inv_start o seat v' s' w)).0
      go (inr t) =
          input_done o (parcels_in base) (with_current v' j None) (In.LinkDown j) now refl (λ d. absurd (true≢false (sym d ∙ t))) (other_current o (parcels_in base) v' j None t (inv_start o seat v' s' w))

  other_item_done : (o : Option Life) (seat : SeatState) (v : Serving) → Started seat v → Whole o seat → (now : ℕ) (what : What) → Done o (parcels_in base) (after_other_item answers ks now what v)
  unfolding after_other_item
  other_item_done o seat v s w now (Tells.Up l) = done_start o seat v s w
  other_item_done o seat v s w now (Tells.Packet l p) = done_start o seat v s w
  other_item_done o seat v s w now (Tells.Down l r) = done_start o seat v s w
  other_item_done o seat v s w now (Tells.Need d) = input_done o (parcels_in base) v (In.Need d) now refl (λ x. absurd (true≢false (sym x))) (inv_start o seat v s w)
  other_item_done o seat v s w now (Tells.Cut j) =
      cond_both (has_number j ks) _ _ (Done o (parcels_in base)) (λ _. life_cut_done o seat v s w j now (v.seat.current j) refl) (λ _. done_start o seat v s w)
  other_item_done o seat v s w now Tells.Beat = done_start o seat v s w
  other_item_done o seat v s w now Tells.Show = done_start o seat (record v { answer = Says.Show }) (record { core = s.core; current = s.current; inputs = s.inputs; xs = s.xs }) w
  other_item_done o seat v s w now (Tells.Status status) = done_start o seat (record v { answer = Says.Show }) (record { core = s.core; current = s.current; inputs = s.inputs; xs = s.xs }) w
  other_item_done o seat v s w now Tells.Quit = done_start o seat (record v { answer = Says.Quit }) (record { core = s.core; current = s.current; inputs = s.inputs; xs = s.xs }) w

  pub serving_done : (o : Option Life) (seat : SeatState) (item : Item) → Whole o seat → ((l : Life) → slice_get ks item.seat ≡ Some k → item.what ≡ Tells.Up l → packets_of l (parcels_in base) ≡ []) →
      Done (life_told k (slice_get ks item.seat) item.what o) (parcels_in base) (serving_of answers ks seat item)
  unfolding serving_of
  serving_done o seat item w fresh = go (slice_get ks item.seat) refl
    where
      go : (r : Option ℕ) → slice_get ks item.seat ≡ r → Done (life_told k r item.what o) (parcels_in base) (after_item_of answers ks r item.now item.what (after_cuts_tried answers ks (begin_serving seat)))
      go (Some j) e = link_item_done o seat (after_cuts_tried answers ks (begin_serving seat)) (started seat) w j item.now item.what (λ l q u. fresh l (e ∙ ap Some (eqb-true j k q)) u)
      go None e = other_item_done o seat (after_cuts_tried answers ks (begin_serving seat)) (started seat) w item.now item.what
