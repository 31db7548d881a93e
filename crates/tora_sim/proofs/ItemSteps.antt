-- The packet that an item steps is from the neighbour at the item's seat.
use Rattle.std.proofs.Common.{◌≡◌, ℕ, zero, suc, ◌⊎◌, inl, inr, List, [], ◌∷◌, ◌++◌, length, Option, Some, None, refl, ap, ◌∙◌}
use Rattle.std.proofs.lemmas.Bool.{cond_both}
use Rattle.std.specs.Prelude.{slice_get}
use Rattle.tora_packet.specs.declared.Packet.{Packet}
use Rattle.tora_arq.specs.declared.life.Life.{Life}
use Rattle.tora_core.specs.declared.Input.{Input}
use Rattle.tora_core.specs.declared.Input.TheVariants as In
use Rattle.tora_core.specs.declared.errors.StepError.{StepError}
use Rattle.tora_core.specs.Numbers.{has_number}
use Rattle.tora_core.specs.CoreRun.{refusal_of, sends_of}
use Rattle.tora_seat.specs.declared.what.What.{What}
use Rattle.tora_seat.specs.declared.what.What.TheVariants as Tells
use Rattle.tora_seat.specs.declared.item.Item.{Item}
use Rattle.tora_seat.specs.Serving.{SeatState, Parcel, Step, Serving, Answers, with_current, with_pending, after_cut_tried, after_cuts_tried, after_sent, after_broadcast, after_broadcasts, accepting, after_answer, after_step, first_cut, after_settling, after_input, is_current, after_down, after_old_down, after_cut_asked, after_life_cut, after_link_item, after_other_item, after_item_of, begin_serving, serving_of}

-- no packet was stepped, or one from the neighbour at this index
abbrev pub AreStepsAt : List ℕ → ℕ → List Step → Type 0
AreStepsAt ks place steps = (steps ≡ []) ⊎ ((k : ℕ) × (slice_get ks place ≡ Some k) × (p : Parcel) × (steps ≡ record { from = k; parcel = p } ∷ []))

module _ (answers : Answers) (ks : List ℕ) where
  abbrev Same : Serving → Serving → Type 0
  Same v w = w.steps ≡ v.steps

  cut_same : (v : Serving) (j : ℕ) (o : Option Life) → Same v (after_cut_tried answers v j o)
  cut_same v j None = refl
  cut_same v j (Some l) = cond_both (answers v.offers j) _ _ (Same v) (λ _. refl) (λ _. refl)

  cuts_same : (js : List ℕ) (v : Serving) → Same v (after_cuts_tried answers js v)
  unfolding after_cuts_tried
  cuts_same [] v = refl
  cuts_same (j ∷ js) v = cuts_same js (after_cut_tried answers v j (v.seat.pending j)) ∙ cut_same v j (v.seat.pending j)

  sent_same : (p : Packet) (v : Serving) (j : ℕ) (cur : Option Life) → Same v (after_sent answers p v j cur)
  sent_same p v j None = refl
  sent_same p v j (Some l) = cond_both (answers v.offers j) _ _ (Same v) (λ _. refl) (λ _. refl)

  broadcast_same : (p : Packet) (js : List ℕ) (v : Serving) → Same v (after_broadcast answers p js v)
  unfolding after_broadcast
  broadcast_same p [] v = refl
  broadcast_same p (j ∷ js) v = broadcast_same p js (after_sent answers p v j (v.seat.current j)) ∙ sent_same p v j (v.seat.current j)

  broadcasts_same : (ps : List Packet) (v : Serving) → Same v (after_broadcasts answers ks ps v)
  unfolding after_broadcasts
  broadcasts_same [] v = refl
  broadcasts_same (p ∷ ps) v = broadcasts_same ps (after_broadcast answers p ks v) ∙ broadcast_same p ks v

  step_same : (v : Serving) (input : Input) (now : ℕ) → Same v (after_step answers ks input now v)
  unfolding after_step
  step_same v input now = go (refusal_of v.seat.core input)
    where
      go : (r : Option StepError) → Same v (after_answer answers ks input now v r)
      go (Some error) = refl
      go None = broadcasts_same (sends_of v.seat.core input now) (accepting v input now)

  settling_same : (most now : ℕ) (v : Serving) → Same v (after_settling most answers ks now v)
  unfolding after_settling
  settling_same zero now v = refl
  settling_same (suc most) now v = go (first_cut v.seat ks) (λ x. settling_same most now x)
    where
      go : (r : Option ℕ) → ((x : Serving) → Same x (after_settling most answers ks now x)) → Same v (elim r [ None ↦ v | Some j ↦ after_settling most answers ks now (after_step answers ks (In.LinkDown j) now v) ])
      go None again = refl
      go (Some j) again = again (after_step answers ks (In.LinkDown j) now v) ∙ step_same v (In.LinkDown j) now

  input_same : (v : Serving) (input : Input) (now : ℕ) → Same v (after_input answers ks input now v)
  unfolding after_input
  input_same v input now = settling_same (length ks) now (after_step answers ks input now v) ∙ step_same v input now

  down_same : (v : Serving) (k now : ℕ) → Same v (after_down answers ks k now v)
  down_same v k now = input_same (with_current v k None) (In.LinkDown k) now

  old_down_same : (v : Serving) (k now : ℕ) (cur : Option Life) → Same v (after_old_down answers ks k now v cur)
  old_down_same v k now None = refl
  old_down_same v k now (Some l) = down_same v k now

  life_cut_same : (v : Serving) (k now : ℕ) (cur : Option Life) → Same v (after_life_cut answers ks k now v cur)
  life_cut_same v k now None = refl
  life_cut_same v k now (Some l) = down_same (after_cut_asked answers v k l) k now ∙ cut_same (with_pending v k (Some l)) k (Some l)

  -- no packet was stepped, or one from neighbour k
  abbrev OneOf : ℕ → List Step → Type 0
  OneOf k steps = (steps ≡ []) ⊎ ((p : Parcel) × (steps ≡ record { from = k; parcel = p } ∷ []))

  link_one : (v : Serving) (k now : ℕ) (what : What) → v.steps ≡ [] → OneOf k (after_link_item answers ks k now what v).steps
  unfolding after_link_item
  link_one v k now (Tells.Up life) e =
      let w = after_old_down answers ks k now v (v.seat.current k) in
      inl (input_same (with_current w k (Some life)) (In.LinkUp k) now ∙ old_down_same v k now (v.seat.current k) ∙ e)
  link_one v k now (Tells.Packet life packet) e =
      let p : Parcel = record { life = life; packet = packet } in
      cond_both (is_current life (v.seat.current k)) _ _ (λ (x : Serving). OneOf k x.steps)
      (λ _. inr (p, input_same (record v { steps = v.steps ++ record { from = k; parcel = p } ∷ [] }) (In.Packet k packet) now ∙ ap (λ (s : List Step). s ++ record { from = k; parcel = p } ∷ []) e))
      (λ _. inl e)
  link_one v k now (Tells.Down life reason) e =
      cond_both (is_current life (v.seat.current k)) _ _ (λ (x : Serving). OneOf k x.steps)
      (λ _. inl (down_same v k now ∙ e))
      (λ _. cond_both (is_current life (v.seat.pending k)) _ _ (λ (x : Serving). OneOf k x.steps) (λ _. inl e) (λ _. inl e))
  link_one v k now (Tells.Need d) e = inl (input_same v (In.Need d) now ∙ e)
  link_one v k now (Tells.Cut j) e = inl e
  link_one v k now Tells.Beat e = inl e
  link_one v k now Tells.Show e = inl e
  link_one v k now (Tells.Status status) e = inl e
  link_one v k now Tells.Quit e = inl e

  other_none : (v : Serving) (now : ℕ) (what : What) → v.steps ≡ [] → (after_other_item answers ks now what v).steps ≡ []
  unfolding after_other_item
  other_none v now (Tells.Up life) e = e
  other_none v now (Tells.Packet life packet) e = e
  other_none v now (Tells.Down life reason) e = e
  other_none v now (Tells.Need d) e = input_same v (In.Need d) now ∙ e
  other_none v now (Tells.Cut k) e = cond_both (has_number k ks) _ _ (λ (x : Serving). x.steps ≡ []) (λ _. life_cut_same v k now (v.seat.current k) ∙ e) (λ _. e)
  other_none v now Tells.Beat e = e
  other_none v now Tells.Show e = e
  other_none v now (Tells.Status status) e = e
  other_none v now Tells.Quit e = e

  pub steps_at : (s : SeatState) (item : Item) → AreStepsAt ks item.seat (serving_of answers ks s item).steps
  unfolding serving_of
  steps_at s item = go (slice_get ks item.seat) refl
    where
      v : Serving
      v = after_cuts_tried answers ks (begin_serving s)

      go : (o : Option ℕ) → slice_get ks item.seat ≡ o → AreStepsAt ks item.seat (after_item_of answers ks o item.now item.what (after_cuts_tried answers ks (begin_serving s))).steps
      go None e = inl (other_none v item.now item.what (cuts_same ks (begin_serving s)))
      go (Some k) e = elim (link_one v k item.now item.what (cuts_same ks (begin_serving s))) [ inl h ↦ inl h | inr h ↦ inr (k, e, h.0, h.1) ]
