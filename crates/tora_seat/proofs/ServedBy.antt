-- Invariants of serving that depend only on the offers, the core and the accepted inputs: each offer and each accepted
-- input keeps them.
use Rattle.std.proofs.Common.{◌≡◌, ℕ, zero, suc, Bool, true, false, true≢false, List, [], ◌∷◌, ◌++◌, length, Option, Some, None, sym}
use Rattle.std.proofs.lemmas.Bool.{cond_both}
use Rattle.std.specs.Prelude.{slice_get}
use Rattle.tora_packet.specs.declared.Packet.{Packet}
use Rattle.tora_arq.specs.declared.life.Life.{Life}
use Rattle.tora_core.specs.declared.Input.{Input}
use Rattle.tora_core.specs.declared.Input.TheVariants as In
use Rattle.tora_core.specs.declared.errors.StepError.{StepError}
use Rattle.tora_core.specs.Numbers.{has_number}
use Rattle.tora_core.specs.CoreRun.{CoreView, refusal_of, core_after, sends_of}
use Rattle.tora_seat.specs.declared.what.What.{What}
use Rattle.tora_seat.specs.declared.what.What.TheVariants as Tells
use Rattle.tora_seat.specs.declared.item.Item.{Item}
use Rattle.tora_seat.specs.declared.cargo.Cargo.{Cargo}
use Rattle.tora_seat.specs.declared.cargo.Cargo.TheVariants as Gives
use Rattle.tora_seat.specs.Serving.{SeatState, Serving, Offer, Answers, with_current, with_pending, after_cut_tried, after_cuts_tried, after_sent, after_broadcast, after_broadcasts, accepting, after_answer, after_step, first_cut, after_settling, after_input, is_current, after_old_down, after_cut_asked, after_life_cut, after_link_item, after_other_item, after_item_of, begin_serving, serving_of}

-- one more offer keeps the invariant
abbrev pub Offering : Answers → (List Offer → CoreView → List (Input × ℕ) → Type 0) → Type 0
Offering answers Holds =
    (offers : List Offer) (core : CoreView) (inputs : List (Input × ℕ)) (to : ℕ) (cargo : Cargo) (put : Bool) → (put ≡ true → answers offers to ≡ true)
    → Holds offers core inputs → Holds (offers ++ record { to = to; cargo = cargo; put = put } ∷ []) core inputs

-- one more accepted input keeps the invariant
abbrev pub Stepping : (List Offer → CoreView → List (Input × ℕ) → Type 0) → Type 0
Stepping Holds =
    (offers : List Offer) (core : CoreView) (inputs : List (Input × ℕ)) (input : Input) (now : ℕ) → Holds offers core inputs → Holds offers (core_after core input now) (inputs ++ (input, now) ∷ [])

module _ (answers : Answers) (Holds : List Offer → CoreView → List (Input × ℕ) → Type 0) (offering : Offering answers Holds) (stepping : Stepping Holds) where
  abbrev pub Follows : Serving → Type 0
  Follows v = Holds v.offers v.seat.core v.inputs

  offered : (v : Serving) (k : ℕ) (cargo : Cargo) (put : Bool) → (put ≡ true → answers v.offers k ≡ true) → Follows v → Holds (v.offers ++ record { to = k; cargo = cargo; put = put } ∷ []) v.seat.core v.inputs
  offered v k cargo put room h = offering v.offers v.seat.core v.inputs k cargo put room h

  cut_follows : (v : Serving) (k : ℕ) (o : Option Life) → Follows v → Follows (after_cut_tried answers v k o)
  cut_follows v k None h = h
  cut_follows v k (Some l) h =
      cond_both (answers v.offers k) _ _ Follows (λ t. offered v k (Gives.Cut l) true (λ _. t) h) (λ _. offered v k (Gives.Cut l) false (λ q. absurd (true≢false (sym q))) h)

  cuts_follow : (js : List ℕ) (v : Serving) → Follows v → Follows (after_cuts_tried answers js v)
  unfolding after_cuts_tried
  cuts_follow [] v h = h
  cuts_follow (k ∷ js) v h = cuts_follow js (after_cut_tried answers v k (v.seat.pending k)) (cut_follows v k (v.seat.pending k) h)

  sent_follows : (p : Packet) (v : Serving) (k : ℕ) (o : Option Life) → Follows v → Follows (after_sent answers p v k o)
  sent_follows p v k None h = h
  sent_follows p v k (Some l) h =
      cond_both (answers v.offers k) _ _ Follows (λ t. offered v k (Gives.Packet l p) true (λ _. t) h) (λ _. offered v k (Gives.Packet l p) false (λ q. absurd (true≢false (sym q))) h)

  broadcast_follows : (p : Packet) (js : List ℕ) (v : Serving) → Follows v → Follows (after_broadcast answers p js v)
  unfolding after_broadcast
  broadcast_follows p [] v h = h
  broadcast_follows p (k ∷ js) v h = broadcast_follows p js (after_sent answers p v k (v.seat.current k)) (sent_follows p v k (v.seat.current k) h)

  broadcasts_follow : (js : List ℕ) (ps : List Packet) (v : Serving) → Follows v → Follows (after_broadcasts answers js ps v)
  unfolding after_broadcasts
  broadcasts_follow js [] v h = h
  broadcasts_follow js (p ∷ ps) v h = broadcasts_follow js ps (after_broadcast answers p js v) (broadcast_follows p js v h)

  step_follows : (js : List ℕ) (input : Input) (now : ℕ) (v : Serving) → Follows v → Follows (after_step answers js input now v)
  unfolding after_step
  step_follows js input now v h = go (refusal_of v.seat.core input)
    where
      go : (o : Option StepError) → Follows (after_answer answers js input now v o)
      go None = broadcasts_follow js (sends_of v.seat.core input now) (accepting v input now) (stepping v.offers v.seat.core v.inputs input now h)
      go (Some error) = h

  settling_follows : (most : ℕ) (js : List ℕ) (now : ℕ) (v : Serving) → Follows v → Follows (after_settling most answers js now v)
  unfolding after_settling
  settling_follows zero js now v h = h
  settling_follows (suc most) js now v h = go (first_cut v.seat js) (λ k. settling_follows most js now (after_step answers js (In.LinkDown k) now v) (step_follows js (In.LinkDown k) now v h))
    where
      go : (o : Option ℕ) → ((k : ℕ) → Follows (after_settling most answers js now (after_step answers js (In.LinkDown k) now v))) →
          Follows (elim o [ None ↦ v | Some k ↦ after_settling most answers js now (after_step answers js (In.LinkDown k) now v) ])
      go None f = h
      go (Some k) f = f k

  input_follows : (js : List ℕ) (input : Input) (now : ℕ) (v : Serving) → Follows v → Follows (after_input answers js input now v)
  unfolding after_input
  input_follows js input now v h = settling_follows (length js) js now (after_step answers js input now v) (step_follows js input now v h)

  old_down_follows : (js : List ℕ) (k now : ℕ) (v : Serving) (o : Option Life) → Follows v → Follows (after_old_down answers js k now v o)
  old_down_follows js k now v None h = h
  old_down_follows js k now v (Some l) h = input_follows js (In.LinkDown k) now (with_current v k None) h

  life_cut_follows : (js : List ℕ) (k now : ℕ) (v : Serving) (o : Option Life) → Follows v → Follows (after_life_cut answers js k now v o)
  life_cut_follows js k now v None h = h
  life_cut_follows js k now v (Some l) h =
      let w = after_cut_asked answers v k l in
      input_follows js (In.LinkDown k) now (with_current w k None) (cut_follows (with_pending v k (Some l)) k (Some l) h)

  link_item_follows : (js : List ℕ) (k now : ℕ) (what : What) (v : Serving) → Follows v → Follows (after_link_item answers js k now what v)
  unfolding after_link_item
  link_item_follows js k now (Tells.Up l) v h =
      let v' : Serving = after_old_down answers js k now v (v.seat.current k) in
      input_follows js (In.LinkUp k) now (with_current v' k (Some l)) (old_down_follows js k now v (v.seat.current k) h)
  link_item_follows js k now (Tells.Packet l p) v h =
      cond_both (is_current l (v.seat.current k)) _ _ Follows (λ _. input_follows js (In.Packet k p) now (record v { steps = v.steps ++ record { from = k; parcel = record { life = l; packet = p } } ∷ [] }) h) (λ _. h)
  link_item_follows js k now (Tells.Down l r) v h =
      cond_both (is_current l (v.seat.current k)) _ _ Follows (λ _. input_follows js (In.LinkDown k) now (with_current v k None) h)
      (λ _. cond_both (is_current l (v.seat.pending k)) _ _ Follows (λ _. h) (λ _. h))
  link_item_follows js k now (Tells.Need d) v h = input_follows js (In.Need d) now v h
  link_item_follows js k now (Tells.Cut j) v h = h
  link_item_follows js k now Tells.Beat v h = h
  link_item_follows js k now Tells.Show v h = h
  link_item_follows js k now (Tells.Status status) v h = h
  link_item_follows js k now Tells.Quit v h = h

  other_item_follows : (js : List ℕ) (now : ℕ) (what : What) (v : Serving) → Follows v → Follows (after_other_item answers js now what v)
  unfolding after_other_item
  other_item_follows js now (Tells.Need d) v h = input_follows js (In.Need d) now v h
  other_item_follows js now (Tells.Cut k) v h = cond_both (has_number k js) _ _ Follows (λ _. life_cut_follows js k now v (v.seat.current k) h) (λ _. h)
  other_item_follows js now (Tells.Up l) v h = h
  other_item_follows js now (Tells.Packet l p) v h = h
  other_item_follows js now (Tells.Down l r) v h = h
  other_item_follows js now Tells.Beat v h = h
  other_item_follows js now Tells.Show v h = h
  other_item_follows js now (Tells.Status status) v h = h
  other_item_follows js now Tells.Quit v h = h

  pub serving_follows : (js : List ℕ) (seat : SeatState) (item : Item) → Follows (begin_serving seat) → Follows (serving_of answers js seat item)
  unfolding serving_of
  serving_follows js seat item h = go (slice_get js item.seat)
    where
      go : (o : Option ℕ) → Follows (after_item_of answers js o item.now item.what (after_cuts_tried answers js (begin_serving seat)))
      go (Some k) = link_item_follows js k item.now item.what (after_cuts_tried answers js (begin_serving seat)) (cuts_follow js (begin_serving seat) h)
      go None = other_item_follows js item.now item.what (after_cuts_tried answers js (begin_serving seat)) (cuts_follow js (begin_serving seat) h)
