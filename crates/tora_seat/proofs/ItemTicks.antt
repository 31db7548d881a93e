-- The inputs that are accepted for an item have its tick.
use Rattle.std.proofs.Common.{◌≡◌, ℕ, zero, suc, List, [], ◌∷◌, ◌++◌, length, Option, Some, None, refl}
use Rattle.std.proofs.lemmas.Bool.{cond_both}
use Rattle.std.specs.Prelude.{slice_get}
use Rattle.std.specs.List.{AllByRecursion}
use Rattle.tora_packet.specs.declared.Packet.{Packet}
use Rattle.tora_arq.specs.declared.life.Life.{Life}
use Rattle.tora_core.specs.declared.Input.{Input}
use Rattle.tora_core.specs.declared.Input.TheVariants as In
use Rattle.tora_core.specs.declared.errors.StepError.{StepError}
use Rattle.tora_core.specs.Numbers.{has_number}
use Rattle.tora_core.specs.CoreRun.{refusal_of, sends_of}
use Rattle.tora_seat.specs.declared.what.What.{What}
use Rattle.tora_seat.specs.declared.what.What.TheVariants as Tells
use Rattle.tora_seat.specs.declared.item.Item.{Item}
use Rattle.tora_seat.specs.Serving.{SeatState, Serving, Answers, with_current, with_pending, after_cut_tried, after_cuts_tried, after_sent, after_broadcast, after_broadcasts, accepting, after_answer, after_step, first_cut, after_settling, after_input, is_current, after_old_down, after_cut_asked, after_life_cut, after_link_item, after_other_item, after_item_of, begin_serving, serving_of}

-- an input that has this tick
abbrev pub HasTick : ℕ → Input × ℕ → Type 0
HasTick tick input = input.1 ≡ tick

push_tick : (tick : ℕ) (inputs : List (Input × ℕ)) (input : Input) → AllByRecursion (HasTick tick) inputs → AllByRecursion (HasTick tick) (inputs ++ (input, tick) ∷ [])
push_tick tick [] input h = (refl, tt)
push_tick tick (x ∷ inputs) input h = (h.0, push_tick tick inputs input h.1)

module _ (answers : Answers) (tick : ℕ) where
  abbrev pub Follows : Serving → Type 0
  Follows v = AllByRecursion (HasTick tick) v.inputs

  cut_follows : (v : Serving) (k : ℕ) (o : Option Life) → Follows v → Follows (after_cut_tried answers v k o)
  cut_follows v k None h = h
  cut_follows v k (Some l) h = cond_both (answers v.offers k) _ _ Follows (λ _. h) (λ _. h)

  cuts_follow : (js : List ℕ) (v : Serving) → Follows v → Follows (after_cuts_tried answers js v)
  unfolding after_cuts_tried
  cuts_follow [] v h = h
  cuts_follow (k ∷ js) v h = cuts_follow js (after_cut_tried answers v k (v.seat.pending k)) (cut_follows v k (v.seat.pending k) h)

  sent_follows : (p : Packet) (v : Serving) (k : ℕ) (o : Option Life) → Follows v → Follows (after_sent answers p v k o)
  sent_follows p v k None h = h
  sent_follows p v k (Some l) h = cond_both (answers v.offers k) _ _ Follows (λ _. h) (λ _. h)

  broadcast_follows : (p : Packet) (js : List ℕ) (v : Serving) → Follows v → Follows (after_broadcast answers p js v)
  unfolding after_broadcast
  broadcast_follows p [] v h = h
  broadcast_follows p (k ∷ js) v h = broadcast_follows p js (after_sent answers p v k (v.seat.current k)) (sent_follows p v k (v.seat.current k) h)

  broadcasts_follow : (js : List ℕ) (ps : List Packet) (v : Serving) → Follows v → Follows (after_broadcasts answers js ps v)
  unfolding after_broadcasts
  broadcasts_follow js [] v h = h
  broadcasts_follow js (p ∷ ps) v h = broadcasts_follow js ps (after_broadcast answers p js v) (broadcast_follows p js v h)

  accepting_follows : (v : Serving) (input : Input) → Follows v → Follows (accepting v input tick)
  accepting_follows v input h = push_tick tick v.inputs input h

  step_follows : (js : List ℕ) (input : Input) (v : Serving) → Follows v → Follows (after_step answers js input tick v)
  unfolding after_step
  step_follows js input v h = go (refusal_of v.seat.core input)
    where
      go : (o : Option StepError) → Follows (after_answer answers js input tick v o)
      go None = broadcasts_follow js (sends_of v.seat.core input tick) (accepting v input tick) (accepting_follows v input h)
      go (Some error) = h

  settling_follows : (most : ℕ) (js : List ℕ) (v : Serving) → Follows v → Follows (after_settling most answers js tick v)
  unfolding after_settling
  settling_follows zero js v h = h
  settling_follows (suc most) js v h = go (first_cut v.seat js) (λ k. settling_follows most js (after_step answers js (In.LinkDown k) tick v) (step_follows js (In.LinkDown k) v h))
    where
      go : (o : Option ℕ) → ((k : ℕ) → Follows (after_settling most answers js tick (after_step answers js (In.LinkDown k) tick v))) →
          Follows (elim o [ None ↦ v | Some k ↦ after_settling most answers js tick (after_step answers js (In.LinkDown k) tick v) ])
      go None f = h
      go (Some k) f = f k

  input_follows : (js : List ℕ) (input : Input) (v : Serving) → Follows v → Follows (after_input answers js input tick v)
  unfolding after_input
  input_follows js input v h = settling_follows (length js) js (after_step answers js input tick v) (step_follows js input v h)

  old_down_follows : (js : List ℕ) (k : ℕ) (v : Serving) (o : Option Life) → Follows v → Follows (after_old_down answers js k tick v o)
  old_down_follows js k v None h = h
  old_down_follows js k v (Some l) h = input_follows js (In.LinkDown k) (with_current v k None) h

  life_cut_follows : (js : List ℕ) (k : ℕ) (v : Serving) (o : Option Life) → Follows v → Follows (after_life_cut answers js k tick v o)
  life_cut_follows js k v None h = h
  life_cut_follows js k v (Some l) h =
      let w = after_cut_asked answers v k l in
      input_follows js (In.LinkDown k) (with_current w k None) (cut_follows (with_pending v k (Some l)) k (Some l) h)

  link_item_follows : (js : List ℕ) (k : ℕ) (what : What) (v : Serving) → Follows v → Follows (after_link_item answers js k tick what v)
  unfolding after_link_item
  link_item_follows js k (Tells.Up l) v h =
      let v' : Serving = after_old_down answers js k tick v (v.seat.current k) in
      input_follows js (In.LinkUp k) (with_current v' k (Some l)) (old_down_follows js k v (v.seat.current k) h)
  link_item_follows js k (Tells.Packet l p) v h =
      cond_both (is_current l (v.seat.current k)) _ _ Follows (λ _. input_follows js (In.Packet k p) (record v { steps = v.steps ++ record { from = k; parcel = record { life = l; packet = p } } ∷ [] }) h) (λ _. h)
  link_item_follows js k (Tells.Down l r) v h =
      cond_both (is_current l (v.seat.current k)) _ _ Follows (λ _. input_follows js (In.LinkDown k) (with_current v k None) h)
      (λ _. cond_both (is_current l (v.seat.pending k)) _ _ Follows (λ _. h) (λ _. h))
  link_item_follows js k (Tells.Need d) v h = input_follows js (In.Need d) v h
  link_item_follows js k (Tells.Cut j) v h = h
  link_item_follows js k Tells.Beat v h = h
  link_item_follows js k Tells.Show v h = h
  link_item_follows js k (Tells.Status status) v h = h
  link_item_follows js k Tells.Quit v h = h

  other_item_follows : (js : List ℕ) (what : What) (v : Serving) → Follows v → Follows (after_other_item answers js tick what v)
  unfolding after_other_item
  other_item_follows js (Tells.Need d) v h = input_follows js (In.Need d) v h
  other_item_follows js (Tells.Cut k) v h = cond_both (has_number k js) _ _ Follows (λ _. life_cut_follows js k v (v.seat.current k) h) (λ _. h)
  other_item_follows js (Tells.Up l) v h = h
  other_item_follows js (Tells.Packet l p) v h = h
  other_item_follows js (Tells.Down l r) v h = h
  other_item_follows js Tells.Beat v h = h
  other_item_follows js Tells.Show v h = h
  other_item_follows js (Tells.Status status) v h = h
  other_item_follows js Tells.Quit v h = h

pub inputs_have_the_tick : (answers : Answers) (js : List ℕ) (seat : SeatState) (item : Item) → AllByRecursion (HasTick item.now) (serving_of answers js seat item).inputs
unfolding serving_of
inputs_have_the_tick answers js seat item = go (slice_get js item.seat)
  where
    go : (o : Option ℕ) → Follows answers item.now (after_item_of answers js o item.now item.what (after_cuts_tried answers js (begin_serving seat)))
    go (Some k) = link_item_follows answers item.now js k item.what (after_cuts_tried answers js (begin_serving seat)) (cuts_follow answers item.now js (begin_serving seat) tt)
    go None = other_item_follows answers item.now js item.what (after_cuts_tried answers js (begin_serving seat)) (cuts_follow answers item.now js (begin_serving seat) tt)
