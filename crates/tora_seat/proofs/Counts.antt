-- How many inputs an item makes the core accept.
use Rattle.std.proofs.Common.{◌≡◌, ℕ, zero, suc, ◌+◌, ◌≤◌, Bool, true, false, not, ◌||◌, ◌⊎◌, inl, inr, List, [], ◌∷◌, ◌++◌, length, Option, Some, None, nat_eq, slice_get, if◌then◌else◌, refl, sym, ap, ◌∙◌, subst, eqb-true, arith, length-append}
use Rattle.std.proofs.lemmas.Bool.{cond_both, cases_Bool, or_parts}
use Rattle.tora_arq.specs.declared.life.Life.{Life}
use Rattle.tora_core.specs.declared.Input.{Input}
use Rattle.tora_core.specs.declared.Input.TheVariants as In
use Rattle.tora_core.specs.declared.errors.StepError.{StepError}
use Rattle.tora_core.specs.declared.errors.StepError.TheVariants as Fault
use Rattle.tora_core.specs.Numbers.{has_number, with_number, has_repeat}
use Rattle.tora_core.specs.CoreRun.{CoreView, refusal_of, up_after, sends_of}
use Rattle.tora_seat.specs.declared.what.What.{What}
use Rattle.tora_seat.specs.declared.what.What.TheVariants as Tells
use Rattle.tora_seat.specs.declared.item.Item.{Item}
use Rattle.tora_seat.specs.Serving.{SeatState, Serving, Answers, with_current, with_pending, after_cuts_tried, after_broadcasts, accepting, after_answer, after_step, first_cut, after_settling, after_input, after_down, after_old_down, after_cut_asked, after_life_cut, after_up, after_link_item, after_other_item, after_item_of, begin_serving, serving_of, is_current}
use Rattle.tora_seat.proofs.Places.{turned}
use Rattle.tora_core.proofs.AfterInputs.{has-with, same-neighbours}
use Rattle.tora_seat.proofs.Ups.{core_accepted, one_if, count_up, count_most, count_drops}
use Rattle.tora_seat.proofs.Calm.{calm_broadcasts, calm_cut, calm_cuts}

-- a number outside the list is not counted
count_same : (ks up : List ℕ) (j : ℕ) → has_number j ks ≡ false → count_up ks (with_number j up) ≡ count_up ks up
count_same [] up j off = refl
count_same (k ∷ ks) up j off =
    let e = or_parts (nat_eq k j) (has_number j ks) off in
    let q : one_if (has_number k (with_number j up)) ≡ one_if (has_number k up) = ap one_if (has-with k j up ∙ ap (λ b. b || has_number k up) (turned k j e.0)) in
    let h = count_same ks up j e.1 in omega (arith, q, h)

count_adds : (ks up : List ℕ) (j : ℕ) → has_repeat ks ≡ false → count_up ks (with_number j up) ≤ suc (count_up ks up)
count_adds [] up j apart = omega arith
count_adds (k ∷ ks) up j apart = go (cases_Bool (nat_eq k j)) (or_parts (has_number k ks) (has_repeat ks) apart) (count_adds ks up j (or_parts (has_number k ks) (has_repeat ks) apart).1)
  where
    one_most : (b : Bool) → one_if b ≤ 1
    one_most true = omega arith
    one_most false = omega arith

    go : (nat_eq k j ≡ true) ⊎ (nat_eq k j ≡ false) → (has_number k ks ≡ false) × (has_repeat ks ≡ false) → count_up ks (with_number j up) ≤ suc (count_up ks up) → count_up (k ∷ ks) (with_number j up) ≤ suc (count_up (k ∷ ks) up)
    go (inl e) d h =
        let rest : count_up ks (with_number j up) ≡ count_up ks up = count_same ks up j (subst (λ x. has_number x ks ≡ false) (eqb-true k j e) d.0) in
        let one = one_most (has_number k (with_number j up)) in omega (arith, rest, one)
    go (inr e) d h =
        let q : one_if (has_number k (with_number j up)) ≡ one_if (has_number k up) = ap one_if (has-with k j up ∙ ap (λ b. b || has_number k up) (turned k j e)) in omega (arith, q, h)

both_up : (a b : Bool) → (if not a then Some Fault.UnknownNeighbour else if not b then Some Fault.NotUp else None) ≡ None → (a ≡ true) × (b ≡ true)
both_up true true e = (refl, refl)
both_up true false e = absurd (let q : Some Fault.NotUp ≡ None = e in cc)
both_up false b e = absurd (let q : Some Fault.UnknownNeighbour ≡ None = e in cc)

-- how much an input may add to the sum of accepted inputs and links that are up
abbrev pub weight : Input → ℕ
weight (In.LinkUp k) = 2
weight (In.LinkDown k) = 0
weight (In.Packet k packet) = 1
weight (In.Need d) = 1

module _ (answers : Answers) (ks : List ℕ) (apart : has_repeat ks ≡ false) where
  -- the accepted inputs and the links that are up are at most this many together
  record Few (m : ℕ) (v : Serving) : Type 0 where
    near : v.seat.core.neighbours ≡ ks
    few : length v.inputs + count_up ks v.seat.core.up ≤ m

  few_more : (m n : ℕ) (v : Serving) → m ≤ n → Few m v → Few n v
  few_more m n v le h = record { near = h.near; few = let f = h.few in omega (arith, le, f) }

  up_adds : (c : CoreView) (input : Input) → c.neighbours ≡ ks → refusal_of c input ≡ None → suc (count_up ks (up_after c.up input)) ≤ count_up ks c.up + weight input
  up_adds c (In.LinkUp j) near ok = let h = count_adds ks c.up j apart in omega (arith, h)
  up_adds c (In.LinkDown j) near ok =
      let e = both_up (has_number j c.neighbours) (has_number j c.up) ok in
      let h = count_drops ks c.up j (ap (has_number j) (sym near) ∙ e.0) e.1 in omega (arith, h)
  up_adds c (In.Packet j packet) near ok = omega arith
  up_adds c (In.Need d) near ok = omega arith

  step_few : (m : ℕ) (v : Serving) (input : Input) (now : ℕ) → Few m v → Few (m + weight input) (after_step answers ks input now v)
  unfolding after_step
  step_few m v input now h = go (refusal_of v.seat.core input) refl
    where
      go : (r : Option StepError) → refusal_of v.seat.core input ≡ r → Few (m + weight input) (after_answer answers ks input now v r)
      go (Some error) e = record { near = h.near; few = let f = h.few in omega (arith, f) }
      go None e =
          let w : Serving = accepting v input now in
          let c = calm_broadcasts answers ks (sends_of v.seat.core input now) w in
          let new : Serving = after_broadcasts answers ks (sends_of v.seat.core input now) w in
          let ups : count_up ks new.seat.core.up ≡ count_up ks (up_after v.seat.core.up input) = ap (λ (x : CoreView). count_up ks x.up) (c.core ∙ core_accepted v.seat.core input now e) in
          let more : length new.inputs ≡ length v.inputs + 1 = ap length c.inputs ∙ length-append v.inputs ((input, now) ∷ []) in
          let adds = up_adds v.seat.core input h.near e in
          let f = h.few in
          record { near = ap (λ (x : CoreView). x.neighbours) c.core ∙ same-neighbours v.seat.core input now ∙ h.near; few = omega (arith, ups, more, adds, f) }

  settling_few : (most m now : ℕ) (v : Serving) → Few m v → Few m (after_settling most answers ks now v)
  unfolding after_settling
  settling_few zero m now v h = h
  settling_few (suc most) m now v h = go (first_cut v.seat ks) (λ x y. settling_few most m now x y)
    where
      go : (r : Option ℕ) → ((x : Serving) → Few m x → Few m (after_settling most answers ks now x)) → Few m (elim r [ None ↦ v | Some j ↦ after_settling most answers ks now (after_step answers ks (In.LinkDown j) now v) ])
      go None again = h
      go (Some j) again = again (after_step answers ks (In.LinkDown j) now v) (few_more (m + 0) m (after_step answers ks (In.LinkDown j) now v) (omega arith) (step_few m v (In.LinkDown j) now h))

  input_few : (m : ℕ) (v : Serving) (input : Input) (now : ℕ) → Few m v → Few (m + weight input) (after_input answers ks input now v)
  unfolding after_input
  input_few m v input now h = settling_few (length ks) (m + weight input) now (after_step answers ks input now v) (step_few m v input now h)

  same_few : (m : ℕ) (v w : Serving) → w.seat.core ≡ v.seat.core → w.inputs ≡ v.inputs → Few m v → Few m w
  same_few m v w a b h =
      let ups : count_up ks w.seat.core.up ≡ count_up ks v.seat.core.up = ap (λ (x : CoreView). count_up ks x.up) a in
      let same : length w.inputs ≡ length v.inputs = ap length b in
      let f = h.few in
      record { near = ap (λ (x : CoreView). x.neighbours) a ∙ h.near; few = omega (arith, ups, same, f) }

  down_few : (m : ℕ) (v : Serving) (k now : ℕ) → Few m v → Few m (after_down answers ks k now v)
  down_few m v k now h =
      let w : Serving = with_current v k None in
      few_more (m + 0) m (after_down answers ks k now v) (omega arith) (input_few m w (In.LinkDown k) now (same_few m v w refl refl h))

  old_down_few : (m : ℕ) (v : Serving) (k now : ℕ) (cur : Option Life) → Few m v → Few m (after_old_down answers ks k now v cur)
  old_down_few m v k now None h = h
  old_down_few m v k now (Some l) h = down_few m v k now h

  life_cut_few : (m : ℕ) (v : Serving) (k now : ℕ) (cur : Option Life) → Few m v → Few m (after_life_cut answers ks k now v cur)
  life_cut_few m v k now None h = h
  life_cut_few m v k now (Some l) h =
      let w = after_cut_asked answers v k l in
      let c = calm_cut answers (with_pending v k (Some l)) k (Some l) in
      down_few m w k now (same_few m v w c.core c.inputs h)

  up_few : (m : ℕ) (v : Serving) (k : ℕ) (l : Life) (now : ℕ) → Few m v → Few (m + 2) (after_up answers ks k l now v)
  up_few m v k l now h = let w : Serving = with_current v k (Some l) in input_few m w (In.LinkUp k) now (same_few m v w refl refl h)

  link_few : (m : ℕ) (v : Serving) (k now : ℕ) (what : What) → Few m v → Few (m + 2) (after_link_item answers ks k now what v)
  unfolding after_link_item
  link_few m v k now (Tells.Up life) h = up_few m (after_old_down answers ks k now v (v.seat.current k)) k life now (old_down_few m v k now (v.seat.current k) h)
  link_few m v k now (Tells.Packet life packet) h =
      cond_both (is_current life (v.seat.current k)) _ _ (Few (m + 2))
      (λ _. few_more (m + 1) (m + 2) _ (omega arith) (input_few m (record v { steps = v.steps ++ record { from = k; parcel = record { life = life; packet = packet } } ∷ [] }) (In.Packet k packet) now (record { near = h.near; few = h.few })))
      (λ _. few_more m (m + 2) v (omega arith) h)
  link_few m v k now (Tells.Down life reason) h =
      cond_both (is_current life (v.seat.current k)) _ _ (Few (m + 2))
      (λ _. few_more m (m + 2) (after_down answers ks k now v) (omega arith) (down_few m v k now h))
      (λ _. cond_both (is_current life (v.seat.pending k)) _ _ (Few (m + 2)) (λ _. few_more m (m + 2) _ (omega arith) (record { near = h.near; few = h.few })) (λ _. few_more m (m + 2) v (omega arith) h))
  link_few m v k now (Tells.Need d) h = few_more (m + 1) (m + 2) (after_input answers ks (In.Need d) now v) (omega arith) (input_few m v (In.Need d) now h)
  link_few m v k now (Tells.Cut j) h = few_more m (m + 2) v (omega arith) h
  link_few m v k now Tells.Beat h = few_more m (m + 2) v (omega arith) h
  link_few m v k now Tells.Show h = few_more m (m + 2) _ (omega arith) (record { near = h.near; few = h.few })
  link_few m v k now (Tells.Status status) h = few_more m (m + 2) _ (omega arith) (record { near = h.near; few = h.few })
  link_few m v k now Tells.Quit h = few_more m (m + 2) _ (omega arith) (record { near = h.near; few = h.few })

  other_few : (m : ℕ) (v : Serving) (now : ℕ) (what : What) → Few m v → Few (m + 2) (after_other_item answers ks now what v)
  unfolding after_other_item
  other_few m v now (Tells.Up life) h = few_more m (m + 2) v (omega arith) h
  other_few m v now (Tells.Packet life packet) h = few_more m (m + 2) v (omega arith) h
  other_few m v now (Tells.Down life reason) h = few_more m (m + 2) v (omega arith) h
  other_few m v now (Tells.Need d) h = few_more (m + 1) (m + 2) (after_input answers ks (In.Need d) now v) (omega arith) (input_few m v (In.Need d) now h)
  other_few m v now (Tells.Cut k) h =
      cond_both (has_number k ks) _ _ (Few (m + 2))
      (λ _. few_more m (m + 2) (after_life_cut answers ks k now v (v.seat.current k)) (omega arith) (life_cut_few m v k now (v.seat.current k) h))
      (λ _. few_more m (m + 2) v (omega arith) h)
  other_few m v now Tells.Beat h = few_more m (m + 2) v (omega arith) h
  other_few m v now Tells.Show h = few_more m (m + 2) _ (omega arith) (record { near = h.near; few = h.few })
  other_few m v now (Tells.Status status) h = few_more m (m + 2) _ (omega arith) (record { near = h.near; few = h.few })
  other_few m v now Tells.Quit h = few_more m (m + 2) _ (omega arith) (record { near = h.near; few = h.few })

  item_few : (m : ℕ) (v : Serving) (o : Option ℕ) (now : ℕ) (what : What) → Few m v → Few (m + 2) (after_item_of answers ks o now what v)
  item_few m v None now what h = other_few m v now what h
  item_few m v (Some k) now what h = link_few m v k now what h

  pub few_inputs : (s : SeatState) (item : Item) → ks ≡ s.core.neighbours → length (serving_of answers ks s item).inputs ≤ length ks + 2
  unfolding serving_of
  few_inputs s item near =
      let v = after_cuts_tried answers ks (begin_serving s) in
      let c = calm_cuts answers ks (begin_serving s) in
      let most = count_most ks s.core.up in
      let first : Few (length ks) v = same_few (length ks) (begin_serving s) v c.core c.inputs (record { near = sym near; few = omega (arith, most) }) in
      let h = (item_few (length ks) v (slice_get ks item.seat) item.now item.what first).few in
      omega (arith, h)
