-- The effect of each kind of item at one neighbour.
use Rattle.std.proofs.Common.{◌≡◌, ℕ, Bool, true, false, true≢false, inl, ⊎_elim, List, [], ◌∷◌, ◌++◌, Option, Some, None, nat_eq, slice_get, if◌then◌else◌, refl, sym, ap, ◌∙◌, subst, append-nil, eqb-true, eq-eqb}
use Rattle.std.proofs.lemmas.Bool.{cond_both, cases_Bool, false≢true}
use Rattle.std.specs.Prelude.{is_some}
use Rattle.tora_packet.specs.declared.Packet.{Packet}
use Rattle.tora_arq.specs.declared.life.Life.{Life}
use Rattle.tora_core.specs.declared.Input.TheVariants as In
use Rattle.tora_core.specs.Numbers.{has_number, has_repeat}
use Rattle.tora_seat.specs.declared.what.What.{What}
use Rattle.tora_seat.specs.declared.what.What.TheVariants as Tells
use Rattle.tora_seat.specs.declared.item.Item.{Item}
use Rattle.tora_seat.specs.declared.answer.Answer.{Answer}
use Rattle.tora_seat.specs.declared.answer.Answer.TheVariants as Says
use Rattle.tora_seat.specs.Serving.{SeatState, Serving, Answers, Step, with_pending, after_cuts_tried, after_up, after_down, after_old_down, after_cut_asked, after_life_cut, after_link_item, after_other_item, after_item_of, begin_serving, serving_of, is_current}
use Rattle.tora_seat.specs.SeatLaws.{IsInStep, has_back, packets_put, broadcast_to, has_link_down, Begins, life_brought, life_served, HasNoGap, EndsAtBack}
use Rattle.tora_seat.proofs.ItemFacts.{Stands, Keeps, Ended, Started, started, keeps_start, ended_start, input_ends, start_cut, down_ends, forget_off, forget_on, down_off, up_off, up_on}
use Rattle.tora_seat.proofs.Histories.{begins_same}

module _ (answers : Answers) (ks : List ℕ) (k : ℕ) (first : SeatState) (inside : has_number k ks ≡ true) (apart : has_repeat ks ≡ false) (near : first.core.neighbours ≡ ks) (in_step : is_some (first.current k) ≡ has_number k first.core.up) where
  abbrev Fine : Option Life → Serving → Type 0
  Fine served v = Ended answers ks k first served inside apart v

  -- a result, or a packet that is recorded, does not matter here
  answered : (served : Option Life) (v : Serving) (answer : Answer) → Fine served v → Fine served (record v { answer = answer })
  answered served v answer h =
      record { keeps = record { sends = record { life = h.keeps.sends.life; quiet = h.keeps.sends.quiet; stands = h.keeps.sends.stands }; core_is = h.keeps.core_is; near = h.keeps.near }; settled = h.settled }

  noted : (served : Option Life) (v : Serving) (steps : List Step) → Keeps answers ks k first served inside apart v → Keeps answers ks k first served inside apart (record v { steps = steps })
  noted served v steps h = record { sends = record { life = h.sends.life; quiet = h.sends.quiet; stands = h.sends.stands }; core_is = h.core_is; near = h.near }

  module _ (v : Serving) (s : (served : Option Life) → Started answers ks k first served inside apart v) where
    keeps : Keeps answers ks k first (first.current k) inside apart v
    keeps = keeps_start answers ks k first (first.current k) inside apart v (s (first.current k)) near in_step (inl refl)

    still : Fine (first.current k) v
    still = ended_start answers ks k first (first.current k) inside apart v (s (first.current k)).none keeps

    -- the session that ended is the current one, so its link is up
    on_down : (life : Life) (now : ℕ) → is_current life (v.seat.current k) ≡ true → Fine (first.current k) (after_down answers ks k now v)
    on_down life now e = go (first.current k) refl
      where
        same : v.seat.current k ≡ first.current k
        same = ap (λ (f : ℕ → Option Life). f k) (s (first.current k)).current

        go : (cur : Option Life) → first.current k ≡ cur → Fine (first.current k) (after_down answers ks k now v)
        go None c = absurd (false≢true (sym (ap (is_current life) (same ∙ c)) ∙ e))
        go (Some l) c = down_ends answers ks k first (first.current k) inside apart v now (s (first.current k)) near (sym in_step ∙ ap is_some c)

    -- the requested cut of a session is offered before the session is over
    asked : (served : Option Life) (j : ℕ) (l : Life) → Started answers ks k first served inside apart (after_cut_asked answers v j l)
    asked served j l =
        let h = s served in
        start_cut answers ks k first served inside apart (with_pending v j (Some l)) j (Some l)
        (record { core = h.core; current = h.current; inputs = h.inputs; life = h.life; quiet = h.quiet; none = h.none; put = h.put })

    cut_off : (j now : ℕ) → nat_eq j k ≡ false → (cur : Option Life) → Fine (first.current k) (after_life_cut answers ks j now v cur)
    cut_off j now off None = still
    cut_off j now off (Some l) =
        let w = after_cut_asked answers v j l in
        down_off answers ks k first (first.current k) inside apart w j now off
        (keeps_start answers ks k first (first.current k) inside apart w (asked (first.current k) j l) near in_step (inl refl))

    cut_on : (now : ℕ) → Fine (first.current k) (after_life_cut answers ks k now v (v.seat.current k))
    cut_on now = go (first.current k) refl (v.seat.current k) (ap (λ (f : ℕ → Option Life). f k) (s (first.current k)).current)
      where
        go : (was : Option Life) → first.current k ≡ was → (cur : Option Life) → cur ≡ first.current k → Fine (first.current k) (after_life_cut answers ks k now v cur)
        go was e None c = still
        go None e (Some l) c = absurd (let y : Some l ≡ None = c ∙ e in cc)
        go (Some m) e (Some l) c =
            down_ends answers ks k first (first.current k) inside apart (after_cut_asked answers v k l) now (asked (first.current k) k l) near (sym in_step ∙ ap is_some e)

    on_cut : (j now : ℕ) → Fine (first.current k) (after_life_cut answers ks j now v (v.seat.current j))
    on_cut j now =
        ⊎_elim
        (λ (e : nat_eq j k ≡ true). subst (λ x. Fine (first.current k) (after_life_cut answers ks x now v (v.seat.current x))) (sym (eqb-true j k e)) (cut_on now))
        (λ (e : nat_eq j k ≡ false). cut_off j now e (v.seat.current j))
        (cases_Bool (nat_eq j k))

    link_on : (what : What) (now : ℕ) → Fine (life_brought k (Some k) what (first.current k)) (after_link_item answers ks k now what v)
    unfolding after_link_item
    link_on (Tells.Up life) now =
        subst (λ o. Fine o (after_up answers ks k life now (after_old_down answers ks k now v (v.seat.current k)))) (sym (ap (λ (b : Bool). if b then Some life else first.current k) (eq-eqb k k refl)))
        (up_on answers ks k first inside apart v life now (s None) near in_step)
    link_on (Tells.Packet life packet) now =
        cond_both (is_current life (v.seat.current k)) _ _ (Fine (first.current k))
        (λ _. input_ends answers ks k first (first.current k) inside apart (record v { steps = v.steps ++ record { from = k; parcel = record { life = life; packet = packet } } ∷ [] }) (In.Packet k packet) now refl (λ d. absurd (false≢true d))
        (noted (first.current k) v (v.steps ++ record { from = k; parcel = record { life = life; packet = packet } } ∷ []) keeps))
        (λ _. still)
    link_on (Tells.Down life reason) now =
        cond_both (is_current life (v.seat.current k)) _ _ (Fine (first.current k))
        (λ e. on_down life now e)
        (λ _. cond_both (is_current life (v.seat.pending k)) _ _ (Fine (first.current k))
        (λ _. ended_start answers ks k first (first.current k) inside apart (with_pending v k None) (s (first.current k)).none (forget_on answers ks k first (first.current k) inside apart v None (s (first.current k)).none keeps))
        (λ _. still))
    link_on (Tells.Need d) now = input_ends answers ks k first (first.current k) inside apart v (In.Need d) now refl (λ e. absurd (false≢true e)) keeps
    link_on (Tells.Cut j) now = still
    link_on Tells.Beat now = still
    link_on Tells.Show now = answered (first.current k) v Says.Show still
    link_on (Tells.Status status) now = answered (first.current k) v Says.Show still
    link_on Tells.Quit now = answered (first.current k) v Says.Quit still

    link_off : (j : ℕ) (what : What) (now : ℕ) → nat_eq j k ≡ false → Fine (life_brought k (Some j) what (first.current k)) (after_link_item answers ks j now what v)
    unfolding after_link_item
    link_off j (Tells.Up life) now off =
        subst (λ o. Fine o (after_up answers ks j life now (after_old_down answers ks j now v (v.seat.current j)))) (sym (ap (λ (b : Bool). if b then Some life else first.current k) off))
        (up_off answers ks k first (first.current k) inside apart v j life now off keeps)
    link_off j (Tells.Packet life packet) now off =
        cond_both (is_current life (v.seat.current j)) _ _ (Fine (first.current k))
        (λ _. input_ends answers ks k first (first.current k) inside apart (record v { steps = v.steps ++ record { from = j; parcel = record { life = life; packet = packet } } ∷ [] }) (In.Packet j packet) now refl (λ d. absurd (false≢true d))
        (noted (first.current k) v (v.steps ++ record { from = j; parcel = record { life = life; packet = packet } } ∷ []) keeps))
        (λ _. still)
    link_off j (Tells.Down life reason) now off =
        cond_both (is_current life (v.seat.current j)) _ _ (Fine (first.current k))
        (λ _. down_off answers ks k first (first.current k) inside apart v j now off keeps)
        (λ _. cond_both (is_current life (v.seat.pending j)) _ _ (Fine (first.current k))
        (λ _. ended_start answers ks k first (first.current k) inside apart (with_pending v j None) (s (first.current k)).none (forget_off answers ks k first (first.current k) inside apart v j None off keeps))
        (λ _. still))
    link_off j (Tells.Need d) now off = input_ends answers ks k first (first.current k) inside apart v (In.Need d) now refl (λ e. absurd (false≢true e)) keeps
    link_off j (Tells.Cut i) now off = still
    link_off j Tells.Beat now off = still
    link_off j Tells.Show now off = answered (first.current k) v Says.Show still
    link_off j (Tells.Status status) now off = answered (first.current k) v Says.Show still
    link_off j Tells.Quit now off = answered (first.current k) v Says.Quit still

    other : (what : What) (now : ℕ) → Fine (first.current k) (after_other_item answers ks now what v)
    unfolding after_other_item
    other (Tells.Up life) now = still
    other (Tells.Packet life packet) now = still
    other (Tells.Down life reason) now = still
    other (Tells.Need d) now = input_ends answers ks k first (first.current k) inside apart v (In.Need d) now refl (λ e. absurd (false≢true e)) keeps
    other (Tells.Cut j) now = cond_both (has_number j ks) _ _ (Fine (first.current k)) (λ _. on_cut j now) (λ _. still)
    other Tells.Beat now = still
    other Tells.Show now = answered (first.current k) v Says.Show still
    other (Tells.Status status) now = answered (first.current k) v Says.Show still
    other Tells.Quit now = answered (first.current k) v Says.Quit still

    item_of : (o : Option ℕ) (what : What) (now : ℕ) → Fine (life_brought k o what (first.current k)) (after_item_of answers ks o now what v)
    item_of None what now = other what now
    item_of (Some j) what now =
        ⊎_elim
        (λ (e : nat_eq j k ≡ true). subst (λ x. Fine (life_brought k (Some x) what (first.current k)) (after_link_item answers ks x now what v)) (sym (eqb-true j k e)) (link_on what now))
        (λ (e : nat_eq j k ≡ false). link_off j what now e)
        (cases_Bool (nat_eq j k))

  pub served_ends : (item : Item) → Ended answers ks k first (life_served ks first item k) inside apart (serving_of answers ks first item)
  unfolding serving_of
  served_ends item = item_of (after_cuts_tried answers ks (begin_serving first)) (λ served. started answers ks k first served inside apart) (slice_get ks item.seat) item.what item.now

-- ---- consequences

module _ (answers : Answers) (ks : List ℕ) (k : ℕ) (first : SeatState) (served : Option Life) (inside : has_number k ks ≡ true) (apart : has_repeat ks ≡ false) (v : Serving) (h : Ended answers ks k first served inside apart v) where
  all : List Packet
  all = broadcast_to k first.core v.inputs

  abbrev At : Option Life → Type 0
  At cur = Stands served [] (v.seat.pending k) (has_number k v.seat.core.up) (packets_put k v.offers) (broadcast_to k first.core v.inputs) (has_back k v.offers) (has_link_down k v.inputs) cur

  pub in_step_after : is_some (v.seat.current k) ≡ has_number k v.seat.core.up
  in_step_after = go (v.seat.current k) h.keeps.sends.stands
    where
      go : (cur : Option Life) → At cur → is_some cur ≡ has_number k v.seat.core.up
      go (Some l) n = sym n.2
      go None n = ⊎_elim (λ a. sym a.1) (λ a. sym (h.settled a.0)) n

  pub begins_all : Begins (packets_put k v.offers) (broadcast_to k first.core v.inputs)
  begins_all = go (v.seat.current k) h.keeps.sends.stands
    where
      go : (cur : Option Life) → At cur → Begins (packets_put k v.offers) (broadcast_to k first.core v.inputs)
      go (Some l) n = ([], n.3)
      go None n = ⊎_elim (λ a. begins_same (packets_put k v.offers) (broadcast_to k first.core v.inputs) a.2) (λ a. a.2) n

  pub is_whole : has_back k v.offers ≡ false → packets_put k v.offers ≡ broadcast_to k first.core v.inputs
  is_whole none = go (v.seat.current k) h.keeps.sends.stands
    where
      go : (cur : Option Life) → At cur → packets_put k v.offers ≡ broadcast_to k first.core v.inputs
      go (Some l) n = sym (append-nil (packets_put k v.offers)) ∙ n.3
      go None n = ⊎_elim (λ a. a.2) (λ a. absurd (true≢false (sym a.0 ∙ none))) n

  pub is_over : has_back k v.offers ≡ true → (v.seat.current k ≡ None) × (v.seat.pending k ≡ served) × (has_link_down k v.inputs ≡ true)
  is_over back = go (v.seat.current k) h.keeps.sends.stands
    where
      go : (cur : Option Life) → At cur → (cur ≡ None) × (v.seat.pending k ≡ served) × (has_link_down k v.inputs ≡ true)
      go (Some l) n = absurd (true≢false (sym back ∙ n.1))
      go None n = ⊎_elim (λ a. absurd (true≢false (sym back ∙ a.0))) (λ a. (refl, a.1, a.3 (h.settled back))) n

pub keeps_in_step : (answers : Answers) (ks : List ℕ) (s : SeatState) (item : Item) → ks ≡ s.core.neighbours → has_repeat ks ≡ false → IsInStep ks s → IsInStep ks (serving_of answers ks s item).seat
keeps_in_step answers ks s item near apart step k inside =
    in_step_after answers ks k s (life_served ks s item k) inside apart (serving_of answers ks s item) (served_ends answers ks k s inside apart (sym near) (step k inside) item)

pub no_gap : (answers : Answers) (ks : List ℕ) (s : SeatState) (item : Item) (k : ℕ) → ks ≡ s.core.neighbours → has_repeat ks ≡ false → IsInStep ks s → has_number k ks ≡ true → HasNoGap ks s item k (serving_of answers ks s item)
no_gap answers ks s item k near apart step inside =
    let h = served_ends answers ks k s inside apart (sym near) (step k inside) item in
    let v = serving_of answers ks s item in
    let served = life_served ks s item k in
    record { life = h.keeps.sends.life; begins = begins_all answers ks k s served inside apart v h; whole = is_whole answers ks k s served inside apart v h }

pub ends_at_back : (answers : Answers) (ks : List ℕ) (s : SeatState) (item : Item) (k : ℕ) → ks ≡ s.core.neighbours → has_repeat ks ≡ false → IsInStep ks s → has_number k ks ≡ true → EndsAtBack ks s item k (serving_of answers ks s item)
ends_at_back answers ks s item k near apart step inside =
    let h = served_ends answers ks k s inside apart (sym near) (step k inside) item in
    let v = serving_of answers ks s item in
    let served = life_served ks s item k in
    let q = is_over answers ks k s served inside apart v h in
    record { nothing_more = h.keeps.sends.quiet; over = λ b. (q b).0; pending = λ b. (q b).1; down = λ b. (q b).2 }
