-- A seat during the parts of serving an item.
use Rattle.std.proofs.Common.{◌≡◌, ℕ, zero, suc, ◌+◌, ◌-◌, ◌<◌, Bool, true, false, List, [], ◌∷◌, ◌++◌, map, slice_get, length, Option, Some, None, MatchOption, IsOk, Result, Ok, Err, if◌then◌else◌, refl, sym, ap, ap₂, ◌∙◌, subst, append_assoc, append-nil, arith}
use Rattle.std.proofs.lemmas.List.{map_push}
use Rattle.std.proofs.lemmas.Bool.{false≢true}
use Rattle.tora_packet.specs.declared.Packet.{Packet}
use Rattle.tora_arq.specs.declared.life.Life.{Life}
use Rattle.tora_core.specs.declared.Input.{Input}
use Rattle.tora_core.specs.declared.Input.TheVariants as In
use Rattle.tora_core.specs.declared.errors.StepError.{StepError}
use Rattle.tora_core.specs.Numbers.{has_number}
use Rattle.tora_core.specs.CoreRun.{CoreView, refusal_of, core_after, sends_of}
use Rattle.tora_arq.specs.declared.reason.Reason.{Reason}
use Rattle.tora_seat.specs.declared.cargo.Cargo.{Cargo}
use Rattle.tora_seat.specs.declared.item.Item.{Item}
use Rattle.tora_seat.specs.declared.status.Status.{Status}
use Rattle.tora_seat.specs.declared.what.What.{What}
use Rattle.tora_seat.specs.declared.what.What.TheVariants as Tells
use Rattle.tora_seat.specs.declared.answer.Answer.TheVariants as Says
use Rattle.tora_seat.specs.declared.rows.LinkRow.{LinkRow}
use Rattle.tora_seat.specs.Serving.{Offer, Answers, Serving, SeatState, accepting, after_answer, after_step, after_broadcasts, after_settling, first_cut, after_input, with_pending, after_cuts_tried, after_up, after_down, after_old_down, after_life_cut, after_packet, after_link_item, after_other_item, after_item_of, begin_serving, serving_of, is_current}
use Rattle.tora_seat.specs.Offers.{AreOffered, Follows}
use Rattle.tora_seat.specs.Rows.{SeatView, neighbours_of, current_of, pending_of, steps_of, state_of, serving_at}
use Rattle.tora_seat.specs.Bodies.{RowsGo, SeatGoes}
use Rattle.tora_seat.proofs.Chains.{follows_split, offered_more}

-- the core refused the input exactly if it returned an error
pub not_refused : {A : Type 0} (o : Option StepError) (x : A) → (let r : Result A StepError = Ok x in MatchOption o (IsOk r) (λ e. r ≡ Err e)) → o ≡ None
not_refused None x h = refl
not_refused (Some e) x h = absurd (cc)

pub is_refused : (A : Type 0) (o : Option StepError) (error : StepError) → (let r : Result A StepError = Err error in MatchOption o (IsOk r) (λ e. r ≡ Err e)) → o ≡ Some error
is_refused A None error h = absurd (false≢true h)
is_refused A (Some e) error h = cc

pub step_is : (answers : Answers) (ks : List ℕ) (input : Input) (now : ℕ) (v : Serving) → after_step answers ks input now v ≡ after_answer answers ks input now v (refusal_of v.seat.core input)
unfolding after_step
step_is answers ks input now v = refl

module _ {O : Type 0} (did_offer : O → ℕ → Cargo → Bool → O → Type 0) where
  -- nothing is offered
  pub seat_still : (next : Answers → List ℕ → Serving → Serving) (now : ℕ) (s : SeatView) (outs : O) (new : SeatView) → new.core.neighbours ≡ s.core.neighbours →
      ((answers : Answers) (before : List Offer) → next answers s.core.neighbours (serving_at now s before) ≡ serving_at now new before) → SeatGoes did_offer next now s outs new outs
  seat_still next now s outs new e h = record {
    made = [];
    offered = refl;
    same = e;
    leads = λ answers before _. h answers before ∙ ap (serving_at now new) (sym (append-nil before));
  }

  -- one part after another
  pub seat_then : (first second : Answers → List ℕ → Serving → Serving) (now : ℕ) (s : SeatView) (outs : O) (between : SeatView) (middle : O) (new : SeatView) (after : O) →
      SeatGoes did_offer first now s outs between middle → SeatGoes did_offer second now between middle new after →
      SeatGoes did_offer (λ answers ks v. second answers ks (first answers ks v)) now s outs new after
  seat_then first second now s outs between middle new after a b = record {
    made = a.made ++ b.made;
    offered = offered_more did_offer s.core.neighbours outs middle after a.made b.made a.offered (subst (λ ks. AreOffered did_offer ks middle b.made after) a.same b.offered);
    same = b.same ∙ a.same;
    leads = λ answers before f.
        let h = follows_split answers before a.made b.made f in
        ap (second answers s.core.neighbours) (a.leads answers before h.0)
        ∙ ap (λ ks. second answers ks (serving_at now between (before ++ a.made))) (sym a.same)
        ∙ b.leads answers (before ++ a.made) h.1 ∙ ap (serving_at now new) (append_assoc before a.made b.made);
  }

  -- another expression of the same effect
  pub seat_as : (next other : Answers → List ℕ → Serving → Serving) (now : ℕ) (s : SeatView) (outs : O) (new : SeatView) (after : O) →
      ((answers : Answers) (before : List Offer) → other answers s.core.neighbours (serving_at now s before) ≡ next answers s.core.neighbours (serving_at now s before)) →
      SeatGoes did_offer next now s outs new after → SeatGoes did_offer other now s outs new after
  seat_as next other now s outs new after e a = record {
    made = a.made;
    offered = a.offered;
    same = a.same;
    leads = λ answers before f. e answers before ∙ a.leads answers before f;
  }

  -- the effect from an equal seat
  pub seat_from : (next : Answers → List ℕ → Serving → Serving) (now : ℕ) (same s : SeatView) (outs : O) (new : SeatView) (after : O) → same ≡ s → SeatGoes did_offer next now same outs new after → SeatGoes did_offer next now s outs new after
  seat_from next now same s outs new after e a = subst (λ x. SeatGoes did_offer next now x outs new after) e a

  -- a part that changes only the rows
  pub rows_goes : (next : Answers → List ℕ → Serving → Serving) (now : ℕ) (s : SeatView) (outs : O) (given rows new : List LinkRow) (after : O) → neighbours_of s.rows ≡ s.core.neighbours → given ≡ s.rows → rows ≡ new → RowsGo did_offer next given outs new after →
      SeatGoes did_offer next now s outs (record s { rows = rows }) after
  rows_goes next now s outs given rows new after apart given_is rows_is r0 =
      let r : RowsGo did_offer next s.rows outs new after = subst (λ xs. RowsGo did_offer next xs outs new after) given_is r0 in record {
        made = r.made;
        offered = subst (λ ks. AreOffered did_offer ks outs r.made after) apart r.offered;
        same = refl;
        leads = λ answers before f.
            ap (λ ks. next answers ks (serving_at now s before)) (sym apart) ∙ r.leads answers (serving_at now s before) before f
            ∙ ap (λ rs. serving_at now (record s { rows = rs }) (before ++ r.made)) (sym rows_is);
      }

  -- the core accepted an input
  pub step_took : (input : Input) (now : ℕ) (s : SeatView) (outs after : O) (core : CoreView) (given rows new : List LinkRow) (inputs : List Input) (sends : List Packet) →
      refusal_of s.core input ≡ None → core ≡ core_after s.core input now → core.neighbours ≡ s.core.neighbours → sends ≡ sends_of s.core input now → given ≡ s.rows → rows ≡ new → inputs ≡ s.inputs ++ input ∷ [] → neighbours_of s.rows ≡ s.core.neighbours →
      RowsGo did_offer (λ answers ks. after_broadcasts answers ks sends) given outs new after →
      SeatGoes did_offer (λ answers ks. after_step answers ks input now) now s outs (record { core = core; rows = rows; inputs = inputs; stepped = s.stepped; answer = s.answer }) after
  step_took input now s outs after core given rows new inputs sends free core_is same sends_is given_is rows_is inputs_is apart r0 =
      let r : RowsGo did_offer (λ answers ks. after_broadcasts answers ks sends) s.rows outs new after = subst (λ xs. RowsGo did_offer (λ answers ks. after_broadcasts answers ks sends) xs outs new after) given_is r0 in
      let built : List Offer → CoreView → List LinkRow → List (Input × ℕ) → Serving =
      λ offers c rs is. record { seat = record { core = c; current = current_of rs; pending = pending_of rs }; offers = offers; inputs = is; steps = steps_of s.stepped; answer = s.answer } in
      let kept : map (λ (i : Input). (i, now)) inputs ≡ map (λ (i : Input). (i, now)) s.inputs ++ (input, now) ∷ [] = ap (map (λ (i : Input). (i, now))) inputs_is ∙ map_push (λ (i : Input). (i, now)) s.inputs input in record {
        made = r.made;
        offered = subst (λ ks. AreOffered did_offer ks outs r.made after) apart r.offered;
        same = same;
        leads = λ answers before f.
            let v = serving_at now s before in
            let w = accepting v input now in
            step_is answers s.core.neighbours input now v
            ∙ ap (after_answer answers s.core.neighbours input now v) free
            ∙ ap (λ ps. after_broadcasts answers s.core.neighbours ps w) (sym sends_is)
            ∙ ap (λ ks. after_broadcasts answers ks sends w) (sym apart)
            ∙ r.leads answers w before f
            ∙ ap₂ (λ c is. built (before ++ r.made) c new is) (sym core_is) (sym kept)
            ∙ ap (λ rs. built (before ++ r.made) core rs (map (λ (i : Input). (i, now)) inputs)) (sym rows_is);
      }

  -- the core refused an input
  pub step_refused : (input : Input) (now : ℕ) (s : SeatView) (outs : O) (core : CoreView) (error : StepError) → refusal_of s.core input ≡ Some error → core ≡ s.core →
      SeatGoes did_offer (λ answers ks. after_step answers ks input now) now s outs (record s { core = core; answer = Says.Refused error }) outs
  step_refused input now s outs core error refused core_is =
      subst (λ x. SeatGoes did_offer (λ answers ks. after_step answers ks input now) now s outs (record s { core = x; answer = Says.Refused error }) outs) (sym core_is)
      (seat_still (λ answers ks. after_step answers ks input now) now s outs (record s { answer = Says.Refused error }) refl
      (λ answers before. step_is answers s.core.neighbours input now (serving_at now s before) ∙ ap (after_answer answers s.core.neighbours input now (serving_at now s before)) refused))

-- ---- rounds in which links go down

settling_end : (answers : Answers) (ks : List ℕ) (now : ℕ) (v : Serving) → after_settling 0 answers ks now v ≡ v
unfolding after_settling
settling_end answers ks now v = refl

pub settling_done : (most : ℕ) (answers : Answers) (ks : List ℕ) (now : ℕ) (v : Serving) → first_cut v.seat ks ≡ None → after_settling most answers ks now v ≡ v
unfolding after_settling
settling_done zero answers ks now v e = refl
settling_done (suc most) answers ks now v e =
    ap (λ (o : Option ℕ). elim o [ None ↦ v | Some k ↦ after_settling most answers ks now (after_step answers ks (In.LinkDown k) now v) ]) e

pub settling_more : (most : ℕ) (answers : Answers) (ks : List ℕ) (now : ℕ) (v : Serving) (k : ℕ) → first_cut v.seat ks ≡ Some k → after_settling (suc most) answers ks now v ≡ after_settling most answers ks now (after_step answers ks (In.LinkDown k) now v)
unfolding after_settling
settling_more most answers ks now v k e =
    ap (λ (o : Option ℕ). elim o [ None ↦ v | Some k ↦ after_settling most answers ks now (after_step answers ks (In.LinkDown k) now v) ]) e

-- the state after a number of rounds
pub record Rounds {O : Type 0} (did_offer : O → ℕ → Cargo → Bool → O → Type 0) (now : ℕ) (first : SeatView) (start : O) (i : ℕ) (s : SeatView) (outs : O) : Type 0 where
  pub made : List Offer
  pub offered : AreOffered did_offer first.core.neighbours start made outs
  pub same : s.core.neighbours ≡ first.core.neighbours
  pub leads : (answers : Answers) (before : List Offer) → Follows answers before made →
      after_settling (length first.core.neighbours) answers first.core.neighbours now (serving_at now first before)
      ≡ after_settling (length first.core.neighbours - i) answers first.core.neighbours now (serving_at now s (before ++ made))

module _ {O : Type 0} (did_offer : O → ℕ → Cargo → Bool → O → Type 0) (now : ℕ) where
  pub rounds_none : (first : SeatView) (start : O) → Rounds did_offer now first start 0 first start
  rounds_none first start =
      let n : length first.core.neighbours ≡ length first.core.neighbours - 0 = omega arith in record {
        made = [];
        offered = refl;
        same = refl;
        leads = λ answers before _.
            ap (λ m. after_settling m answers first.core.neighbours now (serving_at now first before)) n
            ∙ ap (λ os. after_settling (length first.core.neighbours - 0) answers first.core.neighbours now (serving_at now first os)) (sym (append-nil before));
      }

  pub rounds_more : (first : SeatView) (start : O) (i : ℕ) (s : SeatView) (outs : O) (new : SeatView) (after : O) (k : ℕ) → i < length first.core.neighbours → first_cut (state_of s) s.core.neighbours ≡ Some k →
      Rounds did_offer now first start i s outs → SeatGoes did_offer (λ answers ks. after_step answers ks (In.LinkDown k) now) now s outs new after → Rounds did_offer now first start (i + 1) new after
  rounds_more first start i s outs new after k lt cut r a =
      let n : length first.core.neighbours - i ≡ suc (length first.core.neighbours - (i + 1)) = omega (arith, lt) in record {
        made = r.made ++ a.made;
        offered = offered_more did_offer first.core.neighbours start outs after r.made a.made r.offered (subst (λ ks. AreOffered did_offer ks outs a.made after) r.same a.offered);
        same = a.same ∙ r.same;
        leads = λ answers before f.
            let h = follows_split answers before r.made a.made f in
            let v = serving_at now s (before ++ r.made) in
            r.leads answers before h.0
            ∙ ap (λ m. after_settling m answers first.core.neighbours now v) n
            ∙ settling_more (length first.core.neighbours - (i + 1)) answers first.core.neighbours now v k (ap (first_cut (state_of s)) (sym r.same) ∙ cut)
            ∙ ap (after_settling (length first.core.neighbours - (i + 1)) answers first.core.neighbours now)
            (ap (λ ks. after_step answers ks (In.LinkDown k) now v) (sym r.same) ∙ a.leads answers (before ++ r.made) h.1 ∙ ap (serving_at now new) (append_assoc before r.made a.made));
      }

  pub rounds_done : (first : SeatView) (start : O) (i : ℕ) (s : SeatView) (outs : O) → first_cut (state_of s) s.core.neighbours ≡ None → Rounds did_offer now first start i s outs →
      SeatGoes did_offer (λ answers ks. after_settling (length ks) answers ks now) now first start s outs
  rounds_done first start i s outs none r = record {
    made = r.made;
    offered = r.offered;
    same = r.same;
    leads = λ answers before f.
        r.leads answers before f ∙ settling_done (length first.core.neighbours - i) answers first.core.neighbours now (serving_at now s (before ++ r.made)) (ap (first_cut (state_of s)) (sym r.same) ∙ none);
  }

  pub rounds_all : (first : SeatView) (start : O) (i : ℕ) (s : SeatView) (outs : O) → i ≡ length first.core.neighbours → Rounds did_offer now first start i s outs →
      SeatGoes did_offer (λ answers ks. after_settling (length ks) answers ks now) now first start s outs
  rounds_all first start i s outs e r =
      let n : length first.core.neighbours - i ≡ 0 = omega (arith, e) in record {
        made = r.made;
        offered = r.offered;
        same = r.same;
        leads = λ answers before f.
            r.leads answers before f
            ∙ ap (λ m. after_settling m answers first.core.neighbours now (serving_at now s (before ++ r.made))) n
            ∙ settling_end answers first.core.neighbours now (serving_at now s (before ++ r.made));
      }

pub input_is : (answers : Answers) (ks : List ℕ) (input : Input) (now : ℕ) (v : Serving) → after_input answers ks input now v ≡ after_settling (length ks) answers ks now (after_step answers ks input now v)
unfolding after_input
input_is answers ks input now v = refl

-- ---- the parts of an item

module _ {O : Type 0} (did_offer : O → ℕ → Cargo → Bool → O → Type 0) where
  pub input_goes : (input : Input) (now : ℕ) (s : SeatView) (outs : O) (between : SeatView) (middle : O) (new : SeatView) (after : O) →
      SeatGoes did_offer (λ answers ks. after_step answers ks input now) now s outs between middle →
      SeatGoes did_offer (λ answers ks. after_settling (length ks) answers ks now) now between middle new after →
      SeatGoes did_offer (λ answers ks. after_input answers ks input now) now s outs new after
  input_goes input now s outs between middle new after a b =
      seat_as did_offer (λ answers ks v. after_settling (length ks) answers ks now (after_step answers ks input now v)) (λ answers ks. after_input answers ks input now) now s outs new after
      (λ answers before. input_is answers s.core.neighbours input now (serving_at now s before))
      (seat_then did_offer (λ answers ks. after_step answers ks input now) (λ answers ks. after_settling (length ks) answers ks now) now s outs between middle new after a b)

link_up_is : (answers : Answers) (ks : List ℕ) (k now : ℕ) (life : Life) (v : Serving) → after_link_item answers ks k now (Tells.Up life) v ≡ after_up answers ks k life now (after_old_down answers ks k now v (v.seat.current k))
unfolding after_link_item
link_up_is answers ks k now life v = refl

link_packet_is : (answers : Answers) (ks : List ℕ) (k now : ℕ) (life : Life) (packet : Packet) (v : Serving) → after_link_item answers ks k now (Tells.Packet life packet) v ≡ (if is_current life (v.seat.current k) then after_packet answers ks k life packet now v else v)
unfolding after_link_item
link_packet_is answers ks k now life packet v = refl

link_down_is : (answers : Answers) (ks : List ℕ) (k now : ℕ) (life : Life) (reason : Reason) (v : Serving) →
    after_link_item answers ks k now (Tells.Down life reason) v ≡ (if is_current life (v.seat.current k) then after_down answers ks k now v else if is_current life (v.seat.pending k) then with_pending v k None else v)
unfolding after_link_item
link_down_is answers ks k now life reason v = refl

link_need_is : (answers : Answers) (ks : List ℕ) (k now : ℕ) (d : ℕ) (v : Serving) → after_link_item answers ks k now (Tells.Need d) v ≡ after_input answers ks (In.Need d) now v
unfolding after_link_item
link_need_is answers ks k now d v = refl

link_beat_is : (answers : Answers) (ks : List ℕ) (k now : ℕ) (v : Serving) → after_link_item answers ks k now Tells.Beat v ≡ v
unfolding after_link_item
link_beat_is answers ks k now v = refl

link_cut_is : (answers : Answers) (ks : List ℕ) (k now j : ℕ) (v : Serving) → after_link_item answers ks k now (Tells.Cut j) v ≡ v
unfolding after_link_item
link_cut_is answers ks k now j v = refl

link_show_is : (answers : Answers) (ks : List ℕ) (k now : ℕ) (v : Serving) → after_link_item answers ks k now Tells.Show v ≡ record v { answer = Says.Show }
unfolding after_link_item
link_show_is answers ks k now v = refl

link_status_is : (answers : Answers) (ks : List ℕ) (k now : ℕ) (status : Status) (v : Serving) → after_link_item answers ks k now (Tells.Status status) v ≡ record v { answer = Says.Show }
unfolding after_link_item
link_status_is answers ks k now status v = refl

link_quit_is : (answers : Answers) (ks : List ℕ) (k now : ℕ) (v : Serving) → after_link_item answers ks k now Tells.Quit v ≡ record v { answer = Says.Quit }
unfolding after_link_item
link_quit_is answers ks k now v = refl

-- the kinds of items from which a seat that is not a link gets no effect
abbrev pub is_idle : What → Bool
is_idle (Tells.Up life) = true
is_idle (Tells.Packet life packet) = true
is_idle (Tells.Down life reason) = true
is_idle (Tells.Need d) = false
is_idle (Tells.Cut k) = false
is_idle Tells.Beat = true
is_idle Tells.Show = false
is_idle (Tells.Status status) = false
is_idle Tells.Quit = false

other_idle_is : (answers : Answers) (ks : List ℕ) (now : ℕ) (what : What) (v : Serving) → is_idle what ≡ true → after_other_item answers ks now what v ≡ v
unfolding after_other_item
other_idle_is answers ks now (Tells.Up life) v e = refl
other_idle_is answers ks now (Tells.Packet life packet) v e = refl
other_idle_is answers ks now (Tells.Down life reason) v e = refl
other_idle_is answers ks now (Tells.Need d) v e = absurd (false≢true e)
other_idle_is answers ks now (Tells.Cut k) v e = absurd (false≢true e)
other_idle_is answers ks now Tells.Beat v e = refl
other_idle_is answers ks now Tells.Show v e = absurd (false≢true e)
other_idle_is answers ks now (Tells.Status status) v e = absurd (false≢true e)
other_idle_is answers ks now Tells.Quit v e = absurd (false≢true e)

other_need_is : (answers : Answers) (ks : List ℕ) (now : ℕ) (d : ℕ) (v : Serving) → after_other_item answers ks now (Tells.Need d) v ≡ after_input answers ks (In.Need d) now v
unfolding after_other_item
other_need_is answers ks now d v = refl

other_cut_is : (answers : Answers) (ks : List ℕ) (now k : ℕ) (v : Serving) → after_other_item answers ks now (Tells.Cut k) v ≡ (if has_number k ks then after_life_cut answers ks k now v (v.seat.current k) else v)
unfolding after_other_item
other_cut_is answers ks now k v = refl

other_show_is : (answers : Answers) (ks : List ℕ) (now : ℕ) (v : Serving) → after_other_item answers ks now Tells.Show v ≡ record v { answer = Says.Show }
unfolding after_other_item
other_show_is answers ks now v = refl

other_status_is : (answers : Answers) (ks : List ℕ) (now : ℕ) (status : Status) (v : Serving) → after_other_item answers ks now (Tells.Status status) v ≡ record v { answer = Says.Show }
unfolding after_other_item
other_status_is answers ks now status v = refl

other_quit_is : (answers : Answers) (ks : List ℕ) (now : ℕ) (v : Serving) → after_other_item answers ks now Tells.Quit v ≡ record v { answer = Says.Quit }
unfolding after_other_item
other_quit_is answers ks now v = refl

module _ {O : Type 0} (did_offer : O → ℕ → Cargo → Bool → O → Type 0) (now : ℕ) (s : SeatView) (outs : O) (new : SeatView) (after : O) where
  -- an item of a link, by its kind
  link_goes : (k : ℕ) (what told : What) (next : Answers → List ℕ → Serving → Serving) → what ≡ told → ((answers : Answers) (ks : List ℕ) (v : Serving) → after_link_item answers ks k now told v ≡ next answers ks v) →
      SeatGoes did_offer next now s outs new after → SeatGoes did_offer (λ answers ks. after_link_item answers ks k now what) now s outs new after
  link_goes k what told next e f =
      seat_as did_offer next (λ answers ks. after_link_item answers ks k now what) now s outs new after
      (λ answers before. ap (λ w. after_link_item answers s.core.neighbours k now w (serving_at now s before)) e ∙ f answers s.core.neighbours (serving_at now s before))

  pub link_up_goes : (k : ℕ) (what : What) (life : Life) → what ≡ Tells.Up life → SeatGoes did_offer (λ answers ks v. after_up answers ks k life now (after_old_down answers ks k now v (v.seat.current k))) now s outs new after →
      SeatGoes did_offer (λ answers ks. after_link_item answers ks k now what) now s outs new after
  link_up_goes k what life e = link_goes k what (Tells.Up life) (λ answers ks v. after_up answers ks k life now (after_old_down answers ks k now v (v.seat.current k))) e (λ answers ks v. link_up_is answers ks k now life v)

  pub link_packet_goes : (k : ℕ) (what : What) (life : Life) (packet : Packet) → what ≡ Tells.Packet life packet →
      SeatGoes did_offer (λ answers ks v. if is_current life (v.seat.current k) then after_packet answers ks k life packet now v else v) now s outs new after →
      SeatGoes did_offer (λ answers ks. after_link_item answers ks k now what) now s outs new after
  link_packet_goes k what life packet e =
      link_goes k what (Tells.Packet life packet) (λ answers ks v. if is_current life (v.seat.current k) then after_packet answers ks k life packet now v else v) e (λ answers ks v. link_packet_is answers ks k now life packet v)

  pub link_down_goes : (k : ℕ) (what : What) (life : Life) (reason : Reason) → what ≡ Tells.Down life reason →
      SeatGoes did_offer (λ answers ks v. if is_current life (v.seat.current k) then after_down answers ks k now v else if is_current life (v.seat.pending k) then with_pending v k None else v) now s outs new after →
      SeatGoes did_offer (λ answers ks. after_link_item answers ks k now what) now s outs new after
  link_down_goes k what life reason e =
      link_goes k what (Tells.Down life reason) (λ answers ks v. if is_current life (v.seat.current k) then after_down answers ks k now v else if is_current life (v.seat.pending k) then with_pending v k None else v) e
      (λ answers ks v. link_down_is answers ks k now life reason v)

  pub link_need_goes : (k : ℕ) (what : What) (d : ℕ) → what ≡ Tells.Need d → SeatGoes did_offer (λ answers ks. after_input answers ks (In.Need d) now) now s outs new after → SeatGoes did_offer (λ answers ks. after_link_item answers ks k now what) now s outs new after
  link_need_goes k what d e = link_goes k what (Tells.Need d) (λ answers ks. after_input answers ks (In.Need d) now) e (λ answers ks v. link_need_is answers ks k now d v)

  other_goes : (what told : What) (next : Answers → List ℕ → Serving → Serving) → what ≡ told → ((answers : Answers) (ks : List ℕ) (v : Serving) → after_other_item answers ks now told v ≡ next answers ks v) →
      SeatGoes did_offer next now s outs new after → SeatGoes did_offer (λ answers ks. after_other_item answers ks now what) now s outs new after
  other_goes what told next e f =
      seat_as did_offer next (λ answers ks. after_other_item answers ks now what) now s outs new after
      (λ answers before. ap (λ w. after_other_item answers s.core.neighbours now w (serving_at now s before)) e ∙ f answers s.core.neighbours (serving_at now s before))

  pub other_cut_goes : (what : What) (k : ℕ) → what ≡ Tells.Cut k → SeatGoes did_offer (λ answers ks v. if has_number k ks then after_life_cut answers ks k now v (v.seat.current k) else v) now s outs new after → SeatGoes did_offer (λ answers ks. after_other_item answers ks now what) now s outs new after
  other_cut_goes what k e = other_goes what (Tells.Cut k) (λ answers ks v. if has_number k ks then after_life_cut answers ks k now v (v.seat.current k) else v) e (λ answers ks v. other_cut_is answers ks now k v)

  pub other_need_goes : (what : What) (d : ℕ) → what ≡ Tells.Need d → SeatGoes did_offer (λ answers ks. after_input answers ks (In.Need d) now) now s outs new after → SeatGoes did_offer (λ answers ks. after_other_item answers ks now what) now s outs new after
  other_need_goes what d e = other_goes what (Tells.Need d) (λ answers ks. after_input answers ks (In.Need d) now) e (λ answers ks v. other_need_is answers ks now d v)

module _ {O : Type 0} (did_offer : O → ℕ → Cargo → Bool → O → Type 0) (now : ℕ) (s : SeatView) (outs : O) where
  -- only the result changes
  pub link_beat_goes : (k : ℕ) (what : What) → what ≡ Tells.Beat → SeatGoes did_offer (λ answers ks. after_link_item answers ks k now what) now s outs s outs
  link_beat_goes k what e =
      link_goes did_offer now s outs s outs k what Tells.Beat (λ answers ks v. v) e (λ answers ks v. link_beat_is answers ks k now v) (seat_still did_offer (λ answers ks v. v) now s outs s refl (λ answers before. refl))

  pub link_cut_goes : (k : ℕ) (what : What) (j : ℕ) → what ≡ Tells.Cut j → SeatGoes did_offer (λ answers ks. after_link_item answers ks k now what) now s outs s outs
  link_cut_goes k what j e =
      link_goes did_offer now s outs s outs k what (Tells.Cut j) (λ answers ks v. v) e (λ answers ks v. link_cut_is answers ks k now j v) (seat_still did_offer (λ answers ks v. v) now s outs s refl (λ answers before. refl))

  pub link_show_goes : (k : ℕ) (what : What) (same : SeatView) → same ≡ s → what ≡ Tells.Show → SeatGoes did_offer (λ answers ks. after_link_item answers ks k now what) now s outs (record same { answer = Says.Show }) outs
  link_show_goes k what same q e =
      link_goes did_offer now s outs (record same { answer = Says.Show }) outs k what Tells.Show (λ answers ks v. record v { answer = Says.Show }) e (λ answers ks v. link_show_is answers ks k now v)
      (seat_still did_offer (λ answers ks v. record v { answer = Says.Show }) now s outs (record same { answer = Says.Show }) (ap (λ (x : SeatView). x.core.neighbours) q)
      (λ answers before. ap (λ (x : SeatView). serving_at now (record x { answer = Says.Show }) before) (sym q)))

  pub link_status_goes : (k : ℕ) (what : What) (status : Status) (same : SeatView) → same ≡ s → what ≡ Tells.Status status → SeatGoes did_offer (λ answers ks. after_link_item answers ks k now what) now s outs (record same { answer = Says.Show }) outs
  link_status_goes k what status same q e =
      link_goes did_offer now s outs (record same { answer = Says.Show }) outs k what (Tells.Status status) (λ answers ks v. record v { answer = Says.Show }) e (λ answers ks v. link_status_is answers ks k now status v)
      (seat_still did_offer (λ answers ks v. record v { answer = Says.Show }) now s outs (record same { answer = Says.Show }) (ap (λ (x : SeatView). x.core.neighbours) q)
      (λ answers before. ap (λ (x : SeatView). serving_at now (record x { answer = Says.Show }) before) (sym q)))

  pub link_quit_goes : (k : ℕ) (what : What) (same : SeatView) → same ≡ s → what ≡ Tells.Quit → SeatGoes did_offer (λ answers ks. after_link_item answers ks k now what) now s outs (record same { answer = Says.Quit }) outs
  link_quit_goes k what same q e =
      link_goes did_offer now s outs (record same { answer = Says.Quit }) outs k what Tells.Quit (λ answers ks v. record v { answer = Says.Quit }) e (λ answers ks v. link_quit_is answers ks k now v)
      (seat_still did_offer (λ answers ks v. record v { answer = Says.Quit }) now s outs (record same { answer = Says.Quit }) (ap (λ (x : SeatView). x.core.neighbours) q)
      (λ answers before. ap (λ (x : SeatView). serving_at now (record x { answer = Says.Quit }) before) (sym q)))

  pub other_idle_goes : (what told : What) → what ≡ told → is_idle told ≡ true → SeatGoes did_offer (λ answers ks. after_other_item answers ks now what) now s outs s outs
  other_idle_goes what told e idle =
      other_goes did_offer now s outs s outs what told (λ answers ks v. v) e (λ answers ks v. other_idle_is answers ks now told v idle) (seat_still did_offer (λ answers ks v. v) now s outs s refl (λ answers before. refl))

  pub other_show_goes : (what : What) (same : SeatView) → same ≡ s → what ≡ Tells.Show → SeatGoes did_offer (λ answers ks. after_other_item answers ks now what) now s outs (record same { answer = Says.Show }) outs
  other_show_goes what same q e =
      other_goes did_offer now s outs (record same { answer = Says.Show }) outs what Tells.Show (λ answers ks v. record v { answer = Says.Show }) e (λ answers ks v. other_show_is answers ks now v)
      (seat_still did_offer (λ answers ks v. record v { answer = Says.Show }) now s outs (record same { answer = Says.Show }) (ap (λ (x : SeatView). x.core.neighbours) q)
      (λ answers before. ap (λ (x : SeatView). serving_at now (record x { answer = Says.Show }) before) (sym q)))

  pub other_status_goes : (what : What) (status : Status) (same : SeatView) → same ≡ s → what ≡ Tells.Status status → SeatGoes did_offer (λ answers ks. after_other_item answers ks now what) now s outs (record same { answer = Says.Show }) outs
  other_status_goes what status same q e =
      other_goes did_offer now s outs (record same { answer = Says.Show }) outs what (Tells.Status status) (λ answers ks v. record v { answer = Says.Show }) e (λ answers ks v. other_status_is answers ks now status v)
      (seat_still did_offer (λ answers ks v. record v { answer = Says.Show }) now s outs (record same { answer = Says.Show }) (ap (λ (x : SeatView). x.core.neighbours) q)
      (λ answers before. ap (λ (x : SeatView). serving_at now (record x { answer = Says.Show }) before) (sym q)))

  pub other_quit_goes : (what : What) (same : SeatView) → same ≡ s → what ≡ Tells.Quit → SeatGoes did_offer (λ answers ks. after_other_item answers ks now what) now s outs (record same { answer = Says.Quit }) outs
  other_quit_goes what same q e =
      other_goes did_offer now s outs (record same { answer = Says.Quit }) outs what Tells.Quit (λ answers ks v. record v { answer = Says.Quit }) e (λ answers ks v. other_quit_is answers ks now v)
      (seat_still did_offer (λ answers ks v. record v { answer = Says.Quit }) now s outs (record same { answer = Says.Quit }) (ap (λ (x : SeatView). x.core.neighbours) q)
      (λ answers before. ap (λ (x : SeatView). serving_at now (record x { answer = Says.Quit }) before) (sym q)))

serving_is : (answers : Answers) (ks : List ℕ) (seat : SeatState) (item : Item) → serving_of answers ks seat item ≡ after_item_of answers ks (slice_get ks item.seat) item.now item.what (after_cuts_tried answers ks (begin_serving seat))
unfolding serving_of
serving_is answers ks seat item = refl

module _ {O : Type 0} (did_offer : O → ℕ → Cargo → Bool → O → Type 0) where
  -- an item is served from a seat that has begun to serve it
  pub item_goes : (item : Item) (s : SeatView) (outs : O) (begun between : SeatView) (middle : O) (new : SeatView) (after : O) → begun ≡ record s { inputs = []; stepped = None; answer = Says.Nothing } →
      SeatGoes did_offer after_cuts_tried item.now begun outs between middle → SeatGoes did_offer (λ answers ks. after_item_of answers ks (slice_get ks item.seat) item.now item.what) item.now between middle new after →
      (offers : List Offer) × AreOffered did_offer s.core.neighbours outs offers after × ((answers : Answers) → Follows answers [] offers → serving_of answers s.core.neighbours (state_of s) item ≡ serving_at item.now new offers)
  item_goes item s outs begun between middle new after e a b =
      let first : SeatView = record s { inputs = []; stepped = None; answer = Says.Nothing } in
      let h = seat_then did_offer after_cuts_tried (λ answers ks. after_item_of answers ks (slice_get ks item.seat) item.now item.what) item.now first outs between middle new after
      (seat_from did_offer after_cuts_tried item.now begun first outs between middle e a) b in
      (h.made, h.offered, λ answers f. serving_is answers s.core.neighbours (state_of s) item ∙ h.leads answers [] f)

-- ---- a pending cut is withdrawn

pub at_neighbour : (o : Option ℕ) (k : ℕ) (P : Type 0) (Q : ℕ → Type 0) → o ≡ Some k → MatchOption o P Q → Q k
at_neighbour o k P Q e h = subst (λ (x : Option ℕ). MatchOption x P Q) e h

pub forget_goes : {O : Type 0} (did_offer : O → ℕ → Cargo → Bool → O → Type 0) (k now : ℕ) (life : Life) (s : SeatView) (outs : O) (new : SeatView) (a b : Option Life) → new ≡ record s { rows = new.rows } →
    a ≡ current_of s.rows k → is_current life a ≡ false → b ≡ pending_of s.rows k → is_current life b ≡ true → ((now : ℕ) (before : List Offer) → with_pending (serving_at now s before) k None ≡ serving_at now new before) →
    SeatGoes did_offer (λ answers ks v. if is_current life (v.seat.current k) then after_down answers ks k now v else if is_current life (v.seat.pending k) then with_pending v k None else v) now s outs new outs
forget_goes did_offer k now life s outs new a b rest a_is off b_is on set =
    seat_still did_offer (λ answers ks v. if is_current life (v.seat.current k) then after_down answers ks k now v else if is_current life (v.seat.pending k) then with_pending v k None else v) now s outs new
    (ap (λ (x : SeatView). x.core.neighbours) rest)
    (λ answers before.
    let v = serving_at now s before in
    ap (λ (t : Bool). if t then after_down answers s.core.neighbours k now v else if is_current life (v.seat.pending k) then with_pending v k None else v) (ap (is_current life) (sym a_is) ∙ off)
    ∙ ap (λ (t : Bool). if t then with_pending v k None else v) (ap (is_current life) (sym b_is) ∙ on) ∙ set now before)
