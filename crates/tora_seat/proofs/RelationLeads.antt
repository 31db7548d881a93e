-- The relation of serving allows only what the definition computes from the results of the offers.
use Rattle.std.proofs.Common.{◌≡◌, ℕ, zero, suc, ◌<◌, ◌≤◌, true, false, List, [], ◌∷◌, ◌++◌, length, Option, Some, None, slice_get, if◌then◌else◌, refl, sym, ap, ◌∙◌, subst, append_assoc, append-nil, arith}
use Rattle.std.proofs.lemmas.Bool.{cond_both}
use Rattle.tora_packet.specs.declared.Packet.{Packet}
use Rattle.tora_core.specs.declared.Input.{Input}
use Rattle.tora_core.specs.declared.Input.TheVariants as In
use Rattle.tora_core.specs.Numbers.{has_number, without_number, IsAscending}
use Rattle.tora_core.specs.CoreRun.{CoreView, sends_of}
use Rattle.tora_seat.specs.declared.what.What.{What}
use Rattle.tora_seat.specs.declared.item.Item.{Item}
use Rattle.tora_seat.specs.declared.cargo.Cargo.TheVariants as Gives
use Rattle.tora_seat.specs.declared.answer.Answer.TheVariants as Says
use Rattle.tora_seat.specs.Serving.{SeatState, Serving, Offer, Answers, offered, with_current, with_pending, after_cut_tried, after_cuts_tried, after_sent, after_broadcast, after_broadcasts, accepting, after_answer, after_step, first_cut, after_settling, after_input, is_current, after_down, after_old_down, after_cut_asked, after_life_cut, after_up, after_packet, after_link_item, after_other_item, after_item_of, begin_serving, serving_of}
use Rattle.tora_seat.specs.Offers.{Follows, answers_in}
use Rattle.tora_seat.specs.Serves.{ForEach, TriesCut, no_cut, cut_put, cut_back, Sends, no_life, packet_put, packet_back, SendsToEach, Steps, refused, accepted, IsCut, GoDown, Settles, noting, Does, first_life, next_life, packet_stepped, packet_passed_over, life_ended, cut_forgotten, end_passed_over, no_link_up, no_link_packet, no_link_down, life_cut, no_life_cut, no_neighbour_cut, link_cuts_none, need, beat, show, status, quit, Serves}
use Rattle.tora_seat.proofs.Chains.{follows_split, follows_back}
use Rattle.tora_seat.proofs.Goings.{cuts_cons, cuts_nil, sents_cons, sents_nil, packets_cons, packets_nil}
use Rattle.tora_seat.proofs.Steps.{step_is, settling_done, settling_more}
use Rattle.tora_core.proofs.AfterInputs.{same-neighbours}
use Rattle.tora_seat.proofs.Ups.{core_accepted, down_accepted, count_up, count_most, count_drops}
use Rattle.tora_seat.proofs.ItemFacts.{put_at}
use Rattle.tora_seat.proofs.CutLinks.{is-current, not-current, least-first, none-first}

-- ---- each action leads from one serving to another

-- offers are made, and with their results the definition gives the next serving
pub record Leads (next : Answers → Serving) (v w : Serving) : Type 0 where
  made : List Offer
  grows : w.offers ≡ v.offers ++ made
  leads : (answers : Answers) → Follows answers v.offers made → next answers ≡ w

-- nothing is offered
quiet : (next : Answers → Serving) (v w : Serving) → w.offers ≡ v.offers → ((answers : Answers) → next answers ≡ w) → Leads next v w
quiet next v w e h = record { made = []; grows = e ∙ sym (append-nil v.offers); leads = λ answers _. h answers }

stays : (next : Answers → Serving) (v w : Serving) → w ≡ v → ((answers : Answers) → next answers ≡ v) → Leads next v w
stays next v w e h = quiet next v w (ap (λ (x : Serving). x.offers) e) (λ answers. h answers ∙ sym e)

-- one action after another
lead_on : (first : Answers → Serving) (next : Answers → Serving → Serving) (v u w : Serving) → Leads first v u → Leads (λ answers. next answers u) u w → Leads (λ answers. next answers (first answers)) v w
lead_on first next v u w a b = record {
  made = a.made ++ b.made;
  grows = b.grows ∙ ap (λ os. os ++ b.made) a.grows ∙ append_assoc v.offers a.made b.made;
  leads = λ answers f.
      let h = follows_split answers v.offers a.made b.made f in
      ap (next answers) (a.leads answers h.0) ∙ b.leads answers (subst (λ os. Follows answers os b.made) (sym a.grows) h.1);
}

-- another expression of the same computation
lead_as : (next other : Answers → Serving) (v w : Serving) → ((answers : Answers) → other answers ≡ next answers) → Leads next v w → Leads other v w
lead_as next other v w e a = record { made = a.made; grows = a.grows; leads = λ answers f. e answers ∙ a.leads answers f }

-- ---- outbound messages

cut_leads : (v : Serving) (k : ℕ) {w : Serving} → TriesCut v k w → Leads (λ answers. after_cut_tried answers v k (v.seat.pending k)) v w
cut_leads v k (no_cut e) = quiet (λ answers. after_cut_tried answers v k (v.seat.pending k)) v v refl (λ answers. ap (after_cut_tried answers v k) e)
cut_leads v k (cut_put life e) = record {
  made = record { to = k; cargo = Gives.Cut life; put = true } ∷ [];
  grows = refl;
  leads = λ answers f. ap (after_cut_tried answers v k) e ∙ ap (λ b. if b then with_pending (offered v k (Gives.Cut life) true) k None else offered v k (Gives.Cut life) false) f.0;
}
cut_leads v k (cut_back life e) = record {
  made = record { to = k; cargo = Gives.Cut life; put = false } ∷ [];
  grows = refl;
  leads = λ answers f. ap (after_cut_tried answers v k) e ∙ ap (λ b. if b then with_pending (offered v k (Gives.Cut life) true) k None else offered v k (Gives.Cut life) false) f.0;
}

cuts_lead : (ks : List ℕ) (v w : Serving) → ForEach TriesCut ks v w → Leads (λ answers. after_cuts_tried answers ks v) v w
cuts_lead [] v w e = stays (λ answers. after_cuts_tried answers [] v) v w e (λ answers. cuts_nil answers v)
cuts_lead (k ∷ ks) v w h =
    lead_as (λ answers. after_cuts_tried answers ks (after_cut_tried answers v k (v.seat.pending k))) (λ answers. after_cuts_tried answers (k ∷ ks) v) v w (λ answers. cuts_cons answers k ks v)
    (lead_on (λ answers. after_cut_tried answers v k (v.seat.pending k)) (λ answers x. after_cuts_tried answers ks x) v h.0 w (cut_leads v k h.1) (cuts_lead ks h.0 w h.2))

send_leads : (packet : Packet) (v : Serving) (k : ℕ) {w : Serving} → Sends packet v k w → Leads (λ answers. after_sent answers packet v k (v.seat.current k)) v w
send_leads packet v k (no_life e) = quiet (λ answers. after_sent answers packet v k (v.seat.current k)) v v refl (λ answers. ap (after_sent answers packet v k) e)
send_leads packet v k (packet_put life e) = record {
  made = record { to = k; cargo = Gives.Packet life packet; put = true } ∷ [];
  grows = refl;
  leads = λ answers f.
      ap (after_sent answers packet v k) e
      ∙ ap (λ b. if b then offered v k (Gives.Packet life packet) true else with_pending (with_current (offered v k (Gives.Packet life packet) false) k None) k (Some life)) f.0;
}
send_leads packet v k (packet_back life e) = record {
  made = record { to = k; cargo = Gives.Packet life packet; put = false } ∷ [];
  grows = refl;
  leads = λ answers f.
      ap (after_sent answers packet v k) e
      ∙ ap (λ b. if b then offered v k (Gives.Packet life packet) true else with_pending (with_current (offered v k (Gives.Packet life packet) false) k None) k (Some life)) f.0;
}

broadcast_leads : (packet : Packet) (ks : List ℕ) (v w : Serving) → ForEach (Sends packet) ks v w → Leads (λ answers. after_broadcast answers packet ks v) v w
broadcast_leads packet [] v w e = stays (λ answers. after_broadcast answers packet [] v) v w e (λ answers. sents_nil packet answers v)
broadcast_leads packet (k ∷ ks) v w h =
    lead_as (λ answers. after_broadcast answers packet ks (after_sent answers packet v k (v.seat.current k))) (λ answers. after_broadcast answers packet (k ∷ ks) v) v w (λ answers. sents_cons packet answers k ks v)
    (lead_on (λ answers. after_sent answers packet v k (v.seat.current k)) (λ answers x. after_broadcast answers packet ks x) v h.0 w (send_leads packet v k h.1) (broadcast_leads packet ks h.0 w h.2))

broadcasts_lead : (ks : List ℕ) (packets : List Packet) (v w : Serving) → ForEach (SendsToEach ks) packets v w → Leads (λ answers. after_broadcasts answers ks packets v) v w
broadcasts_lead ks [] v w e = stays (λ answers. after_broadcasts answers ks [] v) v w e (λ answers. packets_nil answers ks v)
broadcasts_lead ks (packet ∷ packets) v w h =
    lead_as (λ answers. after_broadcasts answers ks packets (after_broadcast answers packet ks v)) (λ answers. after_broadcasts answers ks (packet ∷ packets) v) v w (λ answers. packets_cons answers ks packet packets v)
    (lead_on (λ answers. after_broadcast answers packet ks v) (λ answers x. after_broadcasts answers ks packets x) v h.0 w (broadcast_leads packet ks v h.0 h.1) (broadcasts_lead ks packets h.0 w h.2))

-- ---- only inputs change the core

pub cut_core : (v : Serving) (k : ℕ) {w : Serving} → TriesCut v k w → w.seat.core ≡ v.seat.core
cut_core v k (no_cut e) = refl
cut_core v k (cut_put life e) = refl
cut_core v k (cut_back life e) = refl

pub cuts_core : (ks : List ℕ) (v w : Serving) → ForEach TriesCut ks v w → w.seat.core ≡ v.seat.core
cuts_core [] v w e = ap (λ (x : Serving). x.seat.core) e
cuts_core (k ∷ ks) v w h = cuts_core ks h.0 w h.2 ∙ cut_core v k h.1

send_core : (packet : Packet) (v : Serving) (k : ℕ) {w : Serving} → Sends packet v k w → w.seat.core ≡ v.seat.core
send_core packet v k (no_life e) = refl
send_core packet v k (packet_put life e) = refl
send_core packet v k (packet_back life e) = refl

broadcast_core : (packet : Packet) (ks : List ℕ) (v w : Serving) → ForEach (Sends packet) ks v w → w.seat.core ≡ v.seat.core
broadcast_core packet [] v w e = ap (λ (x : Serving). x.seat.core) e
broadcast_core packet (k ∷ ks) v w h = broadcast_core packet ks h.0 w h.2 ∙ send_core packet v k h.1

broadcasts_core : (ks : List ℕ) (packets : List Packet) (v w : Serving) → ForEach (SendsToEach ks) packets v w → w.seat.core ≡ v.seat.core
broadcasts_core ks [] v w e = ap (λ (x : Serving). x.seat.core) e
broadcasts_core ks (packet ∷ packets) v w h = broadcasts_core ks packets h.0 w h.2 ∙ broadcast_core packet ks v h.0 h.1

pub step_near : (ks : List ℕ) (now : ℕ) (v : Serving) (input : Input) {w : Serving} → Steps ks now v input w → w.seat.core.neighbours ≡ v.seat.core.neighbours
step_near ks now v input (refused error e) = refl
step_near ks now v input (accepted {w} e h) =
    ap (λ (c : CoreView). c.neighbours) (broadcasts_core ks (sends_of v.seat.core input now) (accepting v input now) w h) ∙ same-neighbours v.seat.core input now

-- the link of a session that was cut goes down, so one link fewer is up
pub cut_drops : (ks : List ℕ) (now : ℕ) (v : Serving) (k : ℕ) {w : Serving} → has_number k v.seat.core.neighbours ≡ true → IsCut ks v.seat k → Steps ks now v (In.LinkDown k) w → count_up ks w.seat.core.up < count_up ks v.seat.core.up
cut_drops ks now v k near cut (refused error e) = absurd (let q : None ≡ Some error = sym (down_accepted v.seat.core k near cut.up) ∙ e in cc)
cut_drops ks now v k near cut (accepted {w} e h) =
    let c : w.seat.core.up ≡ without_number k v.seat.core.up =
    ap (λ (c : CoreView). c.up) (broadcasts_core ks (sends_of v.seat.core (In.LinkDown k) now) (accepting v (In.LinkDown k) now) w h ∙ core_accepted v.seat.core (In.LinkDown k) now e) in
    subst (λ x. count_up ks x < count_up ks v.seat.core.up) (sym c) (count_drops ks v.seat.core.up k cut.neighbour cut.up)

pub step_drops : (ks : List ℕ) (now : ℕ) (v : Serving) (k : ℕ) {w : Serving} → v.seat.core.neighbours ≡ ks → IsCut ks v.seat k → Steps ks now v (In.LinkDown k) w → count_up ks w.seat.core.up < count_up ks v.seat.core.up
step_drops ks now v k near cut steps = cut_drops ks now v k (ap (has_number k) near ∙ cut.neighbour) cut steps

go_down_near : (ks : List ℕ) (now : ℕ) (downs : List ℕ) (v w : Serving) → GoDown ks now downs v w → w.seat.core.neighbours ≡ v.seat.core.neighbours
go_down_near ks now [] v w e = ap (λ (x : Serving). x.seat.core.neighbours) e
go_down_near ks now (k ∷ downs) v w h = go_down_near ks now downs h.0 w h.3 ∙ step_near ks now v (In.LinkDown k) h.2

pub settles_near : (ks : List ℕ) (now : ℕ) (v : Serving) (input : Input) (w : Serving) → Settles ks now v input w → w.seat.core.neighbours ≡ v.seat.core.neighbours
settles_near ks now v input w h = go_down_near ks now h.downs h.between w h.go_down ∙ step_near ks now v input h.steps

-- ---- inputs

step_leads : (ks : List ℕ) (now : ℕ) (v : Serving) (input : Input) {w : Serving} → Steps ks now v input w → Leads (λ answers. after_step answers ks input now v) v w
step_leads ks now v input (refused error e) =
    quiet (λ answers. after_step answers ks input now v) v (record v { answer = Says.Refused error }) refl (λ answers. step_is answers ks input now v ∙ ap (after_answer answers ks input now v) e)
step_leads ks now v input (accepted {w} e h) =
    let b = broadcasts_lead ks (sends_of v.seat.core input now) (accepting v input now) w h in record {
      made = b.made;
      grows = b.grows;
      leads = λ answers f. step_is answers ks input now v ∙ ap (after_answer answers ks input now v) e ∙ b.leads answers f;
    }

down_leads : (ks : List ℕ) → IsAscending ks → (now : ℕ) (downs : List ℕ) (most : ℕ) (v w : Serving) → v.seat.core.neighbours ≡ ks → count_up ks v.seat.core.up ≤ most → GoDown ks now downs v w → ((k : ℕ) → ¬ IsCut ks w.seat k) →
    Leads (λ answers. after_settling most answers ks now v) v w
down_leads ks up now [] most v w near few h none =
    stays (λ answers. after_settling most answers ks now v) v w h (λ answers. settling_done most answers ks now v (subst (λ (x : Serving). first_cut x.seat ks ≡ None) h (none-first ks w.seat up none)))
down_leads ks up now (k ∷ downs) zero v w near few h none =
    let d = step_drops ks now v k near h.1.cut h.2 in absurd (omega (arith, d, few))
down_leads ks up now (k ∷ downs) (suc most) v w near few h none =
    let d = step_drops ks now v k near h.1.cut h.2 in
    lead_as (λ answers. after_settling most answers ks now (after_step answers ks (In.LinkDown k) now v)) (λ answers. after_settling (suc most) answers ks now v) v w (λ answers. settling_more most answers ks now v k (least-first ks v.seat k up h.1))
    (lead_on (λ answers. after_step answers ks (In.LinkDown k) now v) (λ answers x. after_settling most answers ks now x) v h.0 w (step_leads ks now v (In.LinkDown k) h.2)
    (down_leads ks up now downs most h.0 w (step_near ks now v (In.LinkDown k) h.2 ∙ near) (omega (arith, d, few)) h.3 none))

input_is : (answers : Answers) (ks : List ℕ) (input : Input) (now : ℕ) (v : Serving) → after_input answers ks input now v ≡ after_settling (length ks) answers ks now (after_step answers ks input now v)
unfolding after_input
input_is answers ks input now v = refl

settles_lead : (ks : List ℕ) → IsAscending ks → (now : ℕ) (v : Serving) (input : Input) (w : Serving) → v.seat.core.neighbours ≡ ks → Settles ks now v input w → Leads (λ answers. after_input answers ks input now v) v w
settles_lead ks up now v input w near h =
    lead_as (λ answers. after_settling (length ks) answers ks now (after_step answers ks input now v)) (λ answers. after_input answers ks input now v) v w (λ answers. input_is answers ks input now v)
    (lead_on (λ answers. after_step answers ks input now v) (λ answers x. after_settling (length ks) answers ks now x) v h.between w (step_leads ks now v input h.steps)
    (down_leads ks up now h.downs (length ks) h.between w (step_near ks now v input h.steps ∙ near) (count_most ks h.between.seat.core.up) h.go_down h.none_left))

-- an action that leads from one serving leads from another one with the same offers, if it computes the same
leads_from : (next other : Answers → Serving) (v u w : Serving) → u.offers ≡ v.offers → ((answers : Answers) → other answers ≡ next answers) → Leads next u w → Leads other v w
leads_from next other v u w same e a = record {
  made = a.made;
  grows = a.grows ∙ ap (λ os. os ++ a.made) same;
  leads = λ answers f. e answers ∙ a.leads answers (subst (λ os. Follows answers os a.made) (sym same) f);
}

-- ---- items

module _ (ks : List ℕ) (up : IsAscending ks) (now : ℕ) (v : Serving) (near : v.seat.core.neighbours ≡ ks) where
  down_next : (k : ℕ) (w : Serving) → Settles ks now (with_current v k None) (In.LinkDown k) w → Leads (λ answers. after_down answers ks k now v) v w
  down_next k w s =
      let u : Serving = with_current v k None in
      leads_from (λ answers. after_input answers ks (In.LinkDown k) now u) (λ answers. after_down answers ks k now v) v u w refl (λ answers. refl) (settles_lead ks up now u (In.LinkDown k) w near s)

  does_lead : {seat : Option ℕ} {what : What} {w : Serving} → Does ks now v seat what w → Leads (λ answers. after_item_of answers ks seat now what v) v w
  unfolding after_link_item after_other_item
  does_lead (first_life {k} {life} {w} e s) =
      let u : Serving = with_current v k (Some life) in
      leads_from (λ answers. after_input answers ks (In.LinkUp k) now u) (λ answers. after_up answers ks k life now (after_old_down answers ks k now v (v.seat.current k))) v u w refl
      (λ answers. ap (λ o. after_up answers ks k life now (after_old_down answers ks k now v o)) e) (settles_lead ks up now u (In.LinkUp k) w near s)
  does_lead (next_life {k} {life} {between} {w} old e s t) =
      let u : Serving = with_current between k (Some life) in
      let next : Leads (λ answers. after_up answers ks k life now between) between w =
      leads_from (λ answers. after_input answers ks (In.LinkUp k) now u) (λ answers. after_up answers ks k life now between) between u w refl (λ answers. refl)
      (settles_lead ks up now u (In.LinkUp k) w (settles_near ks now (with_current v k None) (In.LinkDown k) between s ∙ near) t) in
      lead_as (λ answers. after_up answers ks k life now (after_down answers ks k now v)) (λ answers. after_up answers ks k life now (after_old_down answers ks k now v (v.seat.current k))) v w
      (λ answers. ap (λ o. after_up answers ks k life now (after_old_down answers ks k now v o)) e)
      (lead_on (λ answers. after_down answers ks k now v) (λ answers x. after_up answers ks k life now x) v between w (down_next k between s) next)
  does_lead (packet_stepped {k} {life} {packet} {w} e s) =
      let u = noting v k life packet in
      leads_from (λ answers. after_input answers ks (In.Packet k packet) now u) (λ answers. if is_current life (v.seat.current k) then after_packet answers ks k life packet now v else v) v u w refl
      (λ answers. ap (λ b. if b then after_packet answers ks k life packet now v else v) (is-current life (v.seat.current k) e)) (settles_lead ks up now u (In.Packet k packet) w near s)
  does_lead (packet_passed_over {k} {life} {packet} n) =
      quiet (λ answers. if is_current life (v.seat.current k) then after_packet answers ks k life packet now v else v) v v refl
      (λ answers. ap (λ b. if b then after_packet answers ks k life packet now v else v) (not-current life (v.seat.current k) n))
  does_lead (life_ended {k} {life} {reason} {w} e s) =
      lead_as (λ answers. after_down answers ks k now v) (λ answers. if is_current life (v.seat.current k) then after_down answers ks k now v else if is_current life (v.seat.pending k) then with_pending v k None else v) v w
      (λ answers. ap (λ b. if b then after_down answers ks k now v else if is_current life (v.seat.pending k) then with_pending v k None else v) (is-current life (v.seat.current k) e)) (down_next k w s)
  does_lead (cut_forgotten {k} {life} {reason} n e) =
      quiet (λ answers. if is_current life (v.seat.current k) then after_down answers ks k now v else if is_current life (v.seat.pending k) then with_pending v k None else v) v (with_pending v k None) refl
      (λ answers.
      ap (λ b. if b then after_down answers ks k now v else if is_current life (v.seat.pending k) then with_pending v k None else v) (not-current life (v.seat.current k) n)
      ∙ ap (λ b. if b then with_pending v k None else v) (is-current life (v.seat.pending k) e))
  does_lead (end_passed_over {k} {life} {reason} n m) =
      quiet (λ answers. if is_current life (v.seat.current k) then after_down answers ks k now v else if is_current life (v.seat.pending k) then with_pending v k None else v) v v refl
      (λ answers.
      ap (λ b. if b then after_down answers ks k now v else if is_current life (v.seat.pending k) then with_pending v k None else v) (not-current life (v.seat.current k) n)
      ∙ ap (λ b. if b then with_pending v k None else v) (not-current life (v.seat.pending k) m))
  does_lead (life_cut {k} {life} {tried} {w} m e t s) =
      let asked : Serving = with_pending v k (Some life) in
      let u : Serving = with_current tried k None in
      let near' : tried.seat.core.neighbours ≡ ks = ap (λ (c : CoreView). c.neighbours) (cut_core asked k t) ∙ near in
      let first : Leads (λ answers. after_cut_asked answers v k life) v tried =
      leads_from (λ answers. after_cut_tried answers asked k (asked.seat.pending k)) (λ answers. after_cut_asked answers v k life) v asked tried refl
      (λ answers. ap (after_cut_tried answers asked k) (sym (put_at v.seat.pending k (Some life)))) (cut_leads asked k t) in
      let second : Leads (λ answers. after_down answers ks k now tried) tried w =
      leads_from (λ answers. after_input answers ks (In.LinkDown k) now u) (λ answers. after_down answers ks k now tried) tried u w refl (λ answers. refl) (settles_lead ks up now u (In.LinkDown k) w near' s) in
      lead_as (λ answers. after_down answers ks k now (after_cut_asked answers v k life)) (λ answers. if has_number k ks then after_life_cut answers ks k now v (v.seat.current k) else v) v w
      (λ answers. ap (λ b. if b then after_life_cut answers ks k now v (v.seat.current k) else v) m ∙ ap (after_life_cut answers ks k now v) e)
      (lead_on (λ answers. after_cut_asked answers v k life) (λ answers x. after_down answers ks k now x) v tried w first second)
  does_lead (no_life_cut {k} e) =
      quiet (λ answers. if has_number k ks then after_life_cut answers ks k now v (v.seat.current k) else v) v v refl
      (λ answers. ap (λ o. if has_number k ks then after_life_cut answers ks k now v o else v) e ∙ cond_both (has_number k ks) v v (λ x. x ≡ v) (λ _. refl) (λ _. refl))
  does_lead (no_neighbour_cut {k} e) =
      quiet (λ answers. if has_number k ks then after_life_cut answers ks k now v (v.seat.current k) else v) v v refl
      (λ answers. ap (λ b. if b then after_life_cut answers ks k now v (v.seat.current k) else v) e)
  does_lead (link_cuts_none {j} {k}) = quiet (λ answers. v) v v refl (λ answers. refl)
  does_lead no_link_up = quiet (λ answers. v) v v refl (λ answers. refl)
  does_lead no_link_packet = quiet (λ answers. v) v v refl (λ answers. refl)
  does_lead no_link_down = quiet (λ answers. v) v v refl (λ answers. refl)
  does_lead (need {seat = None} {d} {w} s) = settles_lead ks up now v (In.Need d) w near s
  does_lead (need {seat = Some k} {d} {w} s) = settles_lead ks up now v (In.Need d) w near s
  does_lead (beat {seat = None}) = quiet (λ answers. v) v v refl (λ answers. refl)
  does_lead (beat {seat = Some k}) = quiet (λ answers. v) v v refl (λ answers. refl)
  does_lead (show {seat = None}) = quiet (λ answers. record v { answer = Says.Show }) v (record v { answer = Says.Show }) refl (λ answers. refl)
  does_lead (show {seat = Some k}) = quiet (λ answers. record v { answer = Says.Show }) v (record v { answer = Says.Show }) refl (λ answers. refl)
  does_lead (status {seat = None}) = quiet (λ answers. record v { answer = Says.Show }) v (record v { answer = Says.Show }) refl (λ answers. refl)
  does_lead (status {seat = Some k}) = quiet (λ answers. record v { answer = Says.Show }) v (record v { answer = Says.Show }) refl (λ answers. refl)
  does_lead (quit {seat = None}) = quiet (λ answers. record v { answer = Says.Quit }) v (record v { answer = Says.Quit }) refl (λ answers. refl)
  does_lead (quit {seat = Some k}) = quiet (λ answers. record v { answer = Says.Quit }) v (record v { answer = Says.Quit }) refl (λ answers. refl)

serving_is : (answers : Answers) (ks : List ℕ) (s : SeatState) (item : Item) → serving_of answers ks s item ≡ after_item_of answers ks (slice_get ks item.seat) item.now item.what (after_cuts_tried answers ks (begin_serving s))
unfolding serving_of
serving_is answers ks s item = refl

pub relation-only : (ks : List ℕ) (s : SeatState) (item : Item) (v : Serving) → ks ≡ s.core.neighbours → IsAscending ks → Serves ks s item v → v ≡ serving_of (answers_in v.offers) ks s item
relation-only ks s item v near up h =
    let first = begin_serving s in
    let tried_near : h.tried.seat.core.neighbours ≡ ks = ap (λ (c : CoreView). c.neighbours) (cuts_core ks first h.tried h.cuts) ∙ sym near in
    let all = lead_on (λ answers. after_cuts_tried answers ks first) (λ answers x. after_item_of answers ks (slice_get ks item.seat) item.now item.what x) first h.tried v
    (cuts_lead ks first h.tried h.cuts) (does_lead ks up item.now h.tried tried_near h.does) in
    sym (serving_is (answers_in v.offers) ks s item ∙ all.leads (answers_in v.offers) (subst (λ os. Follows (answers_in v.offers) [] os) all.grows (follows_back v.offers)))
