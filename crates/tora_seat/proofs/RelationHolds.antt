-- The relation of serving holds for the result of the definition, whatever the results of the offers.
use Rattle.std.proofs.Common.{◌≡◌, ℕ, zero, suc, ◌≤◌, Bool, true, List, [], ◌∷◌, length, Option, Some, None, slice_get, refl, sym, ap, ◌∙◌, subst, arith}
use Rattle.std.proofs.lemmas.Bool.{cond_both}
use Rattle.tora_packet.specs.declared.Packet.{Packet}
use Rattle.tora_arq.specs.declared.life.Life.{Life}
use Rattle.tora_core.specs.declared.Input.{Input}
use Rattle.tora_core.specs.declared.Input.TheVariants as In
use Rattle.tora_core.specs.declared.errors.StepError.{StepError}
use Rattle.tora_core.specs.Numbers.{IsAscending, has_number}
use Rattle.tora_core.specs.CoreRun.{CoreView, refusal_of, sends_of}
use Rattle.tora_seat.specs.declared.what.What.{What}
use Rattle.tora_seat.specs.declared.what.What.TheVariants as Tells
use Rattle.tora_seat.specs.declared.item.Item.{Item}
use Rattle.tora_seat.specs.declared.cargo.Cargo.{Cargo}
use Rattle.tora_seat.specs.Offers.{AreOffered, Follows, answers_in}
use Rattle.tora_seat.specs.Rows.{SeatView, state_of, serving_at}
use Rattle.tora_seat.proofs.Chains.{follows_back}
use Rattle.tora_seat.specs.Serving.{SeatState, Serving, Offer, Answers, with_current, with_pending, after_cut_tried, after_cuts_tried, after_sent, after_broadcast, after_broadcasts, accepting, after_answer, after_step, first_cut, after_settling, after_input, is_current, after_down, after_old_down, after_life_cut, after_up, after_link_item, after_other_item, after_item_of, begin_serving, serving_of}
use Rattle.tora_seat.specs.Serves.{ForEach, TriesCut, no_cut, cut_put, cut_back, Sends, no_life, packet_put, packet_back, SendsToEach, Steps, refused, accepted, IsCut, GoDown, Settles, noting, Does, first_life, next_life, packet_stepped, packet_passed_over, life_ended, cut_forgotten, end_passed_over, no_link_up, no_link_packet, no_link_down, life_cut, no_life_cut, no_neighbour_cut, link_cuts_none, need, beat, show, status, quit, Serves}
use Rattle.tora_seat.proofs.Ups.{count_up, count_most, first_cut_none}
use Rattle.tora_seat.proofs.CutLinks.{current-is, current-not, first-is, first-none}
use Rattle.tora_seat.proofs.RelationLeads.{step_near, step_drops, settles_near, cut_core, cuts_core}
use Rattle.tora_seat.proofs.ItemFacts.{put_at}

module _ (answers : Answers) where
  cut_holds : (v : Serving) (k : ℕ) → TriesCut v k (after_cut_tried answers v k (v.seat.pending k))
  cut_holds v k = go (v.seat.pending k) refl
    where
      go : (o : Option Life) → v.seat.pending k ≡ o → TriesCut v k (after_cut_tried answers v k o)
      go None e = no_cut e
      go (Some life) e = cond_both (answers v.offers k) _ _ (TriesCut v k) (λ _. cut_put life e) (λ _. cut_back life e)

  cuts_hold : (ks : List ℕ) (v : Serving) → ForEach TriesCut ks v (after_cuts_tried answers ks v)
  unfolding after_cuts_tried
  cuts_hold [] v = refl
  cuts_hold (k ∷ ks) v = (after_cut_tried answers v k (v.seat.pending k), cut_holds v k, cuts_hold ks (after_cut_tried answers v k (v.seat.pending k)))

  send_holds : (packet : Packet) (v : Serving) (k : ℕ) → Sends packet v k (after_sent answers packet v k (v.seat.current k))
  send_holds packet v k = go (v.seat.current k) refl
    where
      go : (o : Option Life) → v.seat.current k ≡ o → Sends packet v k (after_sent answers packet v k o)
      go None e = no_life e
      go (Some life) e = cond_both (answers v.offers k) _ _ (Sends packet v k) (λ _. packet_put life e) (λ _. packet_back life e)

  broadcast_holds : (packet : Packet) (ks : List ℕ) (v : Serving) → ForEach (Sends packet) ks v (after_broadcast answers packet ks v)
  unfolding after_broadcast
  broadcast_holds packet [] v = refl
  broadcast_holds packet (k ∷ ks) v = (after_sent answers packet v k (v.seat.current k), send_holds packet v k, broadcast_holds packet ks (after_sent answers packet v k (v.seat.current k)))

  broadcasts_hold : (ks : List ℕ) (packets : List Packet) (v : Serving) → ForEach (SendsToEach ks) packets v (after_broadcasts answers ks packets v)
  unfolding after_broadcasts
  broadcasts_hold ks [] v = refl
  broadcasts_hold ks (packet ∷ packets) v = (after_broadcast answers packet ks v, broadcast_holds packet ks v, broadcasts_hold ks packets (after_broadcast answers packet ks v))

  module _ (ks : List ℕ) (now : ℕ) where
    pub step_holds : (v : Serving) (input : Input) → Steps ks now v input (after_step answers ks input now v)
    unfolding after_step
    step_holds v input = go (refusal_of v.seat.core input) refl
      where
        go : (o : Option StepError) → refusal_of v.seat.core input ≡ o → Steps ks now v input (after_answer answers ks input now v o)
        go None e = accepted e (broadcasts_hold ks (sends_of v.seat.core input now) (accepting v input now))
        go (Some error) e = refused error e

    -- links went down one after another, until none was left
    record Settled (v w : Serving) : Type 0 where
      downs : List ℕ
      go_down : GoDown ks now downs v w
      none_left : (k : ℕ) → ¬ IsCut ks w.seat k

    module _ (up : IsAscending ks) where
      settling_holds : (most : ℕ) (v : Serving) → v.seat.core.neighbours ≡ ks → count_up ks v.seat.core.up ≤ most → Settled v (after_settling most answers ks now v)
      unfolding after_settling
      settling_holds zero v near few = record { downs = []; go_down = refl; none_left = first-none ks v.seat (first_cut_none v.seat ks few) }
      settling_holds (suc most) v near few = go (first_cut v.seat ks) refl (λ u n f. settling_holds most u n f)
        where
          go : (o : Option ℕ) → first_cut v.seat ks ≡ o → ((u : Serving) → u.seat.core.neighbours ≡ ks → count_up ks u.seat.core.up ≤ most → Settled u (after_settling most answers ks now u)) →
              Settled v (elim o [ None ↦ v | Some k ↦ after_settling most answers ks now (after_step answers ks (In.LinkDown k) now v) ])
          go None e again = record { downs = []; go_down = refl; none_left = first-none ks v.seat e }
          go (Some k) e again =
              let u = after_step answers ks (In.LinkDown k) now v in
              let least = first-is ks v.seat k up e in
              let step = step_holds v (In.LinkDown k) in
              let d = step_drops ks now v k near least.cut step in
              let rest = again u (step_near ks now v (In.LinkDown k) step ∙ near) (omega (arith, d, few)) in
              record { downs = k ∷ rest.downs; go_down = (u, least, step, rest.go_down); none_left = rest.none_left }

      input_holds : (v : Serving) (input : Input) → v.seat.core.neighbours ≡ ks → Settles ks now v input (after_input answers ks input now v)
      unfolding after_input
      input_holds v input near =
          let between = after_step answers ks input now v in
          let step = step_holds v input in
          let rest = settling_holds (length ks) between (step_near ks now v input step ∙ near) (count_most ks between.seat.core.up) in
          record { between = between; downs = rest.downs; steps = step; go_down = rest.go_down; none_left = rest.none_left }

      module _ (v : Serving) (near : v.seat.core.neighbours ≡ ks) where
        up_holds : (k : ℕ) (life : Life) (o : Option Life) → v.seat.current k ≡ o → Does ks now v (Some k) (Tells.Up life) (after_up answers ks k life now (after_old_down answers ks k now v o))
        up_holds k life None e = let u : Serving = with_current v k (Some life) in first_life e (input_holds u (In.LinkUp k) near)
        up_holds k life (Some old) e =
            let u : Serving = with_current v k None in
            let down = input_holds u (In.LinkDown k) near in
            let between = after_down answers ks k now v in
            let next : Serving = with_current between k (Some life) in
            next_life old e down (input_holds next (In.LinkUp k) (settles_near ks now u (In.LinkDown k) between down ∙ near))

        life_cut_holds : (k : ℕ) → has_number k ks ≡ true → (o : Option Life) → v.seat.current k ≡ o → Does ks now v None (Tells.Cut k) (after_life_cut answers ks k now v o)
        life_cut_holds k m None e = no_life_cut e
        life_cut_holds k m (Some life) e =
            let asked : Serving = with_pending v k (Some life) in
            let tried = after_cut_tried answers asked k (Some life) in
            let tries : TriesCut asked k tried = subst (λ o. TriesCut asked k (after_cut_tried answers asked k o)) (put_at v.seat.pending k (Some life)) (cut_holds asked k) in
            let u : Serving = with_current tried k None in
            life_cut m e tries (input_holds u (In.LinkDown k) (ap (λ (c : CoreView). c.neighbours) (cut_core asked k tries) ∙ near))

        link_holds : (k : ℕ) (what : What) → Does ks now v (Some k) what (after_link_item answers ks k now what v)
        unfolding after_link_item
        link_holds k (Tells.Up life) = up_holds k life (v.seat.current k) refl
        link_holds k (Tells.Packet life packet) =
            cond_both (is_current life (v.seat.current k)) _ _ (Does ks now v (Some k) (Tells.Packet life packet))
            (λ t. packet_stepped (current-is life (v.seat.current k) t) (input_holds (noting v k life packet) (In.Packet k packet) near))
            (λ f. packet_passed_over (current-not life (v.seat.current k) f))
        link_holds k (Tells.Down life reason) =
            cond_both (is_current life (v.seat.current k)) _ _ (Does ks now v (Some k) (Tells.Down life reason))
            (λ t. let u : Serving = with_current v k None in life_ended (current-is life (v.seat.current k) t) (input_holds u (In.LinkDown k) near))
            (λ f. cond_both (is_current life (v.seat.pending k)) _ _ (Does ks now v (Some k) (Tells.Down life reason))
            (λ t. cut_forgotten (current-not life (v.seat.current k) f) (current-is life (v.seat.pending k) t))
            (λ g. end_passed_over (current-not life (v.seat.current k) f) (current-not life (v.seat.pending k) g)))
        link_holds k (Tells.Need d) = need (input_holds v (In.Need d) near)
        link_holds k (Tells.Cut j) = link_cuts_none
        link_holds k Tells.Beat = beat
        link_holds k Tells.Show = show
        link_holds k (Tells.Status asked) = status
        link_holds k Tells.Quit = quit

        other_holds : (what : What) → Does ks now v None what (after_other_item answers ks now what v)
        unfolding after_other_item
        other_holds (Tells.Up life) = no_link_up
        other_holds (Tells.Packet life packet) = no_link_packet
        other_holds (Tells.Down life reason) = no_link_down
        other_holds (Tells.Need d) = need (input_holds v (In.Need d) near)
        other_holds (Tells.Cut k) =
            cond_both (has_number k ks) _ _ (Does ks now v None (Tells.Cut k)) (λ m. life_cut_holds k m (v.seat.current k) refl) (λ off. no_neighbour_cut off)
        other_holds Tells.Beat = beat
        other_holds Tells.Show = show
        other_holds (Tells.Status asked) = status
        other_holds Tells.Quit = quit

        item_holds : (seat : Option ℕ) (what : What) → Does ks now v seat what (after_item_of answers ks seat now what v)
        item_holds None what = other_holds what
        item_holds (Some k) what = link_holds k what

  pub relation-holds : (ks : List ℕ) (s : SeatState) (item : Item) → ks ≡ s.core.neighbours → IsAscending ks → Serves ks s item (serving_of answers ks s item)
  unfolding serving_of
  relation-holds ks s item near up =
      let tried = after_cuts_tried answers ks (begin_serving s) in
      let cuts = cuts_hold ks (begin_serving s) in
      record {
        tried = tried;
        cuts = cuts;
        does = item_holds ks item.now up tried (ap (λ (c : CoreView). c.neighbours) (cuts_core ks (begin_serving s) tried cuts) ∙ sym near) (slice_get ks item.seat) item.what;
      }

-- the offers, read as results of offers, give the same serving
pub serves_so : {O : Type 0} (did_offer : O → ℕ → Cargo → Bool → O → Type 0) (item : Item) (s : SeatView) (outs : O) (new : SeatView) (after : O) → IsAscending s.core.neighbours →
    ((offers : List Offer) × AreOffered did_offer s.core.neighbours outs offers after × ((answers : Answers) → Follows answers [] offers → serving_of answers s.core.neighbours (state_of s) item ≡ serving_at item.now new offers)) →
    (offers : List Offer) × AreOffered did_offer s.core.neighbours outs offers after × Serves s.core.neighbours (state_of s) item (serving_at item.now new offers)
serves_so did_offer item s outs new after up h =
    let offers = h.0 in
    (offers, h.1, subst (Serves s.core.neighbours (state_of s) item) (h.2 (answers_in offers) (follows_back offers)) (relation-holds (answers_in offers) s.core.neighbours (state_of s) item refl up))
