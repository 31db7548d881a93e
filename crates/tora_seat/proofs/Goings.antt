-- Outbound messages are offered for one row after another.
use Rattle.std.proofs.Common.{◌≡◌, ℕ, zero, suc, ◌+◌, ◌<◌, Bool, true, false, List, [], ◌∷◌, ◌++◌, take, drop, length, set, get_or, Option, Some, None, if◌then◌else◌, refl, sym, ap, ap₂, ◌∙◌, subst, append_assoc, append-nil, arith}
use mathlib.Core.Path.{fun_ext}
use Rattle.tora_packet.specs.declared.Packet.{Packet}
use Rattle.tora_arq.specs.declared.life.Life.{Life}
use Rattle.tora_core.specs.Numbers.{has_number, has_repeat}
use Rattle.tora_seat.specs.declared.cargo.Cargo.{Cargo}
use Rattle.tora_seat.specs.declared.cargo.Cargo.TheVariants as Gives
use Rattle.tora_seat.specs.declared.rows.LinkRow.{LinkRow}
use Rattle.tora_seat.specs.Serving.{Offer, Answers, Serving, offered, with_current, with_pending, after_cut_tried, after_cuts_tried, after_sent, after_broadcast, after_broadcasts}
use Rattle.tora_seat.specs.Offers.{place_of, AreOffered, Follows}
use Rattle.tora_seat.specs.Rows.{neighbours_of}
use Rattle.tora_seat.specs.Bodies.{TriesCut, SendsTo, on_rows, RowsGo}
use Rattle.tora_seat.proofs.Chains.{follows_split, offered_more, split_at, set_at, drop_at, length_take, drop_end}
use Rattle.tora_seat.proofs.Places.{not_before, place_there, neighbours-append, neighbours-length, current_there, pending_there, current_set, pending_set, current_stays}

-- the offers for one row were made
pub record RowGoes {O : Type 0} (did_offer : O → ℕ → Cargo → Bool → O → Type 0) (one : Answers → Serving → ℕ → Serving) (rows : List LinkRow) (k : ℕ) (outs : O) (new : List LinkRow) (after : O) : Type 0 where
  pub made : List Offer
  pub offered : AreOffered did_offer (neighbours_of rows) outs made after
  pub same : neighbours_of new ≡ neighbours_of rows
  pub leads : (answers : Answers) (v : Serving) (before : List Offer) → Follows answers before made → one answers (on_rows v rows before) k ≡ on_rows v new (before ++ made)

abbrev pub cut_of : Answers → Serving → ℕ → Serving
cut_of answers v k = after_cut_tried answers v k (v.seat.pending k)

abbrev pub sent_of : Packet → Answers → Serving → ℕ → Serving
sent_of packet answers v k = after_sent answers packet v k (v.seat.current k)

module _ {O : Type 0} (did_offer : O → ℕ → Cargo → Bool → O → Type 0) where
  -- nothing is offered
  none_goes : (one : Answers → Serving → ℕ → Serving) (rows : List LinkRow) (k : ℕ) (outs : O) (new : List LinkRow) (after : O) → new ≡ rows → after ≡ outs →
      ((answers : Answers) (v : Serving) (before : List Offer) → one answers (on_rows v rows before) k ≡ on_rows v rows before) → RowGoes did_offer one rows k outs new after
  none_goes one rows k outs new after e f h = record {
    made = [];
    offered = f;
    same = ap neighbours_of e;
    leads = λ answers v before _. h answers v before ∙ ap₂ (λ rs os. on_rows v rs os) (sym e) (sym (append-nil before));
  }

  -- one outbound message is offered
  one_goes : (one : Answers → Serving → ℕ → Serving) (pre : List LinkRow) (row : LinkRow) (rest : List LinkRow) (outs : O) (new : LinkRow) (after : O) (cargo : Cargo) (put : Bool) → has_repeat (neighbours_of (pre ++ row ∷ rest)) ≡ false →
      did_offer outs (length pre) cargo put after → new.neighbour ≡ row.neighbour →
      ((answers : Answers) (v : Serving) (before : List Offer) → answers before row.neighbour ≡ put →
      one answers (on_rows v (pre ++ row ∷ rest) before) row.neighbour ≡ on_rows v (pre ++ new ∷ rest) (before ++ record { to = row.neighbour; cargo = cargo; put = put } ∷ [])) →
      RowGoes did_offer one (pre ++ row ∷ rest) row.neighbour outs (pre ++ new ∷ rest) after
  one_goes one pre row rest outs new after cargo put h o e f =
      let split = neighbours-append pre (row ∷ rest) in
      let off : has_number row.neighbour (neighbours_of pre) ≡ false = not_before (neighbours_of pre) row.neighbour (neighbours_of rest) (ap has_repeat (sym split) ∙ h) in
      let place : place_of row.neighbour (neighbours_of (pre ++ row ∷ rest)) ≡ length pre =
      ap (place_of row.neighbour) split ∙ place_there (neighbours_of pre) row.neighbour (neighbours_of rest) off ∙ neighbours-length pre in record {
        made = record { to = row.neighbour; cargo = cargo; put = put } ∷ [];
        offered = (after, subst (λ p. did_offer outs p cargo put after) (sym place) o, refl);
        same = neighbours-append pre (new ∷ rest) ∙ ap (λ n. neighbours_of pre ++ n ∷ neighbours_of rest) e ∙ sym split;
        leads = λ answers v before g. f answers v before g.0;
      }

  off_of : (pre : List LinkRow) (row : LinkRow) (rest : List LinkRow) → has_repeat (neighbours_of (pre ++ row ∷ rest)) ≡ false → has_number row.neighbour (neighbours_of pre) ≡ false
  off_of pre row rest h = not_before (neighbours_of pre) row.neighbour (neighbours_of rest) (ap has_repeat (sym (neighbours-append pre (row ∷ rest))) ∙ h)

  pub cut_goes : (pre : List LinkRow) (row : LinkRow) (rest : List LinkRow) (outs : O) (new : LinkRow) (after : O) → has_repeat (neighbours_of (pre ++ row ∷ rest)) ≡ false →
      TriesCut did_offer (length pre) row row.pending outs new after → RowGoes did_offer cut_of (pre ++ row ∷ rest) row.neighbour outs (pre ++ new ∷ rest) after
  cut_goes pre row rest outs new after h = go row.pending refl
    where
      there : (answers : Answers) (v : Serving) (before : List Offer) → cut_of answers (on_rows v (pre ++ row ∷ rest) before) row.neighbour ≡ after_cut_tried answers (on_rows v (pre ++ row ∷ rest) before) row.neighbour row.pending
      there answers v before = ap (after_cut_tried answers (on_rows v (pre ++ row ∷ rest) before) row.neighbour) (pending_there pre row rest (off_of pre row rest h))

      go : (p : Option Life) → row.pending ≡ p → TriesCut did_offer (length pre) row p outs new after → RowGoes did_offer cut_of (pre ++ row ∷ rest) row.neighbour outs (pre ++ new ∷ rest) after
      go None e t =
          none_goes cut_of (pre ++ row ∷ rest) row.neighbour outs (pre ++ new ∷ rest) after (ap (λ r. pre ++ r ∷ rest) t.0) t.1
          (λ answers v before. there answers v before ∙ ap (after_cut_tried answers (on_rows v (pre ++ row ∷ rest) before) row.neighbour) e)
      go (Some life) e (true, o, n) =
          subst (λ r. RowGoes did_offer cut_of (pre ++ row ∷ rest) row.neighbour outs (pre ++ r ∷ rest) after) (sym n)
          (one_goes cut_of pre row rest outs (record row { pending = None }) after (Gives.Cut life) true h o refl
          (λ answers v before a. there answers v before ∙ ap (after_cut_tried answers (on_rows v (pre ++ row ∷ rest) before) row.neighbour) e
          ∙ ap (λ b. if b then with_pending (offered (on_rows v (pre ++ row ∷ rest) before) row.neighbour (Gives.Cut life) true) row.neighbour None else offered (on_rows v (pre ++ row ∷ rest) before) row.neighbour (Gives.Cut life) false) a
          ∙ ap₂ (λ (f g : ℕ → Option Life). record v { seat = record v.seat { current = f; pending = g }; offers = before ++ record { to = row.neighbour; cargo = Gives.Cut life; put = true } ∷ [] })
          (fun_ext (current_stays pre row (record row { pending = None }) rest refl refl)) (pending_set pre row (record row { pending = None }) rest refl (off_of pre row rest h))))
      go (Some life) e (false, o, n) =
          subst (λ r. RowGoes did_offer cut_of (pre ++ row ∷ rest) row.neighbour outs (pre ++ r ∷ rest) after) (sym n)
          (one_goes cut_of pre row rest outs row after (Gives.Cut life) false h o refl
          (λ answers v before a. there answers v before ∙ ap (after_cut_tried answers (on_rows v (pre ++ row ∷ rest) before) row.neighbour) e
          ∙ ap (λ b. if b then with_pending (offered (on_rows v (pre ++ row ∷ rest) before) row.neighbour (Gives.Cut life) true) row.neighbour None else offered (on_rows v (pre ++ row ∷ rest) before) row.neighbour (Gives.Cut life) false) a))

  pub sent_goes : (packet : Packet) (pre : List LinkRow) (row : LinkRow) (rest : List LinkRow) (outs : O) (new : LinkRow) (after : O) → has_repeat (neighbours_of (pre ++ row ∷ rest)) ≡ false →
      SendsTo did_offer (length pre) packet row row.current outs new after → RowGoes did_offer (sent_of packet) (pre ++ row ∷ rest) row.neighbour outs (pre ++ new ∷ rest) after
  sent_goes packet pre row rest outs new after h = go row.current refl
    where
      there : (answers : Answers) (v : Serving) (before : List Offer) → sent_of packet answers (on_rows v (pre ++ row ∷ rest) before) row.neighbour ≡ after_sent answers packet (on_rows v (pre ++ row ∷ rest) before) row.neighbour row.current
      there answers v before = ap (after_sent answers packet (on_rows v (pre ++ row ∷ rest) before) row.neighbour) (current_there pre row rest (off_of pre row rest h))

      go : (p : Option Life) → row.current ≡ p → SendsTo did_offer (length pre) packet row p outs new after → RowGoes did_offer (sent_of packet) (pre ++ row ∷ rest) row.neighbour outs (pre ++ new ∷ rest) after
      go None e t =
          none_goes (sent_of packet) (pre ++ row ∷ rest) row.neighbour outs (pre ++ new ∷ rest) after (ap (λ r. pre ++ r ∷ rest) t.0) t.1
          (λ answers v before. there answers v before ∙ ap (after_sent answers packet (on_rows v (pre ++ row ∷ rest) before) row.neighbour) e)
      go (Some life) e (true, o, n) =
          subst (λ r. RowGoes did_offer (sent_of packet) (pre ++ row ∷ rest) row.neighbour outs (pre ++ r ∷ rest) after) (sym n)
          (one_goes (sent_of packet) pre row rest outs row after (Gives.Packet life packet) true h o refl
          (λ answers v before a. there answers v before ∙ ap (after_sent answers packet (on_rows v (pre ++ row ∷ rest) before) row.neighbour) e
          ∙ ap (λ b. if b then offered (on_rows v (pre ++ row ∷ rest) before) row.neighbour (Gives.Packet life packet) true
          else with_pending (with_current (offered (on_rows v (pre ++ row ∷ rest) before) row.neighbour (Gives.Packet life packet) false) row.neighbour None) row.neighbour (Some life)) a))
      go (Some life) e (false, o, n) =
          let back : LinkRow = record row { current = None; pending = Some life } in
          subst (λ r. RowGoes did_offer (sent_of packet) (pre ++ row ∷ rest) row.neighbour outs (pre ++ r ∷ rest) after) (sym n)
          (one_goes (sent_of packet) pre row rest outs back after (Gives.Packet life packet) false h o refl
          (λ answers v before a. there answers v before ∙ ap (after_sent answers packet (on_rows v (pre ++ row ∷ rest) before) row.neighbour) e
          ∙ ap (λ b. if b then offered (on_rows v (pre ++ row ∷ rest) before) row.neighbour (Gives.Packet life packet) true
          else with_pending (with_current (offered (on_rows v (pre ++ row ∷ rest) before) row.neighbour (Gives.Packet life packet) false) row.neighbour None) row.neighbour (Some life)) a
          ∙ ap₂ (λ (f g : ℕ → Option Life). record v { seat = record v.seat { current = f; pending = g }; offers = before ++ record { to = row.neighbour; cargo = Gives.Packet life packet; put = false } ∷ [] })
          (current_set pre row back rest refl (off_of pre row rest h)) (pending_set pre row back rest refl (off_of pre row rest h))))

-- ---- rows one after another

-- the offers for the rows before this place were made
pub record Going {O : Type 0} (did_offer : O → ℕ → Cargo → Bool → O → Type 0) (next : Answers → List ℕ → Serving → Serving) (first : List LinkRow) (start : O) (i : ℕ) (rows : List LinkRow) (outs : O) : Type 0 where
  pub made : List Offer
  pub offered : AreOffered did_offer (neighbours_of first) start made outs
  pub same : neighbours_of rows ≡ neighbours_of first
  pub leads : (answers : Answers) (v : Serving) (before : List Offer) → Follows answers before made →
      next answers (neighbours_of first) (on_rows v first before) ≡ next answers (drop i (neighbours_of first)) (on_rows v rows (before ++ made))

neighbour_at : (rows : List LinkRow) (i : ℕ) (d : LinkRow) → i < length rows → drop i (neighbours_of rows) ≡ (get_or rows i d).neighbour ∷ drop (suc i) (neighbours_of rows)
neighbour_at [] i d lt = absurd (omega arith)
neighbour_at (y ∷ ys) zero d lt = refl
neighbour_at (y ∷ ys) (suc i) d lt = neighbour_at ys i d (omega arith)

module _ {O : Type 0} (did_offer : O → ℕ → Cargo → Bool → O → Type 0) (next : Answers → List ℕ → Serving → Serving) where
  pub going_none : (first : List LinkRow) (start : O) → Going did_offer next first start 0 first start
  going_none first start = record {
    made = [];
    offered = refl;
    same = refl;
    leads = λ answers v before _. ap (λ os. next answers (neighbours_of first) (on_rows v first os)) (sym (append-nil before));
  }

  pub going_more : (one : Answers → Serving → ℕ → Serving) → ((answers : Answers) (k : ℕ) (ks : List ℕ) (v : Serving) → next answers (k ∷ ks) v ≡ next answers ks (one answers v k)) →
      (first : List LinkRow) (start : O) (i : ℕ) (rows : List LinkRow) (outs : O) (new : List LinkRow) (after : O) (d : LinkRow) → i < length rows → Going did_offer next first start i rows outs →
      RowGoes did_offer one rows (get_or rows i d).neighbour outs new after → Going did_offer next first start (suc i) new after
  going_more one unfolds first start i rows outs new after d lt g r = record {
    made = g.made ++ r.made;
    offered = offered_more did_offer (neighbours_of first) start outs after g.made r.made g.offered (subst (λ ks. AreOffered did_offer ks outs r.made after) g.same r.offered);
    same = r.same ∙ g.same;
    leads = λ answers v before f.
        let h = follows_split answers before g.made r.made f in
        g.leads answers v before h.0
        ∙ ap (λ ks. next answers ks (on_rows v rows (before ++ g.made))) (ap (drop i) (sym g.same) ∙ neighbour_at rows i d lt ∙ ap (λ ks. (get_or rows i d).neighbour ∷ drop (suc i) ks) g.same)
        ∙ unfolds answers (get_or rows i d).neighbour (drop (suc i) (neighbours_of first)) (on_rows v rows (before ++ g.made))
        ∙ ap (next answers (drop (suc i) (neighbours_of first))) (r.leads answers v (before ++ g.made) h.1 ∙ ap (on_rows v new) (append_assoc before g.made r.made));
  }

  pub going_all : ((answers : Answers) (v : Serving) → next answers [] v ≡ v) → (first : List LinkRow) (start : O) (i : ℕ) (rows : List LinkRow) (outs : O) → i ≡ length first → Going did_offer next first start i rows outs → RowsGo did_offer next first start rows outs
  going_all ends first start i rows outs e g = record {
    made = g.made;
    offered = g.offered;
    same = g.same;
    leads = λ answers v before f.
        g.leads answers v before f
        ∙ ap (λ ks. next answers ks (on_rows v rows (before ++ g.made))) (ap (λ n. drop n (neighbours_of first)) (e ∙ sym (neighbours-length first)) ∙ drop_end (neighbours_of first))
        ∙ ends answers (on_rows v rows (before ++ g.made));
  }

pub cuts_cons : (answers : Answers) (k : ℕ) (ks : List ℕ) (v : Serving) → after_cuts_tried answers (k ∷ ks) v ≡ after_cuts_tried answers ks (cut_of answers v k)
unfolding after_cuts_tried
cuts_cons answers k ks v = refl

pub cuts_nil : (answers : Answers) (v : Serving) → after_cuts_tried answers [] v ≡ v
unfolding after_cuts_tried
cuts_nil answers v = refl

pub sents_cons : (packet : Packet) (answers : Answers) (k : ℕ) (ks : List ℕ) (v : Serving) → after_broadcast answers packet (k ∷ ks) v ≡ after_broadcast answers packet ks (sent_of packet answers v k)
unfolding after_broadcast
sents_cons packet answers k ks v = refl

pub sents_nil : (packet : Packet) (answers : Answers) (v : Serving) → after_broadcast answers packet [] v ≡ v
unfolding after_broadcast
sents_nil packet answers v = refl

-- a changed row at its place
pub at_place : (P : List LinkRow → ℕ → LinkRow → List LinkRow → Type 0) (rows : List LinkRow) (i : ℕ) (d new : LinkRow) → i < length rows →
    ((pre : List LinkRow) (row : LinkRow) (rest : List LinkRow) → length pre ≡ i → row ≡ get_or rows i d → P (pre ++ row ∷ rest) (length pre) row (pre ++ new ∷ rest)) → P rows i (get_or rows i d) (set rows i new)
at_place P rows i d new lt f =
    let n = length_take rows i lt in
    let h = f (take i rows) (get_or rows i d) (drop (suc i) rows) n refl in
    subst (λ xs. P xs i (get_or rows i d) (set rows i new)) (sym (split_at rows i d lt))
    (subst (λ j. P (take i rows ++ get_or rows i d ∷ drop (suc i) rows) j (get_or rows i d) (set rows i new)) n
    (subst (λ xs. P (take i rows ++ get_or rows i d ∷ drop (suc i) rows) (length (take i rows)) (get_or rows i d) xs) (sym (set_at rows i new lt)) h))

module _ {O : Type 0} (did_offer : O → ℕ → Cargo → Bool → O → Type 0) where
  pub cut_at : (rows : List LinkRow) (i : ℕ) (d : LinkRow) (outs : O) (new : LinkRow) (after : O) → i < length rows → has_repeat (neighbours_of rows) ≡ false →
      TriesCut did_offer i (get_or rows i d) (get_or rows i d).pending outs new after → RowGoes did_offer cut_of rows (get_or rows i d).neighbour outs (set rows i new) after
  cut_at rows i d outs new after lt =
      at_place (λ xs j row ys. has_repeat (neighbours_of xs) ≡ false → TriesCut did_offer j row row.pending outs new after → RowGoes did_offer cut_of xs row.neighbour outs ys after) rows i d new lt
      (λ pre row rest _ _. cut_goes did_offer pre row rest outs new after)

  pub sent_at : (packet : Packet) (rows : List LinkRow) (i : ℕ) (d : LinkRow) (outs : O) (new : LinkRow) (after : O) → i < length rows → has_repeat (neighbours_of rows) ≡ false →
      SendsTo did_offer i packet (get_or rows i d) (get_or rows i d).current outs new after → RowGoes did_offer (sent_of packet) rows (get_or rows i d).neighbour outs (set rows i new) after
  sent_at packet rows i d outs new after lt =
      at_place (λ xs j row ys. has_repeat (neighbours_of xs) ≡ false → SendsTo did_offer j packet row row.current outs new after → RowGoes did_offer (sent_of packet) xs row.neighbour outs ys after) rows i d new lt
      (λ pre row rest _ _. sent_goes did_offer packet pre row rest outs new after)

-- ---- packets one after another

-- the packets before this place were sent
pub record Sending {O : Type 0} (did_offer : O → ℕ → Cargo → Bool → O → Type 0) (packets : List Packet) (first : List LinkRow) (start : O) (i : ℕ) (rows : List LinkRow) (outs : O) : Type 0 where
  pub made : List Offer
  pub offered : AreOffered did_offer (neighbours_of first) start made outs
  pub same : neighbours_of rows ≡ neighbours_of first
  pub leads : (answers : Answers) (v : Serving) (before : List Offer) → Follows answers before made →
      after_broadcasts answers (neighbours_of first) packets (on_rows v first before) ≡ after_broadcasts answers (neighbours_of first) (drop i packets) (on_rows v rows (before ++ made))

pub packets_cons : (answers : Answers) (ks : List ℕ) (packet : Packet) (packets : List Packet) (v : Serving) → after_broadcasts answers ks (packet ∷ packets) v ≡ after_broadcasts answers ks packets (after_broadcast answers packet ks v)
unfolding after_broadcasts
packets_cons answers ks packet packets v = refl

pub packets_nil : (answers : Answers) (ks : List ℕ) (v : Serving) → after_broadcasts answers ks [] v ≡ v
unfolding after_broadcasts
packets_nil answers ks v = refl

module _ {O : Type 0} (did_offer : O → ℕ → Cargo → Bool → O → Type 0) where
  pub sending_none : (packets : List Packet) (first : List LinkRow) (start : O) → Sending did_offer packets first start 0 first start
  sending_none packets first start = record {
    made = [];
    offered = refl;
    same = refl;
    leads = λ answers v before _. ap (λ os. after_broadcasts answers (neighbours_of first) packets (on_rows v first os)) (sym (append-nil before));
  }

  pub sending_more : (packets : List Packet) (first : List LinkRow) (start : O) (i : ℕ) (rows : List LinkRow) (outs : O) (new : List LinkRow) (after : O) (packet : Packet) → i < length packets → packet ≡ get_or packets i packet →
      Sending did_offer packets first start i rows outs → RowsGo did_offer (λ answers ks. after_broadcast answers packet ks) rows outs new after → Sending did_offer packets first start (i + 1) new after
  sending_more packets first start i rows outs new after packet lt is g r =
      let one : suc i ≡ i + 1 = omega arith in
      subst (λ j. Sending did_offer packets first start j new after) one (record {
        made = g.made ++ r.made;
        offered = offered_more did_offer (neighbours_of first) start outs after g.made r.made g.offered (subst (λ ks. AreOffered did_offer ks outs r.made after) g.same r.offered);
        same = r.same ∙ g.same;
        leads = λ answers v before f.
            let h = follows_split answers before g.made r.made f in
            g.leads answers v before h.0
            ∙ ap (λ ps. after_broadcasts answers (neighbours_of first) ps (on_rows v rows (before ++ g.made))) (drop_at packets i packet lt ∙ ap (λ p. p ∷ drop (suc i) packets) (sym is))
            ∙ packets_cons answers (neighbours_of first) packet (drop (suc i) packets) (on_rows v rows (before ++ g.made))
            ∙ ap (after_broadcasts answers (neighbours_of first) (drop (suc i) packets))
            (ap (λ ks. after_broadcast answers packet ks (on_rows v rows (before ++ g.made))) (sym g.same) ∙ r.leads answers v (before ++ g.made) h.1 ∙ ap (on_rows v new) (append_assoc before g.made r.made));
      })

  pub sending_all : (packets : List Packet) (first : List LinkRow) (start : O) (i : ℕ) (rows : List LinkRow) (outs : O) → i ≡ length packets → Sending did_offer packets first start i rows outs →
      RowsGo did_offer (λ answers ks. after_broadcasts answers ks packets) first start rows outs
  sending_all packets first start i rows outs e g = record {
    made = g.made;
    offered = g.offered;
    same = g.same;
    leads = λ answers v before f.
        g.leads answers v before f
        ∙ ap (λ ps. after_broadcasts answers (neighbours_of first) ps (on_rows v rows (before ++ g.made))) (ap (λ n. drop n packets) e ∙ drop_end packets)
        ∙ packets_nil answers (neighbours_of first) (on_rows v rows (before ++ g.made));
  }
