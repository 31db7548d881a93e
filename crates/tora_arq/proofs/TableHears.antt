-- The rows for received frames agree with the definition.
use Rattle.std.proofs.Common.{◌≡◌, ◌≢◌, ◌⊎◌, inl, inr, ℕ, suc, ◌+◌, ◌-◌, ◌<◌, ◌≤◌, max, true, false, true≢false, nat_lt, List, [], ◌∷◌, ◌++◌, map, length, drop, Option, Some, None, refl, sym, ap, ◌∙◌, subst, arith, append_assoc, append-nil}
use Rattle.std.proofs.lemmas.Bool.{cases_Bool, le-leb, lt-leb, le-ltb, lt-ltb, eq-eqb, ne_eqb, cases_lt, cases_eq, cases_order}
use Rattle.std.proofs.Math.Bool.{or-false, or-true}
use Rattle.tora_packet.specs.declared.Packet.{Packet}
use Rattle.tora_frame.specs.declared.parts.Version.{Version}
use Rattle.tora_frame.specs.declared.parts.Header.{Header}
use Rattle.tora_frame.specs.declared.parts.Body.{Body}
use Rattle.tora_frame.specs.declared.parts.Body.TheVariants.{Hello, Data, Ack}
use Rattle.tora_frame.specs.FrameParts.{FrameParts, frame_of, batch}
use Rattle.tora_arq.specs.declared.life.Life.{Life}
use Rattle.tora_arq.specs.declared.verdict.Verdict.{Verdict}
use Rattle.tora_arq.specs.declared.verdict.Verdict.TheVariants.{Accepted, Repeated, Ahead, Stale}
use Rattle.tora_arq.specs.declared.link_event.LinkEvent.TheVariants.{Deliver}
use Rattle.tora_arq.specs.declared.phase.Phase.{Phase}
use Rattle.tora_arq.specs.declared.phase.Phase.TheVariants.{Closed, Unbound, Bound}
use Rattle.tora_arq.specs.Lives.{life_of}
use Rattle.tora_arq.specs.Settings.{Settings}
use Rattle.tora_arq.specs.Held.{hold_at, first_held}
use Rattle.tora_arq.specs.LinkEnd.{EndState, is_two, passed, after_bind, count_of, is_foreign, is_busy, on_life_told, after_release, after_packet, after_packets, verdict_of_numbers, on_data, on_matched, on_frame_in, on_frame}
use Rattle.tora_arq.specs.LinkTable.{heard_now, heard_data, begun, Binds, noted_life_begins, newer_life_begins, IsJudged, all_were_accepted, next_is_among_them, all_are_ahead, IsRun, TakesPacket, was_accepted, is_too_far, is_taken, TakesPackets, no_packet, first_packet, HearsIn, closed, no_hello_unechoed, hello_of_older_life, hello_of_noted_life, hello_of_newer_life, counts_before_binding, echo_of_older_life, hello_binds, ack_binds, data_binds, newer_life, older_life, unechoed, counts_too_many, hello, ack_of_more, ack_of_no_more, data_comes, Hears, not_from_peer, no_places, looked_at}
use Rattle.tora_arq.proofs.TableWords.{not_foreign, from_peer, foreign, not_busy, busy, has_places}

-- ---- results

-- a result that has a row of its own is in no other row
pub from_row : {A : Type 0} (R : A → EndState → Type 0) (r : A × EndState) (a : A) (e : EndState) → r ≡ (a, e) → R a e → (b : A) (f : EndState) → (b ≡ r.0) × (f ≡ r.1) → R b f
from_row {A} R r a e q row b f p =
    let x : a ≡ b = sym (ap (λ (y : A × EndState). y.0) q) ∙ sym p.0 in
    let z : e ≡ f = sym (ap (λ (y : A × EndState). y.1) q) ∙ sym p.1 in
    subst (λ y. R y f) x (subst (R a) z row)

pub parts_of : {A : Type 0} (r : A × EndState) (a : A) (e : EndState) → r ≡ (a, e) → (a ≡ r.0) × (e ≡ r.1)
parts_of {A} r a e q = (sym (ap (λ (y : A × EndState). y.0) q), sym (ap (λ (y : A × EndState). y.1) q))

pub pair : {A B : Type 0} {a b : A} {x y : B} → a ≡ b → x ≡ y → ◌≡◌ {A = A × B} (a, x) (b, y)
pair p q = λ i. (p i, q i)

-- ---- packets

judged-is : (accepted first many : ℕ) {verdict : Verdict} → IsJudged (suc accepted) first (first + many) verdict → verdict_of_numbers accepted first (first + many - 1) ≡ verdict
judged-is accepted first many (all_were_accepted l) = rw (le-leb (first + many - 1) accepted (omega (arith, l))) refl
judged-is accepted first many (next_is_among_them l m) = rw (lt-leb (first + many - 1) accepted (omega (arith, m)), le-leb first (suc accepted) l) refl
judged-is accepted first many (all_are_ahead l) = rw (lt-leb (first + many - 1) accepted (omega (arith, l)), lt-leb first (suc accepted) l) refl

judged-some : (next first behind : ℕ) → (verdict : Verdict) × IsJudged next first behind verdict
judged-some next first behind = at (cases_lt next behind) (cases_lt next first)
  where
    at : (next < behind) ⊎ (behind ≤ next) → (next < first) ⊎ (first ≤ next) → (verdict : Verdict) × IsJudged next first behind verdict
    at (inr l) o = (Repeated, all_were_accepted l)
    at (inl l) (inl m) = (Ahead, all_are_ahead m)
    at (inl l) (inr m) = (Accepted, next_is_among_them m l)

-- the end after the packets of a run are delivered
abbrev released : Life → EndState → List Packet → List (Option Packet) → EndState
released life e packets rest = record e {
  events = e.events ++ map (Deliver life) packets;
  accepted = e.accepted + length packets;
  held = rest;
}

abbrev SomeRow : List (Option Packet) → Type 0
SomeRow held = (packets : List Packet) × (rest : List (Option Packet)) × IsRun held packets rest

run-some : (held : List (Option Packet)) → SomeRow held
run-some [] = ([], [], record { held_is = refl; gap = refl })
run-some (None ∷ held) = ([], None ∷ held, record { held_is = refl; gap = refl })
run-some (Some packet ∷ held) =
    let r = run-some held in (packet ∷ r.0, r.1, record { held_is = ap (λ x. Some packet ∷ x) r.2.held_is; gap = r.2.gap })

gap-stays : (life : Life) (e : EndState) (rest : List (Option Packet)) → first_held rest ≡ None → after_release life e rest ≡ e
unfolding after_release
gap-stays life e [] g = refl
gap-stays life e (None ∷ rest) g = refl
gap-stays life e (Some packet ∷ rest) g = absurd cc

run-released : (life : Life) (packets : List Packet) (e : EndState) (rest : List (Option Packet)) → first_held rest ≡ None → e.held ≡ map Some packets ++ rest →
    after_release life e (map Some packets ++ rest) ≡ released life e packets rest
unfolding after_release
run-released life [] e rest g h =
    gap-stays life e rest g
    ∙ (λ i. record e { events = sym (append-nil e.events) i; accepted = (let z : e.accepted ≡ e.accepted + 0 = omega arith in z) i; held = h i })
run-released life (packet ∷ packets) e rest g h =
    let next : EndState = record e { events = e.events ++ Deliver life packet ∷ []; accepted = suc e.accepted; held = map Some packets ++ rest } in
    run-released life packets next rest g refl
    ∙ (λ i. record e {
      events = append_assoc e.events (Deliver life packet ∷ []) (map (Deliver life) packets) i;
      accepted = (let z : suc e.accepted + length packets ≡ e.accepted + suc (length packets) = omega arith in z) i;
      held = rest;
    })

taken-is : {life : Life} {furthest : ℕ} {e : EndState} {number : ℕ} {packet : Packet} {after : EndState} → TakesPacket life furthest e number packet after → after_packet life furthest e number packet ≡ after
unfolding after_packet
taken-is {e = e} {number} (was_accepted l) = rw (le-leb number e.accepted l) refl
taken-is {furthest = furthest} {e} {number} (is_too_far l m) = rw (lt-leb number e.accepted l, lt-leb number furthest m) refl
taken-is {life} {furthest} {e} {number} {packet} (is_taken {packets} {rest} l m r) =
    let held = hold_at (number - suc e.accepted) packet e.held in
    let run : after_release life (record e { held = held }) held ≡ released life e packets rest =
    ap (after_release life (record e { held = held })) r.held_is ∙ run-released life packets (record e { held = held }) rest r.gap r.held_is in
    rw (lt-leb number e.accepted l, le-leb number furthest m) run

taken-some : (life : Life) (furthest : ℕ) (e : EndState) (number : ℕ) (packet : Packet) → (after : EndState) × TakesPacket life furthest e number packet after
taken-some life furthest e number packet = at (cases_lt e.accepted number) (cases_lt furthest number)
  where
    at : (e.accepted < number) ⊎ (number ≤ e.accepted) → (furthest < number) ⊎ (number ≤ furthest) → (after : EndState) × TakesPacket life furthest e number packet after
    at (inr l) o = (e, was_accepted l)
    at (inl l) (inl m) = (e, is_too_far l m)
    at (inl l) (inr m) = let r = run-some (hold_at (number - suc e.accepted) packet e.held) in (released life e r.0 r.1, is_taken l m r.2)

packets-is : {life : Life} {furthest : ℕ} {e : EndState} {number : ℕ} {packets : List Packet} {after : EndState} → TakesPackets life furthest e number packets after → after_packets life furthest e number packets ≡ after
unfolding after_packets
packets-is no_packet = refl
packets-is {life} {furthest} (first_packet {number = number} {packets = packets} first more) =
    ap (λ (x : EndState). after_packets life furthest x (suc number) packets) (taken-is first) ∙ packets-is more

packets-some : (life : Life) (furthest : ℕ) (e : EndState) (number : ℕ) (packets : List Packet) → (after : EndState) × TakesPackets life furthest e number packets after
packets-some life furthest e number [] = (e, no_packet)
packets-some life furthest e number (packet ∷ packets) =
    let first = taken-some life furthest e number packet in
    let more = packets-some life furthest first.0 (suc number) packets in (more.0, first_packet first.1 more.1)

-- ---- a session begins

-- the end after the definition has bound the session
abbrev bound_by : EndState → ℕ → Header → ℕ → EndState
bound_by e own h now = record (passed (after_bind e (life_of own h.life)) h.version) { last_hearing = now }

binds-is : {e : EndState} {own : ℕ} {h : Header} {now : ℕ} {bound : EndState} → Binds e own h now bound → bound_by e own h now ≡ bound
binds-is {e} {own} {h} {now} (noted_life_begins q) =
    rw (eq-eqb e.heard h.life (sym q)) (λ i. record (heard_now (begun e (life_of own h.life)) h.version now) { owes_hello = or-false e.owes_hello i })
binds-is {e} {own} {h} {now} (newer_life_begins l) =
    rw (ne_eqb e.heard h.life (λ q. absurd (omega (arith, l, q))))
    (λ i. record (begun e (life_of own h.life)) { speaks_two = or-false (is_two h.version) i; owes_hello = or-true e.owes_hello i; last_hearing = now })

binds-after : {e : EndState} {own : ℕ} {h : Header} {now : ℕ} {bound : EndState} → Binds e own h now bound → nat_lt h.life e.heard ≡ false
binds-after {e} {own} {h} (noted_life_begins q) = le-ltb h.life e.heard (omega (arith, q))
binds-after {e} {own} {h} (newer_life_begins l) = le-ltb h.life e.heard (omega (arith, l))

-- ---- the rows

no_hello-stale : (e : EndState) (version : Version) (life : ℕ) (body : Body) → body ≢ Hello → on_life_told e version life body ≡ (Stale, e)
no_hello-stale e version life Hello n = absurd (n refl)
no_hello-stale e version life (Data number count packets) n = refl
no_hello-stale e version life (Ack count) n = refl

module _ (s : Settings) (e : EndState) (h : Header) (now : ℕ) where
  -- an unbound end binds
  binding : {own : ℕ} {bound : EndState} (body : Body) → h.heard ≡ own → count_of body ≡ 0 → Binds e own h now bound →
      on_frame_in s.window e (frame_of h body) now (Unbound own) ≡ on_matched s.window (passed (after_bind e (life_of own h.life)) h.version) (life_of own h.life) true now body
  unfolding on_frame_in
  binding {own} body q c b = rw (eq-eqb h.heard own q, le-ltb 0 (count_of body) (omega (arith, c)), binds-after b) refl

  -- both numbers match at a bound end
  matching : {life : Life} (body : Body) → h.life ≡ life.peer → h.heard ≡ life.own → count_of body ≤ e.transmitted →
      on_frame_in s.window e (frame_of h body) now (Bound life) ≡ on_matched s.window (passed e h.version) life false now body
  unfolding on_frame_in
  matching {life} body p q c =
      rw (le-ltb life.peer h.life (omega (arith, p)), le-ltb h.life life.peer (omega (arith, p)), eq-eqb h.heard life.own q, le-ltb e.transmitted (count_of body) c) refl

  hears_in-only : {phase : Phase} {body : Body} {verdict : Verdict} {after : EndState} → HearsIn s e h now phase body verdict after → on_frame_in s.window e (frame_of h body) now phase ≡ (verdict, after)
  unfolding on_frame_in on_matched on_data
  hears_in-only closed = refl
  hears_in-only {body = body} (no_hello_unechoed {own} n b) = rw (ne_eqb h.heard own n) (no_hello-stale e h.version h.life body b)
  hears_in-only (hello_of_older_life {own} n l) = rw (ne_eqb h.heard own n, lt-ltb h.life e.heard l) refl
  hears_in-only (hello_of_noted_life {own} n q) = rw (ne_eqb h.heard own n, le-ltb h.life e.heard (omega (arith, q)), eq-eqb h.life e.heard q) refl
  hears_in-only (hello_of_newer_life {own} n l) =
      rw (ne_eqb h.heard own n, le-ltb h.life e.heard (omega (arith, l)), ne_eqb h.life e.heard (λ q. absurd (omega (arith, l, q)))) refl
  hears_in-only {body = body} (counts_before_binding {own} q c) = rw (eq-eqb h.heard own q, lt-ltb 0 (count_of body) c) refl
  hears_in-only {body = body} (echo_of_older_life {own} q c l) = rw (eq-eqb h.heard own q, le-ltb 0 (count_of body) (omega (arith, c)), lt-ltb h.life e.heard l) refl
  hears_in-only (hello_binds q b) = binding Hello q refl b ∙ ap (λ (x : EndState). (Accepted, x)) (binds-is b)
  hears_in-only (ack_binds q b) = binding (Ack 0) q refl b ∙ ap (λ (x : EndState). (Accepted, x)) (binds-is b)
  hears_in-only (data_binds {own} {number} {packets} {verdict} {bound} {after} q b j t) =
      let life = life_of own h.life in
      let window : 0 + s.window ≡ s.window = omega arith in
      binding (Data number 0 (batch packets)) q refl b
      ∙ pair (judged-is 0 number (length packets) j)
      (ap (λ (x : EndState). after_packets life (0 + s.window) (record x { owes_ack = true }) number packets) (binds-is b)
      ∙ ap (λ n. after_packets life n (record bound { owes_ack = true }) number packets) window ∙ packets-is t)
  hears_in-only (newer_life {life} l) = rw (lt-ltb life.peer h.life l) refl
  hears_in-only (older_life {life} l) = rw (le-ltb life.peer h.life (omega (arith, l)), lt-ltb h.life life.peer l) refl
  hears_in-only (unechoed {life} p n) = rw (le-ltb life.peer h.life (omega (arith, p)), le-ltb h.life life.peer (omega (arith, p)), ne_eqb h.heard life.own n) refl
  hears_in-only {body = body} (counts_too_many {life} p q c) =
      rw (le-ltb life.peer h.life (omega (arith, p)), le-ltb h.life life.peer (omega (arith, p)), eq-eqb h.heard life.own q, lt-ltb e.transmitted (count_of body) c) refl
  hears_in-only (hello p q) = matching Hello p q (omega arith)
  hears_in-only (ack_of_more {life} {count} p q l c) =
      let most : max e.acknowledged count ≡ count = omega (arith, l) in
      matching (Ack count) p q c
      ∙ rw (lt-ltb e.acknowledged count l) (λ i. (Accepted, record (heard_now e h.version now) { queue = drop (count - e.acknowledged) e.queue; acknowledged = most i }))
  hears_in-only (ack_of_no_more {life} {count} p q l c) =
      let most : max e.acknowledged count ≡ e.acknowledged = omega (arith, l) in
      let none : count - e.acknowledged ≡ 0 = omega (arith, l) in
      matching (Ack count) p q c
      ∙ rw (le-ltb e.acknowledged count l) (λ i. (Repeated, record (heard_now e h.version now) { queue = drop (none i) e.queue; acknowledged = most i }))
  hears_in-only (data_comes {life} {number} {count} {packets} p q c j t) = matching (Data number count (batch packets)) p q c ∙ pair (judged-is e.accepted number (length packets) j) (packets-is t)

  -- ---- each situation has a row

  abbrev HasRow : Phase → Body → Type 0
  HasRow phase body = (verdict : Verdict) × (after : EndState) × HearsIn s e h now phase body verdict after

  binds-some : (own : ℕ) → e.heard ≤ h.life → (bound : EndState) × Binds e own h now bound
  binds-some own l = at (cases_lt e.heard h.life)
    where
      at : (e.heard < h.life) ⊎ (h.life ≤ e.heard) → (bound : EndState) × Binds e own h now bound
      at (inl m) = (_, newer_life_begins m)
      at (inr m) = (_, noted_life_begins (omega (arith, l, m)))

  unbound-some : (own : ℕ) (body : Body) → HasRow (Unbound own) body
  unbound-some own body = at (cases_eq h.heard own)
    where
      told : (body : Body) → h.heard ≢ own → HasRow (Unbound own) body
      told (Data number count packets) n = (Stale, e, no_hello_unechoed n (λ q. cc))
      told (Ack count) n = (Stale, e, no_hello_unechoed n (λ q. cc))
      told Hello n = by (cases_order h.life e.heard)
        where
          by : (h.life ≡ e.heard) ⊎ ((h.life < e.heard) ⊎ (e.heard < h.life)) → HasRow (Unbound own) Hello
          by (inl q) = (_, _, hello_of_noted_life n q)
          by (inr (inl l)) = (_, _, hello_of_older_life n l)
          by (inr (inr l)) = (_, _, hello_of_newer_life n l)

      bound : (body : Body) → h.heard ≡ own → count_of body ≡ 0 → (b : EndState) → Binds e own h now b → HasRow (Unbound own) body
      bound Hello q c b r = (Accepted, b, hello_binds q r)
      bound (Ack count) q c b r = (Accepted, b, subst (λ n. HearsIn s e h now (Unbound own) (Ack n) Accepted b) (sym c) (ack_binds q r))
      bound (Data number count packets) q c b r =
          let j = judged-some 1 number (number + length packets.items) in
          let t = packets-some (life_of own h.life) s.window (record b { owes_ack = true }) number packets.items in
          (j.0, t.0, subst (λ n. HearsIn s e h now (Unbound own) (Data number n packets) j.0 t.0) (sym c) (data_binds q r j.1 t.1))

      echoed : h.heard ≡ own → (0 < count_of body) ⊎ (count_of body ≤ 0) → (h.life < e.heard) ⊎ (e.heard ≤ h.life) → HasRow (Unbound own) body
      echoed q (inl c) o = (_, _, counts_before_binding q c)
      echoed q (inr c) (inl l) = (_, _, echo_of_older_life q (omega (arith, c)) l)
      echoed q (inr c) (inr l) = let b = binds-some own l in bound body q (omega (arith, c)) b.0 b.1

      at : (h.heard ≡ own) ⊎ (h.heard ≢ own) → HasRow (Unbound own) body
      at (inl q) = echoed q (cases_lt 0 (count_of body)) (cases_lt h.life e.heard)
      at (inr n) = told body n

  bound-some : (life : Life) (body : Body) → HasRow (Bound life) body
  bound-some life body = at (cases_order h.life life.peer) (cases_eq h.heard life.own) (cases_lt e.transmitted (count_of body))
    where
      matched : (body : Body) → h.life ≡ life.peer → h.heard ≡ life.own → count_of body ≤ e.transmitted → HasRow (Bound life) body
      matched Hello p q c = (_, _, hello p q)
      matched (Ack count) p q c = by (cases_lt e.acknowledged count)
        where
          by : (e.acknowledged < count) ⊎ (count ≤ e.acknowledged) → HasRow (Bound life) (Ack count)
          by (inl l) = (_, _, ack_of_more p q l c)
          by (inr l) = (_, _, ack_of_no_more p q l c)
      matched (Data number count packets) p q c =
          let j = judged-some (suc e.accepted) number (number + length packets.items) in
          let t = packets-some life (e.accepted + s.window) (heard_data e h.version count now) number packets.items in
          (j.0, t.0, data_comes p q c j.1 t.1)

      at : (h.life ≡ life.peer) ⊎ ((h.life < life.peer) ⊎ (life.peer < h.life)) → (h.heard ≡ life.own) ⊎ (h.heard ≢ life.own) → (e.transmitted < count_of body) ⊎ (count_of body ≤ e.transmitted) → HasRow (Bound life) body
      at (inr (inl l)) o c = (_, _, older_life l)
      at (inr (inr l)) o c = (_, _, newer_life l)
      at (inl p) (inr n) c = (_, _, unechoed p n)
      at (inl p) (inl q) (inl c) = (_, _, counts_too_many p q c)
      at (inl p) (inl q) (inr c) = matched body p q c

  hears_in-some : (phase : Phase) (body : Body) → HasRow phase body
  hears_in-some Closed body = (Stale, e, closed)
  hears_in-some (Unbound own) body = unbound-some own body
  hears_in-some (Bound life) body = bound-some life body

  -- ---- all frames

  pub hears-only : {body : Body} {verdict : Verdict} {after : EndState} → Hears s e h body now verdict after → on_frame s e (frame_of h body) now ≡ (verdict, after)
  unfolding on_frame
  hears-only {body} (not_from_peer n) = rw (foreign s h body n) refl
  hears-only {body} (no_places p n) = rw (not_foreign s h body p, busy e n) refl
  hears-only {body} (looked_at p r row) = rw (not_foreign s h body p, not_busy e r) (hears_in-only row)

  pub hears-some : (body : Body) → (verdict : Verdict) × (after : EndState) × Hears s e h body now verdict after
  hears-some body = at (cases_Bool (is_foreign s (frame_of h body))) (cases_Bool (is_busy e))
    where
      at : (is_foreign s (frame_of h body) ≡ true) ⊎ (is_foreign s (frame_of h body) ≡ false) → (is_busy e ≡ true) ⊎ (is_busy e ≡ false) → (verdict : Verdict) × (after : EndState) × Hears s e h body now verdict after
      at (inl t) o = (_, _, not_from_peer (λ p. true≢false (sym t ∙ not_foreign s h body p)))
      at (inr f) (inl t) = (_, _, no_places (from_peer s h body f) (λ p. true≢false (sym t ∙ not_busy e p)))
      at (inr f) (inr g) = let row = hears_in-some e.phase body in (row.0, row.1, looked_at (from_peer s h body f) (has_places e g) row.2)

pub hears-is : (s : Settings) (e : EndState) (f : FrameParts) (now : ℕ) (verdict : Verdict) (after : EndState) → Hears s e f.header f.body now verdict after →
    (verdict ≡ (on_frame s e f now).0) × (after ≡ (on_frame s e f now).1)
hears-is s e f now verdict after row = parts_of (on_frame s e f now) verdict after (hears-only s e f.header now row)

pub is-heard : (s : Settings) (e : EndState) (f : FrameParts) (now : ℕ) (verdict : Verdict) (after : EndState) → (verdict ≡ (on_frame s e f now).0) × (after ≡ (on_frame s e f now).1) →
    Hears s e f.header f.body now verdict after
is-heard s e f now verdict after q =
    let row = hears-some s e f.header now f.body in
    from_row (Hears s e f.header f.body now) (on_frame s e f now) row.0 row.1 (hears-only s e f.header now row.2) row.2 verdict after q
