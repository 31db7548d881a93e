-- The rows for the calls of a link end agree with the definitions of the calls.
use Rattle.std.proofs.Common.{◌≡◌, ◌≢◌, ◌⊎◌, inl, inr, ℕ, zero, suc, ◌+◌, ◌-◌, ◌<◌, ◌≤◌, min, max, Bool, true, false, List, [], ◌∷◌, ◌++◌, map, length, drop, slice_get, Option, Some, None, Result, refl, sym, ap, ◌∙◌, subst, arith}
use Rattle.std.specs.List.{AllByRecursion}
use Rattle.std.proofs.lemmas.Bool.{cases_Bool, le-leb, lt-leb, cases_lt}
use Rattle.std.proofs.lemmas.List.{length-map}
use Rattle.tora_packet.specs.declared.Packet.{Packet}
use Rattle.tora_frame.specs.declared.parts.TheConstants.{GREATEST_NUMBER}
use Rattle.tora_frame.specs.declared.parts.Version.{Version}
use Rattle.tora_frame.specs.declared.parts.Body.TheVariants.{Data}
use Rattle.tora_frame.specs.FrameParts.{FrameParts, batch}
use Rattle.tora_arq.specs.declared.TheConstants.{QUEUE_PLACES}
use Rattle.tora_arq.specs.declared.life.Life.{Life}
use Rattle.tora_arq.specs.declared.times.Times.{Times}
use Rattle.tora_arq.specs.declared.link_event.LinkEvent.{LinkEvent}
use Rattle.tora_arq.specs.declared.submit_error.SubmitError.{SubmitError}
use Rattle.tora_arq.specs.declared.phase.Phase.{Phase}
use Rattle.tora_arq.specs.declared.phase.Phase.TheVariants.{Closed, Unbound, Bound}
use Rattle.tora_arq.specs.declared.queued_packet.QueuedPacket.{QueuedPacket}
use Rattle.tora_arq.specs.Settings.{Settings}
use Rattle.tora_arq.specs.SendQueue.{packet_in, packets_in, retried, is_ready, ReadyRun, with_ready, ready_run, DueBatch, due_behind, first_due}
use Rattle.tora_arq.specs.LinkEnd.{EndState, data_version, most_packets, after_open, is_silent, after_tick_in, after_tick, on_submit_in, on_submit, after_cut, first_event, after_poll_event, is_hello_due, is_old_hello_due, frame_sent, due_of, on_transmit_due, on_transmit_in, on_transmit}
use Rattle.tora_arq.specs.LinkTable.{Opens, opened, Ticks, tick_unbound, tick_heard, tick_silent, IsSilent, submitted, Submits, of_another_life, numbers_are_spent, queue_is_full, packet_waits, Cuts, cut_another_life, cut_bound_life, IsOldHelloDue, IsHelloDue, IsDue, IsNotDue, AreAll, frame_is_full, window_ends, next_is_not_due, AreDue, NoneIsDue, Speaks, one_packet, sixteen_packets, of_unbound, of_bound, TellsIn, closed_tells_nothing, old_hello_is_due, hello_is_due, unbound_tells_nothing, data_is_due, ack_is_due, bound_tells_nothing, Tells, Gives, no_event_waits, oldest_event}
use Rattle.tora_arq.proofs.FactSteps.{is_same_life-refl}
use Rattle.tora_arq.proofs.FactCalls.{submit-other, cut-own, cut-other}
use Rattle.tora_arq.proofs.TableWords.{told-not, not-told, told_silent, told_due, told_hello, told_old, bound_or_not}
use Rattle.tora_arq.proofs.TableHears.{from_row, parts_of, pair}

-- ---- calls

-- a state that has a row of its own is in no other row
from_state : (R : EndState → Type 0) (r e : EndState) → r ≡ e → R e → (f : EndState) → f ≡ r → R f
from_state R r e q row f p = subst R (sym q ∙ sym p) row

pub opens-is : (e : EndState) (life now : ℕ) (after : EndState) → Opens e life now after → after ≡ after_open e life now
opens-is e life now after (opened c l) = refl

pub is-opened : (e : EndState) (life now : ℕ) (after : EndState) → e.phase ≡ Closed → e.last_life < life → after ≡ after_open e life now → Opens e life now after
is-opened e life now after c l q = subst (Opens e life now) (sym q) (opened c l)

ticks-only : (s : Settings) (e : EndState) (now : ℕ) {after : EndState} → Ticks s e now after → after_tick s e now ≡ after
unfolding after_tick
ticks-only s e now (tick_unbound n) = go e.phase refl
  where
    go : (phase : Phase) → e.phase ≡ phase → after_tick_in s e now phase ≡ e
    go Closed j = refl
    go (Unbound own) j = refl
    go (Bound life) j = absurd (n life j)
ticks-only s e now (tick_heard life b n) = ap (after_tick_in s e now) b ∙ rw (not-told (is_silent s e now) (IsSilent s e now) (told_silent s e now) n) refl
ticks-only s e now (tick_silent life b t) = ap (after_tick_in s e now) b ∙ rw ((told_silent s e now).1 t) refl

ticks-some : (s : Settings) (e : EndState) (now : ℕ) → (after : EndState) × Ticks s e now after
ticks-some s e now = go e.phase refl
  where
    at : (life : Life) → e.phase ≡ Bound life → (is_silent s e now ≡ true) ⊎ (is_silent s e now ≡ false) → (after : EndState) × Ticks s e now after
    at life j (inl t) = (_, tick_silent life j ((told_silent s e now).0 t))
    at life j (inr f) = (_, tick_heard life j (told-not (is_silent s e now) (IsSilent s e now) (told_silent s e now) f))

    go : (phase : Phase) → e.phase ≡ phase → (after : EndState) × Ticks s e now after
    go Closed j = (_, tick_unbound (λ life q. let p : Closed ≡ Bound life = sym j ∙ q in cc))
    go (Unbound own) j = (_, tick_unbound (λ life q. let p : Unbound own ≡ Bound life = sym j ∙ q in cc))
    go (Bound life) j = at life j (cases_Bool (is_silent s e now))

pub ticks-is : (s : Settings) (e : EndState) (now : ℕ) (after : EndState) → Ticks s e now after → after ≡ after_tick s e now
ticks-is s e now after row = sym (ticks-only s e now row)

pub is-ticked : (s : Settings) (e : EndState) (now : ℕ) (after : EndState) → after ≡ after_tick s e now → Ticks s e now after
is-ticked s e now after q = let row = ticks-some s e now in from_state (Ticks s e now) (after_tick s e now) row.0 (ticks-only s e now row.1) row.1 after q

submits-only : (e : EndState) (life : Life) (packet : Packet) {answer : Result (Unit {0}) SubmitError} {after : EndState} → Submits e life packet answer after → on_submit e life packet ≡ (answer, after)
unfolding on_submit
submits-only e life packet (of_another_life n) = let p = submit-other e life packet n in pair p.0 p.1
submits-only e life packet (numbers_are_spent b l) = ap (on_submit_in e life packet) b ∙ rw (is_same_life-refl life, le-leb GREATEST_NUMBER (submitted e) l) refl
submits-only e life packet (queue_is_full b l m) =
    ap (on_submit_in e life packet) b ∙ rw (is_same_life-refl life, lt-leb GREATEST_NUMBER (submitted e) l, le-leb QUEUE_PLACES (length e.queue) m) refl
submits-only e life packet (packet_waits b l m) =
    ap (on_submit_in e life packet) b ∙ rw (is_same_life-refl life, lt-leb GREATEST_NUMBER (submitted e) l, lt-leb QUEUE_PLACES (length e.queue) m) refl

submits-some : (e : EndState) (life : Life) (packet : Packet) → (answer : Result (Unit {0}) SubmitError) × (after : EndState) × Submits e life packet answer after
submits-some e life packet = at (bound_or_not e.phase life) (cases_lt (submitted e) GREATEST_NUMBER) (cases_lt (length e.queue) QUEUE_PLACES)
  where
    at : (e.phase ≡ Bound life) ⊎ (e.phase ≢ Bound life) → (submitted e < GREATEST_NUMBER) ⊎ (GREATEST_NUMBER ≤ submitted e) → (length e.queue < QUEUE_PLACES) ⊎ (QUEUE_PLACES ≤ length e.queue) →
        (answer : Result (Unit {0}) SubmitError) × (after : EndState) × Submits e life packet answer after
    at (inr n) o p = (_, _, of_another_life n)
    at (inl b) (inr l) p = (_, _, numbers_are_spent b l)
    at (inl b) (inl l) (inr m) = (_, _, queue_is_full b l m)
    at (inl b) (inl l) (inl m) = (_, _, packet_waits b l m)

pub submits-is : (e : EndState) (life : Life) (packet : Packet) (answer : Result (Unit {0}) SubmitError) (after : EndState) → Submits e life packet answer after →
    (answer ≡ (on_submit e life packet).0) × (after ≡ (on_submit e life packet).1)
submits-is e life packet answer after row = parts_of (on_submit e life packet) answer after (submits-only e life packet row)

pub is-submitted : (e : EndState) (life : Life) (packet : Packet) (answer : Result (Unit {0}) SubmitError) (after : EndState) → (answer ≡ (on_submit e life packet).0) × (after ≡ (on_submit e life packet).1) →
    Submits e life packet answer after
is-submitted e life packet answer after q =
    let row = submits-some e life packet in from_row (Submits e life packet) (on_submit e life packet) row.0 row.1 (submits-only e life packet row.2) row.2 answer after q

pub cuts-is : (e : EndState) (life : Life) (after : EndState) → Cuts e life after → after ≡ after_cut e life
cuts-is e life after (cut_another_life n) = sym (cut-other e life n)
cuts-is e life after (cut_bound_life b) = sym (cut-own e life b)

pub is-cut : (e : EndState) (life : Life) (after : EndState) → after ≡ after_cut e life → Cuts e life after
is-cut e life after q = at (bound_or_not e.phase life)
  where
    at : (e.phase ≡ Bound life) ⊎ (e.phase ≢ Bound life) → Cuts e life after
    at (inl b) = from_state (Cuts e life) (after_cut e life) _ (cut-own e life b) (cut_bound_life b) after q
    at (inr n) = from_state (Cuts e life) (after_cut e life) _ (cut-other e life n) (cut_another_life n) after q

-- ---- events

gives-only : (e : EndState) {event : Option LinkEvent} {after : EndState} → Gives e event after → (event ≡ first_event e) × (after ≡ after_poll_event e)
gives-only e (no_event_waits q) =
    (sym (ap (λ (x : List LinkEvent). slice_get x 0) q), ap (λ (x : List LinkEvent). record e { events = x }) (q ∙ sym (ap (drop 1) q)))
gives-only e (oldest_event q) =
    (sym (ap (λ (x : List LinkEvent). slice_get x 0) q), ap (λ (x : List LinkEvent). record e { events = x }) (sym (ap (drop 1) q)))

gives-some : (e : EndState) → (event : Option LinkEvent) × (after : EndState) × Gives e event after
gives-some e = at e.events refl
  where
    at : (events : List LinkEvent) → e.events ≡ events → (event : Option LinkEvent) × (after : EndState) × Gives e event after
    at [] q = (_, _, no_event_waits q)
    at (event ∷ events) q = (_, _, oldest_event q)

pub gives-is : (e : EndState) (event : Option LinkEvent) (after : EndState) → Gives e event after → (event ≡ first_event e) × (after ≡ after_poll_event e)
gives-is e event after row = gives-only e row

pub is-given : (e : EndState) (event : Option LinkEvent) (after : EndState) → (event ≡ first_event e) × (after ≡ after_poll_event e) → Gives e event after
is-given e event after q =
    let row = gives-some e in
    let p = gives-only e row.2 in
    from_row (Gives e) (first_event e, after_poll_event e) row.0 row.1 (pair (sym p.0) (sym p.1)) row.2 event after q

-- ---- packets that are due

module _ (times : Times) (now : ℕ) where
  ready : (q : QueuedPacket) → IsDue times now q → is_ready times now q ≡ true
  ready q d = (told_due times now q).1 d

  late : (q : QueuedPacket) → IsNotDue times now q → is_ready times now q ≡ false
  late q n = not-told (is_ready times now q) (IsDue times now q) (told_due times now q) n

  -- the run has as many packets as wanted, or the next packet is not due
  abbrev Stops : ℕ → ℕ → List QueuedPacket → Type 0
  Stops wanted many behind = (many ≡ wanted) ⊎ ((q : QueuedPacket) → slice_get behind 0 ≡ Some q → IsNotDue times now q)

  abbrev transmitted_run : List QueuedPacket → List QueuedPacket → ReadyRun
  transmitted_run due behind = record { packets = packets_in due; queue = map (λ q. retried q now) due ++ behind }

  run-is : (due behind : List QueuedPacket) (wanted : ℕ) → AllByRecursion (IsDue times now) due → length due ≤ wanted → Stops wanted (length due) behind →
      ready_run times now wanted (due ++ behind) ≡ transmitted_run due behind
  unfolding ready_run
  run-is [] behind zero d l stop = refl
  run-is [] behind (suc wanted) d l (inl q) = absurd (omega (arith, q))
  run-is [] [] (suc wanted) d l (inr n) = refl
  run-is [] (q ∷ behind) (suc wanted) d l (inr n) = rw (late q (n q refl)) refl
  run-is (q ∷ due) behind zero d l stop = absurd (omega (arith, l))
  run-is (q ∷ due) behind (suc wanted) d l stop =
      rw (ready q d.0) (ap (with_ready q now) (run-is due behind wanted d.1 (omega (arith, l)) (less stop)))
    where
      less : Stops (suc wanted) (suc (length due)) behind → Stops wanted (length due) behind
      less (inl q) = inl (omega (arith, q))
      less (inr n) = inr n

  record SomeRun (wanted : ℕ) (queue : List QueuedPacket) : Type 0 where
    due : List QueuedPacket
    behind : List QueuedPacket
    queue_is : queue ≡ due ++ behind
    are : AllByRecursion (IsDue times now) due
    at_most : length due ≤ wanted
    stops : Stops wanted (length due) behind

  run-some : (wanted : ℕ) (queue : List QueuedPacket) → SomeRun wanted queue
  run-some zero queue = record { due = []; behind = queue; queue_is = refl; are = tt; at_most = omega arith; stops = inl refl }
  run-some (suc wanted) [] = record { due = []; behind = []; queue_is = refl; are = tt; at_most = omega arith; stops = inr (λ q e. absurd cc) }
  run-some (suc wanted) (q ∷ queue) = at (run-some wanted queue) (cases_Bool (is_ready times now q))
    where
      more : (many : ℕ) (behind : List QueuedPacket) → Stops wanted many behind → Stops (suc wanted) (suc many) behind
      more many behind (inl e) = inl (ap suc e)
      more many behind (inr n) = inr n

      at : SomeRun wanted queue → (is_ready times now q ≡ true) ⊎ (is_ready times now q ≡ false) → SomeRun (suc wanted) (q ∷ queue)
      at r (inl t) = record {
        due = q ∷ r.due;
        behind = r.behind;
        queue_is = ap (λ x. q ∷ x) r.queue_is;
        are = ((told_due times now q).0 t, r.are);
        at_most = let l = r.at_most in omega (arith, l);
        stops = more (length r.due) r.behind r.stops;
      }
      at r (inr f) = record {
        due = [];
        behind = q ∷ queue;
        queue_is = refl;
        are = tt;
        at_most = omega arith;
        stops = inr (λ x e. let same : q ≡ x = cc in subst (IsNotDue times now) same (told-not (is_ready times now q) (IsDue times now q) (told_due times now q) f));
      }

  module _ (most : ℕ) where
    -- one more packet at the front, and one more place in the window
    all-behind : {window many reached : ℕ} {behind : List QueuedPacket} → AreAll times now most window many reached behind → AreAll times now most (suc window) many (suc reached) behind
    all-behind (frame_is_full e) = frame_is_full e
    all-behind (window_ends e) = window_ends (ap suc e)
    all-behind (next_is_not_due n) = next_is_not_due n

    all-before : {window many reached : ℕ} {behind : List QueuedPacket} → AreAll times now most (suc window) many (suc reached) behind → AreAll times now most window many reached behind
    all-before (frame_is_full e) = frame_is_full e
    all-before (window_ends e) = window_ends (omega (arith, e))
    all-before (next_is_not_due n) = next_is_not_due n

    all-stops : {window many : ℕ} {behind : List QueuedPacket} → many ≤ most → many ≤ window → AreAll times now most window many many behind → Stops (min most window) many behind
    all-stops l m (frame_is_full e) = inl (omega (arith, e, m))
    all-stops l m (window_ends e) = inl (omega (arith, e, l))
    all-stops l m (next_is_not_due n) = inr n

    stops-all : {window many : ℕ} {behind : List QueuedPacket} → Stops (min most window) many behind → AreAll times now most window many many behind
    stops-all {window} {many} {behind} (inl e) = at (cases_lt window most)
      where
        at : (window < most) ⊎ (most ≤ window) → AreAll times now most window many many behind
        at (inl l) = window_ends (omega (arith, e, l))
        at (inr l) = frame_is_full (omega (arith, e, l))
    stops-all (inr n) = next_is_not_due n

    abbrev batch_at : ℕ → List QueuedPacket → List QueuedPacket → List QueuedPacket → DueBatch
    batch_at number before due behind = record { number = number; packets = packets_in due; queue = before ++ map (λ q. retried q now) due ++ behind }

    first-is : (window number : ℕ) (before due behind : List QueuedPacket) → AllByRecursion (IsNotDue times now) before → AllByRecursion (IsDue times now) due → 0 < length due →
        length before + length due ≤ window → length due ≤ most → AreAll times now most window (length due) (length before + length due) behind →
        first_due times now most number window (before ++ due ++ behind) ≡ Some (batch_at (number + length before) before due behind)
    unfolding first_due
    first-is zero number before due behind n d some l m all = absurd (omega (arith, l, some))
    first-is (suc window) number [] [] behind n d some l m all = absurd (omega (arith, some))
    first-is (suc window) number [] (q ∷ due) behind n d some l m all =
        let none : 0 + length (q ∷ due) ≡ length (q ∷ due) = omega arith in
        let here : number ≡ number + 0 = omega arith in
        let within : length (q ∷ due) ≤ suc window = omega (arith, l) in
        let all_of = subst (λ k. AreAll times now most (suc window) (length (q ∷ due)) k behind) none all in
        let run = run-is (q ∷ due) behind (min most (suc window)) d (omega (arith, within, m)) (all-stops m within all_of) in
        rw (ready q d.0) (λ i. Some (record { number = here i; packets = (run i).packets; queue = (run i).queue }))
    first-is (suc window) number (b ∷ before) due behind n d some l m all =
        let one : suc (length before) + length due ≡ suc (length before + length due) = omega arith in
        let all_of = all-before (subst (λ k. AreAll times now most (suc window) (length due) k behind) one all) in
        let next : suc number + length before ≡ number + suc (length before) = omega arith in
        rw (late b n.0)
        (ap (due_behind b) (first-is window (suc number) before due behind n.1 d some (omega (arith, l)) m all_of)
        ∙ ap (λ k. Some (batch_at k (b ∷ before) due behind)) next)

    none-is : (window number : ℕ) (queue : List QueuedPacket) → NoneIsDue times now window queue → first_due times now most number window queue ≡ None
    unfolding first_due
    none-is zero number queue n = refl
    none-is (suc window) number [] n = refl
    none-is (suc window) number (q ∷ queue) n = rw (late q n.0) (ap (due_behind q) (none-is window (suc number) queue n.1))

    abbrev SomeDue : ℕ → List QueuedPacket → Type 0
    SomeDue window queue = (before due behind : List QueuedPacket) × AreDue times now most window queue before due behind

    due-some : (window : ℕ) (queue : List QueuedPacket) → 0 < most → NoneIsDue times now window queue ⊎ SomeDue window queue
    due-some zero queue some = inl tt
    due-some (suc window) [] some = inl tt
    due-some (suc window) (q ∷ queue) some = at (due-some window queue some) (cases_Bool (is_ready times now q))
      where
        at : NoneIsDue times now window queue ⊎ SomeDue window queue → (is_ready times now q ≡ true) ⊎ (is_ready times now q ≡ false) → NoneIsDue times now (suc window) (q ∷ queue) ⊎ SomeDue (suc window) (q ∷ queue)
        at rest (inl t) = inr ([], q ∷ r.due, r.behind, first)
          where
            r : SomeRun (min most (suc window) - 1) queue
            r = run-some (min most (suc window) - 1) queue

            stop : Stops (min most (suc window) - 1) (length r.due) r.behind → Stops (min most (suc window)) (suc (length r.due)) r.behind
            stop (inl e) = inl (omega (arith, e, some))
            stop (inr n) = inr n

            first : AreDue times now most (suc window) (q ∷ queue) [] (q ∷ r.due) r.behind
            first =
                let l = r.at_most in
                let none : suc (length r.due) ≡ 0 + suc (length r.due) = omega arith in
                record {
                  queue_is = ap (λ x. q ∷ x) r.queue_is;
                  before_are_not = tt;
                  are = ((told_due times now q).0 t, r.are);
                  some = omega arith;
                  within = omega (arith, l, some);
                  at_most = omega (arith, l, some);
                  all = subst (λ k. AreAll times now most (suc window) (suc (length r.due)) k r.behind) none (stops-all (stop r.stops));
                }
        at (inl none) (inr f) = inl (told-not (is_ready times now q) (IsDue times now q) (told_due times now q) f, none)
        at (inr due) (inr f) = inr (
          q ∷ due.0,
          due.1,
          due.2,
          record {
            queue_is = ap (λ x. q ∷ x) due.3.queue_is;
            before_are_not = (told-not (is_ready times now q) (IsDue times now q) (told_due times now q) f, due.3.before_are_not);
            are = due.3.are;
            some = due.3.some;
            within = let l = due.3.within in omega (arith, l);
            at_most = due.3.at_most;
            all = let one : suc (length due.0 + length due.1) ≡ suc (length due.0) + length due.1 = omega arith in subst (λ k. AreAll times now most (suc window) (length due.1) k due.2) one (all-behind due.3.all);
          },
        )

-- ---- frames that are due

speaks-version : {e : EndState} {version : Version} {most : ℕ} → Speaks e version most → data_version e ≡ version
speaks-version (one_packet f) = rw f refl
speaks-version (sixteen_packets t) = rw t refl

speaks-most : {e : EndState} {version : Version} {most : ℕ} → Speaks e version most → most_packets version ≡ most
speaks-most (one_packet f) = refl
speaks-most (sixteen_packets t) = refl

speaks-some : (e : EndState) → (version : Version) × (most : ℕ) × Speaks e version most × (0 < most)
speaks-some e = at (cases_Bool e.speaks_two)
  where
    at : (e.speaks_two ≡ true) ⊎ (e.speaks_two ≡ false) → (version : Version) × (most : ℕ) × Speaks e version most × (0 < most)
    at (inl t) = (_, _, sixteen_packets t, omega arith)
    at (inr f) = (_, _, one_packet f, omega arith)

module _ (s : Settings) (e : EndState) (now : ℕ) where
  no_old : ¬ IsOldHelloDue e → is_old_hello_due e ≡ false
  no_old n = not-told (is_old_hello_due e) (IsOldHelloDue e) (told_old e) n

  no_hello : ¬ IsHelloDue s e now → is_hello_due s e now ≡ false
  no_hello n = not-told (is_hello_due s e now) (IsHelloDue s e now) (told_hello s e now) n

  -- no HELLO is due at a bound end
  behind_hello : (life : Life) → ¬ IsOldHelloDue e → ¬ IsHelloDue s e now → on_transmit_in s e now (Bound life) ≡ on_transmit_due s e life (due_of s e now)
  unfolding on_transmit_in
  behind_hello life n m = rw (no_old n, no_hello m) refl

  due-is : {version : Version} {most : ℕ} → Speaks e version most → due_of s e now ≡ first_due s.times now most (suc e.acknowledged) s.window e.queue
  due-is c = ap (λ n. first_due s.times now n (suc e.acknowledged) s.window e.queue) (ap most_packets (speaks-version c) ∙ speaks-most c)

  data-is : (life : Life) (version : Version) (before due behind : List QueuedPacket) → data_version e ≡ version →
      on_transmit_due s e life (Some (batch_at s.times now 0 (suc e.acknowledged + length before) before due behind))
      ≡ (
        Some (frame_sent s version life.own life.peer (Data (suc (e.acknowledged + length before)) e.accepted (batch (packets_in due)))),
        record e { queue = before ++ map (λ q. retried q now) due ++ behind; transmitted = max e.transmitted (e.acknowledged + (length before + length due)); owes_ack = false },
      )
  data-is life version before due behind v =
      let number : suc e.acknowledged + length before ≡ suc (e.acknowledged + length before) = omega arith in
      let many : length (packets_in due) ≡ length due = length-map due packet_in in
      let last : suc e.acknowledged + length before + length (packets_in due) - 1 ≡ e.acknowledged + (length before + length due) = omega (arith, many) in
      λ i. (
        Some (frame_sent s (v i) life.own life.peer (Data (number i) e.accepted (batch (packets_in due)))),
        record e { queue = before ++ map (λ q. retried q now) due ++ behind; transmitted = max e.transmitted (last i); owes_ack = false },
      )

  tells_in-only : {phase : Phase} {frame : Option FrameParts} {after : EndState} → TellsIn s e now phase frame after → on_transmit_in s e now phase ≡ (frame, after)
  unfolding on_transmit_in
  tells_in-only closed_tells_nothing = refl
  tells_in-only (old_hello_is_due of_unbound d) = rw ((told_old e).1 d) refl
  tells_in-only (old_hello_is_due of_bound d) = rw ((told_old e).1 d) refl
  tells_in-only (hello_is_due of_unbound n d) = rw (no_old n, (told_hello s e now).1 d) refl
  tells_in-only (hello_is_due of_bound n d) = rw (no_old n, (told_hello s e now).1 d) refl
  tells_in-only (unbound_tells_nothing n m) = rw (no_old n, no_hello m) refl
  tells_in-only (data_is_due {life} {version} {most} {before} {due} {behind} n m c d) =
      behind_hello life n m
      ∙ ap (on_transmit_due s e life)
      (due-is c ∙ ap (first_due s.times now most (suc e.acknowledged) s.window) d.queue_is
      ∙ first-is s.times now most s.window (suc e.acknowledged) before due behind d.before_are_not d.are d.some d.within d.at_most d.all)
      ∙ data-is life version before due behind (speaks-version c)
  tells_in-only (ack_is_due {life} n m none owes c) =
      behind_hello life n m ∙ ap (on_transmit_due s e life) (due-is c ∙ none-is s.times now _ s.window (suc e.acknowledged) e.queue none)
      ∙ rw (owes, speaks-version c) refl
  tells_in-only (bound_tells_nothing {life} n m none owes) =
      let c = speaks-some e in
      behind_hello life n m ∙ ap (on_transmit_due s e life) (due-is c.2 ∙ none-is s.times now _ s.window (suc e.acknowledged) e.queue none) ∙ rw owes refl

  abbrev HasRow : Phase → Type 0
  HasRow phase = (frame : Option FrameParts) × (after : EndState) × TellsIn s e now phase frame after

  abbrev YesOrNo : Bool → Type 0
  YesOrNo b = (b ≡ true) ⊎ (b ≡ false)

  is_no_old : is_old_hello_due e ≡ false → ¬ IsOldHelloDue e
  is_no_old f = told-not (is_old_hello_due e) (IsOldHelloDue e) (told_old e) f

  is_no_hello : is_hello_due s e now ≡ false → ¬ IsHelloDue s e now
  is_no_hello f = told-not (is_hello_due s e now) (IsHelloDue s e now) (told_hello s e now) f

  unbound-tells : (own : ℕ) → YesOrNo (is_old_hello_due e) → YesOrNo (is_hello_due s e now) → HasRow (Unbound own)
  unbound-tells own (inl t) o = (_, _, old_hello_is_due of_unbound ((told_old e).0 t))
  unbound-tells own (inr f) (inl t) = (_, _, hello_is_due of_unbound (is_no_old f) ((told_hello s e now).0 t))
  unbound-tells own (inr f) (inr g) = (_, _, unbound_tells_nothing (is_no_old f) (is_no_hello g))

  bound-tells : (life : Life) → YesOrNo (is_old_hello_due e) → YesOrNo (is_hello_due s e now) → HasRow (Bound life)
  bound-tells life (inl t) o = (_, _, old_hello_is_due of_bound ((told_old e).0 t))
  bound-tells life (inr f) (inl t) = (_, _, hello_is_due of_bound (is_no_old f) ((told_hello s e now).0 t))
  bound-tells life (inr f) (inr g) = at (due-some s.times now c.1 s.window e.queue c.3) (cases_Bool e.owes_ack)
    where
      c : (version : Version) × (most : ℕ) × Speaks e version most × (0 < most)
      c = speaks-some e

      at : NoneIsDue s.times now s.window e.queue ⊎ SomeDue s.times now c.1 s.window e.queue → YesOrNo e.owes_ack → HasRow (Bound life)
      at (inr d) o = (_, _, data_is_due (is_no_old f) (is_no_hello g) c.2 d.3)
      at (inl none) (inl t) = (_, _, ack_is_due (is_no_old f) (is_no_hello g) none t c.2)
      at (inl none) (inr u) = (_, _, bound_tells_nothing (is_no_old f) (is_no_hello g) none u)

  tells_in-some : (phase : Phase) → HasRow phase
  tells_in-some Closed = (_, _, closed_tells_nothing)
  tells_in-some (Unbound own) = unbound-tells own (cases_Bool (is_old_hello_due e)) (cases_Bool (is_hello_due s e now))
  tells_in-some (Bound life) = bound-tells life (cases_Bool (is_old_hello_due e)) (cases_Bool (is_hello_due s e now))

  tells-only : {frame : Option FrameParts} {after : EndState} → Tells s e now frame after → on_transmit s e now ≡ (frame, after)
  unfolding on_transmit
  tells-only row = tells_in-only row

  pub tells-is : (frame : Option FrameParts) (after : EndState) → Tells s e now frame after → (frame ≡ (on_transmit s e now).0) × (after ≡ (on_transmit s e now).1)
  tells-is frame after row = parts_of (on_transmit s e now) frame after (tells-only row)

  pub is-told : (frame : Option FrameParts) (after : EndState) → (frame ≡ (on_transmit s e now).0) × (after ≡ (on_transmit s e now).1) → Tells s e now frame after
  is-told frame after q = let row = tells_in-some e.phase in from_row (Tells s e now) (on_transmit s e now) row.0 row.1 (tells-only row.2) row.2 frame after q
