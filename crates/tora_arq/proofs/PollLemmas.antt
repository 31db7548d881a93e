-- Each frame that a poll returns leaves fewer frames due at that tick.
use Rattle.std.proofs.Common.{◌≡◌, ℕ, zero, suc, ◌+◌, ◌-◌, ◌<◌, ◌≤◌, min, ◌&&◌, not, Bool, true, false, List, [], ◌∷◌, ◌++◌, length, Option, Some, None, ◌==◌, if◌then◌else◌, refl, ap, ◌∙◌, subst, arith}
use Rattle.std.proofs.lemmas.Bool.{cond_both, or_from, and_right, lt-leb}
use Rattle.std.proofs.lemmas.Bool.Decides.{nat_tests}
use Rattle.std.proofs.lemmas.Option.{same_Some}
use Rattle.tora_frame.specs.declared.parts.Version.{Version}
use Rattle.tora_frame.specs.declared.parts.Version.TheVariants.{One, Two}
use Rattle.tora_frame.specs.FrameParts.{FrameParts}
use Rattle.tora_arq.specs.declared.life.Life.{Life}
use Rattle.tora_arq.specs.declared.times.Times.{Times}
use Rattle.tora_arq.specs.declared.phase.Phase.{Phase}
use Rattle.tora_arq.specs.declared.phase.Phase.TheVariants.{Closed, Unbound, Bound}
use Rattle.tora_arq.specs.declared.queued_packet.QueuedPacket.{QueuedPacket}
use Rattle.tora_arq.specs.Settings.{Settings, IsTimes}
use Rattle.tora_arq.specs.SendQueue.{retried, is_ready, ReadyRun, ready_run, DueBatch, due_batch, due_behind, first_due}
use Rattle.tora_arq.specs.LinkEnd.{EndState, is_two, data_version, most_packets, is_hello_due, is_old_hello_due, after_hello, on_hello, due_of, on_transmit_due, on_transmit_in, on_transmit, frame_due, after_transmit}
use Rattle.tora_arq.specs.LinkFacts.{list_of}
use Rattle.tora_arq.specs.Polls.{after_polls, frames_polled}
use Rattle.tora_arq.proofs.FactCalls.{transmit-idle}

abbrev one_where : Bool → ℕ
one_where b = if b then 1 else 0

one_where_most : (b : Bool) → one_where b ≤ 1
one_where_most true = omega arith
one_where_most false = omega arith

-- how many packets within the window are due
abbrev count_ready : Times → ℕ → ℕ → List QueuedPacket → ℕ
count_ready times now zero queue = 0
count_ready times now (suc window) [] = 0
count_ready times now (suc window) (q ∷ queue) = one_where (is_ready times now q) + count_ready times now window queue

count_ready_most : (times : Times) (now window : ℕ) (queue : List QueuedPacket) → count_ready times now window queue ≤ window
count_ready_most times now zero queue = omega arith
count_ready_most times now (suc window) [] = omega arith
count_ready_most times now (suc window) (q ∷ queue) = omega (arith, one_where_most (is_ready times now q), count_ready_most times now window queue)

-- a packet that is transmitted now is not due again now
pub not_again : (times : Times) (now : ℕ) (q : QueuedPacket) → 0 < times.retry → is_ready times now (retried q now) ≡ false
not_again times now q h =
    let tried : (suc q.tries == 0) ≡ false = grind (arith, nat_tests) in
    or_from _ _ tried (and_right _ _ (lt-leb times.retry (now - now) (omega (arith, h))))

-- transmitting packets leaves at most as many due as before
run_counts : (times : Times) (now window most : ℕ) (queue : List QueuedPacket) → 0 < times.retry → count_ready times now window (ready_run times now most queue).queue ≤ count_ready times now window queue
unfolding ready_run
run_counts times now window zero queue h = omega arith
run_counts times now window (suc most) [] h = omega arith
run_counts times now zero (suc most) (q ∷ queue) h = omega arith
run_counts times now (suc window) (suc most) (q ∷ queue) h =
    cond_both (is_ready times now q) _ _ (λ (r : ReadyRun). count_ready times now (suc window) r.queue ≤ count_ready times now (suc window) (q ∷ queue))
    (λ _. rw (not_again times now q h) (omega (arith, run_counts times now window most queue h))) (λ _. omega arith)

-- if the first one was due, it leaves fewer
run_counts_one : (times : Times) (now window most : ℕ) (q : QueuedPacket) (queue : List QueuedPacket) → 0 < times.retry → 0 < most → is_ready times now q ≡ true →
    suc (count_ready times now (suc window) (ready_run times now most (q ∷ queue)).queue) ≤ count_ready times now (suc window) (q ∷ queue)
unfolding ready_run
run_counts_one times now window zero q queue h m ready = absurd (omega arith)
run_counts_one times now window (suc most) q queue h m ready =
    rw (ready, not_again times now q h) (omega (arith, run_counts times now window most queue h))

due_counts : (times : Times) (now most number window : ℕ) (queue : List QueuedPacket) (due : DueBatch) → 0 < times.retry → 0 < most → first_due times now most number window queue ≡ Some due →
    suc (count_ready times now window due.queue) ≤ count_ready times now window queue
unfolding first_due
due_counts times now most number zero queue due h m = λ e. absurd (cc)
due_counts times now most number (suc window) [] due h m = λ e. absurd (cc)
due_counts times now most number (suc window) (q ∷ queue) due h m =
    cond_both (is_ready times now q) _ _ (λ (o : Option DueBatch). o ≡ Some due → suc (count_ready times now (suc window) due.queue) ≤ count_ready times now (suc window) (q ∷ queue))
    (λ ready e.
    let run = ready_run times now (min most (suc window)) (q ∷ queue) in
    let y : due_batch number run ≡ due = same_Some (due_batch number run) due e in
    subst (λ (d : DueBatch). suc (count_ready times now (suc window) d.queue) ≤ count_ready times now (suc window) (q ∷ queue)) y
    (run_counts_one times now window (min most (suc window)) q queue h (omega (arith, m)) ready))
    (λ late. go (first_due times now most (suc number) window queue) (λ d. due_counts times now most (suc number) window queue d h m))
  where
    go : (o : Option DueBatch) → ((d : DueBatch) → o ≡ Some d → suc (count_ready times now window d.queue) ≤ count_ready times now window queue) → due_behind q o ≡ Some due →
        suc (count_ready times now (suc window) due.queue) ≤ count_ready times now (suc window) (q ∷ queue)
    go None k e = absurd (cc)
    go (Some r) k e =
        let y : record r { queue = q ∷ r.queue } ≡ due = cc in
        subst (λ (d : DueBatch). suc (count_ready times now (suc window) d.queue) ≤ count_ready times now (suc window) (q ∷ queue)) y (omega (arith, k r refl))

-- whether a HELLO of version 1 will be due after one of the newest version
abbrev is_old_next : Settings → EndState → Bool
is_old_next s e = is_two s.version && not e.speaks_two

-- how many HELLOs are due
abbrev count_hellos : Settings → ℕ → EndState → ℕ
count_hellos s now e = one_where (is_old_hello_due e) + (if is_hello_due s e now then suc (one_where (is_old_next s e)) else 0)

count_hellos_most : (s : Settings) (now : ℕ) (e : EndState) → count_hellos s now e ≤ 3
count_hellos_most s now e =
    cond_both (is_hello_due s e now) _ _ (λ n. one_where (is_old_hello_due e) + n ≤ 3) (λ _. omega (arith, one_where_most (is_old_next s e), one_where_most (is_old_hello_due e))) (λ _. omega (arith, one_where_most (is_old_hello_due e)))

-- at most this many frames are due
abbrev count_due : Settings → ℕ → EndState → ℕ
count_due s now e = count_hellos s now e + count_ready s.times now s.window e.queue + one_where e.owes_ack

count_due_most : (s : Settings) (now : ℕ) (e : EndState) → count_due s now e ≤ s.window + 4
count_due_most s now e = omega (arith, count_hellos_most s now e, count_ready_most s.times now s.window e.queue, one_where_most e.owes_ack)

some_packets : (version : Version) → 0 < most_packets version
some_packets One = omega arith
some_packets Two = omega arith

-- a frame that is returned leaves fewer due
abbrev Counts : Settings → ℕ → EndState → Option FrameParts × EndState → Type 0
Counts s now e r = (f : FrameParts) → r.0 ≡ Some f → suc (count_due s now r.1) ≤ count_due s now e

transmit_counts : (s : Settings) (now : ℕ) (e : EndState) → IsTimes s.times → Counts s now e (on_transmit s e now)
unfolding on_transmit on_transmit_in
transmit_counts s now e t = go e.phase
  where
    no_hello : is_hello_due s (after_hello s e now) now ≡ false
    no_hello = or_from _ _ refl (lt-leb s.times.hello (now - now) (omega (arith, t.hello)))

    hello : (own heard : ℕ) (other : Option FrameParts × EndState) → Counts s now e other → Counts s now e (on_hello s e own heard now other)
    hello own heard other k =
        cond_both (is_old_hello_due e) _ _ (Counts s now e) (λ due f q. rw due omega arith) (λ none.
        cond_both (is_hello_due s e now) _ _ (Counts s now e) (λ due f q. rw (no_hello, none, due) omega arith) (λ _. k))

    go_due : (life : Life) (o : Option DueBatch) → ((d : DueBatch) → o ≡ Some d → suc (count_ready s.times now s.window d.queue) ≤ count_ready s.times now s.window e.queue) → Counts s now e (on_transmit_due s e life o)
    go_due life None k = cond_both e.owes_ack _ _ (Counts s now e) (λ owes f q. rw owes omega arith) (λ _ f q. absurd (cc))
    go_due life (Some due) k = λ f q. omega (arith, k due refl)

    go : (ph : Phase) → Counts s now e (on_transmit_in s e now ph)
    go Closed = λ f q. absurd (cc)
    go (Unbound own) = hello own e.heard (None, e) (λ f q. absurd (cc))
    go (Bound life) =
        hello life.own life.peer (on_transmit_due s e life (due_of s e now))
        (go_due life (due_of s e now) (λ d q. due_counts s.times now (most_packets (data_version e)) (suc e.acknowledged) s.window e.queue d t.retry (some_packets (data_version e)) q))

module _ (s : Settings) (now : ℕ) (t : IsTimes s.times) where
  frames_count_step : (polls : ℕ) (e : EndState) → length (frames_polled s (after_transmit s e now) now polls) ≤ count_due s now (after_transmit s e now) →
      (o : Option FrameParts) → frame_due s e now ≡ o → length (list_of o ++ frames_polled s (after_transmit s e now) now polls) ≤ count_due s now e
  frames_count_step polls e rest None q = subst (λ x. length (frames_polled s (after_transmit s e now) now polls) ≤ count_due s now x) (transmit-idle s e now q) rest
  frames_count_step polls e rest (Some f) q = omega (arith, rest, transmit_counts s now e t f q)

  frames_count : (polls : ℕ) (e : EndState) → length (frames_polled s e now polls) ≤ count_due s now e
  frames_count zero e = omega arith
  frames_count (suc polls) e = frames_count_step polls e (frames_count polls (after_transmit s e now)) (frame_due s e now) refl

  pub most_frames : (e : EndState) (polls : ℕ) → length (frames_polled s e now polls) ≤ s.window + 4
  most_frames e polls = omega (arith, frames_count polls e, count_due_most s now e)

pub settled : (s : Settings) (e : EndState) (now polls : ℕ) → frame_due s e now ≡ None → after_polls s e now polls ≡ e
settled s e now zero q = refl
settled s e now (suc polls) q = ap (λ x. after_polls s x now polls) (transmit-idle s e now q) ∙ settled s e now polls q

module _ (s : Settings) (now : ℕ) (t : IsTimes s.times) where
  none_yet : (e : EndState) (o : Option FrameParts) → frame_due s e now ≡ o → count_due s now e ≤ 0 → o ≡ None
  none_yet e None q le = refl
  none_yet e (Some f) q le = absurd (omega (arith, le, transmit_counts s now e t f q))

  none_after_step : (polls : ℕ) (e : EndState) → (count_due s now (after_transmit s e now) ≤ polls → frame_due s (after_polls s (after_transmit s e now) now polls) now ≡ None) →
      (o : Option FrameParts) → frame_due s e now ≡ o → count_due s now e ≤ suc polls → frame_due s (after_polls s (after_transmit s e now) now polls) now ≡ None
  none_after_step polls e rest None q le = ap (λ x. frame_due s x now) (ap (λ x. after_polls s x now polls) (transmit-idle s e now q) ∙ settled s e now polls q) ∙ q
  none_after_step polls e rest (Some f) q le = rest (omega (arith, le, transmit_counts s now e t f q))

  none_after : (polls : ℕ) (e : EndState) → count_due s now e ≤ polls → frame_due s (after_polls s e now polls) now ≡ None
  none_after zero e le = none_yet e (frame_due s e now) refl le
  none_after (suc polls) e le = none_after_step polls e (none_after polls (after_transmit s e now)) (frame_due s e now) refl le

pub none_left : (s : Settings) (e : EndState) (now polls : ℕ) → IsTimes s.times → s.window + 4 ≤ polls → frame_due s (after_polls s e now polls) now ≡ None
none_left s e now polls t le = none_after s now t polls e (omega (arith, le, count_due_most s now e))
