-- The first due packet, and the first packet that is given up, by their places.
use Rattle.std.proofs.Common.{◌≡◌, ℕ, zero, suc, ◌+◌, ◌<◌, ◌≤◌, true, false, min, ◌-◌, List, [], ◌∷◌, ◌++◌, length, take, drop, Some, None, if◌then◌else◌, refl, sym, ap, ◌∙◌, arith, slice_get, slice_set, length-drop, append_assoc, append-nil}
use Rattle.std.proofs.lemmas.Bool.{cond_both}
use Rattle.std.proofs.lemmas.Bool.Decides.{nat_tests}
use Rattle.std.proofs.lemmas.List.{take-append-drop, drop-set-lt, take_more_set}
use Rattle.std.proofs.lemmas.Option.{slice_get_within}
use Rattle.tora_packet.specs.declared.Packet.{Packet}
use Rattle.tora_arq.specs.declared.times.Times.{Times}
use Rattle.tora_arq.specs.declared.queued_packet.QueuedPacket.{QueuedPacket}
use Rattle.tora_arq.specs.SendQueue.{retried, is_ready, is_given_up, has_given_up, ReadyRun, no_run, with_ready, ready_run, DueBatch, first_due, AreLate}
use Rattle.tora_arq.specs.EndRange.{AreUntried}

-- ---- given up

pub none_of_untried : (times : Times) (now : ℕ) (queue : List QueuedPacket) → 0 < times.tries → AreUntried queue → has_given_up times now queue ≡ false
none_of_untried times now [] h u = refl
none_of_untried times now (q ∷ queue) h u =
    let tries : q.tries ≡ 0 = u.0 in
    let first : is_given_up times now q ≡ false = grind (arith, nat_tests) in
    rw (first, none_of_untried times now queue h u.1)

-- none of the first packets, up to a number, is given up
abbrev pub AreKept : Times → ℕ → ℕ → List QueuedPacket → Type 0
AreKept times now count queue = (k : ℕ) (q : QueuedPacket) → k < count → slice_get queue k ≡ Some q → is_given_up times now q ≡ false

pub given_up_at : (times : Times) (now place : ℕ) (q : QueuedPacket) (queue : List QueuedPacket) → slice_get queue place ≡ Some q → is_given_up times now q ≡ true → has_given_up times now queue ≡ true
given_up_at times now place q [] e t = absurd (cc)
given_up_at times now zero q (r ∷ queue) e t = let first : r ≡ q = cc in rw (first, t) refl
given_up_at times now (suc place) q (r ∷ queue) e t = rw (given_up_at times now place q queue e t) grind arith

pub none_given_up : (times : Times) (now window : ℕ) (queue : List QueuedPacket) → 0 < times.tries → AreUntried (drop window queue) → AreKept times now window queue → has_given_up times now queue ≡ false
none_given_up times now window [] h u k = refl
none_given_up times now zero (q ∷ queue) h u k = none_of_untried times now (q ∷ queue) h u
none_given_up times now (suc window) (q ∷ queue) h u k =
    let first : is_given_up times now q ≡ false = k 0 q (omega arith) refl in
    rw (first, none_given_up times now window queue h u (λ i r lt e. k (suc i) r (omega arith) e)) refl

pub none_given_up_here : (times : Times) (now window count : ℕ) (queue : List QueuedPacket) → 0 < times.tries → AreUntried (drop window queue) → AreKept times now count queue → min window (length queue) ≤ count → has_given_up times now queue ≡ false
none_given_up_here times now window count queue h u k le =
    none_given_up times now window queue h u (λ i q lt e. k i q (omega (arith, le, slice_get_within queue i q e)) e)

-- ---- due

pub none_due : (times : Times) (now most number window : ℕ) (queue : List QueuedPacket) → AreLate times now window queue → first_due times now most number window queue ≡ None
unfolding first_due
none_due times now most number zero queue h = refl
none_due times now most number (suc window) [] h = refl
none_due times now most number (suc window) (q ∷ queue) h =
    rw (h 0 q (omega arith) refl, none_due times now most (suc number) window queue (λ k r lt e. h (suc k) r (omega arith) e)) refl

-- the packets that are due from a place on
abbrev pub run_from : Times → ℕ → ℕ → ℕ → List QueuedPacket → ReadyRun
run_from times now most place queue = ready_run times now most (drop place queue)

-- the due packets from a place on, and the queue after they are transmitted
abbrev pub batch_from : Times → ℕ → ℕ → ℕ → ℕ → List QueuedPacket → DueBatch
batch_from times now most number place queue = record {
  number = number + place;
  packets = (run_from times now most place queue).packets;
  queue = take place queue ++ (run_from times now most place queue).queue;
}

pub due_at : (times : Times) (now most number window place : ℕ) (queue : List QueuedPacket) (q : QueuedPacket) → place < window → AreLate times now place queue → slice_get queue place ≡ Some q → is_ready times now q ≡ true →
    first_due times now most number window queue ≡ Some (batch_from times now (min most (window - place)) number place queue)
unfolding first_due
due_at times now most number zero place queue q w h e t = absurd (omega arith)
due_at times now most number (suc window) place [] q w h e t = absurd (cc)
due_at times now most number (suc window) zero (r ∷ queue) q w h e t =
    let first : r ≡ q = cc in
    let same : number + 0 ≡ number = omega arith in
    let whole : suc window - 0 ≡ suc window = omega arith in
    rw (first, t, same, whole) refl
due_at times now most number (suc window) (suc place) (r ∷ queue) q w h e t =
    let same : number + suc place ≡ suc number + place = omega arith in
    let left : suc window - suc place ≡ window - place = omega arith in
    rw (h 0 r (omega arith) refl, due_at times now most (suc number) window place queue q (omega arith) (λ k p lt i. h (suc k) p (omega arith) i) e t, same, left) refl

-- ---- packets that are due one after another

-- a run has at most as many packets as the queue
pub run_within : (times : Times) (now most : ℕ) (queue : List QueuedPacket) → ready_run times now most queue ≡ ready_run times now (min most (length queue)) queue
unfolding ready_run
run_within times now zero queue = let none : min 0 (length queue) ≡ 0 = omega arith in rw none refl
run_within times now (suc most) [] = let none : min (suc most) 0 ≡ 0 = omega arith in rw none refl
run_within times now (suc most) (q ∷ queue) =
    let one : min (suc most) (suc (length queue)) ≡ suc (min most (length queue)) = omega arith in
    rw one (ap (λ (r : ReadyRun). if is_ready times now q then with_ready q now r else no_run (q ∷ queue)) (run_within times now most queue))

-- if the first packet is due, the run has at least one packet, and at most as many as wanted
pub run_some : (times : Times) (now most : ℕ) (queue : List QueuedPacket) (q : QueuedPacket) → 0 < most → slice_get queue 0 ≡ Some q → is_ready times now q ≡ true → 0 < length (ready_run times now most queue).packets
unfolding ready_run
run_some times now zero queue q m e t = absurd (omega arith)
run_some times now (suc most) [] q m e t = absurd (cc)
run_some times now (suc most) (r ∷ queue) q m e t =
    let first : r ≡ q = cc in
    rw (first, t) (omega arith)

pub run_most : (times : Times) (now most : ℕ) (queue : List QueuedPacket) → length (ready_run times now most queue).packets ≤ min most (length queue)
unfolding ready_run
run_most times now zero queue = omega arith
run_most times now (suc most) [] = omega arith
run_most times now (suc most) (q ∷ queue) =
    cond_both (is_ready times now q) _ _ (λ (r : ReadyRun). length r.packets ≤ min (suc most) (suc (length queue))) (λ _. omega (arith, run_most times now most queue)) (λ _. omega arith)

-- the next packet is due
pub run_on : (times : Times) (now most : ℕ) (q : QueuedPacket) (queue : List QueuedPacket) → is_ready times now q ≡ true → ready_run times now (suc most) (q ∷ queue) ≡ with_ready q now (ready_run times now most queue)
unfolding ready_run
run_on times now most q queue t = rw t refl

-- the next packet is not due
pub run_stops : (times : Times) (now most : ℕ) (q : QueuedPacket) (queue : List QueuedPacket) → is_ready times now q ≡ false → ready_run times now most (q ∷ queue) ≡ no_run (q ∷ queue)
unfolding ready_run
run_stops times now zero q queue t = refl
run_stops times now (suc most) q queue t = rw t refl

pub run_none : (times : Times) (now : ℕ) (queue : List QueuedPacket) → ready_run times now 0 queue ≡ no_run queue
unfolding ready_run
run_none times now queue = refl

-- ---- the packets that are taken

-- at most up to the end of the window and of the queue
pub same_run : (times : Times) (now most window place end : ℕ) (queue : List QueuedPacket) → end ≡ min (min window (length queue)) (place + most) →
    run_from times now (min most (window - place)) place queue ≡ run_from times now (end - place) place queue
same_run times now most window place end queue h =
    let few : min (min most (window - place)) (length (drop place queue)) ≡ min (end - place) (length (drop place queue)) = omega (arith, h, length-drop place queue) in
    run_within times now (min most (window - place)) (drop place queue)
    ∙ ap (λ n. ready_run times now n (drop place queue)) few ∙ sym (run_within times now (end - place) (drop place queue))

first_of_rest : (place : ℕ) (queue : List QueuedPacket) → slice_get (drop place queue) 0 ≡ slice_get queue place
first_of_rest zero queue = refl
first_of_rest (suc place) [] = refl
first_of_rest (suc place) (q ∷ queue) = first_of_rest place queue

pub taken_some : (times : Times) (now most place : ℕ) (queue : List QueuedPacket) (q : QueuedPacket) → 0 < most → slice_get queue place ≡ Some q → is_ready times now q ≡ true → 0 < length (run_from times now most place queue).packets
taken_some times now most place queue q m e t = run_some times now most (drop place queue) q m (first_of_rest place queue ∙ e) t

pub taken_most : (times : Times) (now most place : ℕ) (queue : List QueuedPacket) → length (run_from times now most place queue).packets ≤ min most (length queue - place)
taken_most times now most place queue = omega (arith, run_most times now most (drop place queue), length-drop place queue)

-- the packet at a place, before the rest
pub rest_at : (place : ℕ) (queue : List QueuedPacket) (q : QueuedPacket) → slice_get queue place ≡ Some q → drop place queue ≡ q ∷ drop (place + 1) queue
rest_at place [] q e = absurd (cc)
rest_at zero (r ∷ queue) q e = let first : r ≡ q = cc in rw first refl
rest_at (suc place) (r ∷ queue) q e =
    let one : suc place + 1 ≡ suc (place + 1) = omega arith in
    rw one (rest_at place queue q e)

-- ---- the queue while packets are taken one after another

-- the packets taken so far, the current queue, and how many more may be taken give this run of the front of the queue
pub record Taking (times : Times) (now left at : ℕ) (taken : List Packet) (queue : List QueuedPacket) (packets : List Packet) (all : List QueuedPacket) : Type 0 where
  pub packets_are : taken ++ (run_from times now left at queue).packets ≡ packets
  pub queue_is : take at queue ++ (run_from times now left at queue).queue ≡ all

-- a packet that is due is taken
pub taking_on : (times : Times) (now left at : ℕ) (taken more : List Packet) (queue after : List QueuedPacket) (packets : List Packet) (all : List QueuedPacket) (q : QueuedPacket) → 0 < left → slice_get queue at ≡ Some q →
    is_ready times now q ≡ true → more ≡ taken ++ q.packet ∷ [] → after ≡ slice_set queue at (retried q now) → Taking times now left at taken queue packets all → Taking times now (left - 1) (at + 1) more after packets all
taking_on times now left at taken more queue after packets all q l e t m a h =
    let lt = slice_get_within queue at q e in
    let here : drop at queue ≡ q ∷ drop (at + 1) queue = rest_at at queue q e in
    let one : left ≡ suc (left - 1) = omega arith in
    let run : run_from times now left at queue ≡ with_ready q now (run_from times now (left - 1) (at + 1) queue) =
    ap (λ n. ready_run times now n (drop at queue)) one ∙ ap (ready_run times now (suc (left - 1))) here ∙ run_on times now (left - 1) q (drop (at + 1) queue) t in
    let rest : drop (at + 1) after ≡ drop (at + 1) queue = ap (drop (at + 1)) a ∙ drop-set-lt (at + 1) queue at (retried q now) (omega arith) in
    let front : take (at + 1) after ≡ take at queue ++ retried q now ∷ [] = ap (take (at + 1)) a ∙ take_more_set queue at (retried q now) lt in
    record {
      packets_are = rw (m, rest) (append_assoc taken (q.packet ∷ []) _ ∙ ap (λ (r : ReadyRun). taken ++ r.packets) (sym run) ∙ h.packets_are);
      queue_is = rw (front, rest) (append_assoc (take at queue) (retried q now ∷ []) _ ∙ ap (λ (r : ReadyRun). take at queue ++ r.queue) (sym run) ∙ h.queue_is);
    }

taking_all : (times : Times) (now left at : ℕ) (taken : List Packet) (queue : List QueuedPacket) (packets : List Packet) (all : List QueuedPacket) → run_from times now left at queue ≡ no_run (drop at queue) →
    Taking times now left at taken queue packets all → (taken ≡ packets) × (queue ≡ all)
taking_all times now left at taken queue packets all run h = (
  sym (append-nil taken) ∙ ap (λ (r : ReadyRun). taken ++ r.packets) (sym run) ∙ h.packets_are,
  sym (take-append-drop at queue) ∙ ap (λ (r : ReadyRun). take at queue ++ r.queue) (sym run) ∙ h.queue_is,
)

-- a packet that is not due ends the run
pub taking_stops : (times : Times) (now left at : ℕ) (taken : List Packet) (queue : List QueuedPacket) (packets : List Packet) (all : List QueuedPacket) (q : QueuedPacket) → slice_get queue at ≡ Some q → is_ready times now q ≡ false →
    Taking times now left at taken queue packets all → (taken ≡ packets) × (queue ≡ all)
taking_stops times now left at taken queue packets all q e t h =
    let here : drop at queue ≡ q ∷ drop (at + 1) queue = rest_at at queue q e in
    let run : run_from times now left at queue ≡ no_run (drop at queue) =
    ap (ready_run times now left) here ∙ run_stops times now left q (drop (at + 1) queue) t ∙ ap no_run (sym here) in
    taking_all times now left at taken queue packets all run h

pub taking_ends : (times : Times) (now left at : ℕ) (taken : List Packet) (queue : List QueuedPacket) (packets : List Packet) (all : List QueuedPacket) → left ≡ 0 →
    Taking times now left at taken queue packets all → (taken ≡ packets) × (queue ≡ all)
taking_ends times now left at taken queue packets all l h =
    taking_all times now left at taken queue packets all (ap (λ n. ready_run times now n (drop at queue)) l ∙ run_none times now (drop at queue)) h
