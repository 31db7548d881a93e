-- The tick from which something is due.
use Rattle.std.proofs.Common.{◌≡◌, ℕ, zero, suc, ◌+◌, ◌^◌, ◌<◌, ◌≤◌, Bool, true, false, ◌||◌, nat_le, min, max, List, [], ◌∷◌, length, drop, Option, Some, None, if◌then◌else◌, refl, sym, ap, ◌∙◌, arith, slice_get, is_some}
use Rattle.std.proofs.lemmas.Bool.Decides.{nat_tests}
use Rattle.std.proofs.Math.Bool.{or-false}
use Rattle.tora_arq.specs.declared.times.Times.{Times}
use Rattle.tora_arq.specs.declared.queued_packet.QueuedPacket.{QueuedPacket}
use Rattle.tora_arq.specs.SendQueue.{is_ready, is_given_up, has_given_up, DueBatch, due_behind, first_due}
use Rattle.tora_arq.specs.EndRange.{AreUntried}
use Rattle.tora_arq.specs.Settings.{Settings, ticks_passed}
use Rattle.tora_arq.specs.declared.life.Life.{Life}
use Rattle.tora_frame.specs.FrameParts.{FrameParts}
use Rattle.tora_arq.specs.LinkEnd.{EndState, is_hello_body, is_hello, on_transmit_due}
use Rattle.tora_arq.specs.NextDue.{is_any_due, IsNextDue, is_packet_due, has_begun}
use Rattle.tora_arq.proofs.QueueLemmas.{none_of_untried}

-- ---- ticks

pub begins_behind : (earlier ticks tick : ℕ) → 0 < ticks → nat_le (earlier + ticks) tick ≡ nat_le ticks (ticks_passed earlier tick)
begins_behind earlier ticks tick h = grind (arith, nat_tests)

pub never_behind : (earlier ticks tick : ℕ) → 2 ^ 64 ≤ earlier + ticks → tick < 2 ^ 64 → 0 < ticks → false ≡ nat_le ticks (ticks_passed earlier tick)
never_behind earlier ticks tick h t p = grind (arith, nat_tests)

pub begins_earlier : (a b tick : ℕ) → nat_le (min a b) tick ≡ nat_le a tick || nat_le b tick
begins_earlier a b tick = grind (arith, nat_tests)

-- ---- packets

-- one of the first packets, up to a number, is due
abbrev pub is_queue_due : Times → ℕ → ℕ → List QueuedPacket → Bool
is_queue_due times tick zero queue = false
is_queue_due times tick (suc count) [] = false
is_queue_due times tick (suc count) (q ∷ queue) = is_packet_due times tick q || is_queue_due times tick count queue

or_rest : (a b c : Bool) → a || (b || c) ≡ (a || b) || c
or_rest true b c = refl
or_rest false b c = refl

pub one_more : (times : Times) (tick count : ℕ) (queue : List QueuedPacket) (q : QueuedPacket) → slice_get queue count ≡ Some q →
    is_queue_due times tick (suc count) queue ≡ is_queue_due times tick count queue || is_packet_due times tick q
one_more times tick count [] q e = absurd (cc)
one_more times tick zero (r ∷ queue) q e = let first : r ≡ q = cc in rw first (or-false (is_packet_due times tick q))
one_more times tick (suc count) (r ∷ queue) q e =
    ap (λ (b : Bool). is_packet_due times tick r || b) (one_more times tick count queue q e)
    ∙ or_rest (is_packet_due times tick r) (is_queue_due times tick count queue) (is_packet_due times tick q)

pub no_more : (times : Times) (tick count : ℕ) (queue : List QueuedPacket) → is_queue_due times tick (min count (length queue)) queue ≡ is_queue_due times tick count queue
no_more times tick zero queue = let none : min 0 (length queue) ≡ 0 = omega arith in rw none refl
no_more times tick (suc count) [] = let none : min (suc count) 0 ≡ 0 = omega arith in rw none refl
no_more times tick (suc count) (q ∷ queue) =
    let one : min (suc count) (suc (length queue)) ≡ suc (min count (length queue)) = omega arith in
    rw one (ap (λ (b : Bool). is_packet_due times tick q || b) (no_more times tick count queue))

is_some_behind : (q : QueuedPacket) (due : Option DueBatch) → is_some (due_behind q due) ≡ is_some due
is_some_behind q None = refl
is_some_behind q (Some due) = refl

-- the first packet and the following ones, by the parts of the conditions
one_of_all : (q : QueuedPacket) (ready given rest gone : Bool) (here : DueBatch) (behind : Option DueBatch) → rest ≡ is_some behind || gone →
    (ready || given) || rest ≡ is_some (if ready then Some here else due_behind q behind) || (given || gone)
one_of_all q true given rest gone here behind e = refl
one_of_all q false given rest gone here None e = rw e refl
one_of_all q false true rest gone here (Some due) e = refl
one_of_all q false false rest gone here (Some due) e = e

pub queue_due : (times : Times) (tick most number window : ℕ) (queue : List QueuedPacket) → 0 < times.tries → AreUntried (drop window queue) →
    is_queue_due times tick window queue ≡ is_some (first_due times tick most number window queue) || has_given_up times tick queue
unfolding first_due
queue_due times tick most number zero queue h u = sym (none_of_untried times tick queue h u)
queue_due times tick most number (suc window) [] h u = refl
queue_due times tick most number (suc window) (q ∷ queue) h u =
    one_of_all q (is_ready times tick q) (is_given_up times tick q) _ (has_given_up times tick queue) _ _ (queue_due times tick most (suc number) window queue h u)

-- ---- the end

pub none_next : (s : Settings) (e : EndState) (now : ℕ) → ((tick : ℕ) → tick < 2 ^ 64 → has_begun None tick ≡ is_any_due s e tick) → IsNextDue s e now None
none_next s e now h tick lt le = sym (h tick lt)

pub some_next : (s : Settings) (e : EndState) (now first : ℕ) → now < 2 ^ 64 → first < 2 ^ 64 → ((tick : ℕ) → tick < 2 ^ 64 → has_begun (Some first) tick ≡ is_any_due s e tick) → IsNextDue s e now (Some (max first now))
some_next s e now first n f h = (
  omega arith,
  sym (h (max first now) (omega arith)) ∙ grind (arith, nat_tests),
  λ tick le lt. let early : nat_le first tick ≡ false = grind (arith, nat_tests) in sym (h tick (omega arith)) ∙ early,
)

pub all_due : (hello packets given silent : Bool) → hello || ((packets || given) || silent) ≡ (hello || packets) || (silent || given)
all_due true packets given silent = refl
all_due false true given silent = refl
all_due false false true true = refl
all_due false false true false = refl
all_due false false false true = refl
all_due false false false false = refl

pub sent_due : (s : Settings) (e : EndState) (life : Life) (due : Option DueBatch) → e.owes_ack ≡ false → is_some (on_transmit_due s e life due).0 ≡ is_some due
sent_due s e life (Some due) h = refl
sent_due s e life None h = rw h refl

no_hello_if : (owes : Bool) (frame : FrameParts) (e left : EndState) → is_hello_body frame.body ≡ false → is_hello ((if◌then◌else◌ {A = Option FrameParts × EndState} owes (Some frame, e) (None, left)).0) ≡ false
no_hello_if true frame e left h = h
no_hello_if false frame e left h = refl

-- after the HELLOs the first frame due is not a HELLO
pub no_hello_behind : (s : Settings) (e : EndState) (life : Life) (due : Option DueBatch) → is_hello (on_transmit_due s e life due).0 ≡ false
no_hello_behind s e life (Some due) = refl
no_hello_behind s e life None = no_hello_if e.owes_ack _ _ _ refl
