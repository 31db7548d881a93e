-- The calls on the fields of an idle end agree with the calls of the end.
use Rattle.std.proofs.Common.{◌≡◌, ℕ, zero, suc, ◌<◌, min, ◌||◌, ◌&&◌, Bool, true, false, not, [], nat_le, nat_lt, is_some, Option, Some, None, ◌==◌, if◌then◌else◌, refl, sym, ap, ap₂, ◌∙◌, subst, arith}
use Rattle.std.proofs.lemmas.Bool.Decides.{nat_tests}
use Rattle.tora_frame.specs.declared.parts.Header.{Header}
use Rattle.tora_frame.specs.declared.parts.Version.{Version}
use Rattle.tora_frame.specs.declared.parts.Version.TheVariants.{One, Two}
use Rattle.tora_frame.specs.declared.parts.Body.TheVariants.{Hello}
use Rattle.tora_frame.specs.FrameParts.{FrameParts, frame_of}
use Rattle.tora_arq.specs.declared.life.Life.{Life}
use Rattle.tora_arq.specs.declared.times.Times.{Times}
use Rattle.tora_arq.specs.declared.verdict.Verdict.TheVariants.{Accepted}
use Rattle.tora_arq.specs.declared.phase.Phase.TheVariants.{Bound}
use Rattle.tora_arq.specs.declared.steady.Steady.{Steady}
use Rattle.tora_arq.specs.Settings.{Settings, ticks_passed}
use Rattle.tora_arq.specs.Lives.{life_of}
use Rattle.tora_arq.specs.SendQueue.{first_due}
use Rattle.tora_arq.specs.LinkEnd.{EndState, is_two, on_hello, due_of, on_transmit_due, on_transmit_in, on_transmit, frame_due, is_unknown, on_frame, on_frame_in, on_matched, after_tick, after_tick_in, is_closed, is_closed_in}
use Rattle.tora_arq.specs.NextDue.{is_any_due}
use Rattle.tora_arq.specs.Still.{last_tick, IsStillUntil}
use Rattle.tora_arq.specs.Steady.{IsSteady, phase_in, resumed, header_of, owes_old, has_hello, on_send, is_told, told_by, behind, until_of}

-- the fields stay valid whatever HELLOs are sent and received
pub still_steady : (h : Steady) (s : Settings) (e : EndState) (said heard : ℕ) (owes : Bool) → IsSteady h s e → IsSteady (record h { said = said; heard = heard; owes_old_hello = owes }) s e
still_steady h s e said heard owes is = record {
  version = is.version;
  me = is.me;
  peer = is.peer;
  hello = is.hello;
  silent = is.silent;
  phase = is.phase;
  noted = is.noted;
  mark = is.mark;
  marked = is.marked;
  queue = is.queue;
  events = is.events;
  owes_hello = is.owes_hello;
  owes_ack = is.owes_ack;
  kept = is.kept;
}

pub not_true : (b : Bool) → not b ≡ true → b ≡ false
not_true true k = absurd cc
not_true false k = refl

both : (a b : Bool) → (a && b) ≡ true → (a ≡ true) × (b ≡ true)
both true true k = (refl, refl)
both true false k = absurd cc
both false b k = absurd cc

or_false : (b : Bool) → (b || false) ≡ b
or_false true = refl
or_false false = refl

module _ (h : Steady) (s : Settings) (e : EndState) (is : IsSteady h s e) where
  -- ---- HELLOs that are sent

  no_batch : (times : Times) (now most number window : ℕ) → first_due times now most number window [] ≡ None
  unfolding first_due
  no_batch times now most number zero = refl
  no_batch times now most number (suc window) = refl

  none_due : (now : ℕ) → due_of s (resumed h e) now ≡ None
  none_due now = rw is.queue (no_batch s.times now _ _ s.window)

  no_other : (life : Life) (now : ℕ) → on_transmit_due s (resumed h e) life (due_of s (resumed h e) now) ≡ (None, resumed h e)
  no_other life now = rw (none_due now, is.owes_ack) refl

  in_hello : (now heard : ℕ) (other : Option FrameParts × EndState) → heard ≡ h.peer_life → other ≡ (None, resumed h e) →
      on_hello s (resumed h e) h.own heard now other ≡ (told_by (on_send h now).0, resumed (on_send h now).1 e)
  in_hello now heard other noted none = go (owes_old h) (has_hello h now) refl refl
    where
      go : (old due : Bool) → owes_old h ≡ old → has_hello h now ≡ due → on_hello s (resumed h e) h.own heard now other ≡ (told_by (on_send h now).0, resumed (on_send h now).1 e)
      go true due is_old is_due = rw (noted, is.mark, is.owes_hello, is.hello, is.me, is.peer, is.version, is_old) refl
      go false true is_old is_due = rw (noted, is.mark, is.owes_hello, is.hello, is.me, is.peer, is.version, is_old, is_due) refl
      go false false is_old is_due =
          let passed : on_hello s (resumed h e) h.own heard now other ≡ other = rw (is.mark, is.owes_hello, is.hello, is_old, is_due) refl in
          passed ∙ none ∙ rw (is_old, is_due) refl

  in_phase : (now : ℕ) (b : Bool) → h.is_bound ≡ b → on_transmit_in s (resumed h e) now (phase_in b h.own h.peer_life) ≡ (told_by (on_send h now).0, resumed (on_send h now).1 e)
  unfolding on_transmit_in
  in_phase now true _ = in_hello now h.peer_life _ refl (no_other (life_of h.own h.peer_life) now)
  in_phase now false _ = in_hello now e.heard _ is.noted refl

  pub sends : (now : ℕ) → on_transmit s (resumed h e) now ≡ (told_by (on_send h now).0, resumed (on_send h now).1 e)
  unfolding on_transmit
  sends now = ap (on_transmit_in s (resumed h e) now) is.phase ∙ in_phase now h.is_bound refl

  abbrev sent : (old due : Bool) (now : ℕ) → Option Header × Steady
  sent old due now = if old then (Some (header_of h One), record h { owes_old_hello = false }) else if due then (Some (header_of h h.version), record h { said = now; owes_old_hello = is_two h.version }) else (None, h)

  sent_so : (old due : Bool) (now : ℕ) → IsSteady (sent old due now).1 s e
  sent_so true due now = still_steady h s e h.said h.heard false is
  sent_so false true now = still_steady h s e now h.heard (is_two h.version) is
  sent_so false false now = is

  pub sent_steady : (now : ℕ) → IsSteady (on_send h now).1 s e
  sent_steady now = sent_so (owes_old h) (has_hello h now) now

  -- ---- HELLOs that are received

  -- the peer is not known to speak a version that the end doesn't speak
  known : (v w : Version) (two : Bool) → (is_two v ≡ false → two ≡ false) → (two || not (is_two w)) ≡ true → is_unknown v w ≡ false
  known One One two k told = refl
  known One Two two k told = absurd (cc (k refl, told))
  known Two w two k told = refl

  marked : (two new : Bool) → (two || not new) ≡ true → (new || two) ≡ two
  marked true true k = refl
  marked true false k = refl
  marked false false k = refl
  marked false true k = absurd cc

  pub hears : (header : Header) (now : ℕ) → is_told h header ≡ true → on_frame s (resumed h e) (frame_of header Hello) now ≡ (Accepted, resumed (record h { heard = now }) e)
  unfolding on_frame on_frame_in on_matched
  hears header now told =
      let told₁ = both h.is_bound _ told in
      let told₂ = both (header.sender == h.peer) _ told₁.1 in
      let told₃ = both (header.receiver == h.me) _ told₂.1 in
      let told₄ = both (header.life == h.peer_life) _ told₃.1 in
      let told₅ = both (header.heard == h.own) _ told₄.1 in
      let life = told₄.0 in
      let version : (h.speaks_two || not (is_two header.version)) ≡ true = told₅.1 in
      let not_above : nat_lt h.peer_life header.life ≡ false = grind (arith, nat_tests, life) in
      let not_below : nat_lt header.life h.peer_life ≡ false = grind (arith, nat_tests, life) in
      let within : nat_lt e.transmitted 0 ≡ false = grind (arith, nat_tests) in
      let spoken : is_unknown h.version header.version ≡ false = known h.version header.version h.speaks_two is.marked version in
      let phase : e.phase ≡ Bound (life_of h.own h.peer_life) = is.phase ∙ ap (λ (b : Bool). phase_in b h.own h.peer_life) told₁.0 in
      rw (is.version, is.me, is.peer, told₂.0, told₃.0, spoken, is.events, phase, not_above, not_below, told₅.0, within, is.mark, marked h.speaks_two (is_two header.version) version) refl

  -- ---- ticks

  -- no tick changes an end that is not bound, nor a bound one before it has timed out
  in_silence : (now : ℕ) (b : Bool) → (b && nat_le h.silent (ticks_passed h.heard now)) ≡ false → after_tick_in s (resumed h e) now (phase_in b h.own h.peer_life) ≡ resumed h e
  in_silence now false calm = refl
  in_silence now true calm = rw (is.queue, is.silent, calm) refl

  pub calm : (now : ℕ) → (h.is_bound && nat_le h.silent (ticks_passed h.heard now)) ≡ false → after_tick s (resumed h e) now ≡ resumed h e
  unfolding after_tick
  calm now is_calm = ap (after_tick_in s (resumed h e) now) is.phase ∙ in_silence now h.is_bound is_calm

  -- ---- due

  some_due : (old due : Bool) (now : ℕ) → is_some (told_by (sent old due now).0) ≡ old || due
  some_due true due now = refl
  some_due false true now = refl
  some_due false false now = refl

  pub due : (now : ℕ) → is_some (frame_due s (resumed h e) now) ≡ owes_old h || has_hello h now
  due now = ap (λ (r : Option FrameParts × EndState). is_some r.0) (sends now) ∙ some_due (owes_old h) (has_hello h now) now

  -- the session of a bound end ends once it has timed out
  ended_in : (now : ℕ) (b silent : Bool) → nat_le h.silent (ticks_passed h.heard now) ≡ silent →
      (not (is_closed_in (phase_in b h.own h.peer_life)) && is_closed_in (after_tick_in s (record (resumed h e) { phase = phase_in b h.own h.peer_life }) now (phase_in b h.own h.peer_life)).phase) ≡ b && silent
  ended_in now false silent k = refl
  ended_in now true true k = rw (is.queue, is.silent, k) refl
  ended_in now true false k = rw (is.queue, is.silent, k) refl

  ended : (now : ℕ) → (not (is_closed (resumed h e)) && is_closed (after_tick s (resumed h e) now)) ≡ h.is_bound && nat_le h.silent (ticks_passed h.heard now)
  unfolding after_tick
  ended now = rw is.phase (ended_in now h.is_bound _ refl)

  pub any_due : (now : ℕ) → is_any_due s (resumed h e) now ≡ (owes_old h || has_hello h now) || (h.is_bound && nat_le h.silent (ticks_passed h.heard now))
  any_due now = ap₂ (λ (a b : Bool). a || b) (due now) (ended now)

  reached : (earlier ticks tick : ℕ) → 0 < ticks → tick < last_tick → nat_le (behind earlier ticks) tick ≡ nat_le ticks (ticks_passed earlier tick)
  reached earlier ticks tick some lt = grind (arith, nat_tests)

  either : (a b tick : ℕ) → nat_le (min a b) tick ≡ nat_le a tick || nat_le b tick
  either a b tick = grind (arith, nat_tests)

  until_in : (old b : Bool) (tick : ℕ) → tick < last_tick →
      nat_le (if old then 0 else if b then min (behind h.said h.hello) (behind h.heard h.silent) else behind h.said h.hello) tick ≡ (old || has_hello h tick) || (b && nat_le h.silent (ticks_passed h.heard tick))
  until_in true b tick lt = grind (arith, nat_tests)
  until_in false true tick lt = either _ _ tick ∙ ap₂ (λ (a b : Bool). a || b) (reached h.said h.hello tick (subst (λ (n : ℕ). 0 < n) is.hello is.kept.times.hello) lt) (reached h.heard h.silent tick (subst (λ (n : ℕ). 0 < n) is.silent is.kept.times.silent) lt)
  until_in false false tick lt = reached h.said h.hello tick (subst (λ (n : ℕ). 0 < n) is.hello is.kept.times.hello) lt ∙ sym (or_false (has_hello h tick))

  pub until : IsStillUntil s (resumed h e) (until_of h)
  until tick lt = until_in (owes_old h) h.is_bound tick lt ∙ sym (any_due tick)
