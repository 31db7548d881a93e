-- Before the computed tick no frame is due and no tick ends the session; at and after it, one of the two holds.
use Rattle.std.proofs.Common.{◌≡◌, ℕ, suc, zero, ◌<◌, ◌^◌, ◌||◌, ◌&&◌, Bool, true, false, not, List, [], ◌∷◌, length, nat_le, is_some, None, if◌then◌else◌, refl, sym, ap, ◌∙◌, arith}
use Rattle.std.proofs.lemmas.Bool.Decides.{nat_tests}
use Rattle.tora_arq.specs.declared.life.Life.{Life}
use Rattle.tora_arq.specs.declared.times.Times.{Times}
use Rattle.tora_arq.specs.declared.reason.Reason.TheVariants as Because
use Rattle.tora_arq.specs.declared.phase.Phase.{Phase}
use Rattle.tora_arq.specs.declared.phase.Phase.TheVariants.{Closed, Unbound, Bound}
use Rattle.tora_arq.specs.declared.queued_packet.QueuedPacket.{QueuedPacket}
use Rattle.tora_arq.specs.Settings.{Settings}
use Rattle.tora_arq.specs.SendQueue.{has_given_up, first_due}
use Rattle.tora_arq.specs.LinkEnd.{EndState, is_closed_in, is_closed, after_end, is_silent, after_tick_in, after_tick, frame_due}
use Rattle.tora_arq.specs.NextDue.{is_any_due}
use Rattle.tora_arq.specs.Still.{IsStillUntil}

-- ---- packets

no_batch : (times : Times) (now most number window : ℕ) → first_due times now most number window [] ≡ None
unfolding first_due
no_batch times now most number zero = refl
no_batch times now most number (suc window) = refl

-- no packet of an empty queue is due or given up
pub none_due : (times : Times) (tick most number window : ℕ) (queue : List QueuedPacket) → length queue ≡ 0 → is_some (first_due times tick most number window queue) || has_given_up times tick queue ≡ false
none_due times tick most number window [] h = ap (λ due. is_some due || false) (no_batch times tick most number window)
none_due times tick most number window (q ∷ queue) h = absurd (omega (arith, h))

-- ---- the end

neither : (a b : Bool) → (a || b) ≡ false → (a ≡ false) × (b ≡ false)
neither false false h = (refl, refl)
neither false true h = absurd cc
neither true b h = absurd cc

module _ (s : Settings) (e : EndState) (until tick : ℕ) (is : IsStillUntil s e until) (most : until < 2 ^ 64) (h : tick < until) where
  none : is_any_due s e tick ≡ false
  none = let early : nat_le until tick ≡ false = grind (arith, nat_tests) in sym (is tick (omega (arith, most, h))) ∙ early

  pub still_frames : is_some (frame_due s e tick) ≡ false
  still_frames = (neither (is_some (frame_due s e tick)) _ none).0

  unless : (silent : Bool) (life : Life) → (true && is_closed (if silent then after_end e life Because.Silent else e)) ≡ false → (if silent then after_end e life Because.Silent else e) ≡ e
  unless true life h = absurd cc
  unless false life h = refl

  ticks_in : (ph : Phase) → (not (is_closed_in ph) && is_closed (after_tick_in s e tick ph)) ≡ false → after_tick_in s e tick ph ≡ e
  ticks_in Closed h = refl
  ticks_in (Unbound own) h = refl
  ticks_in (Bound life) h = unless (is_silent s e tick) life h

  pub still_ticks : after_tick s e tick ≡ e
  unfolding after_tick
  still_ticks = ticks_in e.phase (neither (is_some (frame_due s e tick)) _ none).1
