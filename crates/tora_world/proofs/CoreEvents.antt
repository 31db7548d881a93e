-- All events except a turn of a core and a restart of its node leave every core unchanged, and the record of what was
-- put, accepted and taken.
use Rattle.std.proofs.Common.{◌≡◌, ℕ, Bool, true, false, true≢false, List, [], ◌∷◌, Option, Some, None, refl}
use Rattle.std.proofs.lemmas.Bool.{cond_both}
use Rattle.tora_frame.specs.FrameParts.{FrameParts}
use Rattle.tora_arq.specs.declared.link_event.LinkEvent.{LinkEvent}
use Rattle.tora_arq.specs.LinkEnd.{EndState, frame_due, after_frame, after_transmit, first_event}
use Rattle.tora_seat.specs.declared.cargo.Cargo.{Cargo}
use Rattle.tora_seat.specs.Serving.{put_one}
use Rattle.tora_world.specs.declared.event.Event.{Event}
use Rattle.tora_world.specs.declared.event.Event.TheVariants.{Need, Tick, Open, Pull, Transmit, Deliver, Pump, CoreTurn, Arm, Restart}
use Rattle.tora_world.specs.declared.call.Call.{Call}
use Rattle.tora_world.specs.declared.call.Call.TheVariants as Fails
use Rattle.tora_world.specs.World.{World, Choice, settings, datagram, with_end, after_pull, after_sending, after_receiving, after_pump, after_turn, after_arming, after_restart, effect_by}

pub record LeavesSeats (w after : World) : Type 0 where
  pub topology : after.topology ≡ w.topology
  pub seats : after.seats ≡ w.seats
  pub put : after.put ≡ w.put
  pub inputs : after.inputs ≡ w.inputs
  pub steps : after.steps ≡ w.steps

abbrev pub is_of_core : Event → Bool
is_of_core (Need n d) = false
is_of_core Tick = false
is_of_core (Open n k) = false
is_of_core (Pull n k) = false
is_of_core (Transmit n k) = false
is_of_core (Deliver i) = false
is_of_core (Pump n k) = false
is_of_core (CoreTurn n) = true
is_of_core (Arm n call) = false
is_of_core (Restart n torn) = true

left : (w after : World) → after.topology ≡ w.topology → after.seats ≡ w.seats → after.put ≡ w.put → after.inputs ≡ w.inputs → after.steps ≡ w.steps → LeavesSeats w after
left w after a b c d e = record { topology = a; seats = b; put = c; inputs = d; steps = e }

module _ (c : Choice) (w : World) where
  pull_leaves : (n k : ℕ) (cargoes : List Cargo) → LeavesSeats w (after_pull w n k cargoes)
  pull_leaves n k [] = left w w refl refl refl refl refl
  pull_leaves n k (x ∷ cargoes) = left w (after_pull w n k (x ∷ cargoes)) refl refl refl refl refl

  sending_leaves : (n k : ℕ) (e : EndState) (o : Option FrameParts) → LeavesSeats w (after_sending w n k e o)
  sending_leaves n k e None = left w w refl refl refl refl refl
  sending_leaves n k e (Some f) = left w (after_sending w n k e (Some f)) refl refl refl refl refl

  receiving_leaves : (o : Option FrameParts) → LeavesSeats w (after_receiving w c o)
  receiving_leaves None = left w w refl refl refl refl refl
  receiving_leaves (Some f) = cond_both (w.arms f.header.receiver).receive _ _ (LeavesSeats w)
      (λ _. left w (record w { arms = put_one w.arms f.header.receiver (record (w.arms f.header.receiver) { receive = false }) }) refl refl refl refl refl)
      (λ _. left w (with_end w f.header.receiver f.header.sender (after_frame (settings w f.header.receiver f.header.sender) (w.ends f.header.receiver f.header.sender) f (c.now f.header.receiver f.header.sender))) refl refl refl refl refl)

  pump_leaves : (n k : ℕ) (o : Option LinkEvent) → LeavesSeats w (after_pump w c n k o)
  pump_leaves n k None = left w w refl refl refl refl refl
  pump_leaves n k (Some event) = left w (after_pump w c n k (Some event)) refl refl refl refl refl

  arming_leaves : (n : ℕ) (call : Call) → LeavesSeats w (after_arming w n call)
  arming_leaves n Fails.SendLost = left w (after_arming w n Fails.SendLost) refl refl refl refl refl
  arming_leaves n Fails.SendGone = left w (after_arming w n Fails.SendGone) refl refl refl refl refl
  arming_leaves n Fails.Receive = left w (after_arming w n Fails.Receive) refl refl refl refl refl
  arming_leaves n Fails.Read = left w (after_arming w n Fails.Read) refl refl refl refl refl
  arming_leaves n Fails.Write = left w (after_arming w n Fails.Write) refl refl refl refl refl
  arming_leaves n Fails.Sync = left w (after_arming w n Fails.Sync) refl refl refl refl refl

  pub leaves_seats : (event : Event) → is_of_core event ≡ false → LeavesSeats w (effect_by c w event)
  unfolding effect_by
  leaves_seats (Need n d) other = left w (effect_by c w (Need n d)) refl refl refl refl refl
  leaves_seats Tick other = left w (effect_by c w Tick) refl refl refl refl refl
  leaves_seats (Open n k) other = left w (effect_by c w (Open n k)) refl refl refl refl refl
  leaves_seats (Pull n k) other = pull_leaves n k (w.cargoes n k)
  leaves_seats (Transmit n k) other = sending_leaves n k (after_transmit (settings w n k) (w.ends n k) (c.now n k)) (frame_due (settings w n k) (w.ends n k) (c.now n k))
  leaves_seats (Deliver i) other = receiving_leaves (datagram w i)
  leaves_seats (Pump n k) other = pump_leaves n k (first_event (w.ends n k))
  leaves_seats (CoreTurn n) other = absurd (true≢false other)
  leaves_seats (Arm n call) other = arming_leaves n call
  leaves_seats (Restart n torn) other = absurd (true≢false other)

  -- a property that the other events, turns and restarts keep is kept by every event
  pub effect_cases : (Holds : World → Type 0) → ((after : World) → LeavesSeats w after → Holds after) → ((n : ℕ) → Holds (after_turn w c n (w.items n)))
      → ((n : ℕ) (torn : Option (List ℕ)) → Holds (after_restart w n torn)) → (event : Event) → Holds (effect_by c w event)
  unfolding effect_by
  effect_cases Holds others turn restart (Need n d) = others (effect_by c w (Need n d)) (leaves_seats (Need n d) refl)
  effect_cases Holds others turn restart Tick = others (effect_by c w Tick) (leaves_seats Tick refl)
  effect_cases Holds others turn restart (Open n k) = others (effect_by c w (Open n k)) (leaves_seats (Open n k) refl)
  effect_cases Holds others turn restart (Pull n k) = others (effect_by c w (Pull n k)) (leaves_seats (Pull n k) refl)
  effect_cases Holds others turn restart (Transmit n k) = others (effect_by c w (Transmit n k)) (leaves_seats (Transmit n k) refl)
  effect_cases Holds others turn restart (Deliver i) = others (effect_by c w (Deliver i)) (leaves_seats (Deliver i) refl)
  effect_cases Holds others turn restart (Pump n k) = others (effect_by c w (Pump n k)) (leaves_seats (Pump n k) refl)
  effect_cases Holds others turn restart (CoreTurn n) = turn n
  effect_cases Holds others turn restart (Arm n call) = others (effect_by c w (Arm n call)) (leaves_seats (Arm n call) refl)
  effect_cases Holds others turn restart (Restart n torn) = restart n torn
