-- Link ends with nothing to do are skipped; no event changes the list of the world's link ends.
use Rattle.std.proofs.Common.{◌≡◌, ℕ, zero, suc, ◌<◌, ◌≤◌, Bool, true, List, [], ◌∷◌, ◌++◌, drop, slice_get, is_some, Option, Some, None, refl, sym, ap, ◌∙◌, arith}
use Rattle.std.proofs.lemmas.Bool.{cond_both}
use Rattle.std.proofs.lemmas.List.{drop_all}
use Rattle.tora_frame.specs.FrameParts.{FrameParts}
use Rattle.tora_arq.specs.declared.link_event.LinkEvent.{LinkEvent}
use Rattle.tora_arq.specs.LinkEnd.{EndState, frame_due, after_transmit, first_event}
use Rattle.tora_seat.specs.declared.cargo.Cargo.{Cargo}
use Rattle.tora_seat.specs.declared.item.Item.{Item}
use Rattle.tora_world.specs.declared.event.Event.{Event}
use Rattle.tora_world.specs.declared.event.Event.TheVariants.{Need, Tick, Open, Pull, Transmit, Deliver, Pump, CoreTurn, Arm, Restart}
use Rattle.tora_world.specs.declared.call.Call.{Call}
use Rattle.tora_world.specs.declared.call.Call.TheVariants as Fails
use Rattle.tora_world.specs.World.{World, Choice, settings, datagram, refusal_of, refusal_by, own_choice, after_pull, after_sending, after_receiving, after_pump, after_turn, after_arming, effect_by, world_by, world_after, world_after_all}
use Rattle.tora_script.specs.Table.{Channels}
use Rattle.tora_sim.specs.Quiet.{IsQuietEnd}
use Rattle.tora_sim.specs.Readers.{ends_in}
use Rattle.tora_script.specs.declared.turns.EndTurn.{EndTurn}
use Rattle.tora_script.specs.declared.turns.EndTurn.TheVariants as turn
use Rattle.tora_script.specs.Rounds.{Plan, end_event, repeats, each, each_core, while_possible, Sky, moment_of, round, after_round, Happened, AreKnown}
use Rattle.tora_script.proofs.RoundLaws.{no_event}

-- ---- no event changes the topology

module _ (c : Choice) (w : World) where
  pull_keeps : (n k : ℕ) (cargoes : List Cargo) → (after_pull w n k cargoes).topology ≡ w.topology
  pull_keeps n k [] = refl
  pull_keeps n k (x ∷ cargoes) = refl

  sending_keeps : (n k : ℕ) (e : EndState) (o : Option FrameParts) → (after_sending w n k e o).topology ≡ w.topology
  sending_keeps n k e None = refl
  sending_keeps n k e (Some f) = refl

  receiving_keeps : (o : Option FrameParts) → (after_receiving w c o).topology ≡ w.topology
  receiving_keeps None = refl
  receiving_keeps (Some f) = cond_both (w.arms f.header.receiver).receive _ _ (λ (v : World). v.topology ≡ w.topology) (λ _. refl) (λ _. refl)

  pump_keeps : (n k : ℕ) (o : Option LinkEvent) → (after_pump w c n k o).topology ≡ w.topology
  pump_keeps n k None = refl
  pump_keeps n k (Some event) = refl

  turn_keeps : (n : ℕ) (items : List Item) → (after_turn w c n items).topology ≡ w.topology
  turn_keeps n [] = refl
  turn_keeps n (x ∷ items) = refl

  arming_keeps : (n : ℕ) (call : Call) → (after_arming w n call).topology ≡ w.topology
  arming_keeps n Fails.SendLost = refl
  arming_keeps n Fails.SendGone = refl
  arming_keeps n Fails.Receive = refl
  arming_keeps n Fails.Read = refl
  arming_keeps n Fails.Write = refl
  arming_keeps n Fails.Sync = refl

  effect_keeps : (event : Event) → (effect_by c w event).topology ≡ w.topology
  unfolding effect_by
  effect_keeps (Need n d) = refl
  effect_keeps Tick = refl
  effect_keeps (Open n k) = refl
  effect_keeps (Pull n k) = pull_keeps n k (w.cargoes n k)
  effect_keeps (Transmit n k) = sending_keeps n k (after_transmit (settings w n k) (w.ends n k) (c.now n k)) (frame_due (settings w n k) (w.ends n k) (c.now n k))
  effect_keeps (Deliver i) = receiving_keeps (datagram w i)
  effect_keeps (Pump n k) = pump_keeps n k (first_event (w.ends n k))
  effect_keeps (CoreTurn n) = turn_keeps n (w.items n)
  effect_keeps (Arm n call) = arming_keeps n call
  effect_keeps (Restart n torn) = refl

event_keeps : (w : World) (event : Event) → (world_after w event).topology ≡ w.topology
unfolding world_by
event_keeps w event = cond_both (is_some (refusal_by (own_choice w event) w event)) w (effect_by (own_choice w event) w event) (λ (v : World). v.topology ≡ w.topology) (λ _. refl) (λ _. effect_keeps (own_choice w event) w event)

all_keep : (w : World) (events : List Event) → (world_after_all w events).topology ≡ w.topology
all_keep w [] = refl
all_keep w (event ∷ events) = all_keep (world_after w event) events ∙ event_keeps w event

-- the link ends are still those of the world after events
still_known : (known : Bool) (ends : List (ℕ × ℕ)) (w next : World) (events : List Event) → AreKnown known ends w → next ≡ world_after_all w events → AreKnown known ends next
still_known known ends w next events h after is = h is ∙ sym (ap (λ (v : World). ends_in v.topology) after ∙ ap ends_in (all_keep w events))

pub known_then : (known : Bool) (ends : List (ℕ × ℕ)) {w next : World} {events : List Event} {some : Bool} → AreKnown known ends w → Happened w events next some → AreKnown known ends next
known_then known ends {w} {next} {events} {some} h o = still_known known ends w next events h o.after_is

pub round_keeps : (known : Bool) (nodes : List ℕ) (ends parted : List (ℕ × ℕ)) (channel : Channels) (now next : Sky) → AreKnown known ends now.world → next ≡ after_round nodes ends parted channel now → AreKnown known ends next.world
unfolding after_round
round_keeps known nodes ends parted channel now next h e = still_known known ends now.world next.world (round nodes ends parted (moment_of channel now) now.in_flight.later now.world) h (ap (λ (s : Sky). s.world) e)

-- ---- skipped ends

-- skipping items whose plan has no event does not change the events
pub each_over : {A : Type 0} (plan : A → Plan) (xs : List A) (i j : ℕ) (w : World) → i ≤ j → ((at : ℕ) (x : A) → i ≤ at → at < j → slice_get xs at ≡ Some x → plan x w ≡ []) → each plan (drop i xs) w ≡ each plan (drop j xs) w
each_over {A} plan [] i j w le none = ap (λ (ys : List A). each plan ys w) (drop_all i [] (omega arith) ∙ sym (drop_all j [] (omega arith)))
each_over plan (x ∷ xs) zero zero w le none = refl
each_over plan (x ∷ xs) zero (suc j) w le none =
    ap (λ (events : List Event). events ++ each plan xs (world_after_all w events)) (none zero x (omega arith) (omega arith) refl)
    ∙ each_over plan xs zero j w (omega arith) (λ at y from before there. none (suc at) y (omega (arith, from)) (omega (arith, before)) there)
each_over plan (x ∷ xs) (suc i) zero w le none = absurd (omega (arith, le))
each_over plan (x ∷ xs) (suc i) (suc j) w le none = each_over plan xs i j w (omega (arith, le)) (λ at y from before there. none (suc at) y (omega (arith, from)) (omega (arith, before)) there)

-- every turn of a quiet end is refused
pub refused_turn : (kind : EndTurn) (w : World) (end : ℕ × ℕ) → IsQuietEnd w end.0 end.1
    → is_some (refusal_of w (end_event kind end)) ≡ true
refused_turn turn.Open w end quiet = quiet.opens
refused_turn turn.Pull w end quiet = quiet.pulls
refused_turn turn.Transmit w end quiet = quiet.sends
refused_turn turn.Pump w end quiet = quiet.pumps

-- skipping ends whose turn is refused does not change the events
pub pass_over : (kind : EndTurn) (most : ℕ) (ends : List (ℕ × ℕ)) (i j : ℕ) (w : World) → i ≤ j → ((at : ℕ) (end : ℕ × ℕ) → i ≤ at → at < j → slice_get ends at ≡ Some end → is_some (refusal_of w (end_event kind end)) ≡ true)
    → each (λ e. repeats most (end_event kind e)) (drop i ends) w ≡ each (λ e. repeats most (end_event kind e)) (drop j ends) w
pass_over kind most ends i j w le none = each_over (λ (e : ℕ × ℕ). repeats most (end_event kind e)) ends i j w le (λ at end from before there. no_event w most (end_event kind end) (none at end from before there))

-- skipping nodes whose cores refuse a turn does not change the events
pub cores_over : (nodes : List ℕ) (i j : ℕ) (w : World) → i ≤ j → ((at n : ℕ) → i ≤ at → at < j → slice_get nodes at ≡ Some n → is_some (refusal_of w (CoreTurn n)) ≡ true) → each_core (drop i nodes) w ≡ each_core (drop j nodes) w
cores_over nodes i j w le none = each_over (λ (n : ℕ). while_possible (CoreTurn n)) nodes i j w le (λ at n from before there. no_event w 1024 (CoreTurn n) (none at n from before there))
