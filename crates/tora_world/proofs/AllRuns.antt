-- Every run keeps the invariant of all ends.
use Rattle.std.proofs.Common.{◌≡◌, ℕ, List, Bool, true, false, true≢false, ◌⊎◌, inl, inr, ⊎_elim, [], ◌∷◌, Some, None, if◌then◌else◌, refl, subst, arith}
use Rattle.std.specs.Prelude.{is_some, not, ◌&&◌}
use Rattle.tora_arq.specs.declared.life.Life.{Life}
use Rattle.tora_arq.specs.declared.times.Times.{Times}
use Rattle.tora_arq.specs.declared.phase.Phase.TheVariants.{Bound}
use Rattle.tora_arq.specs.LinkEnd.{frame_due, bound_life}
use Rattle.tora_life.specs.LifeFile.{file_value}
use Rattle.tora_seat.specs.declared.what.What.TheVariants as Tells
use Rattle.tora_world.specs.declared.event.Event.{Event}
use Rattle.tora_world.specs.declared.event.Event.TheVariants.{Need, Tick, Open, Pull, Transmit, Deliver, Pump, CoreTurn, Arm, Restart}
use Rattle.tora_world.specs.declared.sim_error.SimError.TheVariants as Refused
use Rattle.tora_world.specs.Topology.{Topology, is_link}
use Rattle.tora_arq.specs.Lives.{reversed}
use Rattle.tora_world.specs.LinkMachine.{MachineStep, machine_after, made}
use Rattle.tora_world.specs.MachineRun.{steps_of_effect, steps_by, free_steps_by, machine_steps}
use Rattle.tora_world.specs.World.{owner_of, World, Choice, settings, datagram, first_world, is_empty, has_room, unless_possible, refusal_by, effect_by, world_by, world_after, world_after_all}
use Rattle.tora_world.specs.FreeWorld.{FreeEvent, free_by, Schedule, after_schedule, own_schedule}
use Rattle.tora_world.specs.FreeWorld.FreeEvent.{Happens, TicksEnd, PumpsOver, Puts, CutsBound, ChangesFile, StartsAnew}
use Rattle.tora_world.specs.Law.{TakenBeginsSent, IsOfMachine, Sometime, HasAccepted, AcknowledgedIsAccepted}
use Rattle.tora_world.specs.Layers.{LinkLaws, LifeLaws}
use Rattle.tora_world.proofs.PacketLists.{begins_nil}
use Rattle.tora_world.proofs.Invariant.{InPhase, AllEndsFollow, Seen, seen_at_other}
use Rattle.tora_world.proofs.AllEnds.{more_seen, prefix_follows}
use Rattle.tora_world.proofs.EndViews.{end_views}
use Rattle.tora_world.proofs.Events.{need_keeps, tick_keeps, opening_keeps, pull_keeps, transmit_keeps, deliver_keeps, pump_keeps, arming_keeps, restart_keeps, anew_keeps}
use Rattle.tora_world.proofs.Serving.{turn_keeps}
use Rattle.tora_world.proofs.ThreadEvents.{one_tick_keeps, pump_over_keeps, put_keeps, cut_keeps, file_keeps}

linked : (b possible : Bool) → is_some (if b then unless_possible possible else Some Refused.NoNode) ≡ false → b ≡ true
linked true possible e = refl
linked false possible e = absurd (true≢false e)

module _ (laws : LinkLaws) (lows : LifeLaws) where
  effect_keeps : (steps : List MachineStep) (w : World) (seen : Seen) → ((n k : ℕ) (l : Life) → seen n k l 0) → ((n k : ℕ) (l : Life) → (w.ends n k).phase ≡ Bound l → seen n k l (w.ends n k).accepted) → (c : Choice) (event : Event) →
      is_some (refusal_by c w event) ≡ false → AllEndsFollow steps (end_views w) w.datagrams seen → AllEndsFollow (made (steps_of_effect c w event) steps) (end_views (effect_by c w event)) (effect_by c w event).datagrams seen
  unfolding effect_by
  effect_keeps steps w seen z now c (Need n d) e g = need_keeps laws lows steps w seen n c.stamp (Tells.Need d) g
  effect_keeps steps w seen z now c Tick e g = tick_keeps laws lows steps w seen c g
  effect_keeps steps w seen z now c (Open n k) e g = opening_keeps laws lows steps w seen c n k g
  effect_keeps steps w seen z now c (Pull n k) e g = pull_keeps laws lows steps w seen n k g (w.cargoes n k) refl
  effect_keeps steps w seen z now c (Transmit n k) e g =
      transmit_keeps laws lows steps w seen n k (c.now n k) (λ l. now n k l) g (frame_due (settings w n k) (w.ends n k) (c.now n k)) refl
  effect_keeps steps w seen z now c (Deliver i) e g = deliver_keeps laws lows steps w seen c i z g (datagram w i) refl
  effect_keeps steps w seen z now c (Pump n k) e g = pump_keeps laws lows steps w seen c n k (linked (is_link w.topology n k) (not (is_empty (w.ends n k).events) && has_room w n) e) g (w.ends n k).events refl
  effect_keeps steps w seen z now c (CoreTurn n) e g = turn_keeps w seen n steps c g (w.items n) refl
  effect_keeps steps w seen z now c (Arm n call) e g = arming_keeps laws lows steps w seen n call g
  effect_keeps steps w seen z now c (Restart n torn) e g = restart_keeps laws lows steps w seen n torn g

  pub world_follows : (steps : List MachineStep) (w : World) (seen : Seen) → ((n k : ℕ) (l : Life) → seen n k l 0) → ((n k : ℕ) (l : Life) → (w.ends n k).phase ≡ Bound l → seen n k l (w.ends n k).accepted) → (c : Choice) (event : Event) →
      AllEndsFollow steps (end_views w) w.datagrams seen → AllEndsFollow (made (steps_by c w event) steps) (end_views (world_by c w event)) (world_by c w event).datagrams seen
  unfolding world_by
  world_follows steps w seen z now c event g = go (is_some (refusal_by c w event)) refl
    where
      go : (b : Bool) → is_some (refusal_by c w event) ≡ b → AllEndsFollow (made (if b then [] else steps_of_effect c w event) steps) (end_views (if b then w else effect_by c w event)) (if b then w else effect_by c w event).datagrams seen
      go true e = g
      go false e = effect_keeps steps w seen z now c event e g

  started_follows : (steps : List MachineStep) (w : World) (seen : Seen) (c : Choice) (n : ℕ) → AllEndsFollow steps (end_views w) w.datagrams seen →
      AllEndsFollow (made (free_steps_by c w (StartsAnew n)) steps) (end_views (free_by c w (StartsAnew n))) (free_by c w (StartsAnew n)).datagrams seen
  unfolding world_by effect_by
  started_follows steps w seen c n g = go (is_some (refusal_by c w (Restart n None)))
    where
      go : (b : Bool) → AllEndsFollow (made (if b then [] else steps_of_effect c w (Restart n None)) steps) (end_views (record (if b then w else effect_by c w (Restart n None)) { files = w.files })) (if b then w else effect_by c w (Restart n None)).datagrams seen
      go true = g
      go false = anew_keeps laws lows steps w seen n None w.files (λ a b f. refl) (λ a b m f. f) g

  pub free_follows : (steps : List MachineStep) (w : World) (seen : Seen) → ((n k : ℕ) (l : Life) → seen n k l 0) → ((n k : ℕ) (l : Life) → (w.ends n k).phase ≡ Bound l → seen n k l (w.ends n k).accepted) → (c : Choice) (event : FreeEvent) →
      AllEndsFollow steps (end_views w) w.datagrams seen → AllEndsFollow (made (free_steps_by c w event) steps) (end_views (free_by c w event)) (free_by c w event).datagrams seen
  free_follows steps w seen z now c (Happens event) g = world_follows steps w seen z now c event g
  free_follows steps w seen z now c (TicksEnd n k) g = one_tick_keeps laws lows steps w seen g n k (c.now n k)
  free_follows steps w seen z now c (PumpsOver n k) g = pump_over_keeps laws lows steps w seen g c n k
  free_follows steps w seen z now c (Puts n seat what silent) g = put_keeps laws lows steps w seen g n seat c.stamp what silent
  free_follows steps w seen z now c (CutsBound n k) g = cut_keeps laws lows steps w seen g n k (bound_life (w.ends n k))
  free_follows steps w seen z now c (ChangesFile n k change kept) g = file_keeps laws lows steps w seen g n k (change (w.files n k)) (λ m. kept m (w.files n k))
  free_follows steps w seen z now c (StartsAnew n) g = started_follows steps w seen c n g

  pub first_follows : (t : Topology) (times : Times) → AllEndsFollow [] (end_views (first_world t times)) [] (λ n k l c. c ≡ 0)
  first_follows t times = record {
    legal = tt;
    sides = λ n k. record {
      kept = laws.first (settings (first_world t times) n k);
      histories = record {
        floor = file_value [];
        kept = lows.first (owner_of n k) [] (omega arith);
        opened = omega arith;
        drawn = tt;
        bound = tt;
        sent_is = refl;
        taken_is = refl;
        all_sent = tt;
        all_taken = tt;
        all_out = tt;
      };
      arriving = record { latest = None; was_bound = tt; now = tt; comes = tt; rises = tt; older = tt; taken_before = tt; over = tt; chain = λ l. begins_nil [] };
      phase = tt;
    };
    tells = tt;
  }

  -- the count was seen before, or in some world of the run
  abbrev By : Seen → Schedule → World → Seen
  By seen es w n k l c = seen n k l c ⊎ Sometime (HasAccepted n k l c) es w

  run_follows : (es : Schedule) (steps : List MachineStep) (w : World) (seen : Seen) → ((n k : ℕ) (l : Life) → seen n k l 0) → AllEndsFollow steps (end_views w) w.datagrams seen →
      AllEndsFollow (machine_steps es w steps) (end_views (after_schedule es w)) (after_schedule es w).datagrams (By seen es w)
  unfolding after_schedule
  run_follows [] steps w seen z g = more_seen steps (end_views w) w.datagrams seen (By seen [] w) (λ n k l c h. inl h) g
  run_follows (e ∷ es) steps w seen z g =
      let now : Seen = λ n k l c. seen n k l c ⊎ HasAccepted n k l c w in
      let w' : World = free_by e.1 w e.0 in
      let steps' : List MachineStep = made (free_steps_by e.1 w e.0) steps in
      let g' : AllEndsFollow steps' (end_views w') w'.datagrams now =
      free_follows steps w now (λ n k l. inl (z n k l)) (λ n k l j. inr (record { bound = j; accepted = omega arith })) e.1 e.0 (more_seen steps (end_views w) w.datagrams seen now (λ n k l c h. inl h) g) in
      more_seen (machine_steps es w' steps') (end_views (after_schedule es w')) (after_schedule es w').datagrams (By now es w') (By seen (e ∷ es) w)
      (λ n k l c h. ⊎_elim (λ x. ⊎_elim (λ y. inl y) (λ y. inr (inl y)) x) (λ x. inr (inr x)) h)
      (run_follows es steps' w' now (λ n k l. inl (z n k l)) g')

  module _ (t : Topology) (times : Times) (es : Schedule) where
    abbrev first : World
    first = first_world t times

    abbrev last : World
    last = after_schedule es (first_world t times)

    abbrev pub all_steps : List MachineStep
    all_steps = machine_steps es (first_world t times) []

    abbrev pub all_seen : Seen
    all_seen = By (λ n k l c. c ≡ 0) es (first_world t times)

    pub all_follow : AllEndsFollow all_steps (end_views last) last.datagrams all_seen
    all_follow = run_follows es [] first (λ n k l c. c ≡ 0) (λ n k l. refl) (first_follows t times)

    pub prefix : TakenBeginsSent last
    prefix a b l = prefix_follows all_steps (end_views last) last.datagrams all_seen all_follow b a (reversed l)

    pub of_machine : IsOfMachine all_steps last
    of_machine = record {
      is_run = all_follow.legal;
      sent = λ n k. (all_follow.sides n k).histories.sent_is;
      taken = λ n k. (all_follow.sides n k).histories.taken_is;
    }

    pub acknowledged : AcknowledgedIsAccepted first es last
    acknowledged a b l j =
        (subst (λ ph. InPhase ph (end_views last a b) (machine_after all_steps a b) (machine_after all_steps b a).sent (seen_at_other all_seen a b)) j (all_follow.sides a b).phase).told

-- the simulator's own run is one of these runs
pub own_run : (events : List Event) (w : World) → world_after_all w events ≡ after_schedule (own_schedule events w) w
unfolding after_schedule
own_run [] w = refl
own_run (event ∷ events) w = own_run events (world_after w event)
