-- The table allows only what the definition computes.
use Rattle.std.proofs.Common.{◌≡◌, ℕ, Bool, true, false, not, ◌&&◌, List, [], ◌∷◌, length, Option, Some, None, is_some, if◌then◌else◌, refl, sym, ap, ap₂, ◌∙◌, slice_get, lt-ltb}
use mathlib.Core.Path.{fun_ext}
use Rattle.tora_frame.specs.FrameParts.{FrameParts}
use Rattle.tora_arq.specs.declared.link_event.LinkEvent.{LinkEvent}
use Rattle.tora_arq.specs.LinkEnd.{first_end, is_closed_in, after_frame, after_tick, after_poll_event, after_transmit}
use Rattle.tora_life.specs.declared.state.DiskCall.TheVariants as Disk
use Rattle.tora_life.specs.State.{after_crash}
use Rattle.tora_life.specs.LifeRun.{state_in, after_event}
use Rattle.tora_life.specs.LifeRun.LifeEvent.{Arm as ArmsDisk, Restart as OpensAnew}
use Rattle.tora_seat.specs.declared.what.What.{What}
use Rattle.tora_seat.specs.declared.what.What.TheVariants as Tells
use Rattle.tora_seat.specs.declared.cargo.Cargo.TheVariants as Gives
use Rattle.tora_seat.specs.Serving.{put_one, serving_of}
use Rattle.tora_seat.specs.declared.TheConstants.{MOST_ITEMS}
use Rattle.tora_world.specs.declared.event.Event.{Event}
use Rattle.tora_world.specs.declared.event.Event.TheVariants.{Need, Tick, Open, Pull, Transmit, Deliver, Pump, CoreTurn, Arm, Restart}
use Rattle.tora_world.specs.declared.call.Call.TheVariants as Fails
use Rattle.tora_world.specs.declared.sim_error.SimError.{SimError}
use Rattle.tora_world.specs.declared.sim_error.SimError.TheVariants as Refused
use Rattle.tora_world.specs.LinkMachine.{put_at}
use Rattle.tora_world.specs.World.{World, Choice, Goes, settings, neighbours, command_seat, datagram, is_empty, with_end, with_item, open_with, after_opening, after_pull, with_datagram, after_sending, after_receiving, after_pump, after_serving, after_turn, after_arming, after_restart, refusal_by, effect_by, world_by}
use Rattle.tora_world.specs.Table.{IsStepBy, refused, needed, ticked, opened, stays_closed, packet_pulled, cut_pulled, sent, send_lost, send_gone, received, receive_failed, pumped, turned, send_lost_armed, send_gone_armed, receive_armed, read_armed, write_armed, sync_armed, restarted}
use Rattle.tora_world.proofs.TableWords.{same_world, changes_one, changes_end, one_same, end_same, ends_of, files_change, datagram_is, seat_is, told_is}
use Rattle.tora_world.proofs.TableRefusals.{refused_leads, not_refused}

module _ (c : Choice) (w : World) where
  stays : (event : Event) (error : SimError) → refusal_by c w event ≡ Some error → world_by c w event ≡ w
  unfolding world_by
  stays event error e = ap (λ (o : Option SimError). if is_some o then w else effect_by c w event) e

  pub happens : (event : Event) → refusal_by c w event ≡ None → world_by c w event ≡ effect_by c w event
  unfolding world_by
  happens event e = ap (λ (o : Option SimError). if is_some o then w else effect_by c w event) e

  delivery : (i : ℕ) (f : FrameParts) → datagram w i ≡ Some f → refusal_by c w (Deliver i) ≡ None
  delivery i f e = ap (λ (o : Option FrameParts). if is_some o then None else Some Refused.NoDatagram) e

  -- a datagram is passed to its receiver, or dropped
  abbrev handed : FrameParts → World
  handed f = with_end w f.header.receiver f.header.sender (after_frame (settings w f.header.receiver f.header.sender) (w.ends f.header.receiver f.header.sender) f (c.now f.header.receiver f.header.sender))

  abbrev dropped : FrameParts → World
  dropped f = record w { arms = put_one w.arms f.header.receiver (record (w.arms f.header.receiver) { receive = false }) }

  -- the first event of an end is in the queue
  abbrev put_there : ℕ → ℕ → ℕ → What → World
  put_there n k seat what = with_item (with_end w n k (after_poll_event (w.ends n k))) n seat c.stamp what

  some_first : (events : List LinkEvent) (event : LinkEvent) → slice_get events 0 ≡ Some event → not (is_empty events) ≡ true
  some_first [] event e = absurd (cc)
  some_first (x ∷ events) event e = refl

  both : {x y : Bool} → x ≡ true → y ≡ true → (x && y) ≡ true
  both {x} {y} p q = ap₂ (λ (a b : Bool). a && b) p q

  pub step_leads : {event : Event} {after : World} → IsStepBy c w event after → after ≡ world_by c w event
  unfolding effect_by
  step_leads (refused {event} {error} {after} r h) =
      same_world after (w) h.topology h.times h.clock h.seats h.ends h.files h.items h.counts h.cargoes h.arms h.datagrams h.put h.inputs h.steps
      ∙ sym (stays event error (refused_leads c w r))
  step_leads (needed {n} {d} {after} there room puts h) =
      same_world after (with_item w n (command_seat w n) c.stamp (Tells.Need d)) h.topology h.times h.clock h.seats h.ends h.files (changes_one n _ w.items after.items puts.item) (changes_end n (command_seat w n) _ w.counts after.counts puts.count) h.cargoes h.arms h.datagrams h.put h.inputs h.steps
      ∙ sym (happens (Need n d) (not_refused c w (Need n d) (λ i q. cc) there (lt-ltb (length (w.items n)) MOST_ITEMS room)))
  step_leads (ticked {after} clock ends h) =
      same_world after (record w { clock = c.clock; ends = λ n k. after_tick (settings w n k) (w.ends n k) (c.now n k) }) h.topology h.times (clock) h.seats (fun_ext (λ n. fun_ext (λ k. ends n k))) h.files h.items h.counts h.cargoes h.arms h.datagrams h.put h.inputs h.steps
      ∙ sym (happens (Tick) (refl))
  step_leads (opened {n} {k} {number} {none} {after} there closed drawn ends files h) =
      same_world after (after_opening w c n k) h.topology h.times h.clock h.seats (changes_end n k _ w.ends after.ends ends ∙ sym (ap (λ xs. put_at w.ends n k (open_with (w.ends n k) (c.now n k) xs)) drawn)) (changes_end n k _ w.files after.files files) h.items h.counts h.cargoes h.arms h.datagrams h.put h.inputs h.steps
      ∙ sym (happens (Open n k) (not_refused c w (Open n k) (λ i q. cc) there (ap is_closed_in closed)))
  step_leads (stays_closed {n} {k} {after} there closed drawn files h) =
      same_world after (after_opening w c n k) h.topology h.times h.clock h.seats (h.ends ∙ sym (end_same n k w.ends) ∙ sym (ap (λ xs. put_at w.ends n k (open_with (w.ends n k) (c.now n k) xs)) drawn)) (changes_end n k _ w.files after.files files) h.items h.counts h.cargoes h.arms h.datagrams h.put h.inputs h.steps
      ∙ sym (happens (Open n k) (not_refused c w (Open n k) (λ i q. cc) there (ap is_closed_in closed)))
  step_leads (packet_pulled {n} {k} {life} {packet} {cargoes} {after} there first ends rest h) =
      same_world after (after_pull w n k (Gives.Packet life packet ∷ cargoes)) h.topology h.times h.clock h.seats (changes_end n k _ w.ends after.ends ends) h.files h.items h.counts (changes_end n k cargoes w.cargoes after.cargoes rest) h.arms h.datagrams h.put h.inputs h.steps
      ∙ sym (ap (after_pull w n k) first)
      ∙ sym (happens (Pull n k) (not_refused c w (Pull n k) (λ i q. cc) there (ap (λ xs. not (is_empty xs)) first)))
  step_leads (cut_pulled {n} {k} {life} {cargoes} {after} there first ends rest h) =
      same_world after (after_pull w n k (Gives.Cut life ∷ cargoes)) h.topology h.times h.clock h.seats (changes_end n k _ w.ends after.ends ends) h.files h.items h.counts (changes_end n k cargoes w.cargoes after.cargoes rest) h.arms h.datagrams h.put h.inputs h.steps
      ∙ sym (ap (after_pull w n k) first)
      ∙ sym (happens (Pull n k) (not_refused c w (Pull n k) (λ i q. cc) there (ap (λ xs. not (is_empty xs)) first)))
  step_leads (sent {n} {k} {f} {after} there due s ends datagrams h) =
      same_world after (after_sending w n k (after_transmit (settings w n k) (w.ends n k) (c.now n k)) (Some f)) h.topology h.times h.clock h.seats (changes_end n k _ w.ends after.ends ends) h.files h.items h.counts h.cargoes (h.arms ∙ sym (one_same n (record { sending = Goes; receive = (w.arms n).receive }) w.arms (λ i. record { sending = sym s i; receive = (w.arms n).receive }))) (datagrams ∙ sym (ap (λ x. with_datagram x w.datagrams f) s)) h.put h.inputs h.steps
      ∙ sym (ap (after_sending w n k (after_transmit (settings w n k) (w.ends n k) (c.now n k))) due)
      ∙ sym (happens (Transmit n k) (not_refused c w (Transmit n k) (λ i q. cc) there (ap (λ (o : Option FrameParts). is_some o) due)))
  step_leads (send_lost {n} {k} {f} {after} there due s ends arms h) =
      same_world after (after_sending w n k (after_transmit (settings w n k) (w.ends n k) (c.now n k)) (Some f)) h.topology h.times h.clock h.seats (changes_end n k _ w.ends after.ends ends) h.files h.items h.counts h.cargoes (changes_one n _ w.arms after.arms arms) (h.datagrams ∙ sym (ap (λ x. with_datagram x w.datagrams f) s)) h.put h.inputs h.steps
      ∙ sym (ap (after_sending w n k (after_transmit (settings w n k) (w.ends n k) (c.now n k))) due)
      ∙ sym (happens (Transmit n k) (not_refused c w (Transmit n k) (λ i q. cc) there (ap (λ (o : Option FrameParts). is_some o) due)))
  step_leads (send_gone {n} {k} {f} {after} there due s ends datagrams arms h) =
      same_world after (after_sending w n k (after_transmit (settings w n k) (w.ends n k) (c.now n k)) (Some f)) h.topology h.times h.clock h.seats (changes_end n k _ w.ends after.ends ends) h.files h.items h.counts h.cargoes (changes_one n _ w.arms after.arms arms) (datagrams ∙ sym (ap (λ x. with_datagram x w.datagrams f) s)) h.put h.inputs h.steps
      ∙ sym (ap (after_sending w n k (after_transmit (settings w n k) (w.ends n k) (c.now n k))) due)
      ∙ sym (happens (Transmit n k) (not_refused c w (Transmit n k) (λ i q. cc) there (ap (λ (o : Option FrameParts). is_some o) due)))
  step_leads (received {i} {f} {after} is free ends h) =
      same_world after (handed f) h.topology h.times h.clock h.seats (changes_end f.header.receiver f.header.sender _ w.ends after.ends ends) h.files h.items h.counts h.cargoes h.arms h.datagrams h.put h.inputs h.steps
      ∙ sym (ap (λ (b : Bool). if b then dropped f else handed f) free)
      ∙ sym (ap (after_receiving w c) (datagram_is w i f is))
      ∙ sym (happens (Deliver i) (delivery i f (datagram_is w i f is)))
  step_leads (receive_failed {i} {f} {after} is armed arms h) =
      same_world after (dropped f) h.topology h.times h.clock h.seats h.ends h.files h.items h.counts h.cargoes (changes_one f.header.receiver _ w.arms after.arms arms) h.datagrams h.put h.inputs h.steps
      ∙ sym (ap (λ (b : Bool). if b then dropped f else handed f) armed)
      ∙ sym (ap (after_receiving w c) (datagram_is w i f is))
      ∙ sym (happens (Deliver i) (delivery i f (datagram_is w i f is)))
  step_leads (pumped {n} {k} {seat} {event} {what} {after} there first room told place ends puts h) =
      same_world after (put_there n k seat what) h.topology h.times h.clock h.seats (changes_end n k _ w.ends after.ends ends) h.files (changes_one n _ w.items after.items puts.item) (changes_end n seat _ w.counts after.counts puts.count) h.cargoes h.arms h.datagrams h.put h.inputs h.steps
      ∙ sym (ap₂ (put_there n k) (seat_is k (neighbours w n) seat place) (told_is told))
      ∙ sym (ap (after_pump w c n k) first)
      ∙ sym (happens (Pump n k) (not_refused c w (Pump n k) (λ i q. cc) there (both (some_first (w.ends n k).events event first) (lt-ltb (length (w.items n)) MOST_ITEMS room))))
  step_leads (turned {n} {item} {items} {after} there first leaves h) =
      same_world after (after_serving w n items (serving_of c.answers (neighbours w n) (w.seats n) item)) h.topology h.times h.clock (changes_one n _ w.seats after.seats leaves.seat) h.ends h.files (changes_one n _ w.items after.items leaves.items) h.counts (changes_one n _ w.cargoes after.cargoes leaves.cargoes) h.arms h.datagrams (changes_one n _ w.put after.put leaves.put) (changes_one n _ w.inputs after.inputs leaves.inputs) (changes_one n _ w.steps after.steps leaves.steps)
      ∙ sym (ap (after_turn w c n) first)
      ∙ sym (happens (CoreTurn n) (not_refused c w (CoreTurn n) (λ i q. cc) there (ap (λ xs. not (is_empty xs)) first)))
  step_leads (send_lost_armed {n} {after} there arms h) =
      same_world after (after_arming w n Fails.SendLost) h.topology h.times h.clock h.seats h.ends h.files h.items h.counts h.cargoes (changes_one n _ w.arms after.arms arms) h.datagrams h.put h.inputs h.steps
      ∙ sym (happens (Arm n Fails.SendLost) (not_refused c w (Arm n Fails.SendLost) (λ i q. cc) there (refl)))
  step_leads (send_gone_armed {n} {after} there arms h) =
      same_world after (after_arming w n Fails.SendGone) h.topology h.times h.clock h.seats h.ends h.files h.items h.counts h.cargoes (changes_one n _ w.arms after.arms arms) h.datagrams h.put h.inputs h.steps
      ∙ sym (happens (Arm n Fails.SendGone) (not_refused c w (Arm n Fails.SendGone) (λ i q. cc) there (refl)))
  step_leads (receive_armed {n} {after} there arms h) =
      same_world after (after_arming w n Fails.Receive) h.topology h.times h.clock h.seats h.ends h.files h.items h.counts h.cargoes (changes_one n _ w.arms after.arms arms) h.datagrams h.put h.inputs h.steps
      ∙ sym (happens (Arm n Fails.Receive) (not_refused c w (Arm n Fails.Receive) (λ i q. cc) there (refl)))
  step_leads (read_armed {n} {after} there files h) =
      same_world after (after_arming w n Fails.Read) h.topology h.times h.clock h.seats h.ends (files_change n (after_event (ArmsDisk Disk.Read)) w after files) h.items h.counts h.cargoes h.arms h.datagrams h.put h.inputs h.steps
      ∙ sym (happens (Arm n Fails.Read) (not_refused c w (Arm n Fails.Read) (λ i q. cc) there (refl)))
  step_leads (write_armed {n} {after} there files h) =
      same_world after (after_arming w n Fails.Write) h.topology h.times h.clock h.seats h.ends (files_change n (after_event (ArmsDisk Disk.Write)) w after files) h.items h.counts h.cargoes h.arms h.datagrams h.put h.inputs h.steps
      ∙ sym (happens (Arm n Fails.Write) (not_refused c w (Arm n Fails.Write) (λ i q. cc) there (refl)))
  step_leads (sync_armed {n} {after} there files h) =
      same_world after (after_arming w n Fails.Sync) h.topology h.times h.clock h.seats h.ends (files_change n (after_event (ArmsDisk Disk.Sync)) w after files) h.items h.counts h.cargoes h.arms h.datagrams h.put h.inputs h.steps
      ∙ sym (happens (Arm n Fails.Sync) (not_refused c w (Arm n Fails.Sync) (λ i q. cc) there (refl)))
  step_leads (restarted {n} {torn} {after} there seats ends items counts cargoes inputs files h) =
      same_world after (after_restart w n torn) h.topology h.times h.clock (changes_one n _ w.seats after.seats seats) (changes_one n (λ k. first_end) w.ends after.ends ends ∙ ends_of n first_end w.ends) (files_change n (λ disk. after_event (OpensAnew (after_crash torn (state_in disk))) disk) w after files) (changes_one n [] w.items after.items items) (changes_one n (λ seat. 0) w.counts after.counts counts) (changes_one n (λ k. []) w.cargoes after.cargoes cargoes) h.arms h.datagrams h.put (changes_one n [] w.inputs after.inputs inputs) h.steps
      ∙ sym (happens (Restart n torn) (not_refused c w (Restart n torn) (λ i q. cc) there (refl)))
