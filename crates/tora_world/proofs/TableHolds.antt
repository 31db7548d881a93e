-- The table allows what the definition computes.
use Rattle.std.proofs.Common.{◌≡◌, ℕ, suc, true, false, true≢false, not, List, [], ◌∷◌, ◌++◌, length, Option, Some, None, is_some, if◌then◌else◌, refl, sym, ap, subst, slice_get, ltb-true}
use Rattle.std.proofs.lemmas.Bool.{cond_both}
use Rattle.tora_frame.specs.FrameParts.{FrameParts}
use Rattle.tora_arq.specs.declared.link_event.LinkEvent.{LinkEvent}
use Rattle.tora_arq.specs.declared.phase.Phase.TheVariants.{Closed}
use Rattle.tora_arq.specs.LinkEnd.{EndState, first_end, after_frame, after_poll_event, frame_due, after_transmit}
use Rattle.tora_life.specs.declared.state.DiskCall.TheVariants as Disk
use Rattle.tora_life.specs.State.{after_crash}
use Rattle.tora_life.specs.LifeRun.{state_in, after_event, drawn_by}
use Rattle.tora_life.specs.LifeRun.LifeEvent.{Draw as DrawsNumber, Arm as ArmsDisk, Restart as OpensAnew}
use Rattle.tora_seat.specs.declared.what.What.{What}
use Rattle.tora_seat.specs.declared.what.What.TheVariants as Tells
use Rattle.tora_seat.specs.declared.item.Item.{Item}
use Rattle.tora_seat.specs.declared.cargo.Cargo.{Cargo}
use Rattle.tora_seat.specs.declared.cargo.Cargo.TheVariants as Gives
use Rattle.tora_seat.specs.Serving.{Serving, put_one, put_to, stepped_from, serving_of}
use Rattle.tora_seat.specs.declared.TheConstants.{MOST_ITEMS}
use Rattle.tora_world.specs.declared.event.Event.{Event}
use Rattle.tora_world.specs.declared.event.Event.TheVariants.{Need, Tick, Open, Pull, Transmit, Deliver, Pump, CoreTurn, Arm, Restart}
use Rattle.tora_world.specs.declared.call.Call.{Call}
use Rattle.tora_world.specs.declared.call.Call.TheVariants as Fails
use Rattle.tora_world.specs.declared.sim_error.SimError.{SimError}
use Rattle.tora_world.specs.declared.sim_error.SimError.TheVariants as Refused
use Rattle.tora_world.specs.Topology.{is_node, is_link}
use Rattle.tora_world.specs.LinkMachine.{put_at}
use Rattle.tora_seat.specs.Between.{what_of}
use Rattle.tora_world.specs.World.{World, Choice, Sending, Goes, IsLost, IsGone, Arms, first_seat, settings, neighbours, command_seat, datagram, is_empty, has_room, with_item, open_with, after_pull, with_datagram, after_sending, after_receiving, after_pump, after_serving, after_turn, after_arming, after_restart, refusal_by, effect_by, world_by}
use Rattle.tora_seat.specs.Offers.{place_of}
use Rattle.tora_world.specs.Frames.{ChangesAt, PutsItem, LeavesServed}
use Rattle.tora_world.specs.Table.{IsStepBy, refused, needed, ticked, opened, stays_closed, packet_pulled, cut_pulled, sent, send_lost, send_gone, received, receive_failed, pumped, turned, send_lost_armed, send_gone_armed, receive_armed, read_armed, write_armed, sync_armed, restarted}
use Rattle.tora_world.proofs.TableWords.{both_true, one_changes, end_changes, one_same, end_same, ends_of, change_files, is_datagram, is_seat, is_told}
use Rattle.tora_world.proofs.TableRefusals.{closed_is, refused_holds, is_open}

module _ (c : Choice) (w : World) where
  -- an item is put
  puts : (n seat now : ℕ) (what : What) → PutsItem w n seat now what (with_item w n seat now what)
  puts n seat now what = record {
    item = one_changes n (w.items n ++ record { seat = seat; number = suc (w.counts n seat); now = now; what = what } ∷ []) w.items;
    count = end_changes n seat (suc (w.counts n seat)) w.counts;
  }

  need_holds : (n d : ℕ) → is_node w.topology n ≡ true → has_room w n ≡ true → IsStepBy c w (Need n d) (with_item w n (command_seat w n) c.stamp (Tells.Need d))
  need_holds n d there room =
      needed there (ltb-true (length (w.items n)) MOST_ITEMS room) (puts n (command_seat w n) c.stamp (Tells.Need d))
      (record { topology = refl; times = refl; clock = refl; seats = refl; ends = refl; files = refl; items = tt; counts = tt; cargoes = refl; arms = refl; datagrams = refl; put = refl; inputs = refl; steps = refl })

  open_holds : (n k : ℕ) → is_link w.topology n k ≡ true → (drawn : List ℕ) → drawn_by DrawsNumber (w.files n k) ≡ drawn → (w.ends n k).phase ≡ Closed →
      IsStepBy c w (Open n k) (record w { ends = put_at w.ends n k (open_with (w.ends n k) (c.now n k) drawn); files = put_at w.files n k (after_event DrawsNumber (w.files n k)) })
  open_holds n k there [] e closed =
      stays_closed there closed e (end_changes n k (after_event DrawsNumber (w.files n k)) w.files)
      (record { topology = refl; times = refl; clock = refl; seats = refl; ends = end_same n k w.ends; files = tt; items = refl; counts = refl; cargoes = refl; arms = refl; datagrams = refl; put = refl; inputs = refl; steps = refl })
  open_holds n k there (number ∷ none) e closed =
      opened there closed e (end_changes n k (open_with (w.ends n k) (c.now n k) (number ∷ none)) w.ends) (end_changes n k (after_event DrawsNumber (w.files n k)) w.files)
      (record { topology = refl; times = refl; clock = refl; seats = refl; ends = tt; files = tt; items = refl; counts = refl; cargoes = refl; arms = refl; datagrams = refl; put = refl; inputs = refl; steps = refl })

  pull_holds : (n k : ℕ) → is_link w.topology n k ≡ true → (cargoes : List Cargo) → w.cargoes n k ≡ cargoes → not (is_empty cargoes) ≡ true → IsStepBy c w (Pull n k) (after_pull w n k cargoes)
  pull_holds n k there [] e some = absurd (true≢false (sym some))
  pull_holds n k there (Gives.Packet life packet ∷ cargoes) e some =
      packet_pulled there e (end_changes n k _ w.ends) (end_changes n k cargoes w.cargoes)
      (record { topology = refl; times = refl; clock = refl; seats = refl; ends = tt; files = refl; items = refl; counts = refl; cargoes = tt; arms = refl; datagrams = refl; put = refl; inputs = refl; steps = refl })
  pull_holds n k there (Gives.Cut life ∷ cargoes) e some =
      cut_pulled there e (end_changes n k _ w.ends) (end_changes n k cargoes w.cargoes)
      (record { topology = refl; times = refl; clock = refl; seats = refl; ends = tt; files = refl; items = refl; counts = refl; cargoes = tt; arms = refl; datagrams = refl; put = refl; inputs = refl; steps = refl })

  module _ (n k : ℕ) (there : is_link w.topology n k ≡ true) where
    abbrev after : EndState
    after = after_transmit (settings w n k) (w.ends n k) (c.now n k)

    abbrev used : Arms
    used = record { sending = Goes; receive = (w.arms n).receive }

    frame_holds : (f : FrameParts) → frame_due (settings w n k) (w.ends n k) (c.now n k) ≡ Some f → (s : Sending) → (w.arms n).sending ≡ s →
        IsStepBy c w (Transmit n k) (record w { ends = put_at w.ends n k after; datagrams = with_datagram s w.datagrams f; arms = put_one w.arms n used })
    frame_holds f e Goes s =
        let unused : used ≡ w.arms n = λ i. record { sending = sym s i; receive = (w.arms n).receive } in
        sent there e s (end_changes n k after w.ends) refl
        (record { topology = refl; times = refl; clock = refl; seats = refl; ends = tt; files = refl; items = refl; counts = refl; cargoes = refl; arms = one_same n used w.arms unused; datagrams = tt; put = refl; inputs = refl; steps = refl })
    frame_holds f e IsLost s =
        send_lost there e s (end_changes n k after w.ends) (one_changes n used w.arms)
        (record { topology = refl; times = refl; clock = refl; seats = refl; ends = tt; files = refl; items = refl; counts = refl; cargoes = refl; arms = tt; datagrams = refl; put = refl; inputs = refl; steps = refl })
    frame_holds f e IsGone s =
        send_gone there e s (end_changes n k after w.ends) refl (one_changes n used w.arms)
        (record { topology = refl; times = refl; clock = refl; seats = refl; ends = tt; files = refl; items = refl; counts = refl; cargoes = refl; arms = tt; datagrams = tt; put = refl; inputs = refl; steps = refl })

    transmit_holds : (o : Option FrameParts) → frame_due (settings w n k) (w.ends n k) (c.now n k) ≡ o → is_some o ≡ true → IsStepBy c w (Transmit n k) (after_sending w n k after o)
    transmit_holds None e some = absurd (true≢false (sym some))
    transmit_holds (Some f) e some = frame_holds f e (w.arms n).sending refl

    pump_holds : (events : List LinkEvent) → (w.ends n k).events ≡ events → not (is_empty events) ≡ true → has_room w n ≡ true → IsStepBy c w (Pump n k) (after_pump w c n k (slice_get events 0))
    pump_holds [] e some room = absurd (true≢false (sym some))
    pump_holds (event ∷ events) e some room =
        pumped there (ap (λ (xs : List LinkEvent). slice_get xs 0) e) (ltb-true (length (w.items n)) MOST_ITEMS room) (is_told event) (is_seat k (neighbours w n) there)
        (end_changes n k (after_poll_event (w.ends n k)) w.ends)
        (record {
          item = one_changes n (w.items n ++ record { seat = place_of k (neighbours w n); number = suc (w.counts n (place_of k (neighbours w n))); now = c.stamp; what = what_of event } ∷ []) w.items;
          count = end_changes n (place_of k (neighbours w n)) (suc (w.counts n (place_of k (neighbours w n)))) w.counts;
        })
        (record { topology = refl; times = refl; clock = refl; seats = refl; ends = tt; files = refl; items = tt; counts = tt; cargoes = refl; arms = refl; datagrams = refl; put = refl; inputs = refl; steps = refl })

  deliver_holds : (i : ℕ) (f : FrameParts) → datagram w i ≡ Some f → IsStepBy c w (Deliver i) (after_receiving w c (Some f))
  deliver_holds i f e =
      cond_both (w.arms f.header.receiver).receive _ _ (IsStepBy c w (Deliver i))
      (λ armed. receive_failed (is_datagram w i f e) armed (one_changes f.header.receiver (record { sending = (w.arms f.header.receiver).sending; receive = false }) w.arms)
      (record { topology = refl; times = refl; clock = refl; seats = refl; ends = refl; files = refl; items = refl; counts = refl; cargoes = refl; arms = tt; datagrams = refl; put = refl; inputs = refl; steps = refl }))
      (λ free. received (is_datagram w i f e) free (end_changes f.header.receiver f.header.sender (after_frame (settings w f.header.receiver f.header.sender) (w.ends f.header.receiver f.header.sender) f (c.now f.header.receiver f.header.sender)) w.ends)
      (record { topology = refl; times = refl; clock = refl; seats = refl; ends = tt; files = refl; items = refl; counts = refl; cargoes = refl; arms = refl; datagrams = refl; put = refl; inputs = refl; steps = refl }))

  leaves_served : (n : ℕ) (items : List Item) (v : Serving) → LeavesServed w n items v (after_serving w n items v)
  leaves_served n items v = record {
    seat = one_changes n v.seat w.seats;
    items = one_changes n items w.items;
    cargoes = one_changes n (λ k. w.cargoes n k ++ put_to k v.offers) w.cargoes;
    put = one_changes n (λ k. w.put n k ++ put_to k v.offers) w.put;
    inputs = one_changes n (w.inputs n ++ v.inputs) w.inputs;
    steps = one_changes n (λ k. w.steps n k ++ stepped_from k v.steps) w.steps;
  }

  turn_holds : (n : ℕ) → is_node w.topology n ≡ true → (items : List Item) → w.items n ≡ items → not (is_empty items) ≡ true → IsStepBy c w (CoreTurn n) (after_turn w c n items)
  turn_holds n there [] e some = absurd (true≢false (sym some))
  turn_holds n there (item ∷ items) e some =
      turned there e (leaves_served n items (serving_of c.answers (neighbours w n) (w.seats n) item))
      (record { topology = refl; times = refl; clock = refl; seats = tt; ends = refl; files = refl; items = tt; counts = refl; cargoes = tt; arms = refl; datagrams = refl; put = tt; inputs = tt; steps = tt })

  arm_holds : (n : ℕ) (call : Call) → is_node w.topology n ≡ true → IsStepBy c w (Arm n call) (after_arming w n call)
  arm_holds n Fails.SendLost there =
      send_lost_armed there (one_changes n (record (w.arms n) { sending = IsLost }) w.arms)
      (record { topology = refl; times = refl; clock = refl; seats = refl; ends = refl; files = refl; items = refl; counts = refl; cargoes = refl; arms = tt; datagrams = refl; put = refl; inputs = refl; steps = refl })
  arm_holds n Fails.SendGone there =
      send_gone_armed there (one_changes n (record (w.arms n) { sending = IsGone }) w.arms)
      (record { topology = refl; times = refl; clock = refl; seats = refl; ends = refl; files = refl; items = refl; counts = refl; cargoes = refl; arms = tt; datagrams = refl; put = refl; inputs = refl; steps = refl })
  arm_holds n Fails.Receive there =
      receive_armed there (one_changes n (record (w.arms n) { receive = true }) w.arms)
      (record { topology = refl; times = refl; clock = refl; seats = refl; ends = refl; files = refl; items = refl; counts = refl; cargoes = refl; arms = tt; datagrams = refl; put = refl; inputs = refl; steps = refl })
  arm_holds n Fails.Read there =
      read_armed there (change_files n (after_event (ArmsDisk Disk.Read)) w (after_arming w n Fails.Read) refl)
      (record { topology = refl; times = refl; clock = refl; seats = refl; ends = refl; files = tt; items = refl; counts = refl; cargoes = refl; arms = refl; datagrams = refl; put = refl; inputs = refl; steps = refl })
  arm_holds n Fails.Write there =
      write_armed there (change_files n (after_event (ArmsDisk Disk.Write)) w (after_arming w n Fails.Write) refl)
      (record { topology = refl; times = refl; clock = refl; seats = refl; ends = refl; files = tt; items = refl; counts = refl; cargoes = refl; arms = refl; datagrams = refl; put = refl; inputs = refl; steps = refl })
  arm_holds n Fails.Sync there =
      sync_armed there (change_files n (after_event (ArmsDisk Disk.Sync)) w (after_arming w n Fails.Sync) refl)
      (record { topology = refl; times = refl; clock = refl; seats = refl; ends = refl; files = tt; items = refl; counts = refl; cargoes = refl; arms = refl; datagrams = refl; put = refl; inputs = refl; steps = refl })

  restart_holds : (n : ℕ) (torn : Option (List ℕ)) → is_node w.topology n ≡ true → IsStepBy c w (Restart n torn) (after_restart w n torn)
  restart_holds n torn there =
      restarted there (one_changes n (first_seat w.topology n) w.seats)
      (subst (λ (f : ℕ → ℕ → EndState). ChangesAt n (λ (k : ℕ). first_end) w.ends f) (ends_of n first_end w.ends) (one_changes n (λ k. first_end) w.ends))
      (one_changes n [] w.items) (one_changes n (λ seat. 0) w.counts) (one_changes n (λ k. []) w.cargoes) (one_changes n [] w.inputs)
      (change_files n (λ disk. after_event (OpensAnew (after_crash torn (state_in disk))) disk) w (after_restart w n torn) refl)
      (record { topology = refl; times = refl; clock = refl; seats = tt; ends = tt; files = tt; items = tt; counts = tt; cargoes = tt; arms = refl; datagrams = refl; put = refl; inputs = tt; steps = refl })

  -- the effect of an event that is not refused
  effect_holds : (event : Event) → refusal_by c w event ≡ None → IsStepBy c w event (effect_by c w event)
  unfolding effect_by
  effect_holds (Need n d) e = let x = is_open c w (Need n d) (λ i q. cc) e in need_holds n d x.0 x.1
  effect_holds Tick e =
      ticked refl (λ n k. refl)
      (record { topology = refl; times = refl; clock = tt; seats = refl; ends = tt; files = refl; items = refl; counts = refl; cargoes = refl; arms = refl; datagrams = refl; put = refl; inputs = refl; steps = refl })
  effect_holds (Open n k) e = let x = is_open c w (Open n k) (λ i q. cc) e in open_holds n k x.0 (drawn_by DrawsNumber (w.files n k)) refl (closed_is (w.ends n k).phase x.1)
  effect_holds (Pull n k) e = let x = is_open c w (Pull n k) (λ i q. cc) e in pull_holds n k x.0 (w.cargoes n k) refl x.1
  effect_holds (Transmit n k) e = let x = is_open c w (Transmit n k) (λ i q. cc) e in transmit_holds n k x.0 (frame_due (settings w n k) (w.ends n k) (c.now n k)) refl x.1
  effect_holds (Deliver i) e = go (datagram w i) refl e
    where
      go : (o : Option FrameParts) → datagram w i ≡ o → (if is_some o then None else Some Refused.NoDatagram) ≡ None → IsStepBy c w (Deliver i) (after_receiving w c o)
      go None q x = absurd (cc)
      go (Some f) q x = deliver_holds i f q
  effect_holds (Pump n k) e =
      let x = is_open c w (Pump n k) (λ i q. cc) e in
      let y = both_true (not (is_empty (w.ends n k).events)) (has_room w n) x.1 in
      pump_holds n k x.0 (w.ends n k).events refl y.0 y.1
  effect_holds (CoreTurn n) e = let x = is_open c w (CoreTurn n) (λ i q. cc) e in turn_holds n x.0 (w.items n) refl x.1
  effect_holds (Arm n call) e = let x = is_open c w (Arm n call) (λ i q. cc) e in arm_holds n call x.0
  effect_holds (Restart n torn) e = let x = is_open c w (Restart n torn) (λ i q. cc) e in restart_holds n torn x.0

  pub step_holds : (event : Event) → IsStepBy c w event (world_by c w event)
  unfolding world_by
  step_holds event = go (refusal_by c w event) refl
    where
      go : (o : Option SimError) → refusal_by c w event ≡ o → IsStepBy c w event (if is_some o then w else effect_by c w event)
      go None e = effect_holds event e
      go (Some error) e =
          refused (refused_holds c w event error e)
          (record { topology = refl; times = refl; clock = refl; seats = refl; ends = refl; files = refl; items = refl; counts = refl; cargoes = refl; arms = refl; datagrams = refl; put = refl; inputs = refl; steps = refl })
