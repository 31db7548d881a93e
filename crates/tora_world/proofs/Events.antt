-- Each event except the core's turn keeps the invariant of all ends.
use Rattle.std.proofs.Common.{◌≡◌, ◌≢◌, ℕ, zero, suc, Bool, true, false, true≢false, ◌&&◌, ◌⊎◌, inl, inr, ⊎_elim, List, [], ◌∷◌, ◌++◌, length, map, drop, Option, Some, None, nat_eq, if◌then◌else◌, refl, sym, ap, ap₂, ◌∙◌, subst, subst₂, append_assoc, append-nil, eqb-true, eq-eqb, Ok, Err}
use Rattle.tora_seat.proofs.Places.{turned}
use Rattle.std.proofs.lemmas.Bool.{cond_both, cases_Bool}
use Rattle.std.specs.Prelude.{slice_get, Result}
use Rattle.tora_packet.specs.declared.Packet.{Packet}
use Rattle.tora_frame.specs.declared.parts.Version.{Version}
use Rattle.tora_frame.specs.declared.parts.Body.{Body}
use Rattle.tora_frame.specs.declared.parts.Body.TheVariants.{Hello, Data, Ack}
use Rattle.tora_frame.specs.FrameParts.{FrameParts}
use Rattle.tora_arq.specs.declared.life.Life.{Life}
use Rattle.tora_arq.specs.declared.link_event.LinkEvent.{LinkEvent}
use Rattle.tora_arq.specs.declared.phase.Phase.{Phase}
use Rattle.tora_arq.specs.declared.phase.Phase.TheVariants.{Closed, Unbound, Bound}
use Rattle.tora_arq.specs.Lives.{is_same_life, life_of, reversed}
use Rattle.tora_arq.specs.Settings.{settings_of}
use Rattle.tora_arq.specs.LinkEnd.{EndState, first_end, bound_life, count_of, after_open, after_tick, after_frame, after_transmit, frame_due, frame_sent, after_poll_event}
use Rattle.tora_arq.specs.LinkFacts.{LinkCall, IsPossible, after_call, packet_submitted, packet_where_ok, HandsInFrameOf, IsFrameOf, IsFrameSent, IsFrameSentIn, IsBodyOf, IsPacketAt, BodyTells, events_left}
use Rattle.tora_arq.specs.LinkFacts.LinkCall.{Frame as Hears, Tick as Ticks, Submit as Submits, Transmit as Transmits, Cut as Cuts}
use Rattle.tora_arq.specs.declared.times.Times.{Times}
use Rattle.tora_life.specs.declared.state.DiskCall.{DiskCall}
use Rattle.tora_life.specs.declared.state.DiskCall.TheVariants as Disk
use Rattle.tora_life.specs.declared.numbers.LifeError.{LifeError}
use Rattle.tora_life.specs.State.{after_crash}
use Rattle.tora_life.specs.InMemory.{draw_answer}
use Rattle.tora_life.specs.LifeRun.LifeDisk.{Opened, Unopened}
use Rattle.tora_life.specs.LifeRun.LifeEvent.{Draw as DrawsNumber, Arm as ArmsDisk, Restart as OpensAnew}
use Rattle.tora_life.specs.LifeRun.{LifeDisk, IsFloor, after_event, drawn_by, state_in, number_in}
use Rattle.tora_seat.specs.declared.what.What.{What}
use Rattle.tora_seat.specs.declared.item.Item.{Item}
use Rattle.tora_seat.specs.declared.cargo.Cargo.{Cargo}
use Rattle.tora_seat.specs.declared.cargo.Cargo.TheVariants as Gives
use Rattle.tora_seat.specs.Serving.{Parcel, put_one}
use Rattle.tora_world.specs.declared.call.Call.{Call}
use Rattle.tora_world.specs.declared.call.Call.TheVariants as Fails
use Rattle.tora_world.specs.Topology.{version_at, is_link}
use Rattle.tora_world.specs.Lists.{packet_where, packets_of, parcels_in, parcel_of, Begins, IsIn}
use Rattle.tora_world.specs.LinkMachine.{put_at, MachineEnd, Machine, MachineStep, machine_after, made, IsLast}
use Rattle.tora_seat.specs.Between.{what_of}
use Rattle.tora_world.specs.World.{World, Choice, Sending, settings, neighbours, datagram, first_seat, with_end, with_item, open_with, after_opening, after_pull, with_datagram, after_sending, after_receiving, after_pump, is_file_of, with_armed_files, after_arming, reopened, after_restart}
use Rattle.tora_seat.specs.Offers.{place_of}
use Rattle.tora_world.specs.World.Sending.{Goes, IsLost, IsGone}
use Rattle.tora_world.specs.MachineRun.{steps_of_opening, steps_of_binding, steps_of_frame, steps_of_restart}
use Rattle.tora_world.specs.Layers.{LinkLaws, LifeLaws}
use Rattle.tora_world.proofs.PacketLists.{at_pair, put_here, put_there, same_true, same_refl, at_begins, Each_at}
use Rattle.tora_world.proofs.Invariant.{EndView, arrival_of, AllOf, InPhase, InLife, InWait, FollowsMachine, Tells, Told, AllEndsFollow, Seen, seen_at_other}
use Rattle.tora_world.proofs.Moves.{IsCall, called, call_stays, polls, refiles, ClosesMore, restarts}
use Rattle.tora_world.proofs.AllEnds.{Changes, no_step, same_views, at_every_end, opening_follows, call_follows, frame_follows, restart_follows, frames_more}
use Rattle.tora_world.proofs.EndViews.{arrivals_in, arrivals_of, view_of, end_views, end_view_call, arrivals-append, none_past, at_place, arrival_what}

pub put_one_here : {A : Type 0} (f : ℕ → A) (n : ℕ) (v : A) → put_one f n v n ≡ v
put_one_here f n v = ap (λ t. if t then v else f n) (eq-eqb n n refl)

pub put_one_there : {A : Type 0} (f : ℕ → A) (n : ℕ) (v : A) (a : ℕ) → nat_eq a n ≡ false → put_one f n v a ≡ f a
put_one_there f n v a e = ap (λ t. if t then v else f a) e

-- ---- the contents of frames

-- each packet of a frame is the one of its number
body_tells : (sent : List Parcel) (done : Life → ℕ → Type 0) (l : Life) (b : Body) → Tells sent done l b → BodyTells (IsPacketAt (packets_of l sent)) b
body_tells sent done l Hello t = λ place packet has. absurd has
body_tells sent done l (Ack count) t = λ place packet has. absurd has
body_tells sent done l (Data number count packets) t = t.0

body_counts : (sent : List Parcel) (done : Life → ℕ → Type 0) (l : Life) (b : Body) → done l 0 → Tells sent done l b → done l (count_of b)
body_counts sent done l Hello z t = z
body_counts sent done l (Data number count packets) z t = t.1
body_counts sent done l (Ack count) z t = t

-- the content of a frame that an end sends
module _ (m : Machine) (seen : Seen) (n k : ℕ) where
  told_by : (newest : Version) (own heard : ℕ) (f : FrameParts) (times : Times) → f ≡ frame_sent (settings_of newest n k times) f.header.version own heard f.body → IsIn own (m n k).drawn → Tells (m n k).sent (seen n k) (life_of own heard) f.body → Told m seen f
  told_by newest own heard f times e i t = subst (λ h. IsIn h.life (m h.sender h.receiver).drawn × Tells (m h.sender h.receiver).sent (seen h.sender h.receiver) (life_of h.life h.heard) f.body) (sym (ap (λ (x : FrameParts). x.header) e)) (i, t)

body_told : (submitted : List Packet) (sent : List Parcel) (accepted : ℕ) (done : Life → ℕ → Type 0) (l : Life) (b : Body) → Begins submitted (packets_of l sent) → done l accepted → IsBodyOf submitted accepted b → Tells sent done l b
body_told submitted sent accepted done l Hello b d t = tt
body_told submitted sent accepted done l (Ack count) b d t = subst (done l) (sym t) d
body_told submitted sent accepted done l (Data number count packets) b d t =
    (λ place packet has. at_begins submitted (packets_of l sent) place packet b (t.packets_are place packet has), subst (done l) (sym t.count_is) d)

last_in : (x : ℕ) (xs : List ℕ) → IsLast x xs → IsIn x xs
last_in x [] e = absurd e
last_in x (y ∷ ys) e = inl e

-- a call of an end without a frame
module _ (v : EndView) (p : MachineEnd) (other : List Parcel) (done : Life → ℕ → Type 0) where
  pub tick_call : (now : ℕ) → AllOf p.bound v.out → IsCall v p other done (Ticks now) v.out
  tick_call now a = record { possible = tt; not_open = λ x o. o; tells = λ l. tt; counts = λ l c o. absurd o; outs = λ l e e'. refl; all_out = a }

  transmit_call : (now : ℕ) → AllOf p.bound v.out → IsCall v p other done (Transmits now) v.out
  transmit_call now a = record { possible = tt; not_open = λ x o. o; tells = λ l. tt; counts = λ l c o. absurd o; outs = λ l e e'. refl; all_out = a }

  pub cut_call : (life : Life) → AllOf p.bound v.out → IsCall v p other done (Cuts life) v.out
  cut_call life a = record { possible = tt; not_open = λ x o. o; tells = λ l. tt; counts = λ l c o. absurd o; outs = λ l e e'. refl; all_out = a }

  -- the first packet of the queue is submitted in its session, or not at all
  submit_outs : (laws : LinkLaws) (x : Parcel) (l : Life) → v.endpoint.phase ≡ Bound l → (after_call v.settings v.endpoint (Submits x.life x.packet)).phase ≡ Bound l → packet_submitted v.endpoint (Submits x.life x.packet) ≡ packet_where l x
  submit_outs laws x l e e' = go (cases_Bool (is_same_life l x.life))
    where
      go : (is_same_life l x.life ≡ true) ⊎ (is_same_life l x.life ≡ false) → packet_submitted v.endpoint (Submits x.life x.packet) ≡ packet_where l x
      go (inl t) =
          let q : l ≡ x.life = same_true l x.life t in
          ap (packet_where_ok x.packet) (laws.own v.endpoint x.life x.packet (e' ∙ ap Bound q)) ∙ sym (ap (λ b. if b then x.packet ∷ [] else []) t)
      go (inr t) =
          let n : v.endpoint.phase ≢ Bound x.life = λ q. let y : Bound l ≡ Bound x.life = sym e ∙ q in let z : l ≡ x.life = cc in true≢false (sym (subst (λ i. is_same_life l i ≡ true) z (same_refl l)) ∙ t) in
          ap (packet_where_ok x.packet) (laws.other v.endpoint x.life x.packet n).0 ∙ sym (ap (λ b. if b then x.packet ∷ [] else []) t)

  submit_call : (laws : LinkLaws) (x : Parcel) (out : List Parcel) → v.out ≡ x ∷ out → AllOf p.bound v.out → IsCall v p other done (Submits x.life x.packet) out
  submit_call laws x out q a = record {
    possible = tt;
    not_open = λ x o. o;
    tells = λ l. tt;
    counts = λ l c o. absurd o;
    outs = λ l e e'. ap (λ xs. xs ++ packets_of l out) (submit_outs laws x l e e') ∙ sym (ap (packets_of l) q);
    all_out = (subst (AllOf p.bound) q a).1;
  }

  -- a call with a frame of the other end
  frame_call : (f : FrameParts) (now : ℕ) → ((l : Life) → done l 0) → Tells other (λ l c. done (reversed l) c) (life_of f.header.life f.header.heard) f.body → AllOf p.bound v.out → IsCall v p other done (Hears f now) v.out
  frame_call f now nought t a = record {
    possible = tt;
    not_open = λ x o. o;
    tells = λ l o. body_tells other (λ l c. done (reversed l) c) (reversed l) f.body (of_life l o);
    counts = λ l c o. subst (done l) o.1 (body_counts other (λ l c. done (reversed l) c) (reversed l) f.body (nought l) (of_life l o.0));
    outs = λ l e e'. refl;
    all_out = a;
  }
    where
      of_life : (l : Life) → IsFrameOf v.settings l f → Tells other (λ l c. done (reversed l) c) (reversed l) f.body
      of_life l o = subst₂ (λ x y. Tells other (λ l c. done (reversed l) c) (life_of x y) f.body) o.peer o.own t

-- at most one number is drawn
pub one_number : (disk : LifeDisk) → (drawn_by DrawsNumber disk ≡ []) ⊎ ((x : ℕ) × (drawn_by DrawsNumber disk ≡ x ∷ []))
one_number (Unopened owner s) = inl refl
one_number (Opened owner numbers s) = go (draw_answer numbers s)
  where
    go : (r : Result ℕ LifeError) → (number_in r ≡ []) ⊎ ((x : ℕ) × (number_in r ≡ x ∷ []))
    go (Ok x) = inr (x, refl)
    go (Err e) = inl refl

module _ (laws : LinkLaws) (lows : LifeLaws) (steps : List MachineStep) (w : World) (seen : Seen) where
  abbrev pub WorldFollows : World → Type 0
  WorldFollows w = AllEndsFollow steps (end_views w) w.datagrams seen

  -- the invariant holds after these steps were added
  abbrev pub WorldFollowsBy : List MachineStep → World → Type 0
  WorldFollowsBy ss w = AllEndsFollow (made ss steps) (end_views w) w.datagrams seen

  -- an end changes by a call that polls no event
  pub end_changes : (n k : ℕ) (call : LinkCall) → IsPossible (w.ends n k) call → events_left (w.ends n k) call ≡ (w.ends n k).events →
      Changes (end_views w) (end_views (with_end w n k (after_call (settings w n k) (w.ends n k) call))) n k (end_views w n k) (called (end_views w n k) call (end_views w n k).out)
  end_changes n k call ok left =
      let e : EndState = after_call (settings w n k) (w.ends n k) call in
      record {
        was = refl;
        here = ap (λ x. view_of (settings w n k) x (w.files n k) ((w.seats n).current k) (arrivals_of (neighbours w n) k (w.items n)) (w.cargoes n k) (w.put n k) (w.steps n k)) (put_here w.ends n k e)
            ∙ end_view_call laws (settings w n k) (w.ends n k) (w.files n k) ((w.seats n).current k) (arrivals_of (neighbours w n) k (w.items n)) (w.cargoes n k) (w.cargoes n k) (w.put n k) (w.steps n k) call ok left;
        there = λ a b o. ap (λ x. view_of (settings w a b) x (w.files a b) ((w.seats a).current b) (arrivals_of (neighbours w a) b (w.items a)) (w.cargoes a b) (w.put a b) (w.steps a b)) (put_there w.ends n k e a b o);
      }

  -- a change of the queue that does not change the arrivals
  same_lane : (n : ℕ) (lane : List Item) → ((b : ℕ) → arrivals_of (neighbours w n) b lane ≡ arrivals_of (neighbours w n) b (w.items n)) → WorldFollows w → WorldFollows (record w { items = put_one w.items n lane })
  same_lane n lane e g =
      same_views steps (end_views w) (end_views (record w { items = put_one w.items n lane })) w.datagrams seen
      (λ a b. ap (λ s. view_of (settings w a b) (w.ends a b) (w.files a b) ((w.seats a).current b) s (w.cargoes a b) (w.put a b) (w.steps a b)) (go a b (cases_Bool (nat_eq a n)))) g
    where
      go : (a b : ℕ) → (nat_eq a n ≡ true) ⊎ (nat_eq a n ≡ false) → arrivals_of (neighbours w a) b (put_one w.items n lane a) ≡ arrivals_of (neighbours w a) b (w.items a)
      go a b (inl t) = subst (λ x. arrivals_of (neighbours w x) b (put_one w.items n lane x) ≡ arrivals_of (neighbours w x) b (w.items x)) (sym (eqb-true a n t)) (ap (arrivals_of (neighbours w n) b) (put_one_here w.items n lane) ∙ e b)
      go a b (inr t) = ap (arrivals_of (neighbours w a) b) (put_one_there w.items n lane a t)

  pub need_keeps : (n now : ℕ) (what : What) → WorldFollows w → WorldFollows (with_item w n (length (neighbours w n)) now what)
  need_keeps n now what g =
      let i : Item = record { seat = length (neighbours w n); number = suc (w.counts n (length (neighbours w n))); now = now; what = what } in
      same_lane n (w.items n ++ i ∷ [])
      (λ b. arrivals-append (neighbours w n) b (w.items n) (i ∷ []) ∙ ap (λ o. arrivals_of (neighbours w n) b (w.items n) ++ (arrivals_in b o what ++ [])) (none_past (neighbours w n)) ∙ append-nil (arrivals_of (neighbours w n) b (w.items n))) g

  pub tick_keeps : (c : Choice) → WorldFollows w → WorldFollows (record w { clock = c.clock; ends = λ n k. after_tick (settings w n k) (w.ends n k) (c.now n k) })
  tick_keeps c g =
      at_every_end steps (end_views w) (end_views (record w { clock = c.clock; ends = λ n k. after_tick (settings w n k) (w.ends n k) (c.now n k) })) w.datagrams seen
      (λ a b p other h.
      subst (λ v. FollowsMachine v p other (seen_at_other seen a b))
      (sym (end_view_call laws (settings w a b) (w.ends a b) (w.files a b) ((w.seats a).current b) (arrivals_of (neighbours w a) b (w.items a)) (w.cargoes a b) (w.cargoes a b) (w.put a b) (w.steps a b) (Ticks (c.now a b)) tt refl))
      (call_stays laws (end_views w a b) p other (seen_at_other seen a b) (Ticks (c.now a b)) (end_views w a b).out (tick_call (end_views w a b) p other (seen_at_other seen a b) (c.now a b) h.histories.all_out)
      (λ l e. ⊎_elim (λ q. q) (λ q. absurd q.1) (laws.binds (settings w a b) (w.ends a b) (Ticks (c.now a b)) tt l e)) h)) g

  pub opening_keeps : (c : Choice) (n k : ℕ) → WorldFollows w → WorldFollowsBy (steps_of_opening n k (drawn_by DrawsNumber (w.files n k))) (after_opening w c n k)
  opening_keeps c n k g = go (one_number (w.files n k))
    where
      go : (drawn_by DrawsNumber (w.files n k) ≡ []) ⊎ ((x : ℕ) × (drawn_by DrawsNumber (w.files n k) ≡ x ∷ [])) → WorldFollowsBy (steps_of_opening n k (drawn_by DrawsNumber (w.files n k))) (after_opening w c n k)
      go (inl e) =
          subst (λ xs. WorldFollowsBy (steps_of_opening n k xs) (record w { ends = put_at w.ends n k (open_with (w.ends n k) (c.now n k) xs); files = put_at w.files n k (after_event DrawsNumber (w.files n k)) })) (sym e)
          (no_step steps (end_views w) (end_views (record w { ends = put_at w.ends n k (w.ends n k); files = put_at w.files n k (after_event DrawsNumber (w.files n k)) })) w.datagrams seen n k (end_views w n k) (record (end_views w n k) { file = after_event DrawsNumber (w.files n k) })
          (record {
            was = refl;
            here = ap₂ (λ x f. view_of (settings w n k) x f ((w.seats n).current k) (arrivals_of (neighbours w n) k (w.items n)) (w.cargoes n k) (w.put n k) (w.steps n k)) (put_here w.ends n k (w.ends n k)) (put_here w.files n k (after_event DrawsNumber (w.files n k)));
            there = λ a b o. ap₂ (λ x f. view_of (settings w a b) x f ((w.seats a).current b) (arrivals_of (neighbours w a) b (w.items a)) (w.cargoes a b) (w.put a b) (w.steps a b)) (put_there w.ends n k (w.ends n k) a b o) (put_there w.files n k (after_event DrawsNumber (w.files n k)) a b o);
          }) g
          (λ h. refiles (end_views w n k) (machine_after steps n k) (machine_after steps k n).sent (seen_at_other seen n k) (after_event DrawsNumber (w.files n k)) (λ m f. lows.keep m DrawsNumber (w.files n k) f tt) h))
      go (inr (x, e)) =
          subst (λ xs. WorldFollowsBy (steps_of_opening n k xs) (record w { ends = put_at w.ends n k (open_with (w.ends n k) (c.now n k) xs); files = put_at w.files n k (after_event DrawsNumber (w.files n k)) })) (sym e)
          (opening_follows steps (end_views w) (end_views (record w { ends = put_at w.ends n k (after_open (w.ends n k) x (c.now n k)); files = put_at w.files n k (after_event DrawsNumber (w.files n k)) })) w.datagrams seen n k (end_views w n k) x (c.now n k) (after_event DrawsNumber (w.files n k))
          (λ m f. lows.draw m x (w.files n k) f e)
          (record {
            was = refl;
            here = ap₂ (λ x f. view_of (settings w n k) x f ((w.seats n).current k) (arrivals_of (neighbours w n) k (w.items n)) (w.cargoes n k) (w.put n k) (w.steps n k)) (put_here w.ends n k (after_open (w.ends n k) x (c.now n k))) (put_here w.files n k (after_event DrawsNumber (w.files n k)));
            there = λ a b o. ap₂ (λ x f. view_of (settings w a b) x f ((w.seats a).current b) (arrivals_of (neighbours w a) b (w.items a)) (w.cargoes a b) (w.put a b) (w.steps a b)) (put_there w.ends n k (after_open (w.ends n k) x (c.now n k)) a b o) (put_there w.files n k (after_event DrawsNumber (w.files n k)) a b o);
          }) g)

  -- the invariant at one end
  side : (n k : ℕ) (g : WorldFollows w) → FollowsMachine (end_views w n k) (machine_after steps n k) (machine_after steps k n).sent (seen_at_other seen n k)
  side n k g = g.sides n k

  pulled : (n k : ℕ) (call : LinkCall) (cargoes : List Cargo) → IsPossible (w.ends n k) call → events_left (w.ends n k) call ≡ (w.ends n k).events → ((l : Life) → HandsInFrameOf (settings w n k) l call → ⊥) →
      (g : WorldFollows w) → IsCall (end_views w n k) (machine_after steps n k) (machine_after steps k n).sent (seen_at_other seen n k) call (parcels_in cargoes) →
      WorldFollows (record w { ends = put_at w.ends n k (after_call (settings w n k) (w.ends n k) call); cargoes = put_at w.cargoes n k cargoes })
  pulled n k call cargoes ok left no_frame g is =
      let e : EndState = after_call (settings w n k) (w.ends n k) call in
      call_follows steps (end_views w) (end_views (record w { ends = put_at w.ends n k e; cargoes = put_at w.cargoes n k cargoes })) w.datagrams seen n k (end_views w n k) laws call (parcels_in cargoes)
      (record {
        was = refl;
        here = ap₂ (λ x cs. view_of (settings w n k) x (w.files n k) ((w.seats n).current k) (arrivals_of (neighbours w n) k (w.items n)) cs (w.put n k) (w.steps n k)) (put_here w.ends n k e) (put_here w.cargoes n k cargoes)
            ∙ end_view_call laws (settings w n k) (w.ends n k) (w.files n k) ((w.seats n).current k) (arrivals_of (neighbours w n) k (w.items n)) (w.cargoes n k) cargoes (w.put n k) (w.steps n k) call ok left;
        there = λ a b o. ap₂ (λ x cs. view_of (settings w a b) x (w.files a b) ((w.seats a).current b) (arrivals_of (neighbours w a) b (w.items a)) cs (w.put a b) (w.steps a b)) (put_there w.ends n k e a b o) (put_there w.cargoes n k cargoes a b o);
      }) g is no_frame

  pub pull_keeps : (n k : ℕ) → WorldFollows w → (cargoes : List Cargo) → w.cargoes n k ≡ cargoes → WorldFollows (after_pull w n k cargoes)
  pull_keeps n k g [] q = g
  pull_keeps n k g (Gives.Packet l p ∷ cargoes) q =
      pulled n k (Submits l p) cargoes tt refl (λ j o. o) g
      (submit_call (end_views w n k) (machine_after steps n k) (machine_after steps k n).sent (seen_at_other seen n k) laws (parcel_of l p) (parcels_in cargoes) (ap parcels_in q) (side n k g).histories.all_out)
  pull_keeps n k g (Gives.Cut l ∷ cargoes) q =
      pulled n k (Cuts l) cargoes tt refl (λ j o. o) g
      (subst (λ out. IsCall (end_views w n k) (machine_after steps n k) (machine_after steps k n).sent (seen_at_other seen n k) (Cuts l) out) (ap parcels_in q) (cut_call (end_views w n k) (machine_after steps n k) (machine_after steps k n).sent (seen_at_other seen n k) l (side n k g).histories.all_out))

  -- ---- frames go out

  frame_told : (n k now : ℕ) (f : FrameParts) → frame_due (settings w n k) (w.ends n k) now ≡ Some f → ((l : Life) → (w.ends n k).phase ≡ Bound l → seen n k l (w.ends n k).accepted) → (g : WorldFollows w) → Told (machine_after steps) seen f
  frame_told n k now f e now_seen g = go (w.ends n k).phase refl (laws.frame (settings w n k) (w.ends n k) (Transmits now) f e)
    where
      go : (ph : Phase) → (w.ends n k).phase ≡ ph → IsFrameSent (settings w n k) (w.ends n k) f → Told (machine_after steps) seen f
      go Closed q s = absurd (subst (λ x. IsFrameSentIn (settings w n k) (w.ends n k) f x) q s)
      go (Unbound own) q s =
          let is : f ≡ frame_sent (settings w n k) f.header.version own (w.ends n k).heard Hello = subst (λ x. IsFrameSentIn (settings w n k) (w.ends n k) f x) q s in
          let i : InWait own (machine_after steps n k) = subst (λ x. InPhase x (end_views w n k) (machine_after steps n k) (machine_after steps k n).sent (seen_at_other seen n k)) q (g.sides n k).phase in
          let b : Hello ≡ f.body = sym (ap (λ (x : FrameParts). x.body) is) in
          told_by (machine_after steps) seen n k (version_at w.topology n) own (w.ends n k).heard f w.times (subst (λ x. f ≡ frame_sent (settings w n k) f.header.version own (w.ends n k).heard x) b is) (last_in own (machine_after steps n k).drawn i.last)
          (subst (λ x. Tells (machine_after steps n k).sent (seen n k) (life_of own (w.ends n k).heard) x) b tt)
      go (Bound l) q s =
          let is = subst (λ x. IsFrameSentIn (settings w n k) (w.ends n k) f x) q s in
          let i : InLife l (w.ends n k) ((w.seats n).current k) (end_views w n k).coming (end_views w n k).out (end_views w n k).sent (end_views w n k).taken (machine_after steps k n).sent (machine_after steps n k) (seen_at_other seen n k) =
          subst (λ x. InPhase x (end_views w n k) (machine_after steps n k) (machine_after steps k n).sent (seen_at_other seen n k)) q (g.sides n k).phase in
          let b = laws.content (settings w n k) (w.ends n k) f l i.queued.submitted q s i.queued.queue in
          told_by (machine_after steps) seen n k (version_at w.topology n) l.own l.peer f w.times is.0 i.drawn
          (body_told i.queued.submitted (machine_after steps n k).sent (w.ends n k).accepted (seen n k) l f.body
          (packets_of l (end_views w n k).out, i.queued.waits ∙ ap (packets_of l) (sym (g.sides n k).histories.sent_is)) (now_seen l q) b)

  pub transmit_keeps : (n k now : ℕ) → ((l : Life) → (w.ends n k).phase ≡ Bound l → seen n k l (w.ends n k).accepted) → WorldFollows w →
      (o : Option FrameParts) → frame_due (settings w n k) (w.ends n k) now ≡ o → WorldFollows (after_sending w n k (after_transmit (settings w n k) (w.ends n k) now) o)
  transmit_keeps n k now now_seen g None q = g
  transmit_keeps n k now now_seen g (Some f) q = go (w.arms n).sending
    where
      sends : (fs : List FrameParts) → AllEndsFollow steps (end_views w) fs seen → ((g' : AllEndsFollow steps (end_views w) fs seen) → AllOf (machine_after steps n k).bound (end_views w n k).out) → AllEndsFollow steps (end_views (with_end w n k (after_transmit (settings w n k) (w.ends n k) now))) fs seen
      sends fs g' a =
          call_follows steps (end_views w) (end_views (with_end w n k (after_transmit (settings w n k) (w.ends n k) now))) fs seen n k (end_views w n k) laws (Transmits now) (end_views w n k).out
          (end_changes n k (Transmits now) tt refl) g' (transmit_call (end_views w n k) (machine_after steps n k) (machine_after steps k n).sent (seen_at_other seen n k) now (a g')) (λ l o. o)

      go : (x : Sending) → AllEndsFollow steps (end_views (with_end w n k (after_transmit (settings w n k) (w.ends n k) now))) (with_datagram x w.datagrams f) seen
      go Goes = sends (w.datagrams ++ f ∷ []) (frames_more steps (end_views w) w.datagrams seen f g (frame_told n k now f q now_seen g)) (λ g'. (g'.sides n k).histories.all_out)
      go IsLost = sends w.datagrams g (λ g'. (g'.sides n k).histories.all_out)
      go IsGone = sends (w.datagrams ++ f ∷ []) (frames_more steps (end_views w) w.datagrams seen f g (frame_told n k now f q now_seen g)) (λ g'. (g'.sides n k).histories.all_out)

  -- ---- frames come

  frame_in : (fs : List FrameParts) (i : ℕ) (f : FrameParts) → slice_get fs i ≡ Some f → IsIn f fs
  frame_in [] i f e = absurd (cc)
  frame_in (x ∷ fs) zero f e = inl (let y : f ≡ x = cc in y)
  frame_in (x ∷ fs) (suc i) f e = inr (frame_in fs i f e)

  datagram_in : (i : ℕ) (f : FrameParts) → datagram w i ≡ Some f → IsIn f w.datagrams
  datagram_in zero f e = absurd (cc)
  datagram_in (suc i) f e = frame_in w.datagrams i f e

  pub deliver_keeps : (c : Choice) (i : ℕ) → ((n k : ℕ) (l : Life) → seen n k l 0) → WorldFollows w → (o : Option FrameParts) → datagram w i ≡ o → WorldFollowsBy (steps_of_frame w c o) (after_receiving w c o)
  deliver_keeps c i nought g None q = g
  deliver_keeps c i nought g (Some f) q =
      go (w.arms f.header.receiver).receive
    where
      go : (b : Bool) → WorldFollowsBy (if b then [] else steps_of_binding f.header.receiver f.header.sender (bound_life (w.ends f.header.receiver f.header.sender)) (bound_life (after_frame (settings w f.header.receiver f.header.sender) (w.ends f.header.receiver f.header.sender) f (c.now f.header.receiver f.header.sender))))
          (if b then record w { arms = put_one w.arms f.header.receiver (record (w.arms f.header.receiver) { receive = false }) }
          else with_end w f.header.receiver f.header.sender (after_frame (settings w f.header.receiver f.header.sender) (w.ends f.header.receiver f.header.sender) f (c.now f.header.receiver f.header.sender)))
      go true = g
      go false =
          let n : ℕ = f.header.receiver in
          let k : ℕ = f.header.sender in
          let t = Each_at (Told (machine_after steps) seen) w.datagrams f g.tells (datagram_in i f q) in
          frame_follows steps (end_views w) (end_views (with_end w n k (after_frame (settings w n k) (w.ends n k) f (c.now n k)))) w.datagrams seen n k (end_views w n k) laws (Hears f (c.now n k)) (end_views w n k).out (λ l. nought k n (reversed l))
          (end_changes n k (Hears f (c.now n k)) tt refl) g
          (frame_call (end_views w n k) (machine_after steps n k) (machine_after steps k n).sent (seen_at_other seen n k) f (c.now n k) (λ l. nought k n (reversed l)) t.1 (side n k g).histories.all_out)
          (λ l o. subst (λ x. IsIn x (machine_after steps k n).drawn) o.peer t.0)

  -- ---- events are put

  abbrev item_of : ℕ → ℕ → ℕ → LinkEvent → Item
  item_of n k stamp event = record { seat = place_of k (neighbours w n); number = suc (w.counts n (place_of k (neighbours w n))); now = stamp; what = what_of event }

  pump_changes : (n k stamp : ℕ) (event : LinkEvent) (events : List LinkEvent) → is_link w.topology n k ≡ true → (w.ends n k).events ≡ event ∷ events →
      Changes (end_views w) (end_views (with_item (with_end w n k (after_poll_event (w.ends n k))) n (place_of k (neighbours w n)) stamp (what_of event))) n k (end_views w n k) (record (end_views w n k) { endpoint = after_poll_event (w.ends n k) })
  pump_changes n k stamp event events link q = record {
    was = refl;
    here = ap₂ (λ x is. view_of (settings w n k) x (w.files n k) ((w.seats n).current k) (arrivals_of (neighbours w n) k is) (w.cargoes n k) (w.put n k) (w.steps n k)) (put_here w.ends n k (after_poll_event (w.ends n k))) (put_one_here w.items n (w.items n ++ item_of n k stamp event ∷ []))
        ∙ ap (λ x. record (end_views w n k) { endpoint = after_poll_event (w.ends n k); coming = x }) come;
    there = λ a b o. ap₂ (λ x s. view_of (settings w a b) x (w.files a b) ((w.seats a).current b) s (w.cargoes a b) (w.put a b) (w.steps a b)) (put_there w.ends n k (after_poll_event (w.ends n k)) a b o) (lane_off a b o (cases_Bool (nat_eq a n)));
  }
    where
      pushed : (b : ℕ) → arrivals_of (neighbours w n) b (w.items n ++ item_of n k stamp event ∷ []) ≡ arrivals_of (neighbours w n) b (w.items n) ++ ((if nat_eq k b then arrival_of event ∷ [] else []) ++ [])
      pushed b =
          arrivals-append (neighbours w n) b (w.items n) (item_of n k stamp event ∷ [])
          ∙ ap (λ o. arrivals_of (neighbours w n) b (w.items n) ++ (arrivals_in b o (what_of event) ++ [])) (at_place k (neighbours w n) link)
          ∙ ap (λ s. arrivals_of (neighbours w n) b (w.items n) ++ ((if nat_eq k b then s ∷ [] else []) ++ [])) (arrival_what event)

      come : arrivals_of (neighbours w n) k (w.items n ++ item_of n k stamp event ∷ []) ++ map arrival_of (drop 1 (w.ends n k).events) ≡ arrivals_of (neighbours w n) k (w.items n) ++ map arrival_of (w.ends n k).events
      come =
          ap (λ xs. xs ++ map arrival_of (drop 1 (w.ends n k).events)) (pushed k ∙ ap (λ (t : Bool). arrivals_of (neighbours w n) k (w.items n) ++ ((if t then arrival_of event ∷ [] else []) ++ [])) (eq-eqb k k refl))
          ∙ append_assoc (arrivals_of (neighbours w n) k (w.items n)) (arrival_of event ∷ []) (map arrival_of (drop 1 (w.ends n k).events))
          ∙ ap (λ ys. arrivals_of (neighbours w n) k (w.items n) ++ (arrival_of event ∷ map arrival_of (drop 1 ys))) q ∙ ap (λ ys. arrivals_of (neighbours w n) k (w.items n) ++ map arrival_of ys) (sym q)

      lane_off : (a b : ℕ) → at_pair n k a b ≡ false → (nat_eq a n ≡ true) ⊎ (nat_eq a n ≡ false) →
          arrivals_of (neighbours w a) b (put_one w.items n (w.items n ++ item_of n k stamp event ∷ []) a) ≡ arrivals_of (neighbours w a) b (w.items a)
      lane_off a b o (inl t) =
          let off : nat_eq k b ≡ false = turned b k (subst (λ x. (x && nat_eq b k) ≡ false) t o) in
          subst (λ x. arrivals_of (neighbours w x) b (put_one w.items n (w.items n ++ item_of n k stamp event ∷ []) x) ≡ arrivals_of (neighbours w x) b (w.items x)) (sym (eqb-true a n t))
          (ap (arrivals_of (neighbours w n) b) (put_one_here w.items n (w.items n ++ item_of n k stamp event ∷ [])) ∙ pushed b
          ∙ ap (λ (x : Bool). arrivals_of (neighbours w n) b (w.items n) ++ ((if x then arrival_of event ∷ [] else []) ++ [])) off ∙ append-nil (arrivals_of (neighbours w n) b (w.items n)))
      lane_off a b o (inr t) = ap (arrivals_of (neighbours w a) b) (put_one_there w.items n (w.items n ++ item_of n k stamp event ∷ []) a t)

  pub pump_keeps : (c : Choice) (n k : ℕ) → is_link w.topology n k ≡ true → WorldFollows w → (events : List LinkEvent) → (w.ends n k).events ≡ events → WorldFollows (after_pump w c n k (slice_get events 0))
  pump_keeps c n k link g [] q = g
  pump_keeps c n k link g (event ∷ events) q =
      no_step steps (end_views w) (end_views (with_item (with_end w n k (after_poll_event (w.ends n k))) n (place_of k (neighbours w n)) c.stamp (what_of event))) w.datagrams seen n k (end_views w n k) (record (end_views w n k) { endpoint = after_poll_event (w.ends n k) })
      (pump_changes n k c.stamp event events link q) g
      (λ h. polls laws (end_views w n k) (machine_after steps n k) (machine_after steps k n).sent (seen_at_other seen n k) h)

  -- ---- arms and restarts

  armed_keeps : (n : ℕ) (call : DiskCall) → WorldFollows w → WorldFollows (with_armed_files w n call)
  armed_keeps n call g =
      at_every_end steps (end_views w) (end_views (with_armed_files w n call)) w.datagrams seen
      (λ a b p other h. cond_both (is_file_of w n a b) (after_event (ArmsDisk call) (w.files a b)) (w.files a b)
      (λ f. FollowsMachine (record (end_views w a b) { file = f }) p other (seen_at_other seen a b))
      (λ _. refiles (end_views w a b) p other (seen_at_other seen a b) (after_event (ArmsDisk call) (w.files a b)) (λ m f. lows.keep m (ArmsDisk call) (w.files a b) f tt) h) (λ _. h)) g

  pub arming_keeps : (n : ℕ) (call : Call) → WorldFollows w → WorldFollows (after_arming w n call)
  arming_keeps n Fails.SendLost g = g
  arming_keeps n Fails.SendGone g = g
  arming_keeps n Fails.Receive g = g
  arming_keeps n Fails.Read g = armed_keeps n Disk.Read g
  arming_keeps n Fails.Write g = armed_keeps n Disk.Write g
  arming_keeps n Fails.Sync g = armed_keeps n Disk.Sync g

  -- a node restarts with these life files, which draw no number again
  pub anew_keeps : (n : ℕ) (torn : Option (List ℕ)) (files : ℕ → ℕ → LifeDisk) → ((a b : ℕ) → nat_eq a n ≡ false → files a b ≡ w.files a b) → ((a b m : ℕ) → IsFloor m (w.files a b) → IsFloor m (files a b)) →
      WorldFollows w → WorldFollowsBy (steps_of_restart n (w.seats n).current (neighbours w n)) (record (after_restart w n torn) { files = files })
  anew_keeps n torn files same floors g = restart_follows n (w.seats n).current steps (end_views w) (end_views (record (after_restart w n torn) { files = files })) w.datagrams seen (neighbours w n) off on g
    where
      shown : Bool → LifeDisk → ℕ → ℕ → EndView
      shown t file a b = view_of (settings w a b) (if t then first_end else w.ends a b) file ((if t then first_seat w.topology n else w.seats a).current b)
          (arrivals_of (neighbours w a) b (if t then [] else w.items a)) ((if t then (λ k. []) else w.cargoes a) b) (w.put a b) (w.steps a b)

      off : (a b : ℕ) → nat_eq a n ≡ false → end_views (record (after_restart w n torn) { files = files }) a b ≡ end_views w a b
      off a b f = ap₂ (λ x file. shown x file a b) f (same a b f)

      on : (a b : ℕ) (p p' : MachineEnd) (other : List Parcel) → nat_eq a n ≡ true → ClosesMore ((w.seats n).current b) p p' → FollowsMachine (end_views w a b) p other (seen_at_other seen a b) →
          FollowsMachine (end_views (record (after_restart w n torn) { files = files }) a b) p' other (seen_at_other seen a b)
      on a b p p' other t more h =
          subst (λ x. FollowsMachine (shown x (files a b) a b) p' other (seen_at_other seen a b)) (sym t)
          (restarts laws (end_views w a b) p p' other (seen_at_other seen a b) (files a b) (subst (λ m. ClosesMore ((w.seats m).current b) p p') (sym (eqb-true a n t)) more) (floors a b) h)

  -- its life files are opened after a crash
  pub restart_keeps : (n : ℕ) (torn : Option (List ℕ)) → WorldFollows w → WorldFollowsBy (steps_of_restart n (w.seats n).current (neighbours w n)) (after_restart w n torn)
  restart_keeps n torn g =
      anew_keeps n torn (after_restart w n torn).files (λ a b f. ap (λ x. if x && is_link w.topology a b then reopened torn (w.files a b) else w.files a b) f)
      (λ a b m f. cond_both (is_file_of w n a b) (reopened torn (w.files a b)) (w.files a b) (IsFloor m) (λ _. lows.keep m (OpensAnew (after_crash torn (state_in (w.files a b)))) (w.files a b) f (lows.crash m torn (w.files a b) f)) (λ _. f)) g
