-- No run leaves a gap.
use Rattle.std.proofs.Common.{◌≡◌, ℕ, Bool, true, false, true≢false, ◌⊎◌, inl, inr, ⊎_elim, List, [], ◌∷◌, ◌++◌, map, Option, Some, None, nat_eq, if◌then◌else◌, refl, sym, ap, ◌∙◌, subst, append-nil, eqb-true, eq-eqb, arith}
use Rattle.std.proofs.lemmas.Bool.{cond_both, cases_Bool}
use Rattle.std.specs.Prelude.{slice_get, is_some}
use Rattle.tora_packet.specs.declared.Packet.{Packet}
use Rattle.tora_frame.specs.FrameParts.{FrameParts}
use Rattle.tora_arq.specs.declared.life.Life.{Life}
use Rattle.tora_arq.specs.declared.times.Times.{Times}
use Rattle.tora_arq.specs.declared.link_event.LinkEvent.{LinkEvent}
use Rattle.tora_arq.specs.LinkEnd.{frame_due, after_transmit, after_frame, first_event}
use Rattle.tora_core.specs.declared.Input.{Input}
use Rattle.tora_core.specs.Numbers.{has_number, has_repeat}
use Rattle.tora_core.specs.CoreRun.{core_after_all}
use Rattle.tora_seat.specs.declared.what.What.{What}
use Rattle.tora_seat.specs.declared.what.What.TheVariants as Tells
use Rattle.tora_seat.specs.declared.item.Item.{Item}
use Rattle.tora_seat.specs.declared.cargo.Cargo.{Cargo}
use Rattle.tora_seat.specs.Serving.{SeatState, Serving, Parcel, put_one, serving_of, put_to}
use Rattle.tora_world.specs.declared.event.Event.{Event}
use Rattle.tora_world.specs.declared.event.Event.TheVariants.{Need, Tick, Open, Pull, Transmit, Deliver, Pump, CoreTurn, Arm, Restart}
use Rattle.tora_world.specs.declared.call.Call.{Call}
use Rattle.tora_world.specs.declared.call.Call.TheVariants as Fails
use Rattle.tora_world.specs.Topology.{Topology, neighbours_of, new_core, is_link}
use Rattle.tora_world.specs.Lists.{packets_of, parcels_in, Begins}
use Rattle.tora_world.specs.LinkMachine.{MachineStep, machine_after, made}
use Rattle.tora_world.specs.MachineRun.{free_steps_by}
use Rattle.tora_world.specs.World.{World, Choice, settings, neighbours, datagram, first_seat, first_world, refusal_by, with_end, after_pull, after_sending, after_receiving, after_pump, after_serving, after_turn, after_arming, after_restart, effect_by, world_by, sent_packets}
use Rattle.tora_world.specs.FreeWorld.{FreeEvent, free_by, Schedule, after_schedule}
use Rattle.tora_world.specs.Law.{Sometime, HasAccepted}
use Rattle.tora_world.specs.Gaps.{broadcast_from, broadcast_packets, life_told, life_taken, life_by, life_after, free_life_after, latest_life, IsCut, HasNoGap, IsWithoutGap, SendsInLatest}
use Rattle.tora_world.specs.Layers.{LinkLaws, LifeLaws, CoreLaws, SeatLaws}
use Rattle.tora_world.proofs.PacketLists.{begins_refl}
use Rattle.tora_world.proofs.Invariant.{arrival_of, AllEndsFollow, Seen, seen_at_other}
use Rattle.tora_world.proofs.Invariant.Arrival.{LifeComes}
use Rattle.tora_world.proofs.Moves.{comes_new}
use Rattle.tora_world.proofs.AllEnds.{more_seen}
use Rattle.tora_world.proofs.EndViews.{arrivals_in, arrivals_of, end_views}
use Rattle.tora_world.proofs.AllRuns.{free_follows, first_follows}
use Rattle.tora_world.proofs.FreeEvents.{free_cases}
use Rattle.tora_seat.specs.Serves.{IsCut as IsCutLink}
use Rattle.tora_world.proofs.ServedWithoutGap.{Now, Fits, Done, serving_done}

module _ (cores : CoreLaws) (seats : SeatLaws) (t : Topology) (n k : ℕ) (apart : has_repeat (neighbours_of t n) ≡ false) (inside : is_link t n k ≡ true) where
  abbrev ks : List ℕ
  ks = neighbours_of t n

  -- the parts of a world for one node and one neighbour
  record AtParts (Was : Life → Type 0) (o : Option Life) (seat : SeatState) (inputs : List (Input × ℕ)) (put : List Cargo) : Type 0 where
    fits : Fits Was o (parcels_in put) [] (broadcast_from k (new_core t n) inputs []) (has_number k seat.core.up) (seat.current k) None (parcels_in put)
    follows : seat.core ≡ core_after_all (new_core t n) inputs
    near : (j : ℕ) → has_number j ks ≡ true → has_number j seat.core.neighbours ≡ true
    settled : (j : ℕ) → ¬ IsCutLink ks seat j

  record AtWorld (Was : Life → Type 0) (o : Option Life) (w : World) : Type 0 where
    topology : w.topology ≡ t
    parts : AtParts Was o (w.seats n) (w.inputs n) (w.put n k)

  now_more : (Was Was' : Life → Type 0) (o : Option Life) (ps all : List Packet) (up : Bool) (pending : Option Life) (xs : List Parcel) (cur : Option Life) → ((l : Life) → Was l → Was' l) → ((l : Life) → pending ≡ Some l → Was' l) → Now Was o ps all up pending xs cur → Now Was' o ps all up None xs cur
  now_more Was Was' o ps all up pending xs None f p h = (h.0, λ l q. let d = h.1 l q in (d.0, ⊎_elim (λ x. inl x) (λ x. inr (inl (⊎_elim (f l) (p l) x))) d.1))
  now_more Was Was' o ps all up pending xs (Some l) f p h = h

  parts_more : (Was Was' : Life → Type 0) (o : Option Life) (seat : SeatState) (inputs : List (Input × ℕ)) (put : List Cargo) → ((l : Life) → Was l → Was' l) → AtParts Was o seat inputs put → AtParts Was' o seat inputs put
  parts_more Was Was' o seat inputs put f h = record {
    fits = record {
      now = now_more Was Was' o [] (broadcast_from k (new_core t n) inputs []) (has_number k seat.core.up) None (parcels_in put) (seat.current k) f (λ l q. absurd (cc)) h.fits.now;
      others = λ j no. refl;
    };
    follows = h.follows;
    near = h.near;
    settled = h.settled;
  }

  -- the invariant after an event
  record Left (Was : Life → Type 0) (o : Option Life) (w w' : World) : Type 0 where
    world : AtWorld (λ l. Was l ⊎ IsCut n k l w') o w'
    others : (j : Life) → (o ≡ Some j → ⊥) → packets_of j (parcels_in (w'.put n k)) ≡ packets_of j (parcels_in (w.put n k))

  -- nothing changes for this node and neighbour
  same_parts : (Was : Life → Type 0) (o : Option Life) (w w' : World) → w'.topology ≡ w.topology → w'.seats ≡ w.seats → w'.inputs ≡ w.inputs → w'.put ≡ w.put → AtWorld Was o w → Left Was o w w'
  same_parts Was o w w' a b c d h = record {
    world = record {
      topology = a ∙ h.topology;
      parts = parts_more Was (λ l. Was l ⊎ IsCut n k l w') o (w'.seats n) (w'.inputs n) (w'.put n k) (λ l x. inl x)
          (subst (λ (f : ℕ → SeatState). AtParts Was o (f n) (w'.inputs n) (w'.put n k)) (sym b)
          (subst (λ (f : ℕ → List (Input × ℕ)). AtParts Was o (w.seats n) (f n) (w'.put n k)) (sym c)
          (subst (λ (f : ℕ → ℕ → List Cargo). AtParts Was o (w.seats n) (w.inputs n) (f n k)) (sym d) h.parts)));
    };
    others = λ j no. ap (λ (f : ℕ → ℕ → List Cargo). packets_of j (parcels_in (f n k))) d;
  }

  -- an item is served at this node
  served : (Was : Life → Type 0) (o : Option Life) (w : World) (c : Choice) (item : Item) (items : List Item) → ((l : Life) → slice_get ks item.seat ≡ Some k → item.what ≡ Tells.Up l → packets_of l (parcels_in (w.put n k)) ≡ []) → AtWorld Was o w →
      Left Was (life_told k (slice_get (neighbours w n) item.seat) item.what o) w (after_serving w n items (serving_of c.answers (neighbours w n) (w.seats n) item))
  served Was o w c item items fresh h =
      subst (λ js. Left Was (life_told k (slice_get js item.seat) item.what o) w (after_serving w n items (serving_of c.answers js (w.seats n) item))) (sym (ap (λ x. neighbours_of x n) h.topology)) here
    where
      served_of : (v : Serving) → Done cores seats c.answers ks k (new_core t n) (w.inputs n) (w.put n k) Was inside apart (life_told k (slice_get ks item.seat) item.what o) (parcels_in (w.put n k)) v →
          Left Was (life_told k (slice_get ks item.seat) item.what o) w (after_serving w n items v)
      served_of v d =
          let o' : Option Life = life_told k (slice_get ks item.seat) item.what o in
          let after : AtParts (λ l. Was l ⊎ (v.seat.pending k ≡ Some l)) o' v.seat (w.inputs n ++ v.inputs) (w.put n k ++ put_to k v.offers) = record {
            fits = record {
              now = now_more Was (λ l. Was l ⊎ (v.seat.pending k ≡ Some l)) o' [] (broadcast_from k (new_core t n) (w.inputs n ++ v.inputs) []) (has_number k v.seat.core.up) (v.seat.pending k) (parcels_in (w.put n k ++ put_to k v.offers)) (v.seat.current k)
                  (λ l x. inl x) (λ l x. inr x) d.inv.fits.now;
              others = λ j no. refl;
            };
            follows = d.inv.follows;
            near = d.inv.near;
            settled = d.settled;
          } in
          record {
            world = record {
              topology = h.topology;
              parts = subst (λ (b : Bool). AtParts (λ l. Was l ⊎ ((if b then v.seat else w.seats n).pending k ≡ Some l)) o' (if b then v.seat else w.seats n) (if b then w.inputs n ++ v.inputs else w.inputs n) ((if b then (λ j. w.put n j ++ put_to j v.offers) else w.put n) k))
                  (sym (eq-eqb n n refl)) after;
            };
            others = λ j no. ap (λ (b : Bool). packets_of j (parcels_in ((if b then (λ i. w.put n i ++ put_to i v.offers) else w.put n) k))) (eq-eqb n n refl) ∙ d.inv.fits.others j no;
          }

      here : Left Was (life_told k (slice_get ks item.seat) item.what o) w (after_serving w n items (serving_of c.answers ks (w.seats n) item))
      here =
          served_of (serving_of c.answers ks (w.seats n) item)
          (serving_done cores seats c.answers ks k (new_core t n) (w.inputs n) (w.put n k) Was inside apart o (w.seats n) item
          (record { fits = h.parts.fits; follows = h.parts.follows; near = h.parts.near; settled = h.parts.settled }) fresh)

  -- an item is served at another node
  served_off : (Was : Life → Type 0) (o : Option Life) (w : World) (m : ℕ) (items : List Item) (v : Serving) → nat_eq n m ≡ false → AtWorld Was o w → Left Was o w (after_serving w m items v)
  served_off Was o w m items v off h = record {
    world = record {
      topology = h.topology;
      parts = subst (λ (b : Bool). AtParts (λ l. Was l ⊎ ((if b then v.seat else w.seats n).pending k ≡ Some l)) o (if b then v.seat else w.seats n) (if b then w.inputs m ++ v.inputs else w.inputs n) ((if b then (λ j. w.put m j ++ put_to j v.offers) else w.put n) k))
          (sym off) (parts_more Was (λ l. Was l ⊎ ((w.seats n).pending k ≡ Some l)) o (w.seats n) (w.inputs n) (w.put n k) (λ l x. inl x) h.parts);
    };
    others = λ j no. ap (λ (b : Bool). packets_of j (parcels_in ((if b then (λ i. w.put m i ++ put_to i v.offers) else w.put n) k))) off;
  }

  -- the first item is a session that comes up
  abbrev Fresh : World → Type 0
  Fresh w = (item : Item) (items : List Item) → w.items n ≡ item ∷ items → (l : Life) → slice_get ks item.seat ≡ Some k → item.what ≡ Tells.Up l → packets_of l (parcels_in (w.put n k)) ≡ []

  turn_at : (Was : Life → Type 0) (o : Option Life) (w : World) (c : Choice) (m : ℕ) → Fresh w → AtWorld Was o w → Left Was (if nat_eq n m then life_taken (neighbours w n) k (w.items n) o else o) w (after_turn w c m (w.items m))
  turn_at Was o w c m fresh h = go (cases_Bool (nat_eq n m))
    where
      here : (is : List Item) → w.items n ≡ is → Left Was (life_taken (neighbours w n) k is o) w (after_turn w c n is)
      here [] q = same_parts Was o w w refl refl refl refl h
      here (item ∷ items) q = served Was o w c item items (λ l x y. fresh item items q l x y) h

      there : nat_eq n m ≡ false → (is : List Item) → Left Was o w (after_turn w c m is)
      there off [] = same_parts Was o w w refl refl refl refl h
      there off (item ∷ items) = served_off Was o w m items (serving_of c.answers (neighbours w m) (w.seats m) item) off h

      go : (nat_eq n m ≡ true) ⊎ (nat_eq n m ≡ false) → Left Was (if nat_eq n m then life_taken (neighbours w n) k (w.items n) o else o) w (after_turn w c m (w.items m))
      go (inl e) =
          subst (λ (b : Bool). Left Was (if b then life_taken (neighbours w n) k (w.items n) o else o) w (after_turn w c m (w.items m))) (sym e)
          (subst (λ x. Left Was (life_taken (neighbours w n) k (w.items n) o) w (after_turn w c x (w.items x))) (eqb-true n m e) (here (w.items n) refl))
      go (inr e) =
          subst (λ (b : Bool). Left Was (if b then life_taken (neighbours w n) k (w.items n) o else o) w (after_turn w c m (w.items m))) (sym e) (there e (w.items m))

  -- a new core
  new_parts : (Was : Life → Type 0) (put : List Cargo) → AtParts Was None (first_seat t n) [] put
  new_parts Was put = record {
    fits = record { now = (λ z. refl, λ l q. absurd (cc)); others = λ j no. refl };
    follows = refl;
    near = λ j i. cores.members j ks ∙ i;
    settled = λ j c. true≢false (sym c.up);
  }

  restart_at : (Was : Life → Type 0) (o : Option Life) (w : World) (m : ℕ) (torn : Option (List ℕ)) → AtWorld Was o w → Left Was (if nat_eq n m then None else o) w (after_restart w m torn)
  restart_at Was o w m torn h = go (cases_Bool (nat_eq n m))
    where
      go : (nat_eq n m ≡ true) ⊎ (nat_eq n m ≡ false) → Left Was (if nat_eq n m then None else o) w (after_restart w m torn)
      go (inl e) = record {
        world = record {
          topology = h.topology;
          parts = subst (λ (b : Bool). AtParts (λ l. Was l ⊎ ((if b then first_seat w.topology m else w.seats n).pending k ≡ Some l)) (if b then None else o) (if b then first_seat w.topology m else w.seats n) (if b then [] else w.inputs n) (w.put n k)) (sym e)
              (subst (λ x. AtParts (λ l. Was l ⊎ ((first_seat w.topology x).pending k ≡ Some l)) None (first_seat w.topology x) [] (w.put n k)) (eqb-true n m e)
              (subst (λ x. AtParts (λ l. Was l ⊎ ((first_seat x n).pending k ≡ Some l)) None (first_seat x n) [] (w.put n k)) (sym h.topology) (new_parts (λ l. Was l ⊎ ((first_seat t n).pending k ≡ Some l)) (w.put n k))));
        };
        others = λ j no. refl;
      }
      go (inr e) = record {
        world = record {
          topology = h.topology;
          parts = subst (λ (b : Bool). AtParts (λ l. Was l ⊎ ((if b then first_seat w.topology m else w.seats n).pending k ≡ Some l)) (if b then None else o) (if b then first_seat w.topology m else w.seats n) (if b then [] else w.inputs n) (w.put n k)) (sym e)
              (parts_more Was (λ l. Was l ⊎ ((w.seats n).pending k ≡ Some l)) o (w.seats n) (w.inputs n) (w.put n k) (λ l x. inl x) h.parts);
        };
        others = λ j no. refl;
      }

  effect_at : (Was : Life → Type 0) (o : Option Life) (w : World) (c : Choice) (event : Event) → Fresh w → AtWorld Was o w → Left Was (life_by w n k event o) w (effect_by c w event)
  unfolding effect_by
  effect_at Was o w c (Need m d) fresh h = same_parts Was o w (effect_by c w (Need m d)) refl refl refl refl h
  effect_at Was o w c Tick fresh h = same_parts Was o w (effect_by c w Tick) refl refl refl refl h
  effect_at Was o w c (Open m j) fresh h = same_parts Was o w (effect_by c w (Open m j)) refl refl refl refl h
  effect_at Was o w c (Pull m j) fresh h = go (w.cargoes m j)
    where
      go : (cs : List Cargo) → Left Was o w (after_pull w m j cs)
      go [] = same_parts Was o w w refl refl refl refl h
      go (x ∷ cs) = same_parts Was o w (after_pull w m j (x ∷ cs)) refl refl refl refl h
  effect_at Was o w c (Transmit m j) fresh h = go (frame_due (settings w m j) (w.ends m j) (c.now m j))
    where
      go : (r : Option FrameParts) → Left Was o w (after_sending w m j (after_transmit (settings w m j) (w.ends m j) (c.now m j)) r)
      go None = same_parts Was o w w refl refl refl refl h
      go (Some f) = same_parts Was o w (after_sending w m j (after_transmit (settings w m j) (w.ends m j) (c.now m j)) (Some f)) refl refl refl refl h
  effect_at Was o w c (Deliver i) fresh h = go (datagram w i)
    where
      go : (r : Option FrameParts) → Left Was o w (after_receiving w c r)
      go None = same_parts Was o w w refl refl refl refl h
      go (Some f) = cond_both (w.arms f.header.receiver).receive _ _ (Left Was o w)
          (λ _. same_parts Was o w (record w { arms = put_one w.arms f.header.receiver (record (w.arms f.header.receiver) { receive = false }) }) refl refl refl refl h)
          (λ _. same_parts Was o w (with_end w f.header.receiver f.header.sender (after_frame (settings w f.header.receiver f.header.sender) (w.ends f.header.receiver f.header.sender) f (c.now f.header.receiver f.header.sender))) refl refl refl refl h)
  effect_at Was o w c (Pump m j) fresh h = go (first_event (w.ends m j))
    where
      go : (r : Option LinkEvent) → Left Was o w (after_pump w c m j r)
      go None = same_parts Was o w w refl refl refl refl h
      go (Some event) = same_parts Was o w (after_pump w c m j (Some event)) refl refl refl refl h
  effect_at Was o w c (CoreTurn m) fresh h = turn_at Was o w c m fresh h
  effect_at Was o w c (Arm m call) fresh h = go call
    where
      go : (x : Call) → Left Was o w (after_arming w m x)
      go Fails.SendLost = same_parts Was o w (after_arming w m Fails.SendLost) refl refl refl refl h
      go Fails.SendGone = same_parts Was o w (after_arming w m Fails.SendGone) refl refl refl refl h
      go Fails.Receive = same_parts Was o w (after_arming w m Fails.Receive) refl refl refl refl h
      go Fails.Read = same_parts Was o w (after_arming w m Fails.Read) refl refl refl refl h
      go Fails.Write = same_parts Was o w (after_arming w m Fails.Write) refl refl refl refl h
      go Fails.Sync = same_parts Was o w (after_arming w m Fails.Sync) refl refl refl refl h
  effect_at Was o w c (Restart m torn) fresh h = restart_at Was o w m torn h

  world_at : (Was : Life → Type 0) (o : Option Life) (w : World) (c : Choice) (event : Event) → Fresh w → AtWorld Was o w → Left Was (life_after c w n k event o) w (world_by c w event)
  unfolding world_by
  world_at Was o w c event fresh h = go (is_some (refusal_by c w event))
    where
      go : (b : Bool) → Left Was (if b then o else life_by w n k event o) w (if b then w else effect_by c w event)
      go true = same_parts Was o w w refl refl refl refl h
      go false = effect_at Was o w c event fresh h

  free_at : (Was : Life → Type 0) (o : Option Life) (w : World) (c : Choice) (event : FreeEvent) → Fresh w → AtWorld Was o w → Left Was (free_life_after c w n k event o) w (free_by c w event)
  free_at Was o w c event fresh h =
      free_cases w (λ of after. Left Was (of (Option Life) (λ e. life_after c w n k e o) o) w after) c (λ e. world_at Was o w c e fresh h)
      (λ after l. same_parts Was o w after l.topology l.seats l.inputs l.put h)
      (λ of after k. record { world = record { topology = k.world.topology; parts = k.world.parts }; others = k.others }) event

  fresh_of : (steps : List MachineStep) (w : World) (seen : Seen) → w.topology ≡ t → AllEndsFollow steps (end_views w) w.datagrams seen → Fresh w
  fresh_of steps w seen top g item items q l seat what =
      let come : (end_views w n k).coming ≡ LifeComes l ∷ (arrivals_of (neighbours w n) k items ++ map arrival_of (w.ends n k).events) =
      ap (λ is. arrivals_of (neighbours w n) k is ++ map arrival_of (w.ends n k).events) q
      ∙ ap (λ r. (arrivals_in k r item.what ++ arrivals_of (neighbours w n) k items) ++ map arrival_of (w.ends n k).events) (ap (λ x. slice_get (neighbours_of x n) item.seat) top ∙ seat)
      ∙ ap (λ (x : What). (arrivals_in k (Some k) x ++ arrivals_of (neighbours w n) k items) ++ map arrival_of (w.ends n k).events) what
      ∙ ap (λ (b : Bool). ((if b then LifeComes l ∷ [] else []) ++ arrivals_of (neighbours w n) k items) ++ map arrival_of (w.ends n k).events) (eq-eqb k k refl) in
      comes_new (end_views w n k) (machine_after steps n k) (machine_after steps k n).sent (seen_at_other seen n k) l (arrivals_of (neighbours w n) k items ++ map arrival_of (w.ends n k).events) come (g.sides n k)

  sometime_now : (P : World → Type 0) (es : Schedule) (w : World) → P w → Sometime P es w
  sometime_now P [] w p = p
  sometime_now P (e ∷ es) w p = inl p

  at_more : (Was Was' : Life → Type 0) (o : Option Life) (w : World) → ((l : Life) → Was l → Was' l) → AtWorld Was o w → AtWorld Was' o w
  at_more Was Was' o w f h = record { topology = h.topology; parts = parts_more Was Was' o (w.seats n) (w.inputs n) (w.put n k) f h.parts }

  -- the invariant after a run, and after the next event
  record Ended (laws : LinkLaws) (lows : LifeLaws) (Was : Life → Type 0) (o : Option Life) (w : World) : Type 0 where
    world : AtWorld Was o w
    next : (c : Choice) (event : FreeEvent) → Left Was (free_life_after c w n k event o) w (free_by c w event)

  ended_more : (laws : LinkLaws) (lows : LifeLaws) (Was Was' : Life → Type 0) (o : Option Life) (w : World) → ((l : Life) → Was l → Was' l) → Ended laws lows Was o w → Ended laws lows Was' o w
  ended_more laws lows Was Was' o w f r = record {
    world = at_more Was Was' o w f r.world;
    next = λ c event. let x = r.next c event in record {
      world = at_more (λ l. Was l ⊎ IsCut n k l (free_by c w event)) (λ l. Was' l ⊎ IsCut n k l (free_by c w event)) (free_life_after c w n k event o) (free_by c w event) (λ l y. ⊎_elim (λ q. inl (f l q)) (λ q. inr q) y) x.world;
      others = x.others;
    };
  }

  run_at : (laws : LinkLaws) (lows : LifeLaws) (es : Schedule) (steps : List MachineStep) (w : World) (o : Option Life) (Was : Life → Type 0) (seen : Seen) → ((a b : ℕ) (l : Life) → seen a b l 0) → AllEndsFollow steps (end_views w) w.datagrams seen → AtWorld Was o w →
      Ended laws lows (λ l. Was l ⊎ Sometime (IsCut n k l) es w) (latest_life n k es w o) (after_schedule es w)
  unfolding after_schedule
  run_at laws lows [] steps w o Was seen z g h =
      let h' : AtWorld (λ l. Was l ⊎ IsCut n k l w) o w = at_more Was (λ l. Was l ⊎ IsCut n k l w) o w (λ l x. inl x) h in
      record { world = h'; next = λ c event. free_at (λ l. Was l ⊎ IsCut n k l w) o w c event (fresh_of steps w seen h.topology g) h' }
  run_at laws lows (e ∷ es) steps w o Was seen z g h =
      let now : Seen = λ a b l c. seen a b l c ⊎ HasAccepted a b l c w in
      let w' : World = free_by e.1 w e.0 in
      let o' : Option Life = free_life_after e.1 w n k e.0 o in
      let steps' : List MachineStep = made (free_steps_by e.1 w e.0) steps in
      let g' : AllEndsFollow steps' (end_views w') w'.datagrams now =
      free_follows laws lows steps w now (λ a b l. inl (z a b l)) (λ a b l j. inr (record { bound = j; accepted = omega arith })) e.1 e.0 (more_seen steps (end_views w) w.datagrams seen now (λ a b l c x. inl x) g) in
      let r = run_at laws lows es steps' w' o' (λ l. Was l ⊎ IsCut n k l w') now (λ a b l. inl (z a b l)) g' (free_at Was o w e.1 e.0 (fresh_of steps w seen h.topology g) h).world in
      let more : (l : Life) → (Was l ⊎ IsCut n k l w') ⊎ Sometime (IsCut n k l) es w' → Was l ⊎ Sometime (IsCut n k l) (e ∷ es) w =
      λ l x. ⊎_elim (λ y. ⊎_elim (λ q. inl q) (λ q. inr (inr (sometime_now (IsCut n k l) es w' q))) y) (λ y. inr (inr y)) x in
      ended_more laws lows (λ l. (Was l ⊎ IsCut n k l w') ⊎ Sometime (IsCut n k l) es w') (λ l. Was l ⊎ Sometime (IsCut n k l) (e ∷ es) w) (latest_life n k es w' o') (after_schedule es w') more r

  first_at : (times : Times) → AtWorld (λ l. ⊥) None (first_world t times)
  first_at times = record { topology = refl; parts = new_parts (λ l. ⊥) [] }

  module _ (laws : LinkLaws) (lows : LifeLaws) (times : Times) (es : Schedule) where
    abbrev final : World
    final = after_schedule es (first_world t times)

    ended : Ended laws lows (λ l. ⊥ ⊎ Sometime (IsCut n k l) es (first_world t times)) (latest_life n k es (first_world t times) None) final
    ended = run_at laws lows es [] (first_world t times) None (λ l. ⊥) (λ a b l c. c ≡ 0) (λ a b l. refl) (first_follows laws lows t times) (first_at times)

    pub without_gap : IsWithoutGap t (first_world t times) es final n k
    without_gap = record {
      now = λ l e. let x = at l e in sym (append-nil (sent_packets final n k l)) ∙ x.1;
      current = λ l e. (at l e).0;
      latest = λ l q. last l q ((final.seats n).current k) refl;
    }
      where
        as_now : (cur : Option Life) → (final.seats n).current k ≡ cur → Now (λ l. ⊥ ⊎ Sometime (IsCut n k l) es (first_world t times)) (latest_life n k es (first_world t times) None) [] (broadcast_packets t final n k) (has_number k (final.seats n).core.up) None (parcels_in (final.put n k)) cur
        as_now cur e = subst (λ x. Now (λ l. ⊥ ⊎ Sometime (IsCut n k l) es (first_world t times)) (latest_life n k es (first_world t times) None) [] (broadcast_packets t final n k) (has_number k (final.seats n).core.up) None (parcels_in (final.put n k)) x) e ended.world.parts.fits.now

        at : (l : Life) → (final.seats n).current k ≡ Some l → Now (λ l. ⊥ ⊎ Sometime (IsCut n k l) es (first_world t times)) (latest_life n k es (first_world t times) None) [] (broadcast_packets t final n k) (has_number k (final.seats n).core.up) None (parcels_in (final.put n k)) (Some l)
        at l e = as_now (Some l) e

        last : (l : Life) → latest_life n k es (first_world t times) None ≡ Some l → (cur : Option Life) → (final.seats n).current k ≡ cur → HasNoGap (broadcast_packets t final n k) (sent_packets final n k l) (Sometime (IsCut n k l) es (first_world t times))
        last l q None e =
            let d = (as_now None e).1 l q in
            record { begins = d.0; whole = ⊎_elim (λ x. inl x.0) (λ x. ⊎_elim (λ y. ⊎_elim (λ b. absurd b) (λ b. inr b) y) (λ y. absurd (cc)) x) d.1 }
        last l q (Some j) e =
            let x = as_now (Some j) e in
            let y : Some j ≡ Some l = sym x.0 ∙ q in
            let same_life : j ≡ l = cc in
            let all : sent_packets final n k l ≡ broadcast_packets t final n k = subst (λ i. packets_of i (parcels_in (final.put n k)) ≡ broadcast_packets t final n k) same_life (sym (append-nil (sent_packets final n k j)) ∙ x.1) in
            record { begins = subst (Begins (sent_packets final n k l)) all (begins_refl (sent_packets final n k l)); whole = inl all }

    pub sends_in_latest : SendsInLatest (first_world t times) es final n k
    sends_in_latest event c life off = (ended.next c event).others life off
