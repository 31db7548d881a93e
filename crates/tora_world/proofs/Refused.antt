-- In every run only needs are refused.
use Rattle.std.proofs.Common.{◌≡◌, ℕ, zero, suc, Bool, true, false, true≢false, ◌⊎◌, inl, inr, List, [], ◌∷◌, ◌++◌, map, length, Option, Some, None, nat_eq, if◌then◌else◌, refl, sym, ap, ap₂, ◌∙◌, subst, append_assoc, append-nil, eqb-true, eq-eqb, arith}
use Rattle.std.proofs.lemmas.Bool.{cases_Bool}
use Rattle.std.specs.Prelude.{slice_get, is_some}
use Rattle.tora_packet.specs.declared.Packet.{Packet}
use Rattle.tora_arq.specs.declared.life.Life.{Life}
use Rattle.tora_arq.specs.declared.times.Times.{Times}
use Rattle.tora_core.specs.declared.Input.{Input}
use Rattle.tora_core.specs.declared.Input.TheVariants as In
use Rattle.tora_core.specs.declared.errors.StepError.{StepError}
use Rattle.tora_core.specs.declared.errors.StepError.TheVariants as Fault
use Rattle.tora_core.specs.Numbers.{has_number, ascending}
use Rattle.tora_core.specs.CoreRun.{is_from, refusal_of, has_destination}
use Rattle.tora_seat.specs.declared.what.What.{What}
use Rattle.tora_seat.specs.declared.what.What.TheVariants as Tells
use Rattle.tora_seat.specs.declared.item.Item.{Item}
use Rattle.tora_seat.specs.declared.cargo.Cargo.{Cargo}
use Rattle.tora_seat.specs.declared.cargo.Cargo.TheVariants as Gives
use Rattle.tora_seat.specs.Serving.{SeatState, Serving, Parcel, Answers, begin_serving, serving_of, put_to, stepped_from}
use Rattle.tora_world.specs.declared.event.Event.{Event}
use Rattle.tora_world.specs.declared.event.Event.TheVariants.{Need, Tick, Open, Pull, Transmit, Deliver, Pump, CoreTurn, Arm, Restart}
use Rattle.tora_world.specs.Topology.{Topology, erasure_at, neighbours_of}
use Rattle.tora_world.specs.Lists.{packets_of, parcels_in, Each}
use Rattle.tora_arq.specs.Lives.{reversed}
use Rattle.tora_world.specs.LinkMachine.{MachineStep, machine_after, made}
use Rattle.tora_world.specs.MachineRun.{free_steps_by}
use Rattle.tora_world.specs.World.{World, Choice, neighbours, first_seat, first_world, refusal_by, after_serving, after_turn, after_restart, effect_by, world_by}
use Rattle.tora_world.specs.FreeWorld.{FreeEvent, free_by, Schedule, after_schedule}
use Rattle.tora_world.specs.Law.{HasAccepted}
use Rattle.tora_world.specs.Refusals.{OnlyNeedsAreRefused, packets_accepted, packets_in, stepped_by, stepped_after, free_stepped_after, stepped_at_restart, SteppedAreAccepted}
use Rattle.tora_world.specs.Layers.{LinkLaws, LifeLaws, CoreLaws, SeatLaws}
use Rattle.tora_world.proofs.CoreEvents.{LeavesSeats, leaves_seats}
use Rattle.tora_world.proofs.Invariant.{arrival_of, AllEndsFollow, Seen, seen_at_other}
use Rattle.tora_world.proofs.Invariant.Arrival.{PacketComes}
use Rattle.tora_world.proofs.Moves.{takes_next}
use Rattle.tora_world.proofs.AllEnds.{more_seen}
use Rattle.tora_world.proofs.EndViews.{arrivals_in, arrivals_of, end_views, map-append}
use Rattle.tora_world.proofs.AllRuns.{free_follows, first_follows}
use Rattle.tora_world.proofs.FreeEvents.{free_cases}
use Rattle.tora_seat.specs.Serves.{IsCut}
use Rattle.tora_world.proofs.OwnHeights.{IsOwnView, IsSentBy, first_own}
use Rattle.tora_world.proofs.Accepted.{IsCargoWith, IsCargoOf, put_of, accepted-append, Done, serving_done}

-- ---- one node

-- a core between two items: its link to a neighbour is up exactly if it has a current session with it
pub record IsSeat (n : ℕ) (ks : List ℕ) (seat : SeatState) : Type 0 where
  pub near : (j : ℕ) → has_number j ks ≡ true → has_number j seat.core.neighbours ≡ true
  pub up : (j : ℕ) (l : Life) → has_number j ks ≡ true → seat.current j ≡ Some l → has_number j seat.core.up ≡ true
  pub own : Each (IsOwnView n) seat.core.views
  pub settled : (j : ℕ) → ¬ IsCut ks seat j

first_is : CoreLaws → (t : Topology) (n : ℕ) → IsSeat n (neighbours_of t n) (first_seat t n)
first_is cores t n = record {
  near = λ j i. cores.members j (neighbours_of t n) ∙ i;
  up = λ j l i e. absurd (cc);
  own = first_own n (erasure_at t n) (ascending t.destinations);
  settled = λ j c. true≢false (sym c.up);
}

begun : (cores : CoreLaws) (seats : SeatLaws) (n : ℕ) (ks : List ℕ) (answers : Answers) (Excuse : StepError → Type 0) (seat : SeatState) → IsSeat n ks seat → Done cores seats n ks answers Excuse (begin_serving seat)
begun cores seats n ks answers Excuse seat h = record {
  sound = record { near = h.near; up = h.up; silent = λ e q. absurd (cc); agreed = λ k. refl; own = h.own; sends = tt };
  settled = h.settled;
}

-- ---- all nodes

pub record AreNodes (earlier : ℕ → ℕ → List Packet) (w : World) : Type 0 where
  pub seats : (n : ℕ) → IsSeat n (neighbours w n) (w.seats n)
  pub put : (n k : ℕ) → Each (IsCargoOf n) (w.put n k)
  pub agreed : (n k : ℕ) → earlier n k ++ packets_accepted k (w.inputs n) ≡ packets_in (w.steps n k)

pub each_both : {A : Type 0} (P : A → Type 0) (xs ys : List A) → Each P xs → Each P ys → Each P (xs ++ ys)
each_both P [] ys a b = b
each_both P (x ∷ xs) ys a b = (a.0, each_both P xs ys a.1 b)

-- a property of all packets that were put
pub packet_put : (P : Packet → Type 0) (l : Life) (cargoes : List Cargo) (i : ℕ) (p : Packet) → Each (IsCargoWith P) cargoes → slice_get (packets_of l (parcels_in cargoes)) i ≡ Some p → P p
packet_put P l cargoes i p h e = go (packets_of l (parcels_in cargoes)) (all_of cargoes h) i e
  where
    one : (b : Bool) (x : Packet) (xs : List Packet) → P x → Each P xs → Each P ((if b then x ∷ [] else []) ++ xs)
    one true x xs a r = (a, r)
    one false x xs a r = r

    all_of : (cs : List Cargo) → Each (IsCargoWith P) cs → Each P (packets_of l (parcels_in cs))
    all_of [] h = tt
    all_of (Gives.Packet life packet ∷ cs) h = one _ packet (packets_of l (parcels_in cs)) h.0 (all_of cs h.1)
    all_of (Gives.Cut life ∷ cs) h = all_of cs h.1

    go : (ps : List Packet) → Each P ps → (i : ℕ) → slice_get ps i ≡ Some p → P p
    go [] h i e = absurd (cc)
    go (x ∷ ps) h zero e = let q : x ≡ p = cc in subst P q h.0
    go (x ∷ ps) h (suc i) e = go ps h.1 i e

-- a packet that is to be taken was put by the neighbour
pub taken_is_put : (steps : List MachineStep) (w : World) (seen : Seen) → AllEndsFollow steps (end_views w) w.datagrams seen → (n : ℕ) (item : Item) (items : List Item) → w.items n ≡ item ∷ items →
    (k : ℕ) (l : Life) (p : Packet) → slice_get (neighbours w n) item.seat ≡ Some k → item.what ≡ Tells.Packet l p → (w.seats n).current k ≡ Some l →
    (i : ℕ) × (slice_get (packets_of (reversed l) (parcels_in (w.put k n))) i ≡ Some p)
taken_is_put steps w seen g n item items q k l p seat what on =
    let come : (end_views w n k).coming ≡ PacketComes l p ∷ (arrivals_of (neighbours w n) k items ++ map arrival_of (w.ends n k).events) =
    ap (λ is. arrivals_of (neighbours w n) k is ++ map arrival_of (w.ends n k).events) q
    ∙ ap (λ r. (arrivals_in k r item.what ++ arrivals_of (neighbours w n) k items) ++ map arrival_of (w.ends n k).events) seat
    ∙ ap (λ (x : What). (arrivals_in k (Some k) x ++ arrivals_of (neighbours w n) k items) ++ map arrival_of (w.ends n k).events) what
    ∙ ap (λ (b : Bool). ((if b then PacketComes l p ∷ [] else []) ++ arrivals_of (neighbours w n) k items) ++ map arrival_of (w.ends n k).events) (eq-eqb k k refl) in
    let next : slice_get (packets_of (reversed l) (machine_after steps k n).sent) (length (packets_of l (machine_after steps n k).taken)) ≡ Some p =
    takes_next (end_views w n k) (machine_after steps n k) (machine_after steps k n).sent (seen_at_other seen n k) l p (arrivals_of (neighbours w n) k items ++ map arrival_of (w.ends n k).events) come on (g.sides n k) in (
      length (packets_of l (machine_after steps n k).taken),
      subst (λ xs. slice_get (packets_of (reversed l) xs) (length (packets_of l (machine_after steps n k).taken)) ≡ Some p) (g.sides k n).histories.sent_is next,
    )

-- so the neighbour sent it
pub taken_from : (steps : List MachineStep) (w : World) (seen : Seen) → AllEndsFollow steps (end_views w) w.datagrams seen → ((n k : ℕ) → Each (IsCargoOf n) (w.put n k)) → (n : ℕ) (item : Item) (items : List Item) → w.items n ≡ item ∷ items →
    (k : ℕ) (l : Life) (p : Packet) → slice_get (neighbours w n) item.seat ≡ Some k → item.what ≡ Tells.Packet l p → (w.seats n).current k ≡ Some l → is_from k p ≡ true
taken_from steps w seen g were_put n item items q k l p seat what on =
    let x = taken_is_put steps w seen g n item items q k l p seat what on in
    packet_put (IsSentBy k) (reversed l) (w.put k n) x.0 p (were_put k n) x.1

-- a change of other parts of the world keeps the invariant
same_nodes : {earlier : ℕ → ℕ → List Packet} (w w' : World) → w'.topology ≡ w.topology → w'.seats ≡ w.seats → w'.put ≡ w.put → w'.inputs ≡ w.inputs → w'.steps ≡ w.steps → AreNodes earlier w → AreNodes earlier w'
same_nodes {earlier} w w' a b c d e h = record {
  seats = λ n. subst (λ t. IsSeat n (neighbours_of t n) (w'.seats n)) (sym a) (subst (λ (f : ℕ → SeatState). IsSeat n (neighbours w n) (f n)) (sym b) (h.seats n));
  put = λ n k. subst (λ (f : ℕ → ℕ → List Cargo). Each (IsCargoOf n) (f n k)) (sym c) (h.put n k);
  agreed = λ n k. ap (λ (f : ℕ → List (Input × ℕ)). earlier n k ++ packets_accepted k (f n)) d ∙ h.agreed n k ∙ ap (λ (f : ℕ → ℕ → List Parcel). packets_in (f n k)) (sym e);
}

module _ (cores : CoreLaws) (seats : SeatLaws) (steps : List MachineStep) (w : World) (seen : Seen) (g : AllEndsFollow steps (end_views w) w.datagrams seen) (earlier : ℕ → ℕ → List Packet) (h : AreNodes earlier w) where
  -- an item is served
  served : (n : ℕ) (answers : Answers) (Excuse : StepError → Type 0) (item : Item) (items : List Item) → w.items n ≡ item ∷ items → ((d : ℕ) → item.what ≡ Tells.Need d → (e : StepError) → refusal_of (w.seats n).core (In.Need d) ≡ Some e → Excuse e) →
      Done cores seats n (neighbours w n) answers Excuse (serving_of answers (neighbours w n) (w.seats n) item)
  served n answers Excuse item items q excuse =
      serving_done cores seats n (neighbours w n) answers Excuse (w.seats n) item (begun cores seats n (neighbours w n) answers Excuse (w.seats n) (h.seats n)) (taken_from steps w seen g h.put n item items q) excuse

  only_needs : OnlyNeedsAreRefused w
  only_needs n answers item items error q e =
      (served n answers (λ fault. (d : ℕ) × (item.what ≡ Tells.Need d) × (has_destination d (w.seats n).core.views ≡ false) × (fault ≡ Fault.UnknownDestination)) item items q
      (λ d x fault r. let u = unknown (has_destination d (w.seats n).core.views) fault r in (d, x, u.0, u.1))).sound.silent error e
    where
      unknown : (b : Bool) (fault : StepError) → (if b then None else Some Fault.UnknownDestination) ≡ Some fault → (b ≡ false) × (fault ≡ Fault.UnknownDestination)
      unknown true fault r = absurd (cc)
      unknown false fault r = let s : Fault.UnknownDestination ≡ fault = cc in (refl, sym s)

  serving_nodes : (n : ℕ) (answers : Answers) (items : List Item) (v : Serving) → Done cores seats n (neighbours w n) answers (λ fault. Unit {0}) v → AreNodes earlier (after_serving w n items v)
  serving_nodes n answers items v d = record {
    seats = λ a. seat_at a (cases_Bool (nat_eq a n));
    put = λ a k. cargoes_at a k (cases_Bool (nat_eq a n));
    agreed = λ a k. agreed_at a k (cases_Bool (nat_eq a n));
  }
    where
      seat_at : (a : ℕ) → (nat_eq a n ≡ true) ⊎ (nat_eq a n ≡ false) → IsSeat a (neighbours w a) (if nat_eq a n then v.seat else w.seats a)
      seat_at a (inl t) =
          subst (λ x. IsSeat a (neighbours w a) (if x then v.seat else w.seats a)) (sym t)
          (subst (λ m. IsSeat m (neighbours w m) v.seat) (sym (eqb-true a n t)) (record { near = d.sound.near; up = d.sound.up; own = d.sound.own; settled = d.settled }))
      seat_at a (inr t) = subst (λ x. IsSeat a (neighbours w a) (if x then v.seat else w.seats a)) (sym t) (h.seats a)

      cargoes_at : (a k : ℕ) → (nat_eq a n ≡ true) ⊎ (nat_eq a n ≡ false) → Each (IsCargoOf a) ((if nat_eq a n then (λ k. w.put n k ++ put_to k v.offers) else w.put a) k)
      cargoes_at a k (inl t) =
          subst (λ x. Each (IsCargoOf a) ((if x then (λ k. w.put n k ++ put_to k v.offers) else w.put a) k)) (sym t)
          (subst (λ m. Each (IsCargoOf m) (w.put n k ++ put_to k v.offers)) (sym (eqb-true a n t)) (each_both (IsCargoOf n) (w.put n k) (put_to k v.offers) (h.put n k) (put_of n k v.offers d.sound.sends)))
      cargoes_at a k (inr t) = subst (λ x. Each (IsCargoOf a) ((if x then (λ k. w.put n k ++ put_to k v.offers) else w.put a) k)) (sym t) (h.put a k)

      more : (k : ℕ) → earlier n k ++ packets_accepted k (w.inputs n ++ v.inputs) ≡ packets_in (w.steps n k ++ stepped_from k v.steps)
      more k =
          ap (λ xs. earlier n k ++ xs) (accepted-append k (w.inputs n) v.inputs) ∙ sym (append_assoc (earlier n k) (packets_accepted k (w.inputs n)) (packets_accepted k v.inputs))
          ∙ ap₂ (λ xs ys. xs ++ ys) (h.agreed n k) (d.sound.agreed k) ∙ sym (map-append (λ (y : Parcel). y.packet) (w.steps n k) (stepped_from k v.steps))

      agreed_at : (a k : ℕ) → (nat_eq a n ≡ true) ⊎ (nat_eq a n ≡ false) →
          earlier a k ++ packets_accepted k (if nat_eq a n then w.inputs n ++ v.inputs else w.inputs a) ≡ packets_in ((if nat_eq a n then (λ k. w.steps n k ++ stepped_from k v.steps) else w.steps a) k)
      agreed_at a k (inl t) =
          subst (λ x. earlier a k ++ packets_accepted k (if x then w.inputs n ++ v.inputs else w.inputs a) ≡ packets_in ((if x then (λ k. w.steps n k ++ stepped_from k v.steps) else w.steps a) k)) (sym t)
          (ap (λ m. earlier m k ++ packets_accepted k (w.inputs n ++ v.inputs)) (eqb-true a n t) ∙ more k)
      agreed_at a k (inr t) =
          subst (λ x. earlier a k ++ packets_accepted k (if x then w.inputs n ++ v.inputs else w.inputs a) ≡ packets_in ((if x then (λ k. w.steps n k ++ stepped_from k v.steps) else w.steps a) k)) (sym t) (h.agreed a k)

  turn_nodes : (c : Choice) (n : ℕ) (items : List Item) → w.items n ≡ items → AreNodes earlier (after_turn w c n items)
  turn_nodes c n [] q = h
  turn_nodes c n (item ∷ items) q = serving_nodes n c.answers items (serving_of c.answers (neighbours w n) (w.seats n) item) (served n c.answers (λ fault. Unit {0}) item items q (λ d x fault r. tt))

  restart_nodes : (n : ℕ) (torn : Option (List ℕ)) → AreNodes (λ a k. stepped_by w a k (Restart n torn) (earlier a k)) (after_restart w n torn)
  restart_nodes n torn = record {
    seats = λ a. seat_at a (cases_Bool (nat_eq a n));
    put = h.put;
    agreed = λ a k. agreed_at a k (cases_Bool (nat_eq a n));
  }
    where
      seat_at : (a : ℕ) → (nat_eq a n ≡ true) ⊎ (nat_eq a n ≡ false) → IsSeat a (neighbours w a) (if nat_eq a n then first_seat w.topology n else w.seats a)
      seat_at a (inl t) =
          subst (λ x. IsSeat a (neighbours w a) (if x then first_seat w.topology n else w.seats a)) (sym t)
          (subst (λ m. IsSeat m (neighbours w m) (first_seat w.topology n)) (sym (eqb-true a n t)) (first_is cores w.topology n))
      seat_at a (inr t) = subst (λ x. IsSeat a (neighbours w a) (if x then first_seat w.topology n else w.seats a)) (sym t) (h.seats a)

      agreed_at : (a k : ℕ) → (nat_eq a n ≡ true) ⊎ (nat_eq a n ≡ false) → (if nat_eq a n then packets_in (w.steps a k) else earlier a k) ++ packets_accepted k (if nat_eq a n then [] else w.inputs a) ≡ packets_in (w.steps a k)
      agreed_at a k (inl t) = subst (λ x. (if x then packets_in (w.steps a k) else earlier a k) ++ packets_accepted k (if x then [] else w.inputs a) ≡ packets_in (w.steps a k)) (sym t) (append-nil (packets_in (w.steps a k)))
      agreed_at a k (inr t) = subst (λ x. (if x then packets_in (w.steps a k) else earlier a k) ++ packets_accepted k (if x then [] else w.inputs a) ≡ packets_in (w.steps a k)) (sym t) (h.agreed a k)

  left_nodes : (after : World) → LeavesSeats w after → AreNodes earlier after
  left_nodes after l = same_nodes w after l.topology l.seats l.put l.inputs l.steps h

  effect_nodes : (c : Choice) (event : Event) → AreNodes (λ a k. stepped_by w a k event (earlier a k)) (effect_by c w event)
  unfolding effect_by
  effect_nodes c (Need m d) = left_nodes (effect_by c w (Need m d)) (leaves_seats c w (Need m d) refl)
  effect_nodes c Tick = left_nodes (effect_by c w Tick) (leaves_seats c w Tick refl)
  effect_nodes c (Open m j) = left_nodes (effect_by c w (Open m j)) (leaves_seats c w (Open m j) refl)
  effect_nodes c (Pull m j) = left_nodes (effect_by c w (Pull m j)) (leaves_seats c w (Pull m j) refl)
  effect_nodes c (Transmit m j) = left_nodes (effect_by c w (Transmit m j)) (leaves_seats c w (Transmit m j) refl)
  effect_nodes c (Deliver i) = left_nodes (effect_by c w (Deliver i)) (leaves_seats c w (Deliver i) refl)
  effect_nodes c (Pump m j) = left_nodes (effect_by c w (Pump m j)) (leaves_seats c w (Pump m j) refl)
  effect_nodes c (CoreTurn m) = turn_nodes c m (w.items m) refl
  effect_nodes c (Arm m call) = left_nodes (effect_by c w (Arm m call)) (leaves_seats c w (Arm m call) refl)
  effect_nodes c (Restart m torn) = restart_nodes m torn

  world_nodes : (c : Choice) (event : Event) → AreNodes (λ a k. stepped_after c w a k event (earlier a k)) (world_by c w event)
  unfolding world_by
  world_nodes c event = go (is_some (refusal_by c w event))
    where
      go : (b : Bool) → AreNodes (λ a k. if b then earlier a k else stepped_by w a k event (earlier a k)) (if b then w else effect_by c w event)
      go true = h
      go false = effect_nodes c event

  pub free_nodes : (c : Choice) (event : FreeEvent) → AreNodes (λ a k. free_stepped_after c w a k event (earlier a k)) (free_by c w event)
  free_nodes c event =
      free_cases w (λ of after. AreNodes (λ a k. of (List Packet) (λ e. stepped_after c w a k e (earlier a k)) (earlier a k)) after) c (λ e. world_nodes c e)
      (λ after l. same_nodes w after l.topology l.seats l.put l.inputs l.steps h) (λ of after k. same_nodes after (record after { files = w.files }) refl refl refl refl refl k) event

-- ---- runs

record Ended (earlier : ℕ → ℕ → List Packet) (w : World) : Type 0 where
  refused : OnlyNeedsAreRefused w
  agreed : (n k : ℕ) → earlier n k ++ packets_accepted k (w.inputs n) ≡ packets_in (w.steps n k)

module _ (laws : LinkLaws) (lows : LifeLaws) (cores : CoreLaws) (seats : SeatLaws) where
  run_ends : (es : Schedule) (steps : List MachineStep) (w : World) (seen : Seen) (earlier : ℕ → ℕ → List Packet) → ((a b : ℕ) (l : Life) → seen a b l 0) → AllEndsFollow steps (end_views w) w.datagrams seen → AreNodes earlier w →
      Ended (λ n k. stepped_at_restart n k es w (earlier n k)) (after_schedule es w)
  unfolding after_schedule
  run_ends [] steps w seen earlier z g h = record { refused = only_needs cores seats steps w seen g earlier h; agreed = h.agreed }
  run_ends (e ∷ es) steps w seen earlier z g h =
      let now : Seen = λ a b l c. seen a b l c ⊎ HasAccepted a b l c w in
      let w' : World = free_by e.1 w e.0 in
      let steps' : List MachineStep = made (free_steps_by e.1 w e.0) steps in
      let g' : AllEndsFollow steps' (end_views w') w'.datagrams now =
      free_follows laws lows steps w now (λ a b l. inl (z a b l)) (λ a b l j. inr (record { bound = j; accepted = omega arith })) e.1 e.0 (more_seen steps (end_views w) w.datagrams seen now (λ a b l c x. inl x) g) in
      run_ends es steps' w' now (λ a k. free_stepped_after e.1 w a k e.0 (earlier a k)) (λ a b l. inl (z a b l)) g' (free_nodes cores seats steps w seen g earlier h e.1 e.0)

  pub first_nodes : (t : Topology) (times : Times) → AreNodes (λ n k. []) (first_world t times)
  first_nodes t times = record { seats = λ n. first_is cores t n; put = λ n k. tt; agreed = λ n k. refl }

  ends : (t : Topology) (times : Times) (es : Schedule) → Ended (λ n k. stepped_at_restart n k es (first_world t times) []) (after_schedule es (first_world t times))
  ends t times es = run_ends es [] (first_world t times) (λ a b l c. c ≡ 0) (λ n k. []) (λ a b l. refl) (first_follows laws lows t times) (first_nodes t times)

  pub refused_in_run : (t : Topology) (times : Times) (es : Schedule) → OnlyNeedsAreRefused (after_schedule es (first_world t times))
  refused_in_run t times es = (ends t times es).refused

  pub agreed_in_run : (t : Topology) (times : Times) (es : Schedule) → SteppedAreAccepted (first_world t times) es (after_schedule es (first_world t times))
  agreed_in_run t times es = (ends t times es).agreed
