-- In every world of a run, what a core has taken in a current session is what it has accepted from the neighbour since
-- the link came up.
use Rattle.std.proofs.Common.{◌≡◌, ℕ, Bool, true, false, ◌⊎◌, inl, inr, List, [], ◌∷◌, ◌++◌, map, Option, Some, nat_eq, if◌then◌else◌, refl, sym, ap, ap₂, ◌∙◌, subst, append-nil, eqb-true, eq-eqb, arith}
use Rattle.std.proofs.lemmas.Bool.{cond_both, cases_Bool}
use Rattle.std.specs.Prelude.{slice_get, is_some}
use Rattle.tora_arq.specs.declared.life.Life.{Life}
use Rattle.tora_arq.specs.declared.times.Times.{Times}
use Rattle.tora_core.specs.declared.Input.{Input}
use Rattle.tora_core.specs.CoreRun.{core_after_all}
use Rattle.tora_seat.specs.declared.what.What.{What}
use Rattle.tora_seat.specs.declared.what.What.TheVariants as Tells
use Rattle.tora_seat.specs.declared.item.Item.{Item}
use Rattle.tora_seat.specs.Serving.{SeatState, Serving, Parcel, Answers, serving_of, stepped_from}
use Rattle.tora_world.specs.declared.event.Event.{Event}
use Rattle.tora_world.specs.Topology.{Topology, new_core}
use Rattle.tora_world.specs.Lists.{packets_of}
use Rattle.tora_world.specs.LinkMachine.{MachineStep, machine_after, made}
use Rattle.tora_world.specs.MachineRun.{free_steps_by}
use Rattle.tora_world.specs.World.{World, Choice, neighbours, first_seat, first_world, refusal_by, after_serving, after_turn, after_restart, effect_by, world_by}
use Rattle.tora_world.specs.FreeWorld.{FreeEvent, free_by, Schedule, after_schedule}
use Rattle.tora_world.specs.Law.{HasAccepted}
use Rattle.tora_world.specs.Layers.{LinkLaws, LifeLaws, CoreLaws, SeatLaws}
use Rattle.tora_world.proofs.CoreEvents.{effect_cases}
use Rattle.tora_world.proofs.Invariant.{arrival_of, AllEndsFollow, Seen, seen_at_other}
use Rattle.tora_world.proofs.Invariant.Arrival.{LifeComes}
use Rattle.tora_world.proofs.Moves.{comes_untaken}
use Rattle.tora_world.proofs.AllEnds.{more_seen}
use Rattle.tora_world.proofs.EndViews.{arrivals_in, arrivals_of, end_views}
use Rattle.tora_world.proofs.AllRuns.{free_follows, first_follows}
use Rattle.tora_world.proofs.FreeEvents.{free_cases}
use Rattle.tora_packet.specs.declared.Packet.{Packet}
use Rattle.tora_world.specs.Refusals.{free_stepped_after}
use Rattle.tora_world.proofs.Refused.{AreNodes, taken_from, free_nodes, first_nodes}
use Rattle.tora_world.proofs.Received.{received_from, Received, serving_received}

-- the invariant of every node
pub record AreReceived (t : Topology) (w : World) : Type 0 where
  pub topology : w.topology ≡ t
  pub follows : (n : ℕ) → (w.seats n).core ≡ core_after_all (new_core t n) (w.inputs n)
  pub same : (n k : ℕ) (l : Life) → (w.seats n).current k ≡ Some l → packets_of l (w.steps n k) ≡ received_from k (new_core t n) (w.inputs n) []

-- the invariant of one node, by the parts of the world
record IsReceived (t : Topology) (n : ℕ) (seat : SeatState) (inputs : List (Input × ℕ)) (steps : ℕ → List Parcel) : Type 0 where
  follows : seat.core ≡ core_after_all (new_core t n) inputs
  same : (k : ℕ) (l : Life) → seat.current k ≡ Some l → packets_of l (steps k) ≡ received_from k (new_core t n) inputs []

of_nodes : (t : Topology) (w : World) → w.topology ≡ t → ((n : ℕ) → IsReceived t n (w.seats n) (w.inputs n) (w.steps n)) → AreReceived t w
of_nodes t w top f = record { topology = top; follows = λ n. (f n).follows; same = λ n. (f n).same }

same_received : (t : Topology) (w w' : World) → w'.topology ≡ w.topology → w'.seats ≡ w.seats → w'.inputs ≡ w.inputs → w'.steps ≡ w.steps → AreReceived t w → AreReceived t w'
same_received t w w' a b c d h = of_nodes t w' (a ∙ h.topology) (λ n.
    subst (λ (f : ℕ → SeatState). IsReceived t n (f n) (w'.inputs n) (w'.steps n)) (sym b)
    (subst (λ (f : ℕ → List (Input × ℕ)). IsReceived t n (w.seats n) (f n) (w'.steps n)) (sym c)
    (subst (λ (f : ℕ → ℕ → List Parcel). IsReceived t n (w.seats n) (w.inputs n) (f n)) (sym d) (record { follows = h.follows n; same = h.same n }))))

module _ (cores : CoreLaws) (seats : SeatLaws) (t : Topology) (steps : List MachineStep) (w : World) (seen : Seen) (g : AllEndsFollow steps (end_views w) w.datagrams seen) (earlier : ℕ → ℕ → List Packet) (a : AreNodes earlier w) (h : AreReceived t w) where
  -- nothing was taken before in a session that comes up now
  fresh : (n : ℕ) (item : Item) (items : List Item) → w.items n ≡ item ∷ items → (k : ℕ) (l : Life) → slice_get (neighbours w n) item.seat ≡ Some k → item.what ≡ Tells.Up l → packets_of l (w.steps n k) ≡ []
  fresh n item items q k l seat what =
      let come : (end_views w n k).coming ≡ LifeComes l ∷ (arrivals_of (neighbours w n) k items ++ map arrival_of (w.ends n k).events) =
      ap (λ is. arrivals_of (neighbours w n) k is ++ map arrival_of (w.ends n k).events) q
      ∙ ap (λ r. (arrivals_in k r item.what ++ arrivals_of (neighbours w n) k items) ++ map arrival_of (w.ends n k).events) seat
      ∙ ap (λ (x : What). (arrivals_in k (Some k) x ++ arrivals_of (neighbours w n) k items) ++ map arrival_of (w.ends n k).events) what
      ∙ ap (λ (b : Bool). ((if b then LifeComes l ∷ [] else []) ++ arrivals_of (neighbours w n) k items) ++ map arrival_of (w.ends n k).events) (eq-eqb k k refl) in
      comes_untaken (end_views w n k) (machine_after steps n k) (machine_after steps k n).sent (seen_at_other seen n k) l (arrivals_of (neighbours w n) k items ++ map arrival_of (w.ends n k).events) come (g.sides n k)

  served : (n : ℕ) (answers : Answers) (item : Item) (items : List Item) → w.items n ≡ item ∷ items →
      Received cores seats (neighbours w n) answers (new_core t n) (w.inputs n) (w.steps n) (serving_of answers (neighbours w n) (w.seats n) item)
  served n answers item items q =
      let s = a.seats n in
      serving_received cores seats (neighbours w n) answers (new_core t n) (w.inputs n) (w.steps n) (w.seats n) item s.settled
      (record {
        near = s.near;
        up = λ j l m e. s.up j l m e;
        stepped = refl;
        follows = h.follows n ∙ ap (core_after_all (new_core t n)) (sym (append-nil (w.inputs n)));
        same = λ k l e. ap (packets_of l) (append-nil (w.steps n k)) ∙ h.same n k l e ∙ ap (λ is. received_from k (new_core t n) is []) (sym (append-nil (w.inputs n)));
      })
      (taken_from steps w seen g a.put n item items q) (fresh n item items q)

  abbrev ServedAt : ℕ → Serving → ℕ → Bool → Type 0
  ServedAt n v m b = IsReceived t m (if b then v.seat else w.seats m) (if b then w.inputs n ++ v.inputs else w.inputs m) (if b then (λ k. w.steps n k ++ stepped_from k v.steps) else w.steps m)

  serving_at : (n : ℕ) (answers : Answers) (items : List Item) (v : Serving) → Received cores seats (neighbours w n) answers (new_core t n) (w.inputs n) (w.steps n) v → AreReceived t (after_serving w n items v)
  serving_at n answers items v d = of_nodes t (after_serving w n items v) h.topology (λ m. at m (cases_Bool (nat_eq m n)))
    where
      at : (m : ℕ) → (nat_eq m n ≡ true) ⊎ (nat_eq m n ≡ false) → ServedAt n v m (nat_eq m n)
      at m (inl e) =
          subst (λ (b : Bool). ServedAt n v m b) (sym e)
          (subst (λ x. IsReceived t x v.seat (w.inputs n ++ v.inputs) (λ k. w.steps n k ++ stepped_from k v.steps)) (sym (eqb-true m n e)) (record { follows = d.follows; same = d.same }))
      at m (inr e) = subst (λ (b : Bool). ServedAt n v m b) (sym e) (record { follows = h.follows m; same = h.same m })

  turn_at : (c : Choice) (n : ℕ) (items : List Item) → w.items n ≡ items → AreReceived t (after_turn w c n items)
  turn_at c n [] q = h
  turn_at c n (item ∷ items) q = serving_at n c.answers items (serving_of c.answers (neighbours w n) (w.seats n) item) (served n c.answers item items q)

  abbrev RestartedAt : ℕ → ℕ → Bool → Type 0
  RestartedAt n m b = IsReceived t m (if b then first_seat w.topology n else w.seats m) (if b then [] else w.inputs m) (w.steps m)

  restart_at : (n : ℕ) (torn : Option (List ℕ)) → AreReceived t (after_restart w n torn)
  restart_at n torn = of_nodes t (after_restart w n torn) h.topology (λ m. at m (cases_Bool (nat_eq m n)))
    where
      at : (m : ℕ) → (nat_eq m n ≡ true) ⊎ (nat_eq m n ≡ false) → RestartedAt n m (nat_eq m n)
      at m (inl e) =
          subst (λ (b : Bool). RestartedAt n m b) (sym e)
          (record { follows = ap₂ (λ x y. new_core x y) h.topology (sym (eqb-true m n e)); same = λ k l x. absurd (cc) })
      at m (inr e) = subst (λ (b : Bool). RestartedAt n m b) (sym e) (record { follows = h.follows m; same = h.same m })

  effect_at : (c : Choice) (event : Event) → AreReceived t (effect_by c w event)
  effect_at c event =
      effect_cases c w (AreReceived t) (λ after l. same_received t w after l.topology l.seats l.inputs l.steps h) (λ n. turn_at c n (w.items n) refl) restart_at event

  world_at : (c : Choice) (event : Event) → AreReceived t (world_by c w event)
  unfolding world_by
  world_at c event = cond_both (is_some (refusal_by c w event)) _ _ (AreReceived t) (λ _. h) (λ _. effect_at c event)

  free_at : (c : Choice) (event : FreeEvent) → AreReceived t (free_by c w event)
  free_at c event = free_cases w (λ of after. AreReceived t after) c (λ e. world_at c e) (λ after l. same_received t w after l.topology l.seats l.inputs l.steps h)
      (λ of after k. same_received t after (record after { files = w.files }) refl refl refl refl k) event

-- ---- runs

-- the invariants of all nodes at the end of a run
pub record NodesEnd (t : Topology) (w : World) : Type 0 where
  pub earlier : ℕ → ℕ → List Packet
  pub nodes : AreNodes earlier w
  pub received : AreReceived t w

module _ (laws : LinkLaws) (lows : LifeLaws) (cores : CoreLaws) (seats : SeatLaws) (t : Topology) where
  run_at : (es : Schedule) (steps : List MachineStep) (w : World) (seen : Seen) (earlier : ℕ → ℕ → List Packet) → ((a b : ℕ) (l : Life) → seen a b l 0) → AllEndsFollow steps (end_views w) w.datagrams seen → AreNodes earlier w → AreReceived t w → NodesEnd t (after_schedule es w)
  unfolding after_schedule
  run_at [] steps w seen earlier z g a h = record { earlier = earlier; nodes = a; received = h }
  run_at (e ∷ es) steps w seen earlier z g a h =
      let now : Seen = λ a b l c. seen a b l c ⊎ HasAccepted a b l c w in
      let w' : World = free_by e.1 w e.0 in
      let steps' : List MachineStep = made (free_steps_by e.1 w e.0) steps in
      let g' : AllEndsFollow steps' (end_views w') w'.datagrams now =
      free_follows laws lows steps w now (λ a b l. inl (z a b l)) (λ a b l j. inr (record { bound = j; accepted = omega arith })) e.1 e.0 (more_seen steps (end_views w) w.datagrams seen now (λ a b l c x. inl x) g) in
      run_at es steps' w' now (λ n k. free_stepped_after e.1 w n k e.0 (earlier n k)) (λ a b l. inl (z a b l)) g' (free_nodes cores seats steps w seen g earlier a e.1 e.0) (free_at cores seats t steps w seen g earlier a h e.1 e.0)

  pub nodes_end : (times : Times) (es : Schedule) → NodesEnd t (after_schedule es (first_world t times))
  nodes_end times es =
      run_at es [] (first_world t times) (λ a b l c. c ≡ 0) (λ n k. []) (λ a b l. refl) (first_follows laws lows t times) (first_nodes laws lows cores seats t times)
      (of_nodes t (first_world t times) refl (λ n. record { follows = refl; same = λ k l x. absurd (cc) }))
