-- Over a topology that is not refused, every core of a run keeps the invariants of TORA's rules.
use Rattle.std.proofs.Common.{◌≡◌, ℕ, zero, suc, true, false, ◌⊎◌, inl, inr, List, [], ◌∷◌, ◌++◌, length, Option, Some, None, nat_eq, if◌then◌else◌, refl, sym, ap, ◌∙◌, subst, eqb-true, arith}
use Rattle.std.proofs.lemmas.Bool.{cond_both, cases_Bool}
use Rattle.std.specs.Prelude.{is_some, IfSome, filter_map, option_map, slice_get}
use Rattle.std.specs.List.{AllByRecursion, cons_option}
use Rattle.tora_packet.specs.declared.Packet.{Packet}
use Rattle.tora_packet.specs.PacketParts.{IsId}
use Rattle.tora_packet.specs.AnyPacket.{IsPacket}
use Rattle.tora_arq.specs.declared.life.Life.{Life}
use Rattle.tora_arq.specs.declared.times.Times.{Times}
use Rattle.tora_core.specs.declared.Input.{Input}
use Rattle.tora_core.specs.declared.Input.TheVariants as In
use Rattle.tora_core.specs.declared.errors.StepError.{StepError}
use Rattle.tora_core.specs.declared.destination.Broadcast.{Broadcast}
use Rattle.tora_core.specs.declared.destination.Broadcast.TheVariants as Tell
use Rattle.tora_core.specs.Numbers.{has_number}
use Rattle.tora_core.specs.View.{View}
use Rattle.tora_core.specs.Rules.{outcome_of, packet_of, packet_sent}
use Rattle.tora_core.specs.CoreRun.{CoreView, refusal_of, concerns, next_packet, core_after, core_after_all, sends_of}
use Rattle.tora_core.specs.Kept.{MakesPacket, CanTake, IsCore, IsInput, AreInputs}
use Rattle.tora_core.proofs.Broadcasts.{broadcasts-make_packets}
use Rattle.tora_core.proofs.CoreLemmas.{all-can_take}
use Rattle.tora_seat.specs.declared.what.What.{What}
use Rattle.tora_seat.specs.declared.what.What.TheVariants as Tells
use Rattle.tora_seat.specs.declared.item.Item.{Item}
use Rattle.tora_seat.specs.declared.cargo.Cargo.{Cargo}
use Rattle.tora_seat.specs.declared.cargo.Cargo.TheVariants as Gives
use Rattle.tora_seat.specs.Serving.{SeatState, Offer, Serving, Answers, with_current, with_pending, after_cut_tried, after_cuts_tried, after_sent, after_broadcast, after_broadcasts, accepting, after_answer, after_step, first_cut, after_settling, after_input, is_current, after_old_down, after_cut_asked, after_life_cut, after_link_item, after_other_item, after_item_of, begin_serving, serving_of, put_to}
use Rattle.tora_world.specs.declared.event.Event.{Event}
use Rattle.tora_world.specs.Topology.{Topology, neighbours_of, new_core}
use Rattle.tora_world.specs.Lists.{parcel_of, Each}
use Rattle.tora_arq.specs.Lives.{reversed}
use Rattle.tora_world.specs.LinkMachine.{MachineStep, made}
use Rattle.tora_world.specs.MachineRun.{free_steps_by}
use Rattle.tora_world.specs.World.{World, Choice, neighbours, first_seat, first_world, refusal_by, after_serving, after_turn, after_restart, effect_by, world_by}
use Rattle.tora_world.specs.FreeWorld.{FreeEvent, free_by, Schedule, after_schedule}
use Rattle.tora_world.specs.Law.{HasAccepted}
use Rattle.tora_world.specs.Layers.{LinkLaws, LifeLaws}
use Rattle.tora_world.proofs.CoreEvents.{effect_cases}
use Rattle.tora_world.proofs.Invariant.{AllEndsFollow, Seen}
use Rattle.tora_world.proofs.AllEnds.{more_seen}
use Rattle.tora_world.proofs.EndViews.{end_views}
use Rattle.tora_world.proofs.AllRuns.{free_follows, first_follows}
use Rattle.tora_world.proofs.FreeEvents.{free_cases}
use Rattle.tora_world.proofs.Cores.{core_after-push}
use Rattle.tora_world.proofs.Accepted.{IsCargoWith, put_with, each_push, current_is, at_in}
use Rattle.tora_world.proofs.Refused.{each_both, packet_put, taken_is_put}

-- ---- packets that are sent

makes_is : (d : ℕ) (b : Broadcast) → MakesPacket d b → IsPacket (packet_of d b)
makes_is d Tell.Query h = h
makes_is d (Tell.Update height) h = h
makes_is d (Tell.Clear tau oid) h = h

sent_is : (v : View) (input : Input) (now : ℕ) → CanTake input v → IfSome (next_packet input now v) IsPacket
sent_is v input now can =
    cond_both (concerns input v.destination) (packet_sent v input now) None (λ (o : Option Packet). IfSome o IsPacket)
    (λ e. go (outcome_of v input now).broadcast (broadcasts-make_packets v input now can.kept (can.may e).0)) (λ _. tt)
  where
    go : (o : Option Broadcast) → IfSome o (MakesPacket v.destination) → IfSome (option_map (packet_of v.destination) o) IsPacket
    go None h = tt
    go (Some b) h = makes_is v.destination b h

all_sent : (input : Input) (now : ℕ) (views : List View) → AllByRecursion (CanTake input) views → Each IsPacket (filter_map (next_packet input now) views)
all_sent input now [] can = tt
all_sent input now (v ∷ views) can = add (next_packet input now v) (sent_is v input now can.0) (all_sent input now views can.1)
  where
    add : (o : Option Packet) → IfSome o IsPacket → Each IsPacket (filter_map (next_packet input now) views) → Each IsPacket (cons_option o (filter_map (next_packet input now) views))
    add None h rest = rest
    add (Some p) h rest = (h, rest)

sends_are : (c : CoreView) (input : Input) (now : ℕ) → IsCore c → IsInput input → Each IsPacket (sends_of c input now)
sends_are c input now core ok = go (refusal_of c input) refl
  where
    go : (o : Option StepError) → refusal_of c input ≡ o → Each IsPacket (if is_some o then [] else filter_map (next_packet input now) c.views)
    go None free = all_sent input now c.views (all-can_take c input core ok free)
    go (Some e) refused = tt

inputs_push : (is : List (Input × ℕ)) (input : Input) (now : ℕ) → AreInputs is → IsInput input → AreInputs (is ++ (input, now) ∷ [])
inputs_push [] input now h ok = (ok, tt)
inputs_push ((i, t) ∷ is) input now h ok = (h.0, inputs_push is input now h.1 ok)

-- ---- one node: its core keeps the invariants, whatever packets arrive

abbrev pub KeepsLaws : Topology → ℕ → Type 0
KeepsLaws t n = (is : List (Input × ℕ)) → AreInputs is → IsCore (core_after_all (new_core t n) is)

-- the core is the result of valid inputs from the first core on
pub record IsRunOf (t : Topology) (n : ℕ) (c : CoreView) : Type 0 where
  pub inputs : List (Input × ℕ)
  pub made : c ≡ core_after_all (new_core t n) inputs
  pub sound : AreInputs inputs

pub kept_core : (t : Topology) (n : ℕ) (c : CoreView) → KeepsLaws t n → IsRunOf t n c → IsCore c
kept_core t n c keeps r = subst IsCore (sym r.made) (keeps r.inputs r.sound)

run_on : (t : Topology) (n : ℕ) (c : CoreView) (input : Input) (now : ℕ) → IsInput input → IsRunOf t n c → IsRunOf t n (core_after c input now)
run_on t n c input now ok r = record {
  inputs = r.inputs ++ (input, now) ∷ [];
  made = ap (λ x. core_after x input now) r.made ∙ sym (core_after-push (new_core t n) r.inputs input now);
  sound = inputs_push r.inputs input now r.sound ok;
}

first_run : (t : Topology) (n : ℕ) → IsRunOf t n (new_core t n)
first_run t n = record { inputs = []; made = refl; sound = tt }

-- an item that is being served: the core and all offered packets are valid
record IsFine (t : Topology) (n : ℕ) (v : Serving) : Type 0 where
  core : IsRunOf t n v.seat.core
  sends : Each (λ (o : Offer). IsCargoWith IsPacket o.cargo) v.offers

module _ (t : Topology) (n : ℕ) (keeps : KeepsLaws t n) (ks : List ℕ) (answers : Answers) where
  abbrev Fine : Serving → Type 0
  Fine v = IsFine t n v

  cut_fine : (v : Serving) (k : ℕ) (o : Option Life) → Fine v → Fine (after_cut_tried answers v k o)
  cut_fine v k None h = h
  cut_fine v k (Some l) h =
      cond_both (answers v.offers k) _ _ Fine
      (λ _. record { core = h.core; sends = each_push (λ (o : Offer). IsCargoWith IsPacket o.cargo) v.offers (record { to = k; cargo = Gives.Cut l; put = true }) h.sends tt })
      (λ _. record { core = h.core; sends = each_push (λ (o : Offer). IsCargoWith IsPacket o.cargo) v.offers (record { to = k; cargo = Gives.Cut l; put = false }) h.sends tt })

  cuts_fine : (js : List ℕ) (v : Serving) → Fine v → Fine (after_cuts_tried answers js v)
  unfolding after_cuts_tried
  cuts_fine [] v h = h
  cuts_fine (k ∷ js) v h = cuts_fine js (after_cut_tried answers v k (v.seat.pending k)) (cut_fine v k (v.seat.pending k) h)

  sent_fine : (packet : Packet) → IsPacket packet → (v : Serving) (k : ℕ) (o : Option Life) → Fine v → Fine (after_sent answers packet v k o)
  sent_fine packet ok v k None h = h
  sent_fine packet ok v k (Some l) h =
      cond_both (answers v.offers k) _ _ Fine
      (λ _. record { core = h.core; sends = each_push (λ (o : Offer). IsCargoWith IsPacket o.cargo) v.offers (record { to = k; cargo = Gives.Packet l packet; put = true }) h.sends ok })
      (λ _. record { core = h.core; sends = each_push (λ (o : Offer). IsCargoWith IsPacket o.cargo) v.offers (record { to = k; cargo = Gives.Packet l packet; put = false }) h.sends ok })

  broadcast_fine : (packet : Packet) → IsPacket packet → (js : List ℕ) (v : Serving) → Fine v → Fine (after_broadcast answers packet js v)
  unfolding after_broadcast
  broadcast_fine packet ok [] v h = h
  broadcast_fine packet ok (k ∷ js) v h = broadcast_fine packet ok js (after_sent answers packet v k (v.seat.current k)) (sent_fine packet ok v k (v.seat.current k) h)

  broadcasts_fine : (packets : List Packet) (v : Serving) → Each IsPacket packets → Fine v → Fine (after_broadcasts answers ks packets v)
  unfolding after_broadcasts
  broadcasts_fine [] v ok h = h
  broadcasts_fine (packet ∷ packets) v ok h = broadcasts_fine packets (after_broadcast answers packet ks v) ok.1 (broadcast_fine packet ok.0 ks v h)

  step_fine : (v : Serving) (input : Input) (now : ℕ) → IsInput input → Fine v → Fine (after_step answers ks input now v)
  unfolding after_step
  step_fine v input now ok h = go (refusal_of v.seat.core input)
    where
      go : (o : Option StepError) → Fine (after_answer answers ks input now v o)
      go None =
          broadcasts_fine (sends_of v.seat.core input now) (accepting v input now) (sends_are v.seat.core input now (kept_core t n v.seat.core keeps h.core) ok)
          (record { core = run_on t n v.seat.core input now ok h.core; sends = h.sends })
      go (Some error) = record { core = h.core; sends = h.sends }

  settling_fine : (most now : ℕ) (v : Serving) → Fine v → Fine (after_settling most answers ks now v)
  unfolding after_settling
  settling_fine zero now v h = h
  settling_fine (suc most) now v h = go (first_cut v.seat ks) (λ x y. settling_fine most now x y)
    where
      go : (r : Option ℕ) → ((x : Serving) → Fine x → Fine (after_settling most answers ks now x)) →
          Fine (elim r [ None ↦ v | Some j ↦ after_settling most answers ks now (after_step answers ks (In.LinkDown j) now v) ])
      go None again = h
      go (Some j) again = again (after_step answers ks (In.LinkDown j) now v) (step_fine v (In.LinkDown j) now tt h)

  input_fine : (v : Serving) (input : Input) (now : ℕ) → IsInput input → Fine v → Fine (after_input answers ks input now v)
  unfolding after_input
  input_fine v input now ok h = settling_fine (length ks) now (after_step answers ks input now v) (step_fine v input now ok h)

  current_fine : (v : Serving) (k : ℕ) (o : Option Life) → Fine v → Fine (with_current v k o)
  current_fine v k o h = record { core = h.core; sends = h.sends }

  old_fine : (v : Serving) (k now : ℕ) (o : Option Life) → Fine v → Fine (after_old_down answers ks k now v o)
  old_fine v k now None h = h
  old_fine v k now (Some l) h = input_fine (with_current v k None) (In.LinkDown k) now tt (current_fine v k None h)

  life_cut_fine : (v : Serving) (k now : ℕ) (o : Option Life) → Fine v → Fine (after_life_cut answers ks k now v o)
  life_cut_fine v k now None h = h
  life_cut_fine v k now (Some l) h =
      let w = after_cut_asked answers v k l in
      input_fine (with_current w k None) (In.LinkDown k) now tt (current_fine w k None (cut_fine (with_pending v k (Some l)) k (Some l) (record { core = h.core; sends = h.sends })))

  link_item_fine : (v : Serving) (k now : ℕ) (what : What) → ((l : Life) (p : Packet) → what ≡ Tells.Packet l p → is_current l (v.seat.current k) ≡ true → IsPacket p) → Fine v → Fine (after_link_item answers ks k now what v)
  unfolding after_link_item
  link_item_fine v k now (Tells.Up l) from h =
      let old : Serving = after_old_down answers ks k now v (v.seat.current k) in
      input_fine (with_current old k (Some l)) (In.LinkUp k) now tt (current_fine old k (Some l) (old_fine v k now (v.seat.current k) h))
  link_item_fine v k now (Tells.Packet l p) from h =
      cond_both (is_current l (v.seat.current k)) _ _ Fine
      (λ e. input_fine (record v { steps = v.steps ++ record { from = k; parcel = parcel_of l p } ∷ [] }) (In.Packet k p) now (from l p refl e) (record { core = h.core; sends = h.sends }))
      (λ _. h)
  link_item_fine v k now (Tells.Down l r) from h =
      cond_both (is_current l (v.seat.current k)) _ _ Fine
      (λ _. input_fine (with_current v k None) (In.LinkDown k) now tt (current_fine v k None h))
      (λ _. cond_both (is_current l (v.seat.pending k)) _ _ Fine (λ _. record { core = h.core; sends = h.sends }) (λ _. h))
  link_item_fine v k now (Tells.Need d) from h = input_fine v (In.Need d) now tt h
  link_item_fine v k now (Tells.Cut j) from h = h
  link_item_fine v k now Tells.Beat from h = h
  link_item_fine v k now Tells.Show from h = record { core = h.core; sends = h.sends }
  link_item_fine v k now (Tells.Status status) from h = record { core = h.core; sends = h.sends }
  link_item_fine v k now Tells.Quit from h = record { core = h.core; sends = h.sends }

  other_item_fine : (v : Serving) (now : ℕ) (what : What) → Fine v → Fine (after_other_item answers ks now what v)
  unfolding after_other_item
  other_item_fine v now (Tells.Need d) h = input_fine v (In.Need d) now tt h
  other_item_fine v now (Tells.Cut k) h = cond_both (has_number k ks) _ _ Fine (λ _. life_cut_fine v k now (v.seat.current k) h) (λ _. h)
  other_item_fine v now (Tells.Up l) h = h
  other_item_fine v now (Tells.Packet l p) h = h
  other_item_fine v now (Tells.Down l r) h = h
  other_item_fine v now Tells.Beat h = h
  other_item_fine v now Tells.Show h = record { core = h.core; sends = h.sends }
  other_item_fine v now (Tells.Status status) h = record { core = h.core; sends = h.sends }
  other_item_fine v now Tells.Quit h = record { core = h.core; sends = h.sends }

  -- offering the pending cuts does not change the current sessions
  cut_current : (v : Serving) (j : ℕ) (o : Option Life) → (after_cut_tried answers v j o).seat.current ≡ v.seat.current
  cut_current v j None = refl
  cut_current v j (Some l) = cond_both (answers v.offers j) _ _ (λ (x : Serving). x.seat.current ≡ v.seat.current) (λ _. refl) (λ _. refl)

  cuts_current : (js : List ℕ) (v : Serving) → (after_cuts_tried answers js v).seat.current ≡ v.seat.current
  unfolding after_cuts_tried
  cuts_current [] v = refl
  cuts_current (j ∷ js) v = cuts_current js (after_cut_tried answers v j (v.seat.pending j)) ∙ cut_current v j (v.seat.pending j)

  serving_fine : (seat : SeatState) (item : Item) → IsRunOf t n seat.core →
      ((k : ℕ) (l : Life) (p : Packet) → slice_get ks item.seat ≡ Some k → item.what ≡ Tells.Packet l p → is_current l (seat.current k) ≡ true → IsPacket p) → Fine (serving_of answers ks seat item)
  unfolding serving_of
  serving_fine seat item core from = go (slice_get ks item.seat) refl
    where
      begun : Fine (after_cuts_tried answers ks (begin_serving seat))
      begun = cuts_fine ks (begin_serving seat) (record { core = core; sends = tt })

      go : (o : Option ℕ) → slice_get ks item.seat ≡ o → Fine (after_item_of answers ks o item.now item.what (after_cuts_tried answers ks (begin_serving seat)))
      go (Some k) e =
          link_item_fine (after_cuts_tried answers ks (begin_serving seat)) k item.now item.what
          (λ l p w on. from k l p e w (sym (ap (λ (f : ℕ → Option Life). is_current l (f k)) (cuts_current ks (begin_serving seat))) ∙ on)) begun
      go None e = other_item_fine (after_cuts_tried answers ks (begin_serving seat)) item.now item.what begun

-- ---- all nodes

-- at each node with a valid number, the core and all packets that it put are valid
record AreKept (t : Topology) (w : World) : Type 0 where
  topology : w.topology ≡ t
  cores : (n : ℕ) → IsId n → IsRunOf t n (w.seats n).core
  put : (n k : ℕ) → IsId n → Each (IsCargoWith IsPacket) (w.put n k)

same_kept : (t : Topology) (w w' : World) → w'.topology ≡ w.topology → w'.seats ≡ w.seats → w'.put ≡ w.put → AreKept t w → AreKept t w'
same_kept t w w' a b c h = record {
  topology = a ∙ h.topology;
  cores = λ n id. subst (λ (f : ℕ → SeatState). IsRunOf t n (f n).core) (sym b) (h.cores n id);
  put = λ n k id. subst (λ (f : ℕ → ℕ → List Cargo). Each (IsCargoWith IsPacket) (f n k)) (sym c) (h.put n k id);
}

-- the invariants of all cores of the topology, and the numbers of its nodes
pub record IsKeeping (t : Topology) : Type 0 where
  pub laws : (n : ℕ) → IsId n → KeepsLaws t n
  pub ids : (n k : ℕ) → has_number k (neighbours_of t n) ≡ true → IsId k

module _ (t : Topology) (keeping : IsKeeping t) (steps : List MachineStep) (w : World) (seen : Seen) (g : AllEndsFollow steps (end_views w) w.datagrams seen) (h : AreKept t w) where
  -- the packet of the next item is one that its neighbour put
  packet_is : (n : ℕ) (item : Item) (items : List Item) → w.items n ≡ item ∷ items → (k : ℕ) (l : Life) (p : Packet) → slice_get (neighbours w n) item.seat ≡ Some k → item.what ≡ Tells.Packet l p → is_current l ((w.seats n).current k) ≡ true → IsPacket p
  packet_is n item items q k l p seat what on =
      let x = taken_is_put steps w seen g n item items q k l p seat what (current_is l ((w.seats n).current k) on) in
      let id : IsId k = keeping.ids n k (subst (λ (u : Topology). has_number k (neighbours_of u n) ≡ true) h.topology (at_in (neighbours w n) item.seat k seat)) in
      packet_put IsPacket (reversed l) (w.put k n) x.0 p (h.put k n id) x.1

  serving_kept : (n : ℕ) (answers : Answers) (items : List Item) (v : Serving) → (IsId n → IsFine t n v) → AreKept t (after_serving w n items v)
  serving_kept n answers items v fine = record {
    topology = h.topology;
    cores = λ a id. core_at a id (cases_Bool (nat_eq a n));
    put = λ a k id. put_at a k id (cases_Bool (nat_eq a n));
  }
    where
      core_at : (a : ℕ) → IsId a → (nat_eq a n ≡ true) ⊎ (nat_eq a n ≡ false) → IsRunOf t a (if nat_eq a n then v.seat else w.seats a).core
      core_at a id (inl e) =
          subst (λ x. IsRunOf t a (if x then v.seat else w.seats a).core) (sym e)
          (subst (λ m. IsRunOf t m v.seat.core) (sym (eqb-true a n e)) (fine (subst IsId (eqb-true a n e) id)).core)
      core_at a id (inr e) = subst (λ x. IsRunOf t a (if x then v.seat else w.seats a).core) (sym e) (h.cores a id)

      put_at : (a k : ℕ) → IsId a → (nat_eq a n ≡ true) ⊎ (nat_eq a n ≡ false) → Each (IsCargoWith IsPacket) ((if nat_eq a n then (λ k. w.put n k ++ put_to k v.offers) else w.put a) k)
      put_at a k id (inl e) =
          let here : IsId n = subst IsId (eqb-true a n e) id in
          subst (λ x. Each (IsCargoWith IsPacket) ((if x then (λ k. w.put n k ++ put_to k v.offers) else w.put a) k)) (sym e)
          (each_both (IsCargoWith IsPacket) (w.put n k) (put_to k v.offers) (h.put n k here) (put_with (IsCargoWith IsPacket) k v.offers (fine here).sends))
      put_at a k id (inr e) = subst (λ x. Each (IsCargoWith IsPacket) ((if x then (λ k. w.put n k ++ put_to k v.offers) else w.put a) k)) (sym e) (h.put a k id)

  turn_kept : (c : Choice) (n : ℕ) (items : List Item) → w.items n ≡ items → AreKept t (after_turn w c n items)
  turn_kept c n [] q = h
  turn_kept c n (item ∷ items) q =
      serving_kept n c.answers items (serving_of c.answers (neighbours w n) (w.seats n) item)
      (λ id. serving_fine t n (keeping.laws n id) (neighbours w n) c.answers (w.seats n) item (h.cores n id) (packet_is n item items q))

  restart_kept : (n : ℕ) (torn : Option (List ℕ)) → AreKept t (after_restart w n torn)
  restart_kept n torn = record {
    topology = h.topology;
    cores = λ a id. core_at a id (cases_Bool (nat_eq a n));
    put = h.put;
  }
    where
      core_at : (a : ℕ) → IsId a → (nat_eq a n ≡ true) ⊎ (nat_eq a n ≡ false) → IsRunOf t a (if nat_eq a n then first_seat w.topology n else w.seats a).core
      core_at a id (inl e) =
          subst (λ x. IsRunOf t a (if x then first_seat w.topology n else w.seats a).core) (sym e)
          (subst (λ (u : Topology). IsRunOf t a (first_seat u n).core) (sym h.topology) (subst (λ m. IsRunOf t m (first_seat t n).core) (sym (eqb-true a n e)) (first_run t n)))
      core_at a id (inr e) = subst (λ x. IsRunOf t a (if x then first_seat w.topology n else w.seats a).core) (sym e) (h.cores a id)

  effect_kept : (c : Choice) (event : Event) → AreKept t (effect_by c w event)
  effect_kept c event =
      effect_cases c w (AreKept t) (λ after l. same_kept t w after l.topology l.seats l.put h) (λ n. turn_kept c n (w.items n) refl) restart_kept event

  world_kept : (c : Choice) (event : Event) → AreKept t (world_by c w event)
  unfolding world_by
  world_kept c event = cond_both (is_some (refusal_by c w event)) _ _ (AreKept t) (λ _. h) (λ _. effect_kept c event)

  free_kept : (c : Choice) (event : FreeEvent) → AreKept t (free_by c w event)
  free_kept c event = free_cases w (λ of after. AreKept t after) c (λ e. world_kept c e) (λ after l. same_kept t w after l.topology l.seats l.put h)
      (λ of after k. same_kept t after (record after { files = w.files }) refl refl refl k) event

-- ---- runs

module _ (laws : LinkLaws) (lows : LifeLaws) (t : Topology) (keeping : IsKeeping t) where
  run_kept : (es : Schedule) (steps : List MachineStep) (w : World) (seen : Seen) → ((a b : ℕ) (l : Life) → seen a b l 0) → AllEndsFollow steps (end_views w) w.datagrams seen → AreKept t w → AreKept t (after_schedule es w)
  unfolding after_schedule
  run_kept [] steps w seen z g h = h
  run_kept (e ∷ es) steps w seen z g h =
      let now : Seen = λ a b l c. seen a b l c ⊎ HasAccepted a b l c w in
      let w' : World = free_by e.1 w e.0 in
      let steps' : List MachineStep = made (free_steps_by e.1 w e.0) steps in
      let g' : AllEndsFollow steps' (end_views w') w'.datagrams now =
      free_follows laws lows steps w now (λ a b l. inl (z a b l)) (λ a b l j. inr (record { bound = j; accepted = omega arith })) e.1 e.0 (more_seen steps (end_views w) w.datagrams seen now (λ a b l c x. inl x) g) in
      run_kept es steps' w' now (λ a b l. inl (z a b l)) g' (free_kept t keeping steps w seen g h e.1 e.0)

  kept : (times : Times) (es : Schedule) → AreKept t (after_schedule es (first_world t times))
  kept times es =
      run_kept es [] (first_world t times) (λ a b l c. c ≡ 0) (λ a b l. refl) (first_follows laws lows t times)
      (record { topology = refl; cores = λ n id. first_run t n; put = λ n k id. tt })

  -- every core keeps the invariants
  pub cores_kept : (times : Times) (es : Schedule) (n : ℕ) → IsId n → IsRunOf t n ((after_schedule es (first_world t times)).seats n).core
  cores_kept times es n id = (kept times es).cores n id

  pub topology_kept : (times : Times) (es : Schedule) → (after_schedule es (first_world t times)).topology ≡ t
  topology_kept times es = (kept times es).topology
