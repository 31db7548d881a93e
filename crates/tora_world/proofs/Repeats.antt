-- No event can be repeated without end, because each repetition uses up something of which there is a bounded amount.
use Rattle.std.proofs.Common.{◌≡◌, ℕ, zero, suc, ◌+◌, ◌<◌, ◌≤◌, Bool, true, false, true≢false, not, ◌&&◌, ◌⊎◌, inl, inr, List, [], ◌∷◌, ◌++◌, length, Option, Some, None, is_some, nat_eq, if◌then◌else◌, refl, sym, ap, ap₂, ◌∙◌, subst, length-append, eq-eqb, eqb-true, ltb-true, arith}
use Rattle.std.proofs.lemmas.Bool.{cases_Bool}
use Rattle.std.specs.Prelude.{slice_get}
use Rattle.tora_frame.specs.FrameParts.{FrameParts}
use Rattle.tora_arq.specs.declared.link_event.LinkEvent.{LinkEvent}
use Rattle.tora_arq.specs.Settings.{Settings}
use Rattle.tora_arq.specs.LinkEnd.{EndState, frame_due, after_transmit}
use Rattle.tora_arq.specs.Polls.{after_polls}
use Rattle.tora_seat.specs.declared.TheConstants.{MOST_ITEMS, MOST_CARGOES}
use Rattle.tora_seat.specs.declared.item.Item.{Item}
use Rattle.tora_seat.specs.declared.cargo.Cargo.{Cargo}
use Rattle.tora_seat.specs.Serving.{put_to, serving_of}
use Rattle.tora_world.specs.declared.event.Event.{Event}
use Rattle.tora_world.specs.declared.event.Event.TheVariants.{Pull, Transmit, Pump, CoreTurn}
use Rattle.tora_world.specs.declared.sim_error.SimError.{SimError}
use Rattle.tora_seat.specs.Between.{what_of}
use Rattle.tora_world.specs.World.{World, Choice, own_choice, own_answers, settings, neighbours, is_empty, has_room, after_pull, after_sending, after_pump, after_turn, refusal_of, effect_by, world_by, world_after, world_after_all}
use Rattle.tora_seat.specs.Offers.{place_of}
use Rattle.tora_world.specs.FreeWorld.{happening, after_schedule}
use Rattle.tora_world.specs.Frames.{ChangesAt, ChangesAtEnd}
use Rattle.tora_world.specs.Table.{IsStepBy, refused, needed, ticked, opened, stays_closed, packet_pulled, cut_pulled, sent, send_lost, send_gone, received, receive_failed, pumped, turned, send_lost_armed, send_gone_armed, receive_armed, read_armed, write_armed, sync_armed, restarted}
use Rattle.tora_world.specs.Repeats.{HappensAtMost}
use Rattle.tora_world.proofs.TableWords.{both_true}
use Rattle.tora_world.proofs.TableRefusals.{is_open}
use Rattle.tora_world.proofs.TableLeads.{happens}
use Rattle.tora_world.proofs.TableHolds.{step_holds}
use Rattle.tora_world.proofs.PutRooms.{room_served}

-- ---- the queues

-- values of nodes, one of which changes
at_each : {A : Type 0} (P : A → Type 0) (n : ℕ) (value : A) (old new : ℕ → A) → ChangesAt n value old new → P value → ((a : ℕ) → P (old a)) → (a : ℕ) → P (new a)
at_each P n value old new h one all a = go (cases_Bool (nat_eq a n))
  where
    go : (nat_eq a n ≡ true) ⊎ (nat_eq a n ≡ false) → P (new a)
    go (inl t) = subst P (sym (ap new (eqb-true a n t) ∙ h.here)) one
    go (inr f) = subst P (sym (h.elsewhere a (λ q. true≢false (sym (eq-eqb a n q) ∙ f)))) (all a)

at_each_end : {A : Type 0} (P : A → Type 0) (n k : ℕ) (value : A) (old new : ℕ → ℕ → A) → ChangesAtEnd n k value old new → P value → ((a b : ℕ) → P (old a b)) → (a b : ℕ) → P (new a b)
at_each_end P n k value old new h one all a b = go (cases_Bool (nat_eq a n)) (cases_Bool (nat_eq b k))
  where
    go : (nat_eq a n ≡ true) ⊎ (nat_eq a n ≡ false) → (nat_eq b k ≡ true) ⊎ (nat_eq b k ≡ false) → P (new a b)
    go (inl t) (inl u) = subst P (sym (ap₂ new (eqb-true a n t) (eqb-true b k u) ∙ h.here)) one
    go (inl t) (inr f) = subst P (sym (h.elsewhere a b (λ q. true≢false (sym (eq-eqb b k q.1) ∙ f)))) (all a b)
    go (inr f) r = subst P (sym (h.elsewhere a b (λ q. true≢false (sym (eq-eqb a n q.0) ∙ f)))) (all a b)

abbrev IsLane : List Item → Type 0
IsLane items = length items ≤ MOST_ITEMS

abbrev IsLaneOut : List Cargo → Type 0
IsLaneOut cargoes = length cargoes ≤ MOST_CARGOES

longer : {A : Type 0} (xs : List A) (x : A) → length (xs ++ x ∷ []) ≡ suc (length xs)
longer xs x = length-append xs (x ∷ []) ∙ omega arith

module _ (c : Choice) (w : World) where
  -- the queues into the cores, by the rows of the table
  items_within : {event : Event} {after : World} → IsStepBy c w event after → ((n : ℕ) → IsLane (w.items n)) → (n : ℕ) → IsLane (after.items n)
  items_within (refused r h) all n = subst (λ (f : ℕ → List Item). IsLane (f n)) (sym h.items) (all n)
  items_within (needed {n = m} there room puts h) all n =
      at_each IsLane m _ w.items _ puts.item (subst (λ x. x ≤ MOST_ITEMS) (sym (longer (w.items m) _)) (omega (arith, room))) all n
  items_within (ticked clock ends h) all n = subst (λ (f : ℕ → List Item). IsLane (f n)) (sym h.items) (all n)
  items_within (opened there closed drawn ends files h) all n = subst (λ (f : ℕ → List Item). IsLane (f n)) (sym h.items) (all n)
  items_within (stays_closed there closed drawn files h) all n = subst (λ (f : ℕ → List Item). IsLane (f n)) (sym h.items) (all n)
  items_within (packet_pulled there first ends rest h) all n = subst (λ (f : ℕ → List Item). IsLane (f n)) (sym h.items) (all n)
  items_within (cut_pulled there first ends rest h) all n = subst (λ (f : ℕ → List Item). IsLane (f n)) (sym h.items) (all n)
  items_within (sent there due s ends datagrams h) all n = subst (λ (f : ℕ → List Item). IsLane (f n)) (sym h.items) (all n)
  items_within (send_lost there due s ends arms h) all n = subst (λ (f : ℕ → List Item). IsLane (f n)) (sym h.items) (all n)
  items_within (send_gone there due s ends datagrams arms h) all n = subst (λ (f : ℕ → List Item). IsLane (f n)) (sym h.items) (all n)
  items_within (received is free ends h) all n = subst (λ (f : ℕ → List Item). IsLane (f n)) (sym h.items) (all n)
  items_within (receive_failed is armed arms h) all n = subst (λ (f : ℕ → List Item). IsLane (f n)) (sym h.items) (all n)
  items_within (pumped {n = m} there first room told place ends puts h) all n =
      at_each IsLane m _ w.items _ puts.item (subst (λ x. x ≤ MOST_ITEMS) (sym (longer (w.items m) _)) (omega (arith, room))) all n
  items_within (turned {n = m} {item} {items} there first leaves h) all n =
      let most : suc (length items) ≤ MOST_ITEMS = subst (λ xs. length xs ≤ MOST_ITEMS) first (all m) in
      at_each IsLane m items w.items _ leaves.items (omega (arith, most)) all n
  items_within (send_lost_armed there arms h) all n = subst (λ (f : ℕ → List Item). IsLane (f n)) (sym h.items) (all n)
  items_within (send_gone_armed there arms h) all n = subst (λ (f : ℕ → List Item). IsLane (f n)) (sym h.items) (all n)
  items_within (receive_armed there arms h) all n = subst (λ (f : ℕ → List Item). IsLane (f n)) (sym h.items) (all n)
  items_within (read_armed there files h) all n = subst (λ (f : ℕ → List Item). IsLane (f n)) (sym h.items) (all n)
  items_within (write_armed there files h) all n = subst (λ (f : ℕ → List Item). IsLane (f n)) (sym h.items) (all n)
  items_within (sync_armed there files h) all n = subst (λ (f : ℕ → List Item). IsLane (f n)) (sym h.items) (all n)
  items_within (restarted {n = m} there seats ends items counts cargoes inputs files h) all n = at_each IsLane m [] w.items _ items (omega arith) all n

pub items_in_run : (es : List (Event × Choice)) (w : World) → ((n : ℕ) → IsLane (w.items n)) → (n : ℕ) → IsLane ((after_schedule (happening es) w).items n)
unfolding after_schedule
items_in_run [] w all n = all n
items_in_run (e ∷ es) w all n = items_in_run es (world_by e.1 w e.0) (items_within e.1 w (step_holds e.1 w e.0) all) n

module _ (w : World) where
  -- the queues out of the cores, with the results of the simulator's queues
  cargoes_within : (c : Choice) {event : Event} {after : World} → ((n : ℕ) → event ≡ CoreTurn n → c.answers ≡ own_answers w n) → IsStepBy c w event after → ((n k : ℕ) → IsLaneOut (w.cargoes n k)) → (n k : ℕ) → IsLaneOut (after.cargoes n k)
  cargoes_within c own (refused r h) all n k = subst (λ (f : ℕ → ℕ → List Cargo). IsLaneOut (f n k)) (sym h.cargoes) (all n k)
  cargoes_within c own (needed there room puts h) all n k = subst (λ (f : ℕ → ℕ → List Cargo). IsLaneOut (f n k)) (sym h.cargoes) (all n k)
  cargoes_within c own (ticked clock ends h) all n k = subst (λ (f : ℕ → ℕ → List Cargo). IsLaneOut (f n k)) (sym h.cargoes) (all n k)
  cargoes_within c own (opened there closed drawn ends files h) all n k = subst (λ (f : ℕ → ℕ → List Cargo). IsLaneOut (f n k)) (sym h.cargoes) (all n k)
  cargoes_within c own (stays_closed there closed drawn files h) all n k = subst (λ (f : ℕ → ℕ → List Cargo). IsLaneOut (f n k)) (sym h.cargoes) (all n k)
  cargoes_within c own (packet_pulled {n = m} {k = j} {cargoes = rest} there first ends left h) all n k =
      let most : suc (length rest) ≤ MOST_CARGOES = subst (λ xs. length xs ≤ MOST_CARGOES) first (all m j) in
      at_each_end IsLaneOut m j rest w.cargoes _ left (omega (arith, most)) all n k
  cargoes_within c own (cut_pulled {n = m} {k = j} {cargoes = rest} there first ends left h) all n k =
      let most : suc (length rest) ≤ MOST_CARGOES = subst (λ xs. length xs ≤ MOST_CARGOES) first (all m j) in
      at_each_end IsLaneOut m j rest w.cargoes _ left (omega (arith, most)) all n k
  cargoes_within c own (sent there due s ends datagrams h) all n k = subst (λ (f : ℕ → ℕ → List Cargo). IsLaneOut (f n k)) (sym h.cargoes) (all n k)
  cargoes_within c own (send_lost there due s ends arms h) all n k = subst (λ (f : ℕ → ℕ → List Cargo). IsLaneOut (f n k)) (sym h.cargoes) (all n k)
  cargoes_within c own (send_gone there due s ends datagrams arms h) all n k = subst (λ (f : ℕ → ℕ → List Cargo). IsLaneOut (f n k)) (sym h.cargoes) (all n k)
  cargoes_within c own (received is free ends h) all n k = subst (λ (f : ℕ → ℕ → List Cargo). IsLaneOut (f n k)) (sym h.cargoes) (all n k)
  cargoes_within c own (receive_failed is armed arms h) all n k = subst (λ (f : ℕ → ℕ → List Cargo). IsLaneOut (f n k)) (sym h.cargoes) (all n k)
  cargoes_within c own (pumped there first room told place ends puts h) all n k = subst (λ (f : ℕ → ℕ → List Cargo). IsLaneOut (f n k)) (sym h.cargoes) (all n k)
  cargoes_within c own (turned {n = m} {item} {items} {after} there first leaves h) all n k =
      at_each (λ (f : ℕ → List Cargo). (j : ℕ) → IsLaneOut (f j)) m (λ j. w.cargoes m j ++ put_to j (serving_of c.answers (neighbours w m) (w.seats m) item).offers) w.cargoes after.cargoes leaves.cargoes
      (λ j. subst (λ answers. IsLaneOut (w.cargoes m j ++ put_to j (serving_of answers (neighbours w m) (w.seats m) item).offers)) (sym (own m refl)) (room_served w m (all m) (neighbours w m) (w.seats m) item j))
      (λ a j. all a j) n k
  cargoes_within c own (send_lost_armed there arms h) all n k = subst (λ (f : ℕ → ℕ → List Cargo). IsLaneOut (f n k)) (sym h.cargoes) (all n k)
  cargoes_within c own (send_gone_armed there arms h) all n k = subst (λ (f : ℕ → ℕ → List Cargo). IsLaneOut (f n k)) (sym h.cargoes) (all n k)
  cargoes_within c own (receive_armed there arms h) all n k = subst (λ (f : ℕ → ℕ → List Cargo). IsLaneOut (f n k)) (sym h.cargoes) (all n k)
  cargoes_within c own (read_armed there files h) all n k = subst (λ (f : ℕ → ℕ → List Cargo). IsLaneOut (f n k)) (sym h.cargoes) (all n k)
  cargoes_within c own (write_armed there files h) all n k = subst (λ (f : ℕ → ℕ → List Cargo). IsLaneOut (f n k)) (sym h.cargoes) (all n k)
  cargoes_within c own (sync_armed there files h) all n k = subst (λ (f : ℕ → ℕ → List Cargo). IsLaneOut (f n k)) (sym h.cargoes) (all n k)
  cargoes_within c own (restarted {n = m} {torn} {after} there seats ends items counts cargoes inputs files h) all n k =
      at_each (λ (f : ℕ → List Cargo). (j : ℕ) → IsLaneOut (f j)) m (λ j. []) w.cargoes after.cargoes cargoes (λ j. omega arith) (λ a j. all a j) n k

own_turn : (w : World) (event : Event) (n : ℕ) → event ≡ CoreTurn n → (own_choice w event).answers ≡ own_answers w n
own_turn w event n e = ap (λ x. (own_choice w x).answers) e

pub cargoes_in_run : (events : List Event) (w : World) → ((n k : ℕ) → IsLaneOut (w.cargoes n k)) → (n k : ℕ) → IsLaneOut ((world_after_all w events).cargoes n k)
cargoes_in_run [] w all n k = all n k
cargoes_in_run (event ∷ events) w all n k =
    cargoes_in_run events (world_after w event) (cargoes_within w (own_choice w event) (own_turn w event) (step_holds (own_choice w event) w event) all) n k

-- ---- repeated events

never : (event : Event) (w : World) → (refusal_of w event ≡ None → ⊥) → HappensAtMost zero event w
never event w impossible = go (refusal_of w event) refl
  where
    go : (o : Option SimError) → refusal_of w event ≡ o → is_some (refusal_of w event) ≡ true
    go None e = absurd (impossible e)
    go (Some error) e = ap (λ (o : Option SimError). is_some o) e

again : (most : ℕ) (event : Event) (w : World) → (refusal_of w event ≡ None → HappensAtMost most event (world_after w event)) → HappensAtMost (suc most) event w
again most event w next = go (refusal_of w event) refl
  where
    go : (o : Option SimError) → refusal_of w event ≡ o → (is_some (refusal_of w event) ≡ true) ⊎ HappensAtMost most event (world_after w event)
    go None e = inr (next e)
    go (Some error) e = inl (ap (λ (o : Option SimError). is_some o) e)

-- a turn takes an item
turn_once : (w : World) (n : ℕ) → refusal_of w (CoreTurn n) ≡ None → suc (length ((world_after w (CoreTurn n)).items n)) ≡ length (w.items n)
unfolding effect_by
turn_once w n e =
    ap (λ (x : World). suc (length (x.items n))) (happens (own_choice w (CoreTurn n)) w (CoreTurn n) e)
    ∙ go (w.items n) refl ((is_open (own_choice w (CoreTurn n)) w (CoreTurn n) (λ i q. cc) e).1)
  where
    go : (items : List Item) → w.items n ≡ items → not (is_empty (w.items n)) ≡ true → suc (length ((after_turn w (own_choice w (CoreTurn n)) n items).items n)) ≡ length (w.items n)
    go [] q some = absurd (true≢false (sym some ∙ ap (λ xs. not (is_empty xs)) q))
    go (item ∷ items) q some = ap (λ (b : Bool). suc (length (if b then items else w.items n))) (eq-eqb n n refl) ∙ sym (ap length q)

pub turns_end : (most : ℕ) (w : World) (n : ℕ) → length (w.items n) ≤ most → HappensAtMost most (CoreTurn n) w
turns_end zero w n le = never (CoreTurn n) w (λ e. let q = turn_once w n e in omega (arith, q, le))
turns_end (suc most) w n le = again most (CoreTurn n) w (λ e. let q = turn_once w n e in turns_end most (world_after w (CoreTurn n)) n (omega (arith, q, le)))

-- a pull takes an outbound message
pull_once : (w : World) (n k : ℕ) → refusal_of w (Pull n k) ≡ None → suc (length ((world_after w (Pull n k)).cargoes n k)) ≡ length (w.cargoes n k)
unfolding effect_by
pull_once w n k e =
    ap (λ (x : World). suc (length (x.cargoes n k))) (happens (own_choice w (Pull n k)) w (Pull n k) e)
    ∙ go (w.cargoes n k) refl ((is_open (own_choice w (Pull n k)) w (Pull n k) (λ i q. cc) e).1)
  where
    go : (cargoes : List Cargo) → w.cargoes n k ≡ cargoes → not (is_empty (w.cargoes n k)) ≡ true → suc (length ((after_pull w n k cargoes).cargoes n k)) ≡ length (w.cargoes n k)
    go [] q some = absurd (true≢false (sym some ∙ ap (λ xs. not (is_empty xs)) q))
    go (cargo ∷ cargoes) q some = ap₂ (λ (x y : Bool). suc (length (if x && y then cargoes else w.cargoes n k))) (eq-eqb n n refl) (eq-eqb k k refl) ∙ sym (ap length q)

pub pulls_end : (most : ℕ) (w : World) (n k : ℕ) → length (w.cargoes n k) ≤ most → HappensAtMost most (Pull n k) w
pulls_end zero w n k le = never (Pull n k) w (λ e. let q = pull_once w n k e in omega (arith, q, le))
pulls_end (suc most) w n k le = again most (Pull n k) w (λ e. let q = pull_once w n k e in pulls_end most (world_after w (Pull n k)) n k (omega (arith, q, le)))

-- a pump fills the queue
pump_room : (w : World) (n k : ℕ) → refusal_of w (Pump n k) ≡ None → length (w.items n) < MOST_ITEMS
pump_room w n k e =
    ltb-true (length (w.items n)) MOST_ITEMS (both_true (not (is_empty (w.ends n k).events)) (has_room w n) ((is_open (own_choice w (Pump n k)) w (Pump n k) (λ i q. cc) e).1)).1

pump_once : (w : World) (n k : ℕ) → refusal_of w (Pump n k) ≡ None → length ((world_after w (Pump n k)).items n) ≡ suc (length (w.items n))
unfolding effect_by
pump_once w n k e =
    ap (λ (x : World). length (x.items n)) (happens (own_choice w (Pump n k)) w (Pump n k) e)
    ∙ go (w.ends n k).events refl (both_true (not (is_empty (w.ends n k).events)) (has_room w n) ((is_open (own_choice w (Pump n k)) w (Pump n k) (λ i q. cc) e).1)).0
  where
    go : (events : List LinkEvent) → (w.ends n k).events ≡ events → not (is_empty (w.ends n k).events) ≡ true → length ((after_pump w (own_choice w (Pump n k)) n k (slice_get events 0)).items n) ≡ suc (length (w.items n))
    go [] q some = absurd (true≢false (sym some ∙ ap (λ xs. not (is_empty xs)) q))
    go (event ∷ events) q some = ap (λ (b : Bool). length (if b then w.items n ++ record { seat = place_of k (neighbours w n); number = suc (w.counts n (place_of k (neighbours w n))); now = w.clock; what = what_of event } ∷ [] else w.items n)) (eq-eqb n n refl) ∙ longer (w.items n) _

pub pumps_end : (most : ℕ) (w : World) (n k : ℕ) → MOST_ITEMS ≤ length (w.items n) + most → HappensAtMost most (Pump n k) w
pumps_end zero w n k le = never (Pump n k) w (λ e. let q = pump_room w n k e in omega (arith, q, le))
pumps_end (suc most) w n k le = again most (Pump n k) w (λ e. let q = pump_once w n k e in pumps_end most (world_after w (Pump n k)) n k (omega (arith, q, le)))

-- a transmit is a poll of the end at this tick
record IsPoll (w : World) (n k : ℕ) (after : World) : Type 0 where
  same : settings after n k ≡ settings w n k
  clock : after.clock ≡ w.clock
  end : after.ends n k ≡ after_transmit (settings w n k) (w.ends n k) w.clock

transmit_once : (w : World) (n k : ℕ) → refusal_of w (Transmit n k) ≡ None → IsPoll w n k (world_after w (Transmit n k))
unfolding effect_by
transmit_once w n k e =
    subst (IsPoll w n k) (sym (happens (own_choice w (Transmit n k)) w (Transmit n k) e))
    (go (frame_due (settings w n k) (w.ends n k) w.clock) ((is_open (own_choice w (Transmit n k)) w (Transmit n k) (λ i q. cc) e).1) refl)
  where
    go : (o : Option FrameParts) → is_some (frame_due (settings w n k) (w.ends n k) w.clock) ≡ true → frame_due (settings w n k) (w.ends n k) w.clock ≡ o → IsPoll w n k (after_sending w n k (after_transmit (settings w n k) (w.ends n k) w.clock) o)
    go None some q = absurd (true≢false (sym some ∙ ap (λ (o : Option FrameParts). is_some o) q))
    go (Some f) some q = record { same = refl; clock = refl; end = ap₂ (λ (x y : Bool). if x && y then after_transmit (settings w n k) (w.ends n k) w.clock else w.ends n k) (eq-eqb n n refl) (eq-eqb k k refl) }

-- after this many polls no frame is due
abbrev IsIdle : ℕ → Settings → EndState → ℕ → Type 0
IsIdle polls s e now = frame_due s (after_polls s e now polls) now ≡ None

pub transmits_end : (most : ℕ) (w : World) (n k : ℕ) → IsIdle most (settings w n k) (w.ends n k) w.clock → HappensAtMost most (Transmit n k) w
transmits_end zero w n k idle =
    never (Transmit n k) w (λ e. true≢false (sym (is_open (own_choice w (Transmit n k)) w (Transmit n k) (λ i q. cc) e).1 ∙ ap (λ (o : Option FrameParts). is_some o) idle))
transmits_end (suc most) w n k idle =
    again most (Transmit n k) w (λ e.
    let p = transmit_once w n k e in
    let w' : World = world_after w (Transmit n k) in
    transmits_end most w' n k (subst (λ s. IsIdle most s (w'.ends n k) w'.clock) (sym p.same)
    (subst (λ x. IsIdle most (settings w n k) x w'.clock) (sym p.end) (subst (λ now. IsIdle most (settings w n k) (after_transmit (settings w n k) (w.ends n k) w.clock) now) (sym p.clock) idle))))
