-- Each call of a router is a list of parts of its node.
use Rattle.std.proofs.Common.{◌≡◌, ℕ, zero, suc, ◌<◌, ◌≤◌, ◌⊎◌, Bool, true, false, true≢false, inl, inr, List, [], ◌∷◌, ◌++◌, length, Option, Some, None, Ok, Err, nat_eq, if◌then◌else◌, refl, sym, ap, ◌∙◌, subst, eqb-true, arith}
use Rattle.std.specs.Option.{option_map_or}
use Rattle.std.specs.Prelude.{slice_get, is_some, map}
use Rattle.tora_frame.specs.declared.parts.Version.{Version}
use Rattle.tora_frame.specs.declared.parts.Version.TheVariants.{Two}
use Rattle.tora_frame.specs.FrameParts.{FrameParts}
use Rattle.tora_arq.specs.declared.link_event.LinkEvent.{LinkEvent}
use Rattle.tora_arq.specs.declared.times.Times.{Times}
use Rattle.tora_arq.specs.EndRange.{LinkEndView, link_end_of}
use Rattle.tora_arq.specs.LinkEnd.{EndState, bound_life, first_end, first_event, frame_due, after_frame, verdict_of}
use Rattle.tora_arq.specs.Settings.{Settings, settings_of}
use Rattle.tora_core.specs.Numbers.{has_repeat}
use Rattle.tora_core.specs.CoreRun.{CoreView}
use Rattle.tora_seat.specs.declared.what.What.TheVariants as Told
use Rattle.tora_seat.specs.Between.{after_cut_of_bound}
use Rattle.tora_seat.specs.Serving.{Serving, put_one}
use Rattle.tora_neighbour.specs.Intake.{Reading, after_reading}
use Rattle.tora_router.specs.declared.change.Change.{Change}
use Rattle.tora_router.specs.declared.intake.Intake.TheVariants.{NoNeighbour, Seen}
use Rattle.tora_router.specs.declared.link.Link.{Link}
use Rattle.tora_router.specs.Links.{at_place, cut, event_of, first_in, frame_of_link, heard, intake_at, intake_in, link_change, may_open, opens_at, peer_at, ticked, to_peer, told, waiting}
use Rattle.tora_router.specs.Router.{RouterState, router_with, new_link, serving, after_item, after_event, after_first_event, after_events, settled, next_number, ticked_at, ticked_before, at_link, intake_from, need_item, item_at, frame_in, after_frame as after_frame_given, hop_change, after_change}
use Rattle.tora_world.specs.Topology.{Topology, version_at, other_ends, neighbours_of, new_core, is_node}
use Rattle.tora_world.specs.Lists.{IsIn}
use Rattle.tora_running.specs.Network.{Network, IsNotForged}
use Rattle.tora_running.specs.Network.Part.{Starts}
use Rattle.tora_world.specs.World.{first_seat}
use Rattle.tora_running.specs.Parts.LinkPart.{Hears, Breaks}
use Rattle.tora_running.specs.Hosts.{History, IsOneOf, IsRefused, with_serving, with_servings, with_frame, served_event, served_events, served_settling}
use Rattle.tora_running.specs.RouterLaws.{AreEnds}
use Rattle.tora_running.proofs.Neighbours.{number_at, ascending_again, as_many, neighbour_at, link_at, first_same, found_in, told_at}
use Rattle.tora_running.proofs.Nodes.{node_of, IsNode, Reached, net, end_in, s, stays, goes_on, by_part}
use Rattle.tora_running.proofs.PartsOfCalls.{may_be_opened, quiet, sends, asks, item_served, event_served, tick_handed}

servings-append : (h : History) (xs ys : List Serving) → with_servings h (xs ++ ys) ≡ with_servings (with_servings h xs) ys
servings-append h [] ys = refl
servings-append h (x ∷ xs) ys = servings-append (with_serving h x) xs ys

heard_end : (now : ℕ) (reading : Reading) (link : Link) (settings : Settings) (e : EndState) → link.end ≡ link_end_of settings e → (heard now reading link).end ≡ link_end_of settings (after_reading settings e now reading)
heard_end now (Ok frame) link settings e q = ap (λ (x : LinkEndView). link_end_of x.settings (after_frame x.settings x.state frame now)) q
heard_end now (Err error) link settings e q = q

is_number : (j k : ℕ) (u : Unit {0}) → (if nat_eq j k then Some tt else None) ≡ Some u → j ≡ k
is_number j k u = go (nat_eq j k) refl
  where
    go : (b : Bool) → nat_eq j k ≡ b → (if b then Some tt else None) ≡ Some u → j ≡ k
    go true q e = eqb-true j k q
    go false q e = absurd (true≢false (sym (ap is_some e)))

-- the ends of a new router are new ends
module _ (t : Topology) (times : Times) (n : ℕ) (two : version_at t n ≡ Two) where
  new_links : (js : List ℕ) → AreEnds (end_in t times n (λ k. first_end)) js (map (new_link n times) js)
  new_links [] = tt
  new_links (k ∷ js) = (ap (λ (v : Version). link_end_of (settings_of v n k times) first_end) (sym two), new_links js)

  pub new_ends : AreEnds (end_in t times n (λ k. first_end)) (neighbours_of t n) (map (new_link n times) (new_core t n).neighbours)
  new_ends = subst (λ (js : List ℕ). AreEnds (end_in t times n (λ k. first_end)) (neighbours_of t n) (map (new_link n times) js)) (sym (ascending_again (other_ends n t.links))) (new_links (neighbours_of t n))

module _ (t : Topology) (times : Times) (n : ℕ) (once : has_repeat (neighbours_of t n) ≡ false) (here : is_node t n ≡ true) where
  abbrev ks : List ℕ
  ks = neighbours_of t n

  abbrev IsHere : RouterState → History → Network → Type 0
  IsHere r h w = IsNode t times n r h [] [] (node_of w n)

  abbrev Comes : RouterState → History → Network → Type 0
  Comes r h w = Reached t times n r h [] [] w

  -- the parts of one step of a call, and then those of another
  and_then : (r r' : RouterState) (h h' : History) (w : Network) → Comes r h w → ((x : Network) → IsHere r h x → Comes r' h' x) → Comes r' h' w
  and_then r r' h h' w a f = goes_on t times n r r' h h' [] [] [] [] w a f

  -- ---- events are served

  event_first : (r : RouterState) (h : History) (w : Network) (now : ℕ) → IsHere r h w → Comes (after_first_event now r) (with_servings h (served_event now r (first_in event_of r.links))) w
  unfolding after_first_event
  event_first r h w now i = go (first_in event_of r.links) refl
    where
      go : (o : Option (ℕ × LinkEvent)) → first_in event_of r.links ≡ o → Comes (after_event now r o) (with_servings h (served_event now r o)) w
      go None q = stays t times n r h [] [] w i
      go (Some found) q =
          let same = first_same (end_in t times n (w.ends n)) event_of (λ k. first_event (w.ends n k)) (λ link k e. ap (λ (x : LinkEndView). first_event x.state) e) ks r.links i.ends in
          let f = found_in (λ k. first_event (w.ends n k)) ks found (sym same ∙ q) in
          event_served t times n once here r h w f.0 found.0 now found.1 f.1 f.2 i

  events : (count now : ℕ) (r : RouterState) (h : History) (w : Network) → IsHere r h w → Comes (after_events count now r) (with_servings h (served_events count now r)) w
  events zero now r h w i = stays t times n r h [] [] w i
  events (suc count) now r h w i =
      let r' : RouterState = after_events count now r in
      let before : List Serving = served_events count now r in
      let last : List Serving = served_event now r' (first_in event_of r'.links) in
      and_then r' (after_first_event now r') (with_servings h before) (with_servings h (before ++ last)) w (events count now r h w i)
      (λ x j. subst (λ (g : History). Comes (after_first_event now r') g x) (sym (servings-append h before last)) (event_first r' (with_servings h before) x now j))

  settles : (now : ℕ) (r : RouterState) (h : History) (w : Network) → Comes r h w → Comes (settled now r) (with_servings h (served_settling now r)) w
  settles now r h w a = and_then r (settled now r) h (with_servings h (served_settling now r)) w a (λ x j. events (waiting r.links) now r h x j)

  -- ---- ticks

  tick_one : (place now : ℕ) (r : RouterState) (h : History) (w : Network) → place < length r.links → IsHere r h w → Comes (ticked_at place now r) h w
  tick_one place now r h w lt i =
      let k = neighbour_at (end_in t times n (w.ends n)) place ks r.links i.ends lt in
      let link = link_at (end_in t times n (w.ends n)) k.0 place ks r.links i.ends k.1 in
      let may : opens_at r.next_life place r.links ≡ may_be_opened r.next_life (w.ends n k.0) =
      ap (λ o. option_map_or (may_open r.next_life) o false) link.1 ∙ ap (λ (x : LinkEndView). may_be_opened r.next_life x.state) link.2 in
      subst (λ b. Comes (record r { links = at_place (ticked r.next_life now) place r.links; next_life = next_number b r.next_life }) h w) (sym may)
      (tick_handed t times n once here r h w k.0 place now k.1 i)

  ticks : (place now : ℕ) (r : RouterState) (h : History) (w : Network) → place ≤ length r.links → IsHere r h w → Comes (ticked_before place now r) h w
  ticks zero now r h w le i = stays t times n r h [] [] w i
  ticks (suc place) now r h w le i =
      let r' : RouterState = ticked_before place now r in
      let a : length r.links ≡ length ks = as_many (end_in t times n (w.ends n)) ks r.links i.ends in
      let before : place ≤ length r.links = omega (arith, le) in
      and_then r' (ticked_at place now r') h h w (ticks place now r h w before i)
      (λ x j. let b : length r'.links ≡ length ks = as_many (end_in t times n (x.ends n)) ks r'.links j.ends in tick_one place now r' h x (omega (arith, le, a, b)) j)

  pub tick_comes : (now : ℕ) (r : RouterState) (h : History) (w : Network) → IsHere r h w → Comes (settled now (ticked_before (length r.links) now r)) (with_servings h (served_settling now (ticked_before (length r.links) now r))) w
  tick_comes now r h w i = settles now (ticked_before (length r.links) now r) h w (ticks (length r.links) now r h w (omega arith) i)

  -- ---- the link to a neighbour

  -- the place of the neighbour, if there is such a link
  neighbour_found : (r : RouterState) (h : History) (w : Network) (k : ℕ) (found : ℕ × Unit {0}) → IsHere r h w → first_in (to_peer k) r.links ≡ Some found → slice_get ks found.0 ≡ Some k
  neighbour_found r h w k found i q =
      let same = first_same (end_in t times n (w.ends n)) (to_peer k) (λ j. if nat_eq j k then Some tt else None) (λ link j e. ap (λ (x : LinkEndView). if nat_eq x.settings.peer k then Some tt else None) e) ks r.links i.ends in
      let f = found_in (λ j. if nat_eq j k then Some tt else None) ks found (sym same ∙ q) in
      f.1 ∙ ap Some (is_number f.0 k found.1 f.2)

  may_hear : (r : RouterState) (h : History) (w : Network) (k now : ℕ) (reading : Reading) (found : ℕ × Unit {0}) (frames : List FrameParts) → IsHere r h w → first_in (to_peer k) r.links ≡ Some found → w.frames k n ≡ frames
      → IsOneOf frames reading ⊎ IsRefused (intake_from k now reading r) → IsNotForged (net t times w) n k now reading
  may_hear r h w k now (Err error) found frames i q e may = tt
  may_hear r h w k now (Ok frame) found frames i q e (inl sent) = inl (subst (IsIn frame) (sym e) sent)
  may_hear r h w k now (Ok frame) found frames i q e (inr refused) =
      let link = link_at (end_in t times n (w.ends n)) k found.0 ks r.links i.ends (neighbour_found r h w k found i q) in
      let is : intake_from k now (Ok frame) r ≡ Seen (verdict_of (s t times n k) (w.ends n k) frame now) =
      ap (at_link NoNeighbour (λ place. intake_at now (Ok frame) place r.links)) q ∙ ap (intake_in now (Ok frame)) link.1 ∙ ap (λ (x : LinkEndView). Seen (verdict_of x.settings x.state frame now)) link.2 in
      inr (subst IsRefused is refused)

  pub datagram_comes : (k now : ℕ) (reading : Reading) (r : RouterState) (h : History) (w : Network) (frames : List FrameParts) → w.frames k n ≡ frames → IsOneOf frames reading ⊎ IsRefused (intake_from k now reading r) → IsHere r h w
      → Comes (at_link r (λ place. settled now (record r { links = at_place (heard now reading) place r.links })) (first_in (to_peer k) r.links))
      (with_servings h (at_link [] (λ place. served_settling now (record r { links = at_place (heard now reading) place r.links })) (first_in (to_peer k) r.links))) w
  datagram_comes k now reading r h w frames e may i = go (first_in (to_peer k) r.links) refl
    where
      go : (o : Option (ℕ × Unit {0})) → first_in (to_peer k) r.links ≡ o
          → Comes (at_link r (λ place. settled now (record r { links = at_place (heard now reading) place r.links })) o) (with_servings h (at_link [] (λ place. served_settling now (record r { links = at_place (heard now reading) place r.links })) o)) w
      go None q = stays t times n r h [] [] w i
      go (Some found) q =
          let at : slice_get ks found.0 ≡ Some k = neighbour_found r h w k found i q in
          settles now (record r { links = at_place (heard now reading) found.0 r.links }) h w
          (quiet t times n once here r h w i k found.0 at (Hears now reading) (after_reading (s t times n k) (w.ends n k) now reading) (heard now reading) (number_at k found.0 ks at, tt, may_hear r h w k now reading found frames i q e may) refl
          (λ link p. heard_end now reading link (s t times n k) (w.ends n k) p))

  pub cut_comes : (k now : ℕ) (r : RouterState) (h : History) (w : Network) → IsHere r h w
      → Comes (at_link r (λ place. settled now (record r { links = at_place cut place r.links })) (first_in (to_peer k) r.links)) (with_servings h (at_link [] (λ place. served_settling now (record r { links = at_place cut place r.links })) (first_in (to_peer k) r.links))) w
  cut_comes k now r h w i = go (first_in (to_peer k) r.links) refl
    where
      go : (o : Option (ℕ × Unit {0})) → first_in (to_peer k) r.links ≡ o
          → Comes (at_link r (λ place. settled now (record r { links = at_place cut place r.links })) o) (with_servings h (at_link [] (λ place. served_settling now (record r { links = at_place cut place r.links })) o)) w
      go None q = stays t times n r h [] [] w i
      go (Some found) q =
          let at : slice_get ks found.0 ≡ Some k = neighbour_found r h w k found i q in
          settles now (record r { links = at_place cut found.0 r.links }) h w
          (quiet t times n once here r h w i k found.0 at Breaks (after_cut_of_bound (w.ends n k) (bound_life (w.ends n k))) cut (number_at k found.0 ks at, tt, tt) refl
          (λ link p. ap (λ (x : LinkEndView). link_end_of x.settings (after_cut_of_bound x.state (bound_life x.state))) p))

  -- ---- needs and polls

  pub need_comes : (d now : ℕ) (r : RouterState) (h : History) (w : Network) → IsHere r h w
      → Comes (settled now (after_item r (need_item r d now))) (with_servings h (serving r (need_item r d now) ∷ served_settling now (after_item r (need_item r d now)))) w
  need_comes d now r h w i =
      let many : length ks ≡ length r.links = sym (as_many (end_in t times n (w.ends n)) ks r.links i.ends) in
      subst (λ (place : ℕ). Comes (settled now (after_item r (item_at place now (Told.Need d)))) (with_servings h (serving r (item_at place now (Told.Need d)) ∷ served_settling now (after_item r (item_at place now (Told.Need d))))) w) many
      (settles now (after_item r (item_at (length ks) now (Told.Need d))) (with_serving h (serving r (item_at (length ks) now (Told.Need d)))) w
      (goes_on t times n r (after_item r (item_at (length ks) now (Told.Need d))) h (with_serving h (serving r (item_at (length ks) now (Told.Need d)))) (record { seat = length ks; number = suc (w.counts n (length ks)); now = now; what = Told.Need d } ∷ []) [] [] [] w
      (asks t times n once here r h w i now (Told.Need d) tt)
      (λ x j. item_served t times n once here r h x (length ks) (suc (w.counts n (length ks))) now (Told.Need d) j)))

  pub poll_comes : (now : ℕ) (r : RouterState) (h : History) (w : Network) → IsHere r h w → Comes (after_frame_given now r (frame_in now r)) (with_frame r h (frame_in now r)) w
  poll_comes now r h w i = go (frame_in now r) refl
    where
      go : (o : Option (ℕ × FrameParts)) → frame_in now r ≡ o → Comes (after_frame_given now r o) (with_frame r h o) w
      go None q = stays t times n r h [] [] w i
      go (Some found) q =
          let of : ℕ → Option FrameParts = λ k. frame_due (s t times n k) (w.ends n k) now in
          let same = first_same (end_in t times n (w.ends n)) (frame_of_link now) of (λ link k e. ap (λ (x : LinkEndView). frame_due x.settings x.state now) e) ks r.links i.ends in
          let f = found_in of ks found (sym same ∙ q) in
          let link = link_at (end_in t times n (w.ends n)) f.0 found.0 ks r.links i.ends f.1 in
          let peer : peer_at found.0 r.links ≡ f.0 = ap (λ o. option_map_or (λ (l : Link). l.end.settings.peer) o 0) link.1 ∙ ap (λ (x : LinkEndView). x.settings.peer) link.2 in
          subst (λ (k : ℕ). Comes (after_frame_given now r (Some found)) (record h { frames = put_one h.frames k (h.frames k ++ found.1 ∷ []) }) w) (sym peer)
          (sends t times n once here r h w i f.0 found.0 now found.1 f.1 f.2)

  pub change_comes : (r : RouterState) (h : History) (w : Network) → IsHere r h w → Comes (after_change r (first_in link_change r.links) (first_in (hop_change r.seat.core) r.hops)) h w
  change_comes r h w i = go (first_in link_change r.links) (first_in (hop_change r.seat.core) r.hops)
    where
      go : (link hop : Option (ℕ × Change)) → Comes (after_change r link hop) h w
      go (Some link) hop =
          stays t times n (after_change r (Some link) hop) h [] [] w
          (record { core = i.core; ends = told_at (end_in t times n (w.ends n)) told link.0 ks r.links (λ l. refl) i.ends; items_are = i.items_are; cargoes = i.cargoes; numbers = i.numbers; frames = i.frames })
      go None (Some hop) =
          stays t times n (after_change r None (Some hop)) h [] [] w
          (record { core = i.core; ends = i.ends; items_are = i.items_are; cargoes = i.cargoes; numbers = i.numbers; frames = i.frames })
      go None None = stays t times n r h [] [] w i

  -- ---- a new router

  module _ (two : version_at t n ≡ Two) where
    starts : (first_life : ℕ) (r : RouterState) (h : History) (w : Network) → r.next_life ≤ first_life → IsHere r h w → Comes (router_with (new_core t n) times first_life) (record h { inputs = [] }) w
    starts first_life r h w rises i =
        by_part t times n (router_with (new_core t n) times first_life) (record h { inputs = [] }) [] [] w
        (record w {
          seats = put_one w.seats n (first_seat t n);
          ends = λ a k. if nat_eq a n then first_end else w.ends a k;
          items = put_one w.items n [];
          counts = put_one w.counts n (λ seat. 0);
          cargoes = put_one w.cargoes n (λ k. []);
          inputs = put_one w.inputs n [];
        }) (Starts n)
        (λ m b. record (node_of w m) {
          seat = if b then first_seat t n else w.seats m;
          ends = λ k. if b then first_end else w.ends m k;
          items = if b then [] else w.items m;
          counts = if b then (λ seat. 0) else w.counts m;
          cargoes = if b then (λ k. []) else w.cargoes m;
          inputs = if b then [] else w.inputs m;
        })
        here refl (λ m. refl) (λ m. refl)
        (record {
          core = record { seat_is = refl; neighbours = ascending_again (other_ends n t.links); put_is = i.core.put_is; inputs_is = refl; steps_is = i.core.steps_is };
          ends = new_ends t times n two;
          items_are = refl;
          cargoes = λ k. refl;
          numbers = λ k. let lt = i.numbers k in omega (arith, lt, rises);
          frames = i.frames;
        })

    pub new_comes : (core : CoreView) (times' : Times) (first_life : ℕ) (r : RouterState) (h : History) (w : Network) → core ≡ new_core t n → times' ≡ times → r.next_life ≤ first_life → IsHere r h w
        → Comes (router_with core times' first_life) (record h { inputs = [] }) w
    new_comes core times' first_life r h w c q rises i =
        subst (λ (x : CoreView). Comes (router_with x times' first_life) (record h { inputs = [] }) w) (sym c)
        (subst (λ (x : Times). Comes (router_with (new_core t n) x first_life) (record h { inputs = [] }) w) (sym q) (starts first_life r h w rises i))
