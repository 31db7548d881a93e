-- The steps of a router's call are parts of its node.
use Rattle.std.proofs.Common.{◌≡◌, ℕ, zero, suc, ◌<◌, ◌≤◌, Bool, true, false, ◌&&◌, List, [], ◌∷◌, ◌++◌, length, Some, nat_eq, nat_lt, if◌then◌else◌, refl, sym, ap, ap₂, ◌∙◌, subst, eqb-true, eq-eqb, arith}
use Rattle.std.proofs.lemmas.Bool.{and_parts, leb-true}
use Rattle.std.proofs.lemmas.Bool.Decides.{nat_tests}
use Rattle.std.specs.Prelude.{slice_get, nat_le, ◌^◌, drop}
use Rattle.tora_frame.specs.FrameParts.{FrameParts}
use Rattle.tora_arq.specs.declared.link_event.LinkEvent.{LinkEvent}
use Rattle.tora_arq.specs.declared.times.Times.{Times}
use Rattle.tora_arq.specs.EndRange.{LinkEndView, link_end_of}
use Rattle.tora_arq.specs.LinkEnd.{EndState, is_closed, after_open, after_tick, frame_due, after_transmit, first_event, after_poll_event}
use Rattle.tora_core.specs.Numbers.{has_number, has_repeat}
use Rattle.tora_seat.specs.declared.cargo.Cargo.{Cargo}
use Rattle.tora_seat.specs.declared.item.Item.{Item}
use Rattle.tora_seat.specs.declared.what.What.{What}
use Rattle.tora_seat.specs.Between.{what_of, after_cargo}
use Rattle.tora_seat.specs.Offers.{place_of}
use Rattle.tora_seat.specs.Serving.{SeatState, Offer, Answers, Serving, put_one, put_to, stepped_from, serving_of}
use Rattle.tora_node.specs.CoreRuns.{answers_told}
use Rattle.tora_router.specs.declared.link.Link.{Link}
use Rattle.tora_router.specs.Links.{with_state, given, polled, may_open, opened, ticked, sent, at_place}
use Rattle.tora_router.specs.Router.{RouterState, serving, after_offers, after_item, item_at, next_number}
use Rattle.tora_world.specs.Topology.{Topology, neighbours_of, is_node}
use Rattle.tora_world.specs.LinkMachine.{put_at}
use Rattle.tora_world.specs.World.Sending.{Goes}
use Rattle.tora_world.specs.FreeWorld.{TellsNoLife}
use Rattle.tora_running.specs.Network.{Network, IsFront, MayBe, after_part, after_serving}
use Rattle.tora_running.specs.Network.Part.{OfLink, Serves, Asks}
use Rattle.tora_running.specs.Parts.{LinkPart}
use Rattle.tora_running.specs.Parts.LinkPart.{Opens, Ticks, Takes, Sends, Tells}
use Rattle.tora_running.specs.Hosts.{History, with_serving}
use Rattle.tora_running.specs.RouterLaws.{AreEnds}
use Rattle.tora_running.proofs.Answered.{ArePut, served_put, served_told, neighbours_stay}
use Rattle.tora_running.proofs.Neighbours.{turned, number_at, place_at, at_place_of, changed_at}
use Rattle.tora_running.proofs.Nodes.{node_of, IsNode, Reached, net, end_in, s, stays, goes_on, by_part}

-- ---- one of many values changes

pub put_here : {A : Type 0} (f : ℕ → A) (k : ℕ) (x : A) → put_one f k x k ≡ x
put_here f k x = ap (λ b. if b then x else f k) (eq-eqb k k refl)

put_there : {A : Type 0} (f : ℕ → A) (k : ℕ) (x : A) (j : ℕ) → nat_eq j k ≡ false → put_one f k x j ≡ f j
put_there f k x j e = ap (λ b. if b then x else f j) e

put_cases : {A : Type 0} (P : ℕ → A → Type 0) (f : ℕ → A) (k : ℕ) (x : A) → P k x → ((j : ℕ) → nat_eq j k ≡ false → P j (f j)) → (j : ℕ) → P j (put_one f k x j)
put_cases {A} P f k x here there j = go (nat_eq j k) refl
  where
    go : (b : Bool) → nat_eq j k ≡ b → P j (if b then x else f j)
    go true q = subst (λ (y : ℕ). P y x) (sym (eqb-true j k q)) here
    go false q = there j q

same_cond : {A : Type 0} (b : Bool) (x y x' y' : A) → x ≡ x' → y ≡ y' → (if b then x else y) ≡ (if b then x' else y')
same_cond true x y x' y' p q = p
same_cond false x y x' y' p q = q

at_place_then : (f g after : Link → Link) (place : ℕ) (links : List Link) → ((link : Link) → g (f link) ≡ after link) → at_place g place (at_place f place links) ≡ at_place after place links
at_place_then f g after place [] e = refl
at_place_then f g after zero (link ∷ links) e = ap (λ x. x ∷ links) (e link)
at_place_then f g after (suc place) (link ∷ links) e = ap (λ xs. link ∷ xs) (at_place_then f g after place links e)

-- ---- an end that is opened, and its tick

abbrev pub may_be_opened : ℕ → EndState → Bool
may_be_opened number e = is_closed e && (nat_lt e.last_life number && nat_le number (2 ^ 62))

abbrev tick_end : ℕ → Link → Link
tick_end now link = with_state link (after_tick link.end.settings link.end.state now)

ticked_is : (number now : ℕ) (link : Link) → tick_end now (opened number now link) ≡ ticked number now link
ticked_is number now link = go (may_open number link)
  where
    go : (b : Bool) → tick_end now (if b then with_state link (after_open link.end.state number now) else link)
        ≡ with_state link (after_tick link.end.settings (if b then with_state link (after_open link.end.state number now) else link).end.state now)
    go true = refl
    go false = refl

-- the number of an item has no effect
pub numbered : (answers : Answers) (ks : List ℕ) (seat : SeatState) (place number now : ℕ) (what : What) → serving_of answers ks seat (record { seat = place; number = number; now = now; what = what }) ≡ serving_of answers ks seat (item_at place now what)
unfolding serving_of
numbered answers ks seat place number now what = refl

front_of : {A : Type 0} (x : A) (xs ys : List A) → ys ≡ x ∷ xs → IsFront x ys
front_of x xs ys e = subst (IsFront x) (sym e) refl

module _ (t : Topology) (times : Times) (n : ℕ) (once : has_repeat (neighbours_of t n) ≡ false) (here : is_node t n ≡ true) where
  abbrev ks : List ℕ
  ks = neighbours_of t n

  ends_put : (ends : ℕ → EndState) (e : EndState) (f : Link → Link) (k place : ℕ) (links : List Link) → slice_get ks place ≡ Some k → ((link : Link) → link.end ≡ end_in t times n ends k → (f link).end ≡ link_end_of (s t times n k) e)
      → AreEnds (end_in t times n ends) ks links → AreEnds (end_in t times n (put_one ends k e)) ks (at_place f place links)
  ends_put ends e f k place links at g h =
      changed_at (end_in t times n ends) (end_in t times n (put_one ends k e)) f k place ks links once at
      (λ link q. g link q ∙ ap (link_end_of (s t times n k)) (sym (put_here ends k e))) (λ j o. ap (link_end_of (s t times n j)) (put_there ends k e j o)) h

  module _ (r : RouterState) (h : History) (w : Network) where
    -- a part that changes only its end
    pub quiet : IsNode t times n r h [] [] (node_of w n) → (k place : ℕ) → slice_get ks place ≡ Some k → (part : LinkPart) (e : EndState) (f : Link → Link) → MayBe (net t times w) (OfLink n k part)
        → after_part (net t times w) (OfLink n k part) ≡ net t times (record w { ends = put_at w.ends n k e })
        → ((link : Link) → link.end ≡ end_in t times n (w.ends n) k → (f link).end ≡ link_end_of (s t times n k) e)
        → Reached t times n (record r { links = at_place f place r.links }) h [] [] w
    quiet i k place at part e f may shows g =
        by_part t times n (record r { links = at_place f place r.links }) h [] [] w (record w { ends = put_at w.ends n k e }) (OfLink n k part)
        (λ m b. record (node_of w m) { ends = λ j. if b && nat_eq j k then e else w.ends m j })
        may shows (λ m. refl) (λ m. refl)
        (record { core = i.core; ends = ends_put (w.ends n) e f k place r.links at g i.ends; items_are = i.items_are; cargoes = i.cargoes; numbers = i.numbers; frames = i.frames })

    opens : IsNode t times n r h [] [] (node_of w n) → (k place now : ℕ) → slice_get ks place ≡ Some k → is_closed (w.ends n k) ≡ true → (w.ends n k).last_life < r.next_life → r.next_life ≤ 2 ^ 62 → (f : Link → Link)
        → ((link : Link) → link.end ≡ end_in t times n (w.ends n) k → (f link).end ≡ link_end_of (s t times n k) (after_open (w.ends n k) r.next_life now))
        → Reached t times n (record r { links = at_place f place r.links; next_life = suc r.next_life }) h [] [] w
    opens i k place now at closed above most f g =
        let e : EndState = after_open (w.ends n k) r.next_life now in
        by_part t times n (record r { links = at_place f place r.links; next_life = suc r.next_life }) h [] [] w (record w { ends = put_at w.ends n k e; numbers = put_at w.numbers n k r.next_life }) (OfLink n k (Opens r.next_life now))
        (λ m b. record (node_of w m) { ends = λ j. if b && nat_eq j k then e else w.ends m j; numbers = λ j. if b && nat_eq j k then r.next_life else w.numbers m j })
        (number_at k place ks at, (closed, above), (i.numbers k, most)) refl (λ m. refl) (λ m. refl)
        (record {
          core = i.core;
          ends = ends_put (w.ends n) e f k place r.links at g i.ends;
          items_are = i.items_are;
          cargoes = i.cargoes;
          numbers = put_cases (λ j x. x < suc r.next_life) (w.numbers n) k r.next_life (omega arith) (λ j o. let lt = i.numbers j in omega (arith, lt));
          frames = i.frames;
        })

    pub sends : IsNode t times n r h [] [] (node_of w n) → (k place now : ℕ) (frame : FrameParts) → slice_get ks place ≡ Some k → frame_due (s t times n k) (w.ends n k) now ≡ Some frame
        → Reached t times n (record r { links = at_place (sent now) place r.links }) (record h { frames = put_one h.frames k (h.frames k ++ frame ∷ []) }) [] [] w
    sends i k place now frame at due =
        let e : EndState = after_transmit (s t times n k) (w.ends n k) now in
        by_part t times n (record r { links = at_place (sent now) place r.links }) (record h { frames = put_one h.frames k (h.frames k ++ frame ∷ []) }) [] [] w
        (record w { ends = put_at w.ends n k e; frames = put_at w.frames n k (w.frames n k ++ frame ∷ []) }) (OfLink n k (Sends now frame Goes))
        (λ m b. record (node_of w m) { ends = λ j. if b && nat_eq j k then e else w.ends m j; frames = λ j. if b && nat_eq j k then w.frames n k ++ frame ∷ [] else w.frames m j })
        (number_at k place ks at, due, tt) refl (λ m. refl) (λ m. refl)
        (record {
          core = i.core;
          ends = ends_put (w.ends n) e (sent now) k place r.links at (λ link q. ap (λ (x : LinkEndView). link_end_of x.settings (after_transmit x.settings x.state now)) q) i.ends;
          items_are = i.items_are;
          cargoes = i.cargoes;
          numbers = i.numbers;
          frames = λ j. same_cond (nat_eq j k) (w.frames n k ++ frame ∷ []) (w.frames n j) (h.frames k ++ frame ∷ []) (h.frames j) (ap (λ (fs : List FrameParts). fs ++ frame ∷ []) (i.frames k)) (i.frames j);
        })

    tells : IsNode t times n r h [] [] (node_of w n) → (k place now : ℕ) (event : LinkEvent) → slice_get ks place ≡ Some k → first_event (w.ends n k) ≡ Some event
        → Reached t times n (record r { links = at_place (polled event) place r.links }) h (record { seat = place_of k ks; number = suc (w.counts n (place_of k ks)); now = now; what = what_of event } ∷ []) [] w
    tells i k place now event at first =
        let e : EndState = after_poll_event (w.ends n k) in
        let item : Item = record { seat = place_of k ks; number = suc (w.counts n (place_of k ks)); now = now; what = what_of event } in
        by_part t times n (record r { links = at_place (polled event) place r.links }) h (item ∷ []) [] w
        (record w { ends = put_at w.ends n k e; items = put_one w.items n (w.items n ++ item ∷ []); counts = put_at w.counts n (place_of k ks) (suc (w.counts n (place_of k ks))) }) (OfLink n k (Tells now event))
        (λ m b. record (node_of w m) {
          ends = λ j. if b && nat_eq j k then e else w.ends m j;
          items = if b then w.items n ++ item ∷ [] else w.items m;
          counts = λ j. if b && nat_eq j (place_of k ks) then suc (w.counts n (place_of k ks)) else w.counts m j;
        })
        (number_at k place ks at, first, tt) refl (λ m. refl) (λ m. refl)
        (record {
          core = i.core;
          ends = ends_put (w.ends n) e (polled event) k place r.links at (λ link q. ap (λ (x : LinkEndView). link_end_of x.settings (after_poll_event x.state)) q) i.ends;
          items_are = ap (λ (xs : List Item). xs ++ item ∷ []) i.items_are;
          cargoes = i.cargoes;
          numbers = i.numbers;
          frames = i.frames;
        })

    pub asks : IsNode t times n r h [] [] (node_of w n) → (now : ℕ) (what : What) → TellsNoLife what
        → Reached t times n r h (record { seat = length ks; number = suc (w.counts n (length ks)); now = now; what = what } ∷ []) [] w
    asks i now what silent =
        let item : Item = record { seat = length ks; number = suc (w.counts n (length ks)); now = now; what = what } in
        by_part t times n r h (item ∷ []) [] w
        (record w { items = put_one w.items n (w.items n ++ item ∷ []); counts = put_at w.counts n (length ks) (suc (w.counts n (length ks))) }) (Asks n now what)
        (λ m b. record (node_of w m) {
          items = if b then w.items n ++ item ∷ [] else w.items m;
          counts = λ j. if b && nat_eq j (length ks) then suc (w.counts n (length ks)) else w.counts m j;
        })
        (here, silent) refl (λ m. refl) (λ m. refl)
        (record { core = i.core; ends = i.ends; items_are = ap (λ (xs : List Item). xs ++ item ∷ []) i.items_are; cargoes = i.cargoes; numbers = i.numbers; frames = i.frames })

    takes_one : (o : Offer) (offers : List Offer) → o.put ≡ true → has_number o.to ks ≡ true → IsNode t times n r h [] (o ∷ offers) (node_of w n)
        → Reached t times n (record r { links = at_place (given o.cargo) (place_of o.to ks) r.links }) h [] offers w
    takes_one o offers p inside i =
        let k = o.to in
        let e : EndState = after_cargo (w.ends n k) o.cargo in
        let all : w.cargoes n k ≡ o.cargo ∷ put_to k offers = i.cargoes k ∙ ap₂ (λ a b. (if a && b then o.cargo ∷ [] else []) ++ put_to k offers) (eq-eqb k k refl) p in
        by_part t times n (record r { links = at_place (given o.cargo) (place_of k ks) r.links }) h [] offers w
        (record w { ends = put_at w.ends n k e; cargoes = put_at w.cargoes n k (drop 1 (w.cargoes n k)) }) (OfLink n k (Takes o.cargo))
        (λ m b. record (node_of w m) { ends = λ j. if b && nat_eq j k then e else w.ends m j; cargoes = λ j. if b && nat_eq j k then drop 1 (w.cargoes n k) else w.cargoes m j })
        (inside, tt, front_of o.cargo (put_to k offers) (w.cargoes n k) all) refl (λ m. refl) (λ m. refl)
        (record {
          core = i.core;
          ends = ends_put (w.ends n) e (given o.cargo) k (place_of k ks) r.links (at_place_of k ks inside) (λ link q. ap (λ (x : LinkEndView). link_end_of x.settings (after_cargo x.state o.cargo)) q) i.ends;
          items_are = i.items_are;
          cargoes = put_cases (λ j cs. cs ≡ put_to j offers) (w.cargoes n) k (drop 1 (w.cargoes n k)) (ap (drop 1) all)
              (λ j other. i.cargoes j ∙ ap (λ a. (if a && o.put then o.cargo ∷ [] else []) ++ put_to j offers) (turned j k other));
          numbers = i.numbers;
          frames = i.frames;
        })

    serves : (place number now : ℕ) (what : What) → IsNode t times n r h (record { seat = place; number = number; now = now; what = what } ∷ []) [] (node_of w n)
        → Reached t times n (record r { seat = (serving r (item_at place now what)).seat }) (with_serving h (serving r (item_at place now what))) [] (serving r (item_at place now what)).offers w
    serves place number now what i =
        by_part t times n (record r { seat = v.seat }) (with_serving h v) [] v.offers w (after_serving w n v') (Serves n item v.offers)
        (λ m b. record (node_of w m) {
          seat = if b then v'.seat else w.seats m;
          items = if b then drop 1 (w.items n) else w.items m;
          cargoes = if b then (λ k. w.cargoes n k ++ put_to k v'.offers) else w.cargoes m;
          put = if b then (λ k. w.put n k ++ put_to k v'.offers) else w.put m;
          inputs = if b then w.inputs n ++ v'.inputs else w.inputs m;
          steps = if b then (λ k. w.steps n k ++ stepped_from k v'.steps) else w.steps m;
        })
        (here, front_of item [] (w.items n) i.items_are, ap (λ (x : Serving). x.offers) same) refl (λ m. refl) (λ m. refl)
        (record {
          core = record {
            seat_is = ap (λ (x : Serving). x.seat) same;
            neighbours = neighbours_stay r.seat.core.neighbours r.seat (item_at place now what) ∙ i.core.neighbours;
            put_is = λ k. ap₂ (λ (cs : List Cargo) (x : Serving). cs ++ put_to k x.offers) (i.core.put_is k) same;
            inputs_is = ap₂ (λ is (x : Serving). is ++ x.inputs) i.core.inputs_is same;
            steps_is = λ k. ap₂ (λ ps (x : Serving). ps ++ stepped_from k x.steps) (i.core.steps_is k) same;
          };
          ends = i.ends;
          items_are = ap (drop 1) i.items_are;
          cargoes = λ k. ap₂ (λ (cs : List Cargo) (x : Serving). cs ++ put_to k x.offers) (i.cargoes k) same;
          numbers = i.numbers;
          frames = i.frames;
        })
      where
        item : Item
        item = record { seat = place; number = number; now = now; what = what }

        v : Serving
        v = serving r (item_at place now what)

        v' : Serving
        v' = serving_of (answers_told v.offers) ks (w.seats n) item

        same : v' ≡ v
        same =
            ap₂ (λ (js : List ℕ) (x : SeatState). serving_of (answers_told v.offers) js x item) (sym i.core.neighbours) i.core.seat_is
            ∙ numbered (answers_told v.offers) r.seat.core.neighbours r.seat place number now what
            ∙ served_told r.seat.core.neighbours r.seat (item_at place now what)

  takes : (offers : List Offer) (r : RouterState) (h : History) (w : Network) → ArePut ks offers → IsNode t times n r h [] offers (node_of w n) → Reached t times n (record r { links = after_offers ks offers r.links }) h [] [] w
  takes [] r h w p i = stays t times n r h [] [] w i
  takes (o ∷ offers) r h w p i =
      let r' : RouterState = record r { links = at_place (given o.cargo) (place_of o.to ks) r.links } in
      goes_on t times n r' (record r { links = after_offers ks (o ∷ offers) r.links }) h h [] [] offers [] w (takes_one r h w o offers p.0 p.1 i) (λ x j. takes offers r' h x p.2 j)

  -- an item is served, and its outbound messages are taken at once
  pub item_served : (r : RouterState) (h : History) (w : Network) (place number now : ℕ) (what : What) → IsNode t times n r h (record { seat = place; number = number; now = now; what = what } ∷ []) [] (node_of w n)
      → Reached t times n (after_item r (item_at place now what)) (with_serving h (serving r (item_at place now what))) [] [] w
  unfolding after_item
  item_served r h w place number now what i =
      let v : Serving = serving r (item_at place now what) in
      let r' : RouterState = record r { seat = v.seat } in
      subst (λ (js : List ℕ). Reached t times n (record r { seat = v.seat; links = after_offers js v.offers r.links }) (with_serving h v) [] [] w) (sym i.core.neighbours)
      (goes_on t times n r' (record r { seat = v.seat; links = after_offers ks v.offers r.links }) (with_serving h v) (with_serving h v) [] [] v.offers [] w (serves r h w place number now what i)
      (λ x j. takes v.offers r' (with_serving h v) x (subst (λ (js : List ℕ). ArePut js v.offers) i.core.neighbours (served_put r.seat.core.neighbours r.seat (item_at place now what))) j))

  -- an event of the link at a place is served
  pub event_served : (r : RouterState) (h : History) (w : Network) (k place now : ℕ) (event : LinkEvent) → slice_get ks place ≡ Some k → first_event (w.ends n k) ≡ Some event → IsNode t times n r h [] [] (node_of w n)
      → Reached t times n (after_item (record r { links = at_place (polled event) place r.links }) (item_at place now (what_of event)))
      (with_serving h (serving (record r { links = at_place (polled event) place r.links }) (item_at place now (what_of event)))) [] [] w
  event_served r h w k place now event at first i =
      let r' : RouterState = record r { links = at_place (polled event) place r.links } in
      let number : ℕ = suc (w.counts n (place_of k ks)) in
      subst (λ (a : ℕ). Reached t times n (after_item r' (item_at a now (what_of event))) (with_serving h (serving r' (item_at a now (what_of event)))) [] [] w) (place_at k place ks once at)
      (goes_on t times n r' (after_item r' (item_at (place_of k ks) now (what_of event))) h (with_serving h (serving r' (item_at (place_of k ks) now (what_of event)))) (record { seat = place_of k ks; number = number; now = now; what = what_of event } ∷ []) [] [] [] w
      (tells r h w i k place now event at first)
      (λ x j. item_served r' h x (place_of k ks) number now (what_of event) j))

  -- a tick is passed to the link at a place
  pub tick_handed : (r : RouterState) (h : History) (w : Network) (k place now : ℕ) → slice_get ks place ≡ Some k → IsNode t times n r h [] [] (node_of w n)
      → Reached t times n (record r { links = at_place (ticked r.next_life now) place r.links; next_life = next_number (may_be_opened r.next_life (w.ends n k)) r.next_life }) h [] [] w
  tick_handed r h w k place now at i = go (may_be_opened r.next_life (w.ends n k)) refl
    where
      number : ℕ
      number = r.next_life

      may_is : (link : Link) → link.end ≡ end_in t times n (w.ends n) k → may_open number link ≡ may_be_opened number (w.ends n k)
      may_is link q = ap (λ (x : LinkEndView). may_be_opened number x.state) q

      go : (b : Bool) → may_be_opened number (w.ends n k) ≡ b → Reached t times n (record r { links = at_place (ticked number now) place r.links; next_life = next_number b number }) h [] [] w
      go false q =
          quiet r h w i k place at (Ticks now) (after_tick (s t times n k) (w.ends n k) now) (ticked number now) (number_at k place ks at, tt, tt) refl
          (λ link e. ap (λ b. link_end_of link.end.settings (after_tick link.end.settings (if b then with_state link (after_open link.end.state number now) else link).end.state now)) (may_is link e ∙ q)
          ∙ ap (λ (x : LinkEndView). link_end_of x.settings (after_tick x.settings x.state now)) e)
      go true q =
          let a = and_parts (is_closed (w.ends n k)) (nat_lt (w.ends n k).last_life number && nat_le number (2 ^ 62)) q in
          let b = and_parts (nat_lt (w.ends n k).last_life number) (nat_le number (2 ^ 62)) a.1 in
          let b0 = b.0 in
          let b1 = b.1 in
          let above : (w.ends n k).last_life < number = grind (arith, nat_tests, b0) in
          let most : number ≤ 2 ^ 62 = leb-true number (2 ^ 62) b1 in
          let r' : RouterState = record r { links = at_place (opened number now) place r.links; next_life = suc number } in
          subst (λ (links : List Link). Reached t times n (record r { links = links; next_life = suc number }) h [] [] w) (at_place_then (opened number now) (tick_end now) (ticked number now) place r.links (ticked_is number now))
          (goes_on t times n r' (record r { links = at_place (tick_end now) place (at_place (opened number now) place r.links); next_life = suc number }) h h [] [] [] [] w
          (opens r h w i k place now at a.0 above most (opened number now)
          (λ link e. ap (λ b. (if b then with_state link (after_open link.end.state number now) else link).end) (may_is link e ∙ q) ∙ ap (λ (x : LinkEndView). link_end_of x.settings (after_open x.state number now)) e))
          (λ x j. quiet r' h x j k place at (Ticks now) (after_tick (s t times n k) (x.ends n k) now) (tick_end now) (number_at k place ks at, tt, tt) refl (λ link e. ap (λ (y : LinkEndView). link_end_of y.settings (after_tick y.settings y.state now)) e)))
