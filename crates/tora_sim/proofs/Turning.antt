-- A node's core serves the first item of its queue.
use Rattle.std.proofs.Common.{◌≡◌, ℕ, zero, suc, ◌<◌, ◌≤◌, ◌+◌, ◌⊎◌, ◌||◌, inl, inr, Bool, true, false, true≢false, not, nat_eq, eqb-true, eq-eqb, List, [], ◌∷◌, ◌++◌, map, length, set, slice_get, Option, Some, None, refl, sym, ap, ◌∙◌, subst, arith, is_some, if◌then◌else◌, Result, Ok, Err, MatchResult}
use Rattle.std.proofs.lemmas.List.{drop-append-le}
use Rattle.std.proofs.lemmas.Bool.{cases_Bool}
use Rattle.tora_core.specs.Numbers.{has_number}
use Rattle.std.specs.Prelude.{slice_index_or}
use Rattle.tora_frame.specs.FrameParts.{FrameParts}
use Rattle.tora_arq.specs.declared.times.Times.{Times}
use Rattle.tora_core.specs.declared.Input.{Input}
use Rattle.tora_seat.specs.declared.item.Item.{Item}
use Rattle.tora_seat.specs.declared.stepped.Stepped.{Stepped}
use Rattle.tora_seat.specs.Serving.{Step, Serving, put_one, put_to, stepped_from, serving_of}
use Rattle.tora_seat.specs.Offers.{AreOffered}
use Rattle.tora_seat.specs.Rows.{serving_at, step_of, steps_of}
use Rattle.tora_seat.specs.Rows as Rows
use Rattle.tora_world.specs.declared.event.Event.TheVariants.{CoreTurn}
use Rattle.tora_world.specs.declared.sim_error.SimError.{SimError}
use Rattle.tora_world.specs.declared.sim_error.SimError.TheVariants as Refused
use Rattle.tora_world.specs.Topology.{Topology, neighbours_of}
use Rattle.tora_world.specs.World.{World, refusal_of, effect_by, world_after, own_choice, own_answers, unless_possible, is_empty, after_turn, after_serving}
use Rattle.tora_sim.specs.Keyed.{IsFirst}
use Rattle.tora_sim.specs.Links.{LinkView}
use Rattle.tora_sim.specs.Nodes.{NodeView, is_of}
use Rattle.tora_sim.specs.Lanes.{LanesView, lanes_of, DidOffer, AreAlike, bare, bare_between}
use Rattle.tora_sim.specs.Turns.{IsServed, IsTurned, Turns, IsNoted}
use Rattle.tora_sim.specs.Store.{state_of, world_of, IsStore, link_at, end_in, file_in, lane_in, put_in, steps_in, node_at, seat_in, items_in, inputs_in, counts_in, arms_in}
use Rattle.tora_sim.specs.Steps.{IsDone, IsRefused, Does}
use Rattle.tora_sim.proofs.Bared.{between_alike}
use Rattle.tora_sim.proofs.Stores.{each_at, IsSameNode, node_changes, node_changes_by, node_stays, store_set_node}
use Rattle.tora_sim.proofs.SameLinks.{same_alike, store_same, world_alike}
use Rattle.tora_sim.proofs.Opens.{effect_is, refused_for, links_same}
use Rattle.tora_sim.proofs.Needs.{nodes_same, at_there, same_nodes}
use Rattle.tora_sim.proofs.AtNode.{IsAt, is_at_place}
use Rattle.tora_sim.proofs.ItemSteps.{AreStepsAt, steps_at}
use Rattle.tora_sim.proofs.Offering.{given, Offered, all_offered, nothing_offered, noted, given_store, given_stays, given_grows}

no_items : (items : List Item) → length items ≡ 0 → is_empty items ≡ true
no_items [] e = refl
no_items (item ∷ items) e = absurd (omega (arith, e))

some_items : (items : List Item) → 0 < length items → is_empty items ≡ false
some_items [] lt = absurd (omega (arith, lt))
some_items (item ∷ items) lt = refl

-- the neighbour of the first packet
abbrev first_from : List Step → ℕ
first_from [] = 0
first_from (z ∷ zs) = z.from

has_at : (ks : List ℕ) (i k : ℕ) → slice_get ks i ≡ Some k → has_number k ks ≡ true
has_at [] i k e = absurd (let z : None ≡ Some k = e in cc)
has_at (j ∷ ks) zero k e = let is : j ≡ k = cc in ap (λ (b : Bool). b || has_number k ks) (eq-eqb j k is)
has_at (j ∷ ks) (suc i) k e = go (nat_eq j k) (has_at ks i k e)
  where
    go : (b : Bool) → has_number k ks ≡ true → (b || has_number k ks) ≡ true
    go true again = refl
    go false again = again

module _ (t : Topology) (times : Times) (clock : ℕ) (nodes : List NodeView) (links : List LinkView) (ds : List FrameParts) (h : IsStore (state_of t times clock nodes links ds))
    (n i : ℕ) (x : NodeView) (first : IsFirst (is_of n) nodes i) (read : x ≡ slice_index_or nodes i x) where
  abbrev w : World
  w = world_of (state_of t times clock nodes links ds)

  at : IsAt t nodes links n i x
  at = is_at_place t times clock nodes links ds h n i x first read

  abbrev ks : List ℕ
  ks = neighbours_of t n

  linked : (k place : ℕ) → slice_get ks place ≡ Some k → is_some (link_at links n k) ≡ true
  linked k place e = sym (h.links n k) ∙ has_at ks place k e

  pub ends_within : x.first + x.count ≤ length links
  ends_within = at.ends.within

  pub as_many : length x.seat.core.neighbours ≡ x.count
  as_many = ap length at.neighbours ∙ sym at.count

  possible : (b : Bool) → not (is_empty x.items) ≡ b → refusal_of w (CoreTurn n) ≡ unless_possible b
  possible b e = at_there t times clock nodes links ds h n i x first read (not (is_empty (items_in (node_at nodes n)))) b (ap (λ o. not (is_empty (items_in o))) at.there ∙ e)

  pub turn_refused : length x.items ≡ 0 → IsRefused w (CoreTurn n) Refused.NotPossible w
  turn_refused e = refused_for w (CoreTurn n) Refused.NotPossible (possible false (ap not (no_items x.items e)))

  pub turn_starved : 0 < length x.items → (links' : List LinkView) → AreAlike links links' → IsRefused w (CoreTurn n) Refused.Memory (world_of (state_of t times clock nodes links' ds))
  turn_starved lt links' e = record { cause = inl (refl, possible true (ap not (some_items x.items lt))); world = world_alike t times clock nodes links links' ds e }

  -- ---- the item was served

  module _ (y : NodeView) (links' : List LinkView) (d : IsTurned x links y links') where
    abbrev s : IsServed x (lanes_of links x.first x.count) d.item y d.lanes
    s = d.served

    offered : Offered t times clock nodes links ds h n x at.node at.ends at.count [] s.offers d.lanes
    offered = all_offered t times clock nodes links ds h n x at.node at.ends at.count [] s.offers d.lanes
        (subst (λ js. AreOffered DidOffer js (lanes_of (given t times clock nodes links ds h n x at.node at.ends at.count [] []) x.first x.count) s.offers d.lanes) at.neighbours
        (subst (λ v. AreOffered DidOffer x.seat.core.neighbours v s.offers d.lanes) (sym (nothing_offered t times clock nodes links ds h n x at.node at.ends at.count)) s.offered))

    serving : serving_of (own_answers w n) ks (Rows.state_of x.seat) d.item ≡ serving_at d.item.now y.seat s.offers
    serving = ap (λ js. serving_of (own_answers w n) js (Rows.state_of x.seat) d.item) (sym at.neighbours) ∙ s.serving (own_answers w n) offered.follows

    abbrev steps : List Step
    steps = steps_of y.seat.stepped

    abbrev after : List LinkView
    after = given t times clock nodes links ds h n x at.node at.ends at.count s.offers (steps_of y.seat.stepped)

    links_is : links' ≡ after
    links_is = go y.seat.stepped (subst (AreStepsAt ks d.item.seat) (ap (λ (v : Serving). v.steps) serving) (steps_at (own_answers w n) ks (Rows.state_of x.seat) d.item)) d.noted
      where
        go : (o : Option Stepped) → AreStepsAt ks d.item.seat (steps_of o) → IsNoted d.lanes d.item.seat o links' → links' ≡ given t times clock nodes links ds h n x at.node at.ends at.count s.offers (steps_of o)
        go None a e = e ∙ ap (λ (v : LanesView). v.links) offered.lanes
        go (Some p) (inl none) e = absurd (let z : step_of p ∷ [] ≡ [] = none in cc)
        go (Some p) (inr (k, from, parcel, is)) (link, read_it, e) =
            let same : k ≡ p.from = sym (ap first_from is) in
            let there_it : slice_get (given t times clock nodes links ds h n x at.node at.ends at.count s.offers []) (x.first + d.item.seat) ≡ Some link =
            subst (λ (v : LanesView). slice_get v.links (v.first + d.item.seat) ≡ Some link) offered.lanes read_it in
            e ∙ ap (λ (v : LanesView). set v.links (v.first + d.item.seat) (record link { steps = link.steps ++ record { life = p.life; packet = p.packet } ∷ [] })) offered.lanes
            ∙ noted t times clock nodes links ds h n x at.node at.ends at.count s.offers d.item.seat p (from ∙ ap Some same) link there_it

    same : IsSameNode x y
    same = record {
      node = ap (λ (z : NodeView). z.node) s.node;
      first = ap (λ (z : NodeView). z.first) s.node;
      count = ap (λ (z : NodeView). z.count) s.node;
      me = s.me;
      erasure = s.erasure;
      neighbours = s.neighbours;
      destinations = s.destinations;
      seats = ap (λ (z : NodeView). length z.counts) s.node;
    }

    turned_world : world_of (state_of t times clock (set nodes i y) after ds) ≡ after_serving w n y.items (serving_at d.item.now y.seat s.offers)
    turned_world =
        let ends_stay = given_stays t times clock nodes links ds h n x at.node at.ends at.count s.offers steps end_in (λ link put ps. refl) in
        let files_stay = each_at file_in (link_at after) (link_at links) (λ a b. given_stays t times clock nodes links ds h n x at.node at.ends at.count s.offers steps (file_in a b) (λ link put ps. refl)) in
        let lanes_grow = given_grows t times clock nodes links ds h n x at.node at.ends at.count s.offers steps lane_in (λ k. put_to k s.offers) (λ link within. drop-append-le link.pulled link.put (put_to link.peer s.offers) within) refl offered.linked in
        let puts_grow = given_grows t times clock nodes links ds h n x at.node at.ends at.count s.offers steps put_in (λ k. put_to k s.offers) (λ link within. refl) refl offered.linked in
        let steps_grow = given_grows t times clock nodes links ds h n x at.node at.ends at.count s.offers steps steps_in (λ k. stepped_from k steps) (λ link within. refl) refl steps_linked in
        let seats = node_changes_by n nodes i x y first at.place same (seat_in t) in
        let inputs = node_changes n nodes i x y first at.place same inputs_in
        ∙ ap (λ (is : List (Input × ℕ)). put_one (λ a. inputs_in (node_at nodes a)) n is) (ap (λ (z : NodeView). z.inputs) s.node)
        ∙ ap (λ o. put_one (λ a. inputs_in (node_at nodes a)) n (inputs_in o ++ map (λ input. (input, d.item.now)) y.seat.inputs)) (sym at.there) in
        let items = node_changes n nodes i x y first at.place same items_in in
        let counts = node_stays n nodes i x y first at.place same counts_in (ap (λ (z : NodeView). counts_in (Some z)) s.node) in
        let arms = node_stays n nodes i x y first at.place same arms_in (ap (λ (z : NodeView). arms_in (Some z)) s.node) in
        let u = world_of (state_of t times clock (set nodes i y) links ds) in
        links_same u ends_stay files_stay lanes_grow puts_grow steps_grow
        ∙ nodes_same (record w {
          cargoes = put_one w.cargoes n (λ k. w.cargoes n k ++ put_to k s.offers);
          put = put_one w.put n (λ k. w.put n k ++ put_to k s.offers);
          steps = put_one w.steps n (λ k. w.steps n k ++ stepped_from k steps);
        }) seats inputs items counts arms
      where
        steps_linked : (k : ℕ) → is_some (link_at links n k) ≡ false → stepped_from k (steps_of y.seat.stepped) ≡ []
        steps_linked k none = go y.seat.stepped (subst (AreStepsAt ks d.item.seat) (ap (λ (v : Serving). v.steps) serving) (steps_at (own_answers w n) ks (Rows.state_of x.seat) d.item))
          where
            go : (o : Option Stepped) → AreStepsAt ks d.item.seat (steps_of o) → stepped_from k (steps_of o) ≡ []
            go None a = refl
            go (Some p) (inl e) = absurd (let z : step_of p ∷ [] ≡ [] = e in cc)
            go (Some p) (inr (j, from, parcel, is)) =
                let same_from : p.from ≡ j = ap first_from is in
                off p (cases_Bool (nat_eq p.from k)) (ap (λ m. is_some (link_at links n m)) same_from ∙ linked j d.item.seat from)
              where
                off : (p : Stepped) → (nat_eq p.from k ≡ true) ⊎ (nat_eq p.from k ≡ false) → is_some (link_at links n p.from) ≡ true → stepped_from k (steps_of (Some p)) ≡ []
                off p (inl e) present = absurd (true≢false (sym present ∙ ap (λ m. is_some (link_at links n m)) (eqb-true p.from k e) ∙ none))
                off p (inr e) present = ap (λ (b : Bool). (if b then record { life = p.life; packet = p.packet } ∷ [] else []) ++ []) e

    items_are : items_in (node_at nodes n) ≡ d.item ∷ y.items
    items_are = ap items_in at.there ∙ s.items

    accepted : refusal_of w (CoreTurn n) ≡ None
    accepted = possible true (ap (λ (items : List Item). not (is_empty items)) s.items)

    effect : world_after w (CoreTurn n) ≡ after_serving w n y.items (serving_at d.item.now y.seat s.offers)
    unfolding effect_by
    effect =
        effect_is w (CoreTurn n) accepted
        ∙ ap (after_turn w (own_choice w (CoreTurn n)) n) items_are
        ∙ ap (λ o. after_serving w n y.items (serving_of (own_answers w n) ks (seat_in t n o) d.item)) at.there
        ∙ ap (after_serving w n y.items) serving

    pub turned_done : IsDone w (CoreTurn n) (world_of (state_of t times clock (set nodes i y) links' ds))
    turned_done = record { accepted = accepted; world = ap (λ xs. world_of (state_of t times clock (set nodes i y) xs ds)) links_is ∙ turned_world ∙ sym effect }

    pub turned_store : IsStore (state_of t times clock (set nodes i y) links' ds)
    turned_store =
        subst (λ xs. IsStore (state_of t times clock (set nodes i y) xs ds)) (sym links_is)
        (store_set_node n nodes i x y first at.place same t times clock after ds (given_store t times clock nodes links ds h n x at.node at.ends at.count s.offers steps))

-- ---- a turn for which memory was allocated before

module _ (t : Topology) (times : Times) (clock : ℕ) (nodes : List NodeView) (links : List LinkView) (ds : List FrameParts) (h : IsStore (state_of t times clock nodes links ds))
    (n i : ℕ) (x : NodeView) (first : IsFirst (is_of n) nodes i) (read : x ≡ slice_index_or nodes i x) (roomy : List LinkView) (alike : AreAlike links roomy) where
  abbrev roomy_store : IsStore (state_of t times clock nodes roomy ds)
  roomy_store = store_same t times clock nodes links roomy ds (same_alike links roomy alike) h

  pub turn_does : (y : NodeView) (links' : List LinkView) (r : Result (Unit {0}) SimError) → 0 < length x.items → Turns x roomy r y links' →
      Does (state_of t times clock nodes links ds) (CoreTurn n) r (state_of t times clock (set nodes i y) links' ds)
  turn_does y links' (Ok u) lt d =
      subst (λ (v : World). IsDone v (CoreTurn n) (world_of (state_of t times clock (set nodes i y) links' ds))) (world_alike t times clock nodes links roomy ds alike)
      (turned_done t times clock nodes roomy ds roomy_store n i x first read y links' d)
  turn_does y links' (Err e) lt d =
      subst (λ (m : SimError). IsRefused (world_of (state_of t times clock nodes links ds)) (CoreTurn n) m (world_of (state_of t times clock (set nodes i y) links' ds))) (sym d.0)
      (subst (λ (zs : List NodeView). IsRefused (world_of (state_of t times clock nodes links ds)) (CoreTurn n) Refused.Memory (world_of (state_of t times clock zs links' ds))) (sym (same_nodes t times clock nodes links ds h n i x first read y d.1))
      (turn_starved t times clock nodes links ds h n i x first read lt links' (ap (λ xs. map bare xs) d.2 ∙ alike)))

  pub turn_store : (y : NodeView) (links' : List LinkView) (r : Result (Unit {0}) SimError) → Turns x roomy r y links' → IsStore (state_of t times clock (set nodes i y) links' ds)
  turn_store y links' (Ok u) d = turned_store t times clock nodes roomy ds roomy_store n i x first read y links' d
  turn_store y links' (Err e) d =
      subst (λ (zs : List NodeView). IsStore (state_of t times clock zs links' ds)) (sym (same_nodes t times clock nodes links ds h n i x first read y d.1))
      (subst (λ (xs : List LinkView). IsStore (state_of t times clock nodes xs ds)) (sym d.2) roomy_store)

-- ---- a turn that is stated for the node's ends without their memory

module _ (t : Topology) (times : Times) (clock : ℕ) (nodes : List NodeView) (links : List LinkView) (ds : List FrameParts) (h : IsStore (state_of t times clock nodes links ds))
    (n i : ℕ) (x : NodeView) (first : IsFirst (is_of n) nodes i) (read : x ≡ slice_index_or nodes i x) (roomy : List LinkView) (alike : AreAlike links roomy) where
  abbrev bared : List LinkView → List LinkView
  bared xs = bare_between x.first x.count xs

  both : AreAlike links (bared roomy)
  both = between_alike x.first x.count roomy ∙ alike

  pub between_does : (y : NodeView) (links' : List LinkView) (r : Result (Unit {0}) SimError) → 0 < length x.items → Turns x (bared roomy) r y (bared links') →
      Does (state_of t times clock nodes links ds) (CoreTurn n) r (state_of t times clock (set nodes i y) links' ds)
  between_does y links' r lt d =
      let before = world_of (state_of t times clock nodes links ds) in
      subst (λ (w : World). MatchResult r (λ _. IsDone before (CoreTurn n) w) (λ error. IsRefused before (CoreTurn n) error w))
      (sym (world_alike t times clock (set nodes i y) (bared links') links' ds (sym (between_alike x.first x.count links'))))
      (turn_does t times clock nodes links ds h n i x first read (bared roomy) both y (bared links') r lt d)

  pub between_store : (y : NodeView) (links' : List LinkView) (r : Result (Unit {0}) SimError) → Turns x (bared roomy) r y (bared links') → IsStore (state_of t times clock (set nodes i y) links' ds)
  between_store y links' r d =
      store_same t times clock (set nodes i y) (bared links') links' ds (same_alike (bared links') links' (sym (between_alike x.first x.count links')))
      (turn_store t times clock nodes links ds h n i x first read (bared roomy) both y (bared links') r d)
