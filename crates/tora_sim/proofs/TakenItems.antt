-- The turns of a node's core, one after another.
use Rattle.std.proofs.Common.{◌≡◌, ℕ, suc, ◌+◌, ◌<◌, ◌==◌, inl, inr, Bool, true, false, not, List, [], ◌∷◌, ◌++◌, length, set, is_some, Option, Some, None, Result, Ok, Err, MatchResult, refl, sym, ap, ◌∙◌, subst, arith, if◌then◌else◌}
use Rattle.std.specs.Prelude.{slice_index_or, find}
use Rattle.std.specs.declared.alloc.AllocError.{AllocError}
use Rattle.std.proofs.lemmas.List.{length-set, get_or-set_same, set-set}
use Rattle.tora_frame.specs.FrameParts.{FrameParts}
use Rattle.tora_arq.specs.declared.times.Times.{Times}
use Rattle.tora_seat.specs.declared.stepped.Stepped.{Stepped}
use Rattle.tora_seat.specs.Offers.{AreOffered, place_of}
use Rattle.tora_seat.specs.Serving.{Offer}
use Rattle.tora_world.specs.declared.event.Event.{Event}
use Rattle.tora_world.specs.declared.event.Event.TheVariants.{CoreTurn}
use Rattle.tora_world.specs.declared.sim_error.SimError.{SimError}
use Rattle.tora_world.specs.declared.sim_error.SimError.TheVariants as Refused
use Rattle.tora_world.specs.Topology.{Topology, is_node}
use Rattle.tora_world.specs.World.{World, refusal_of, is_empty, unless_possible, world_after, world_after_all}
use Rattle.tora_sim.specs.Keyed.{IsFirst}
use Rattle.tora_sim.specs.Lanes.{LanesView, lanes_of, DidOffer, after_offer_at, AreAlike, AreOthersKept, bare_between}
use Rattle.tora_sim.specs.Links.{LinkView}
use Rattle.tora_sim.specs.Nodes.{NodeView, is_of}
use Rattle.tora_sim.specs.Steps.{IsDone, IsRefused, StopsWith, Happened, Repeats, repeats}
use Rattle.tora_sim.specs.Store.{SimState, IsStore, state_of, world_of}
use Rattle.tora_sim.specs.Quiet.{AreDeadlinesBut}
use Rattle.tora_sim.specs.Taking.{AreTaken, Takes}
use Rattle.tora_sim.specs.Turns.{IsNoted, Turns}
use Rattle.tora_sim.proofs.Bared.{between_alike}
use Rattle.tora_sim.proofs.Needs.{same_nodes}
use Rattle.tora_sim.proofs.Rooms.{same_length}
use Rattle.tora_sim.proofs.SameLinks.{same_alike, store_same}
use Rattle.tora_sim.proofs.SameNodes.{no_node}
use Rattle.tora_sim.proofs.Sendings.{Onward, begins, again, refused, starved_of, no_more, other_cause, still_first}
use Rattle.tora_sim.proofs.IdleEnds as Idle
use Rattle.tora_sim.proofs.Turning.{turn_refused, turn_starved, between_does, between_store}

-- a property of the index and the count of a node's ends holds for equal numbers
pub placed : (P : ℕ → ℕ → Type 0) (first count f n : ℕ) → first ≡ f → count ≡ n → P f n → P first count
placed P first count f n a b h = subst (λ (m : ℕ). P m count) (sym a) (subst (λ (m : ℕ). P f m) (sym b) h)

-- ---- the number of ends

offers_many : (ks : List ℕ) (offers : List Offer) (lanes after : LanesView) → AreOffered DidOffer ks lanes offers after → length after.links ≡ length lanes.links
offers_many ks [] lanes after e = ap (λ (v : LanesView). length v.links) e
offers_many ks (o ∷ offers) lanes after (between, did, rest) =
    offers_many ks offers between after rest
    ∙ ap (λ (v : LanesView). length v.links) did.lanes
    ∙ length-set lanes.links (lanes.first + place_of o.to ks) (after_offer_at did.link o.cargo o.put)

noted_many : (lanes : LanesView) (seat : ℕ) (stepped : Option Stepped) (links : List LinkView) → IsNoted lanes seat stepped links → length links ≡ length lanes.links
noted_many lanes seat None links e = ap length e
noted_many lanes seat (Some p) links (link, there, is) =
    ap length is ∙ length-set lanes.links (lanes.first + seat) (record link { steps = link.steps ++ record { life = p.life; packet = p.packet } ∷ [] })

turned_many : (x y : NodeView) (links after : List LinkView) (r : Result (Unit {0}) SimError) → Turns x links r y after → length after ≡ length links
turned_many x y links after (Ok u) d =
    noted_many d.lanes d.item.seat y.seat.stepped after d.noted
    ∙ offers_many x.seat.core.neighbours d.served.offers (lanes_of links x.first x.count) d.lanes d.served.offered
turned_many x y links after (Err e) d = ap length d.2

turned_node : (x y : NodeView) (links after : List LinkView) (r : Result (Unit {0}) SimError) → Turns x links r y after → (y.node ≡ x.node) × (length y.seat.core.neighbours ≡ length x.seat.core.neighbours)
turned_node x y links after (Ok u) d = (ap (λ (z : NodeView). z.node) d.served.node, ap length d.served.neighbours)
turned_node x y links after (Err e) d = (ap (λ (z : NodeView). z.node) d.1, ap (λ (z : NodeView). length z.seat.core.neighbours) d.1)

same_place : (x y after : NodeView) → y ≡ after → (after.first ≡ x.first) × (after.count ≡ x.count) → (y.first ≡ x.first) × (y.count ≡ x.count)
same_place x y after e same = (ap (λ (z : NodeView). z.first) e ∙ same.0, ap (λ (z : NodeView). z.count) e ∙ same.1)

turned_place : (x y : NodeView) (links after : List LinkView) (r : Result (Unit {0}) SimError) → Turns x links r y after → (y.first ≡ x.first) × (y.count ≡ x.count)
turned_place x y links after (Ok u) d = (ap (λ (z : NodeView). z.first) d.served.node, ap (λ (z : NodeView). z.count) d.served.node)
turned_place x y links after (Err e) d = same_place x y x d.1 (refl, refl)

-- ---- facts on the node and the ends so far

pub none_taken : (x : NodeView) (links : List LinkView) → length x.seat.core.neighbours ≡ x.count → AreTaken x links x links
none_taken x links many = record {
  node = refl;
  first = refl;
  count = refl;
  neighbours = many;
  many = refl;
  others = λ at away. refl;
  idle = λ clock deadlines h. Idle.all_but clock deadlines links x.first x.count h;
}

module _ (x0 x : NodeView) (links0 links links1 : List LinkView) (h : AreTaken x0 links0 x links) (alike : AreAlike links links1) (others : AreOthersKept links links1 x.first x.count) where
  others_on : AreOthersKept links0 links1 x0.first x0.count
  others_on at away =
      others at (λ place lt q. let f = h.first in let n = h.count in away place (omega (arith, lt, n)) (omega (arith, q, f)))
      ∙ h.others at away

  -- memory was allocated
  pub roomed : AreTaken x0 links0 x links1
  roomed = record {
    node = h.node;
    first = h.first;
    count = h.count;
    neighbours = h.neighbours;
    many = same_length links links1 alike ∙ h.many;
    others = others_on;
    idle = λ clock deadlines each. Idle.alike_but clock deadlines links links1 x0.first x0.count alike (h.idle clock deadlines each);
  }

  module _ (y : NodeView) (links2 : List LinkView) (r : Result (Unit {0}) SimError) (d : Turns x (bare_between x.first x.count links1) r y (bare_between x.first x.count links2)) where
    abbrev old : List LinkView
    old = bare_between x.first x.count links1

    abbrev new : List LinkView
    new = bare_between x.first x.count links2

    many_on : length links2 ≡ length links0
    many_on =
        sym (same_length links2 new (between_alike x.first x.count links2))
        ∙ turned_many x y old new r d
        ∙ same_length links1 old (between_alike x.first x.count links1)
        ∙ same_length links links1 alike
        ∙ h.many

    -- an item was served, or memory ran out for it
    pub taken_on : AreOthersKept links1 links2 x.first x.count → AreTaken x0 links0 y links2
    taken_on kept =
        let place = turned_place x y old new r d in
        let node = turned_node x y old new r d in
        record {
          node = node.0 ∙ h.node;
          first = place.0 ∙ h.first;
          count = place.1 ∙ h.count;
          neighbours = node.1 ∙ h.neighbours ∙ sym place.1;
          many = many_on;
          others = λ at away. kept at (λ place lt q. let f = h.first in let n = h.count in away place (omega (arith, lt, n)) (omega (arith, q, f))) ∙ others_on at away;
          idle = λ clock deadlines each.
              subst (λ (m : ℕ). AreDeadlinesBut clock deadlines links2 m x0.count) h.first
              (subst (λ (m : ℕ). AreDeadlinesBut clock deadlines links2 x.first m) h.count
              (Idle.turned_idle clock deadlines x y links1 links2 r d
              (subst (λ (m : ℕ). AreDeadlinesBut clock deadlines links1 m x.count) (sym h.first)
              (subst (λ (m : ℕ). AreDeadlinesBut clock deadlines links1 x0.first m) (sym h.count)
              (Idle.alike_but clock deadlines links links1 x0.first x0.count alike (h.idle clock deadlines each))))));
        }

-- ---- the events of a call of `turn_all`

-- the events that are left after some of them
pub record Goes (t : Topology) (times : Times) (clock : ℕ) (nodes : List NodeView) (links0 : List LinkView) (ds : List FrameParts) (n home most : ℕ) (x : NodeView) (links : List LinkView) (some : Bool) (left : ℕ) : Type 0 where
  pub store : IsStore (state_of t times clock (set nodes home x) links ds)
  pub events : Onward (world_of (state_of t times clock nodes links0 ds)) (repeats most (CoreTurn n) (world_of (state_of t times clock nodes links0 ds))) (world_of (state_of t times clock (set nodes home x) links ds)) some
      (repeats left (CoreTurn n) (world_of (state_of t times clock (set nodes home x) links ds)))

pub none_gone : (t : Topology) (times : Times) (clock : ℕ) (nodes : List NodeView) (links : List LinkView) (ds : List FrameParts) (n home most : ℕ) (x : NodeView) → IsStore (state_of t times clock nodes links ds) → IsFirst (is_of n) nodes home → x ≡ slice_index_or nodes home x
    → Goes t times clock nodes links ds n home most x links false most
none_gone t times clock nodes links ds n home most x h first read =
    let same : set nodes home x ≡ nodes = same_nodes t times clock nodes links ds h n home x first read x refl in
    record {
      store = subst (λ (zs : List NodeView). IsStore (state_of t times clock zs links ds)) (sym same) h;
      events =
          let w = world_of (state_of t times clock nodes links ds) in
          subst (λ (zs : List NodeView). Onward w (repeats most (CoreTurn n) w) (world_of (state_of t times clock zs links ds)) false (repeats most (CoreTurn n) (world_of (state_of t times clock zs links ds)))) (sym same)
          (begins w (repeats most (CoreTurn n) w));
    }

-- the turn is refused because memory ran out, so it may be possible
pub no_memory_turn : (w : World) (n : ℕ) (after : World) → IsRefused w (CoreTurn n) Refused.Memory after → refusal_of w (CoreTurn n) ≡ None
no_memory_turn w n after r = elim r.cause [ inl e ↦ e.1 | inr e ↦ absurd (go (is_node w.topology n) (is_empty (w.items n)) e) ]
  where
    go : (l b : Bool) → (if l then unless_possible (not b) else Some Refused.NoNode) ≡ Some Refused.Memory → ⊥
    go true false e = cc
    go true true e = let z : Some Refused.NotPossible ≡ Some Refused.Memory = e in cc
    go false b e = let z : Some Refused.NoNode ≡ Some Refused.Memory = e in cc

module _ (t : Topology) (times : Times) (clock : ℕ) (nodes : List NodeView) (links0 : List LinkView) (ds : List FrameParts) (n home most : ℕ) (x0 : NodeView) (first : IsFirst (is_of n) nodes home) (read : x0 ≡ slice_index_or nodes home x0)
    (x : NodeView) (named : x.node ≡ x0.node) (links : List LinkView) (some : Bool) where
  abbrev start : World
  start = world_of (state_of t times clock nodes links0 ds)

  abbrev events : List Event
  events = repeats most (CoreTurn n) start

  abbrev now_nodes : List NodeView
  now_nodes = set nodes home x

  abbrev w : World
  w = world_of (state_of t times clock now_nodes links ds)

  first_now : IsFirst (is_of n) now_nodes home
  first_now = still_first (is_of n) nodes home x (ap (λ (m : ℕ). m == n) named ∙ subst (λ (z : NodeView). is_of n z ≡ true) (sym read) (first.here x0)) first

  read_now : x ≡ slice_index_or now_nodes home x
  read_now = sym (get_or-set_same nodes home x x first.within)

  -- no item waits
  pub all_taken : (left : ℕ) → Goes t times clock nodes links0 ds n home most x links some (suc left) → length x.items ≡ 0 → Takes (state_of t times clock nodes links0 ds) (state_of t times clock now_nodes links ds) n most (Ok some)
  all_taken left g none = record {
    store = g.store;
    events = refused start events w some left (CoreTurn n) g.events
        (other_cause w (CoreTurn n) Refused.NotPossible w (λ e. let z : Refused.NotPossible ≡ Refused.Memory = e in cc) (turn_refused t times clock now_nodes links ds g.store n home x first_now read_now none));
  }

  -- the greatest number of turns was taken
  pub enough_taken : Goes t times clock nodes links0 ds n home most x links some 0 → Takes (state_of t times clock nodes links0 ds) (state_of t times clock now_nodes links ds) n most (Ok some)
  enough_taken g = record { store = g.store; events = no_more start events w some (CoreTurn n) g.events }

  module _ (left : ℕ) (g : Goes t times clock nodes links0 ds n home most x links some (suc left)) (waits : 0 < length x.items) (links1 : List LinkView) (alike : AreAlike links links1) where
    -- memory ran out for what the next item may put
    pub room_refused : Takes (state_of t times clock nodes links0 ds) (state_of t times clock now_nodes links1 ds) n most (Err Refused.Memory)
    room_refused =
        let r = turn_starved t times clock now_nodes links ds g.store n home x first_now read_now waits links1 alike in
        let next = world_of (state_of t times clock now_nodes links1 ds) in
        record {
          store = store_same t times clock now_nodes links links1 ds (same_alike links links1 alike) g.store;
          events = (refl, starved_of start events w next some left (CoreTurn n) g.events (no_memory_turn w n next r) r);
        }

    module _ (y : NodeView) (links2 : List LinkView) where
      abbrev next : World
      next = world_of (state_of t times clock (set nodes home y) links2 ds)

      once : set now_nodes home y ≡ set nodes home y
      once = set-set nodes home x y

      store_next : (r : Result (Unit {0}) SimError) → Turns x (bare_between x.first x.count links1) r y (bare_between x.first x.count links2) → IsStore (state_of t times clock (set nodes home y) links2 ds)
      store_next r d =
          subst (λ (zs : List NodeView). IsStore (state_of t times clock zs links2 ds)) once
          (between_store t times clock now_nodes links ds g.store n home x first_now read_now links1 alike y links2 r d)

      -- the next item is served
      pub one_taken : (u : Unit {0}) → Turns x (bare_between x.first x.count links1) (Ok u) y (bare_between x.first x.count links2) → Goes t times clock nodes links0 ds n home most y links2 true left
      one_taken u d = record {
        store = store_next (Ok u) d;
        events = again start events w next some left (CoreTurn n) g.events
            (subst (λ (zs : List NodeView). IsDone w (CoreTurn n) (world_of (state_of t times clock zs links2 ds))) once
            (between_does t times clock now_nodes links ds g.store n home x first_now read_now links1 alike y links2 (Ok u) waits d));
      }

      -- memory ran out for the next item
      pub one_refused : (e : SimError) → Turns x (bare_between x.first x.count links1) (Err e) y (bare_between x.first x.count links2)
          → Takes (state_of t times clock nodes links0 ds) (state_of t times clock (set nodes home y) links2 ds) n most (Err e)
      one_refused e d =
          let r : IsRefused w (CoreTurn n) Refused.Memory next =
          subst (λ (m : SimError). IsRefused w (CoreTurn n) m next) d.0
          (subst (λ (zs : List NodeView). IsRefused w (CoreTurn n) e (world_of (state_of t times clock zs links2 ds))) once
          (between_does t times clock now_nodes links ds g.store n home x first_now read_now links1 alike y links2 (Err e) waits d)) in
          record {
            store = store_next (Err e) d;
            events = (d.0, starved_of start events w next some left (CoreTurn n) g.events (no_memory_turn w n next r) r);
          }

-- ---- one item

-- a possible event, at most once
pub at_most_one : (before after : SimState) (event : Event) (r : Result Bool AllocError) → refusal_of (world_of before) event ≡ None → Repeats before 1 event r after → MatchResult r (λ _. IsDone (world_of before) event (world_of after)) (λ _. IsRefused (world_of before) event Refused.Memory (world_of after))
unfolding repeats
at_most_one before after event (Ok some) free h =
    let w = world_of before in
    let events : repeats 1 event w ≡ event ∷ [] = ap (λ (o : Option SimError). if is_some o then [] else event ∷ repeats 0 event (world_after w event)) free in
    record { accepted = free; world = h.after_is ∙ ap (world_after_all w) events }
at_most_one before after event (Err e) free h =
    let w = world_of before in
    let events : repeats 1 event w ≡ event ∷ [] = ap (λ (o : Option SimError). if is_some o then [] else event ∷ repeats 0 event (world_after w event)) free in
    let stops : StopsWith w (event ∷ []) Refused.Memory (world_of after) = subst (λ (es : List Event). StopsWith w es Refused.Memory (world_of after)) events h in
    elim stops [ inl r ↦ r | inr none ↦ absurd none.1 ]

-- no event was requested
pub none_asked : (w : World) (most : ℕ) (event : Event) → most ≡ 0 → Happened w (repeats most event w) w false
unfolding repeats
none_asked w most event none = subst (λ (m : ℕ). Happened w (repeats m event w) w false) (sym none) (record { after_is = refl; some_is = refl })

-- the same events from an equal world, with equal worlds after them
pub taken_between : (before : SimState) (other after : SimState) (n most : ℕ) (r : Result Bool SimError) → world_of other ≡ world_of before → Takes other after n most r
    → MatchResult r (λ some. Happened (world_of before) (repeats most (CoreTurn n) (world_of before)) (world_of after) some) (λ error. StopsWith (world_of before) (repeats most (CoreTurn n) (world_of before)) Refused.Memory (world_of after))
taken_between before other after n most (Ok some) same d = subst (λ (w : World). Happened w (repeats most (CoreTurn n) w) (world_of after) some) same d.events
taken_between before other after n most (Err e) same d = subst (λ (w : World). StopsWith w (repeats most (CoreTurn n) w) Refused.Memory (world_of after)) same d.events.1

-- there is no such node
pub no_turn : (s : SimState) → IsStore s → (n : ℕ) → find (is_of n) s.nodes ≡ None → is_some (refusal_of (world_of s) (CoreTurn n)) ≡ true
no_turn s h n none = ap (λ (b : Bool). is_some (if b then unless_possible (not (is_empty ((world_of s).items n))) else Some Refused.NoNode)) (no_node s h n none)
