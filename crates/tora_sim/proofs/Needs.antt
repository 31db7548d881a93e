-- One more item in the queue of a node's core.
use Rattle.std.proofs.Common.{◌≡◌, ℕ, suc, ◌<◌, ◌⊎◌, inl, inr, Bool, true, false, ◌&&◌, List, [], ◌∷◌, ◌++◌, Some, None, refl, sym, ap, ap₂, ◌∙◌, subst, length, set, slice_get, is_some, nat_lt, nat_eq, if◌then◌else◌, eqb-true, eq-eqb, true≢false, Result, Ok, Err, MatchResult, arith}
use Rattle.std.proofs.lemmas.Bool.{cases_Bool}
use Rattle.std.proofs.lemmas.Option.{slice_get_read}
use Rattle.std.proofs.lemmas.List.{get_or-set_same, get_or-set_other, length-set, set-get_or}
use Rattle.std.specs.Prelude.{slice_index_or, slice_index}
use mathlib.Core.Path.{fun_ext}
use Rattle.tora_frame.specs.FrameParts.{FrameParts}
use Rattle.tora_arq.specs.declared.times.Times.{Times}
use Rattle.tora_core.specs.declared.Input.{Input}
use Rattle.tora_seat.specs.declared.what.What.{What}
use Rattle.tora_seat.specs.declared.what.What.TheVariants as Tells
use Rattle.tora_seat.specs.declared.item.Item.{Item}
use Rattle.tora_seat.specs.Serving.{SeatState, put_one}
use Rattle.tora_world.specs.declared.event.Event.TheVariants as Happens
use Rattle.tora_world.specs.declared.sim_error.SimError.{SimError}
use Rattle.tora_world.specs.declared.sim_error.SimError.TheVariants as Refused
use Rattle.tora_world.specs.LinkMachine.{put_at}
use Rattle.tora_world.specs.Topology.{Topology, is_node, neighbours_of}
use Rattle.tora_world.specs.World.{World, Arms, refusal_of, effect_by, own_choice, unless_possible, with_item, has_room}
use Rattle.tora_sim.specs.Keyed.{IsFirst}
use Rattle.tora_sim.specs.Links.{LinkView}
use Rattle.tora_sim.specs.Nodes.{NodeView, is_of, after_item}
use Rattle.tora_sim.specs.Store.{state_of, world_of, IsStore, IsNodeOf, node_at, seat_in, items_in, inputs_in, counts_in, arms_in}
use Rattle.tora_sim.specs.Steps.{IsRefused, Does}
use Rattle.tora_sim.proofs.Stores.{IsSameNode, node_there, node_changes, node_stays, node_stays_by, store_set_node}
use Rattle.tora_sim.proofs.Opens.{effect_is, refused_for}

-- worlds with the same functions over nodes are the same
pub nodes_same : (w : World) {seats seats' : ℕ → SeatState} {inputs inputs' : ℕ → List (Input × ℕ)} {items items' : ℕ → List Item} {counts counts' : ℕ → ℕ → ℕ} {arms arms' : ℕ → Arms}
    → seats ≡ seats' → inputs ≡ inputs' → items ≡ items' → counts ≡ counts' → arms ≡ arms'
    → ◌≡◌ {A = World} (record w { seats = seats; inputs = inputs; items = items; counts = counts; arms = arms }) (record w { seats = seats'; inputs = inputs'; items = items'; counts = counts'; arms = arms' })
nodes_same w {seats} {seats'} {inputs} {inputs'} {items} {items'} {counts} {counts'} {arms} {arms'} s p i c a =
    ap₂ (λ (x : ℕ → SeatState) (y : ℕ → List Item). record w { seats = x; inputs = inputs; items = y; counts = counts; arms = arms }) s i
    ∙ ap₂ (λ (x : ℕ → ℕ → ℕ) (y : ℕ → Arms). record w { seats = seats'; inputs = inputs; items = items'; counts = x; arms = y }) c a
    ∙ ap (λ (x : ℕ → List (Input × ℕ)). record w { seats = seats'; inputs = x; items = items'; counts = counts'; arms = arms' }) p

module _ (t : Topology) (times : Times) (clock : ℕ) (nodes : List NodeView) (links : List LinkView) (ds : List FrameParts) (h : IsStore (state_of t times clock nodes links ds))
    (n i : ℕ) (x : NodeView) (first : IsFirst (is_of n) nodes i) (read : x ≡ slice_index_or nodes i x) where
  abbrev w : World
  w = world_of (state_of t times clock nodes links ds)

  pub node_place : slice_get nodes i ≡ Some x
  node_place = slice_get_read nodes (length nodes) i x refl first.within read

  pub is_there : node_at nodes n ≡ Some x
  is_there = node_there n nodes i x x first node_place (record { node = refl; first = refl; count = refl; me = refl; erasure = refl; neighbours = refl; destinations = refl; seats = refl })

  pub is_noded : is_node t n ≡ true
  is_noded = h.nodes n ∙ ap is_some is_there

  pub at_there : (possible b : Bool) → possible ≡ b → (if is_node t n then unless_possible possible else Some Refused.NoNode) ≡ unless_possible b
  at_there possible b e = ap₂ (λ (l : Bool) (p : Bool). if l then unless_possible p else Some Refused.NoNode) is_noded e

  pub of_node : IsNodeOf t x
  of_node = h.each_node i x node_place

  pub named : x.node ≡ n
  named = eqb-true x.node n (subst (λ z. is_of n z ≡ true) (sym read) (first.here x))

  -- the seat of the commands comes after those of the neighbours
  pub last_seat : x.count < length x.counts
  last_seat = omega (arith, of_node.seats)

  pub room_is : (b : Bool) → nat_lt (length x.items) 1024 ≡ b → has_room w n ≡ b
  room_is b e = ap (λ o. nat_lt (length (items_in o)) 1024) is_there ∙ e

  -- an item is put at one seat of the node
  module _ (seat : ℕ) (what : What) (lt : seat < length x.counts) where
    abbrev new : NodeView
    new = after_item x seat clock what

    same_node : IsSameNode x new
    same_node = record { node = refl; first = refl; count = refl; me = refl; erasure = refl; neighbours = refl; destinations = refl; seats = length-set x.counts seat (suc (slice_index x.counts seat)) }

    counted : ◌≡◌ {A = ℕ → ℕ → ℕ} (put_one (λ a. counts_in (node_at nodes a)) n (counts_in (Some new))) (put_at (λ a. counts_in (node_at nodes a)) n seat (suc (counts_in (node_at nodes n) seat)))
    counted = fun_ext (λ a. fun_ext (λ b. go a b (cases_Bool (nat_eq a n)) (cases_Bool (nat_eq b seat))))
      where
        v : ℕ
        v = suc (slice_index x.counts seat)

        value : suc (counts_in (node_at nodes n) seat) ≡ suc (slice_index x.counts seat)
        value = ap (λ o. suc (counts_in o seat)) is_there

        go : (a b : ℕ) → (nat_eq a n ≡ true) ⊎ (nat_eq a n ≡ false) → (nat_eq b seat ≡ true) ⊎ (nat_eq b seat ≡ false) →
            put_one (λ m. counts_in (node_at nodes m)) n (counts_in (Some new)) a b ≡ put_at (λ m. counts_in (node_at nodes m)) n seat (suc (counts_in (node_at nodes n) seat)) a b
        go a b (inl p) (inl q) =
            ap (λ (z : Bool). (if z then counts_in (Some new) else counts_in (node_at nodes a)) b) p
            ∙ ap (λ m. slice_index (set x.counts seat (suc (slice_index x.counts seat))) m) (eqb-true b seat q)
            ∙ get_or-set_same x.counts seat (suc (slice_index x.counts seat)) 0 lt
            ∙ sym value
            ∙ sym (ap₂ (λ (y z : Bool). if y && z then suc (counts_in (node_at nodes n) seat) else counts_in (node_at nodes a) b) p q)
        go a b (inl p) (inr q) =
            ap (λ (z : Bool). (if z then counts_in (Some new) else counts_in (node_at nodes a)) b) p
            ∙ get_or-set_other x.counts seat b (suc (slice_index x.counts seat)) 0 (λ e. true≢false (sym (eq-eqb b seat e) ∙ q))
            ∙ ap (λ o. counts_in o b) (sym is_there ∙ ap (node_at nodes) (sym (eqb-true a n p)))
            ∙ sym (ap₂ (λ (y z : Bool). if y && z then suc (counts_in (node_at nodes n) seat) else counts_in (node_at nodes a) b) p q)
        go a b (inr p) r =
            ap (λ (z : Bool). (if z then counts_in (Some new) else counts_in (node_at nodes a)) b) p
            ∙ sym (ap (λ (y : Bool). if y && nat_eq b seat then suc (counts_in (node_at nodes n) seat) else counts_in (node_at nodes a) b) p)

    pub item_world : world_of (state_of t times clock (set nodes i new) links ds) ≡ with_item w n seat clock what
    item_world =
        let seats = node_stays_by n nodes i x new first node_place same_node (seat_in t) refl in
        let inputs = node_stays n nodes i x new first node_place same_node inputs_in refl in
        let items = node_changes n nodes i x new first node_place same_node items_in
        ∙ ap (λ o. put_one (λ a. items_in (node_at nodes a)) n (items_in o ++ record { seat = seat; number = suc (counts_in o seat); now = clock; what = what } ∷ [])) (sym is_there) in
        let counts = node_changes n nodes i x new first node_place same_node counts_in ∙ counted in
        let arms = node_stays n nodes i x new first node_place same_node arms_in refl in
        nodes_same w seats inputs items counts arms

    pub item_store : IsStore (state_of t times clock (set nodes i new) links ds)
    item_store = store_set_node n nodes i x new first node_place same_node t times clock links ds h

  -- ---- a need

  pub need_refused : (d : ℕ) → nat_lt (length x.items) 1024 ≡ false → IsRefused w (Happens.Need n d) Refused.NotPossible w
  need_refused d e = refused_for w (Happens.Need n d) Refused.NotPossible (at_there (has_room w n) false (room_is false e))

  pub need_accepted : (d : ℕ) → nat_lt (length x.items) 1024 ≡ true → refusal_of w (Happens.Need n d) ≡ None
  need_accepted d e = at_there (has_room w n) true (room_is true e)

  need_effect : (d : ℕ) → effect_by (own_choice w (Happens.Need n d)) w (Happens.Need n d) ≡ with_item w n (length (neighbours_of t n)) clock (Tells.Need d)
  unfolding effect_by
  need_effect d = refl

  -- if memory runs out, the node is unchanged
  pub same_nodes : (y : NodeView) → y ≡ x → set nodes i y ≡ nodes
  same_nodes y e = ap (set nodes i) (e ∙ read) ∙ set-get_or nodes i x

  -- the node after an item was put, or memory ran out
  abbrev pub IsPut : ℕ → What → NodeView → Result (Unit {0}) SimError → Type 0
  IsPut seat what y r = MatchResult r (λ _. y ≡ after_item x seat clock what) (λ e. (e ≡ Refused.Memory) × (y ≡ x))

  pub put_store : (seat : ℕ) (what : What) (y : NodeView) (r : Result (Unit {0}) SimError) → seat < length x.counts → IsPut seat what y r → IsStore (state_of t times clock (set nodes i y) links ds)
  put_store seat what y (Ok u) lt f = subst (λ z. IsStore (state_of t times clock (set nodes i z) links ds)) (sym f) (item_store seat what lt)
  put_store seat what y (Err e) lt f = subst (λ z. IsStore (state_of t times clock z links ds)) (sym (same_nodes y f.1)) h

  pub need_does : (d : ℕ) (y : NodeView) (r : Result (Unit {0}) SimError) → nat_lt (length x.items) 1024 ≡ true → IsPut x.count (Tells.Need d) y r →
      Does (state_of t times clock nodes links ds) (Happens.Need n d) r (state_of t times clock (set nodes i y) links ds)
  need_does d y (Ok u) e f = record {
    accepted = need_accepted d e;
    world =
        ap (λ z. world_of (state_of t times clock (set nodes i z) links ds)) f
        ∙ item_world x.count (Tells.Need d) last_seat
        ∙ ap (λ m. with_item w n m clock (Tells.Need d)) (of_node.count ∙ ap (λ m. length (neighbours_of t m)) named)
        ∙ sym (effect_is w (Happens.Need n d) (need_accepted d e) ∙ need_effect d);
  }
  need_does d y (Err m) e f = record {
    cause = inl (f.0, need_accepted d e);
    world = ap (λ z. world_of (state_of t times clock z links ds)) (same_nodes y f.1);
  }
