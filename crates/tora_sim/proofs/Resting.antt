-- The idle test of a link end, for a world at rest.
use Rattle.std.proofs.Common.{◌≡◌, refl, sym, ap, ap₂, ◌∙◌, subst, ℕ, zero, suc, ◌<◌, ◌≤◌, ◌&&◌, Bool, true, false, List, [], ◌∷◌, length, drop, get_or, arith, if◌then◌else◌, nat_eq, eqb-true, Option, Some, None, is_some}
use Rattle.std.specs.Prelude.{not, nat_lt, find, slice_get, MatchOption}
use Rattle.std.proofs.lemmas.Bool.{and_parts, false_from_ne_true}
use Rattle.std.proofs.lemmas.Bool.Decides.{nat_tests}
use Rattle.std.proofs.lemmas.List.{drop_all}
use Rattle.std.proofs.lemmas.Option.{slice_get-get_or}
use Rattle.tora_arq.specs.declared.life.Life.{Life}
use Rattle.tora_arq.specs.LinkEnd.{bound_life}
use Rattle.tora_seat.specs.Rows.{current_of}
use Rattle.tora_world.specs.Topology.{is_link, neighbours_of}
use Rattle.tora_world.specs.World.{is_empty}
use Rattle.tora_seat.specs.Offers.{place_of}
use Rattle.tora_world.specs.Rest.{life_at, is_idle_end}
use Rattle.tora_world.proofs.EndViews.{at_place}
use Rattle.tora_sim.specs.Keyed.{IsFirst}
use Rattle.tora_sim.specs.Nodes.{NodeView, is_of}
use Rattle.tora_sim.specs.Links.{LinkView, is_at}
use Rattle.tora_sim.specs.Resting.{is_idle}
use Rattle.tora_sim.specs.Store.{SimState, IsStore, node_at, link_at, seat_in, lane_in, end_in, world_of}
use Rattle.tora_sim.proofs.Keys.{found}

-- ---- lists

left_over : {A : Type 0} (p : ℕ) (xs : List A) → p < length xs → is_empty (drop p xs) ≡ false
left_over zero [] lt = absurd (omega (arith, lt))
left_over zero (x ∷ xs) lt = refl
left_over (suc p) [] lt = absurd (omega (arith, lt))
left_over (suc p) (x ∷ xs) lt = left_over p xs (omega (arith, lt))

-- a lane has a waiting cargo exactly if fewer were pulled than put
pub empty_lane : {A : Type 0} (p : ℕ) (xs : List A) (b : Bool) → nat_lt p (length xs) ≡ b → not b ≡ is_empty (drop p xs)
empty_lane p xs true e = let lt : p < length xs = grind (arith, nat_tests, e) in sym (left_over p xs lt)
empty_lane p xs false e = let le : length xs ≤ p = grind (arith, nat_tests, e) in ap is_empty (sym (drop_all p xs le))

pub none_waits : {A : Type 0} (xs : List A) → nat_eq (length xs) 0 ≡ is_empty xs
none_waits [] = refl
none_waits (x ∷ xs) = false_from_ne_true (nat_eq (suc (length xs)) 0) (λ t. let q : suc (length xs) ≡ 0 = eqb-true (suc (length xs)) 0 t in absurd (omega (arith, q)))

found_passes : {A : Type 0} (p : A → Bool) (xs : List A) (x : A) → find p xs ≡ Some x → p x ≡ true
found_passes p [] x e = absurd cc
found_passes {A} p (y ∷ ys) x e = go (p y) refl e (found_passes p ys x)
  where
    go : (b : Bool) → p y ≡ b → (if b then Some y else find p ys) ≡ Some x → (find p ys ≡ Some x → p x ≡ true) → p x ≡ true
    go true t f again = let q : y ≡ x = cc in ap p (sym q) ∙ t
    go false t f again = again f

-- ---- one link end

module _ (s : SimState) (n k i : ℕ) (x : LinkView) (first : IsFirst (is_at n k) s.links i) (is : x ≡ get_or s.links i x) where
  link_there : slice_get s.links i ≡ Some x
  link_there = slice_get-get_or s.links i x first.within ∙ ap Some (sym is)

  link_found : link_at s.links n k ≡ Some x
  link_found = found (is_at n k) s.links i x first link_there

  pub idle_found : is_idle x ≡ is_idle_end (world_of s) n k
  idle_found = sym (ap (λ o. is_empty (lane_in o) && is_empty (end_in o).events && is_empty (end_in o).queue) link_found)

  pub bound_found : bound_life x.state ≡ bound_life ((world_of s).ends n k)
  bound_found = sym (ap (λ o. bound_life (end_in o)) link_found)

  -- the session in the seat of the node, at its index
  module _ (h : IsStore s) (j : ℕ) (y : NodeView) (first_node : IsFirst (is_of n) s.nodes j) (is_node_view : y ≡ get_or s.nodes j y) where
    node_there : slice_get s.nodes j ≡ Some y
    node_there = slice_get-get_or s.nodes j y first_node.within ∙ ap Some (sym is_node_view)

    node_found : node_at s.nodes n ≡ Some y
    node_found = found (is_of n) s.nodes j y first_node node_there

    linked : is_link s.topology n k ≡ true
    linked = h.links n k ∙ ap is_some link_found

    ends : (nat_eq x.node n ≡ true) × (nat_eq x.peer k ≡ true)
    ends = and_parts (nat_eq x.node n) (nat_eq x.peer k) (found_passes (is_at n k) s.links x link_found)

    seat_is : x.seat ≡ place_of k (neighbours_of s.topology n)
    seat_is = (h.each_link i x link_there).seat ∙ ap₂ (λ a b. place_of b (neighbours_of s.topology a)) (eqb-true x.node n ends.0) (eqb-true x.peer k ends.1)

    neighbours_are : y.seat.core.neighbours ≡ neighbours_of s.topology n
    neighbours_are = (h.each_node j y node_there).neighbours ∙ ap (neighbours_of s.topology) (eqb-true y.node n (found_passes (is_of n) s.nodes y node_found))

    at_seat : slice_get y.seat.core.neighbours x.seat ≡ Some k
    at_seat = ap₂ (λ ks place. slice_get ks place) neighbours_are seat_is ∙ at_place k (neighbours_of s.topology n) linked

    pub life_found : (result : Option Life) (seat : ℕ) → seat ≡ x.seat → MatchOption (slice_get y.seat.core.neighbours seat) (result ≡ None) (λ m. result ≡ current_of y.seat.rows m) → result ≡ life_at (world_of s) n k
    life_found result seat q m =
        let read : result ≡ current_of y.seat.rows k =
        subst (λ o. MatchOption o (result ≡ None) (λ m. result ≡ current_of y.seat.rows m)) (ap (slice_get y.seat.core.neighbours) q ∙ at_seat) m in
        read ∙ sym (ap (λ (b : Bool). if b then (seat_in s.topology n (node_at s.nodes n)).current k else None) linked ∙ ap (λ o. (seat_in s.topology n o).current k) node_found)
