-- A world is at rest exactly if the test of every node and link says so.
use Rattle.std.proofs.Common.{◌≡◌, ℕ, Bool, true, false, true≢false, ◌&&◌, ◌||◌, List, [], ◌∷◌, Option, None, Some, nat_eq, refl, sym, ap, ◌∙◌, subst, eqb-true, eq-eqb}
use Rattle.std.proofs.lemmas.Bool.{and_from, and_parts, or_right}
use Rattle.std.specs.Prelude.{option_map}
use Rattle.std.specs.List.{list_all}
use Rattle.tora_arq.specs.declared.life.Life.{Life}
use Rattle.tora_arq.specs.Lives.{is_same_life, reversed}
use Rattle.tora_arq.specs.LinkEnd.{bound_life}
use Rattle.tora_core.specs.Numbers.{has_number}
use Rattle.tora_seat.specs.Serving.{is_current}
use Rattle.tora_world.specs.Topology.{nodes_in, neighbours_of, is_node, is_link}
use Rattle.tora_world.specs.World.{World, is_empty}
use Rattle.tora_world.specs.Layers.{CoreLaws}
use Rattle.tora_world.specs.Rest.{life_at, IsIdleEnd, IsAtRest, is_idle_end, is_one_life, is_link_at_rest, is_node_at_rest, rests}
use Rattle.tora_world.proofs.PacketLists.{same_refl, same_true}
use Rattle.tora_world.proofs.Accepted.{current_is}
use Rattle.tora_world.proofs.TurnedLinks.{node_of_link}

-- ---- tests of all numbers of a list

passes_at : (p : ℕ → Bool) (n : ℕ) (ns : List ℕ) → list_all p ns ≡ true → has_number n ns ≡ true → p n ≡ true
passes_at p n [] all there = absurd cc
passes_at p n (m ∷ ns) all there = go (nat_eq m n) refl there (passes_at p n ns (and_parts (p m) (list_all p ns) all).1)
  where
    go : (b : Bool) → nat_eq m n ≡ b → (b || has_number n ns) ≡ true → (has_number n ns ≡ true → p n ≡ true) → p n ≡ true
    go true e h again = subst (λ x. p x ≡ true) (eqb-true m n e) (and_parts (p m) (list_all p ns) all).0
    go false e h again = again h

all_pass : (p : ℕ → Bool) (ns : List ℕ) → ((n : ℕ) → has_number n ns ≡ true → p n ≡ true) → list_all p ns ≡ true
all_pass p [] f = refl
all_pass p (n ∷ ns) f = and_from (p n) (list_all p ns) (f n (itself n)) (all_pass p ns (λ m i. f m (later m i)))
  where
    itself : (m : ℕ) → (nat_eq m m || has_number m ns) ≡ true
    itself m = ap (λ b. b || has_number m ns) (eq-eqb m m refl)

    later : (m : ℕ) → has_number m ns ≡ true → (nat_eq n m || has_number m ns) ≡ true
    later m i = or_right (nat_eq n m) (has_number m ns) i

is_empty_true : {A : Type 0} (xs : List A) → is_empty xs ≡ true → xs ≡ []
is_empty_true [] e = refl
is_empty_true (x ∷ xs) e = absurd (true≢false (sym e))

-- ---- one link

is_current_true : (l : Life) (o : Option Life) → o ≡ Some l → is_current l o ≡ true
is_current_true l o e = ap (is_current l) e ∙ same_refl l

one_life_is : (here there bound : Option Life) → is_one_life here there bound ≡ true → (here ≡ option_map reversed there) × ((life : Life) → here ≡ Some life → bound ≡ Some life)
one_life_is None None bound e = (refl, λ l q. absurd (cc))
one_life_is None (Some other) bound e = absurd (true≢false (sym e))
one_life_is (Some life) None bound e = absurd (true≢false (sym e))
one_life_is (Some life) (Some other) bound e =
    let parts = and_parts (is_same_life life (reversed other)) (is_current life bound) e in
    (ap Some (same_true life (reversed other) parts.0), λ l q. current_is life bound parts.1 ∙ q)

is_one : (here there bound : Option Life) → here ≡ option_map reversed there → ((life : Life) → here ≡ Some life → bound ≡ Some life) → is_one_life here there bound ≡ true
is_one None None bound e f = refl
is_one None (Some other) bound e f = absurd (let q : None ≡ Some (reversed other) = e in cc)
is_one (Some life) None bound e f = absurd (let q : Some life ≡ None = e in cc)
is_one (Some life) (Some other) bound e f =
    let q : life ≡ reversed other = cc in
    and_from (is_same_life life (reversed other)) (is_current life bound) (ap (λ x. is_same_life x (reversed other)) q ∙ same_refl (reversed other)) (is_current_true life bound (f life refl))

module _ (cores : CoreLaws) (w : World) where
  pub rests_is : rests w ≡ true → IsAtRest w
  rests_is e = record {
    items = λ n there. is_empty_true (w.items n) (node n there).0;
    idle = λ n k there. idle n k (and_parts (is_idle_end w n k) _ (link n k there)).0;
    lives = λ n k there. let x = one_life_is (life_at w n k) (life_at w k n) (bound_life (w.ends n k)) (and_parts (is_idle_end w n k) _ (link n k there)).1 in record { same = x.0; bound = x.1 };
  }
    where
      node : (n : ℕ) → is_node w.topology n ≡ true → (is_empty (w.items n) ≡ true) × (list_all (is_link_at_rest w n) (neighbours_of w.topology n) ≡ true)
      node n there = and_parts (is_empty (w.items n)) (list_all (is_link_at_rest w n) (neighbours_of w.topology n)) (passes_at (is_node_at_rest w) n (nodes_in w.topology.links) e there)

      link : (n k : ℕ) → is_link w.topology n k ≡ true → is_link_at_rest w n k ≡ true
      link n k there = passes_at (is_link_at_rest w n) k (neighbours_of w.topology n) (node n (node_of_link cores w.topology n k there)).1 there

      idle : (n k : ℕ) → is_idle_end w n k ≡ true → IsIdleEnd w n k
      idle n k q =
          let a = and_parts (is_empty (w.cargoes n k) && is_empty (w.ends n k).events) (is_empty (w.ends n k).queue) q in
          let b = and_parts (is_empty (w.cargoes n k)) (is_empty (w.ends n k).events) a.0 in
          record { cargoes = is_empty_true (w.cargoes n k) b.0; events = is_empty_true (w.ends n k).events b.1; queue = is_empty_true (w.ends n k).queue a.1 }

  pub is_rests : IsAtRest w → rests w ≡ true
  is_rests rest = all_pass (is_node_at_rest w) (nodes_in w.topology.links) node
    where
      idle : (n k : ℕ) → IsIdleEnd w n k → is_idle_end w n k ≡ true
      idle n k q =
          and_from (is_empty (w.cargoes n k) && is_empty (w.ends n k).events) (is_empty (w.ends n k).queue)
          (and_from (is_empty (w.cargoes n k)) (is_empty (w.ends n k).events) (ap is_empty q.cargoes) (ap is_empty q.events)) (ap is_empty q.queue)

      link : (n k : ℕ) → is_link w.topology n k ≡ true → is_link_at_rest w n k ≡ true
      link n k there =
          let one = rest.lives n k there in
          and_from (is_idle_end w n k) (is_one_life (life_at w n k) (life_at w k n) (bound_life (w.ends n k))) (idle n k (rest.idle n k there)) (is_one (life_at w n k) (life_at w k n) (bound_life (w.ends n k)) one.same one.bound)

      node : (n : ℕ) → is_node w.topology n ≡ true → is_node_at_rest w n ≡ true
      node n there =
          and_from (is_empty (w.items n)) (list_all (is_link_at_rest w n) (neighbours_of w.topology n)) (ap is_empty (rest.items n there))
          (all_pass (is_link_at_rest w n) (neighbours_of w.topology n) (λ k. link n k))
