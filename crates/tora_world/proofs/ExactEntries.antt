-- Entries are exact exactly if the comparison of all entries says so.
use Rattle.std.proofs.Common.{◌≡◌, ℕ, ◌&&◌, ◌||◌, Bool, true, false, List, [], ◌∷◌, Option, None, Some, nat_eq, if◌then◌else◌, refl, sym, ap, ◌∙◌, subst, eqb-true}
use Rattle.std.proofs.lemmas.Bool.{and_from}
use Rattle.std.specs.Prelude.{option_and_then}
use Rattle.std.specs.List.{list_all}
use Rattle.std.specs.Ordering.{is_eq, ordering_reverse}
use Rattle.std.specs.declared.cmp.Ordering.{Ordering}
use Rattle.std.specs.declared.cmp.Ordering.TheVariants.{Less, Equal, Greater}
use Rattle.tora_height.specs.Height.{Quintuple}
use Rattle.tora_height.specs.HeightOrder.{height_cmp}
use Rattle.tora_core.specs.Numbers.{has_number}
use Rattle.tora_core.specs.View.{View}
use Rattle.tora_core.specs.CoreRun.{view_of, entry_in}
use Rattle.tora_world.specs.Topology.{neighbours_of, nodes_in, is_node}
use Rattle.tora_world.specs.World.{World}
use Rattle.tora_world.specs.Layers.{RuleLaws}
use Rattle.tora_world.specs.Walks.{height_at, entry_at, IsExact, is_height, is_exact_entry, is_exact_node, exact_in}
use Rattle.tora_world.proofs.Entries.{IsCoreOf, view_in, row_number}

-- ---- tests of all numbers of a list

and_first : (a b : Bool) → (a && b) ≡ true → a ≡ true
and_first true b e = refl
and_first false b e = absurd cc

and_second : (a b : Bool) → (a && b) ≡ true → b ≡ true
and_second true b e = e
and_second false b e = absurd cc

passes_at : (p : ℕ → Bool) (n : ℕ) (ns : List ℕ) → list_all p ns ≡ true → has_number n ns ≡ true → p n ≡ true
passes_at p n [] all there = absurd cc
passes_at p n (m ∷ ns) all there = go (nat_eq m n) refl there (passes_at p n ns (and_second (p m) (list_all p ns) all))
  where
    go : (b : Bool) → nat_eq m n ≡ b → (b || has_number n ns) ≡ true → (has_number n ns ≡ true → p n ≡ true) → p n ≡ true
    go true e h again = subst (λ x. p x ≡ true) (eqb-true m n e) (and_first (p m) (list_all p ns) all)
    go false e h again = again h

all_pass : (p : ℕ → Bool) → ((n : ℕ) → p n ≡ true) → (ns : List ℕ) → list_all p ns ≡ true
all_pass p f [] = refl
all_pass p f (n ∷ ns) = and_from (p n) (list_all p ns) (f n) (all_pass p f ns)

-- ---- a height is compared

pub itself : RuleLaws → (h : Quintuple) → height_cmp h h ≡ Equal
itself rules h = go (height_cmp h h) (rules.order.antisymm h h)
  where
    go : (o : Ordering) → o ≡ ordering_reverse o → o ≡ Equal
    go Less e = absurd cc
    go Equal e = refl
    go Greater e = absurd cc

eq_is : (o : Ordering) → is_eq o ≡ true → o ≡ Equal
eq_is Less e = absurd cc
eq_is Equal e = refl
eq_is Greater e = absurd cc

height_is : RuleLaws → (h : Quintuple) (o : Option (Option Quintuple)) → is_height h o ≡ true → o ≡ Some (Some h)
height_is rules h None e = absurd cc
height_is rules h (Some None) e = absurd cc
height_is rules h (Some (Some other)) e = ap (λ x. Some (Some x)) (sym (rules.same h other (eq_is (height_cmp h other) e)))

-- ---- an entry is one of a neighbour

-- if a node has an entry of a neighbour, there is a link between them
record IsNear (w : World) (n k : ℕ) : Type 0 where
  node : is_node w.topology n ≡ true
  near : has_number k (neighbours_of w.topology n) ≡ true

module _ (rules : RuleLaws) (w : World) (cores : (n : ℕ) → is_node w.topology n ≡ true → IsCoreOf w.topology n (w.seats n).core) where
  near : (n k d : ℕ) (h : Quintuple) → entry_at w n k d ≡ Some (Some h) → IsNear w n k
  near n k d h e = go (is_node w.topology n) (view_of (w.seats n).core d) refl refl e
    where
      go : (b : Bool) (o : Option View) → is_node w.topology n ≡ b → view_of (w.seats n).core d ≡ o → (if b then option_and_then (entry_in k) o else None) ≡ Some (Some h) → IsNear w n k
      go true None is found f = absurd cc
      go true (Some v) is found f =
          let c = cores n is in
          let view = view_in (w.seats n).core d v c.kept found in
          let up : has_number k (w.seats n).core.up ≡ true = ap (has_number k) (sym view.view.neighbours) ∙ row_number k v.rows (Some h) f in
          record { node = is; near = sym (c.near k) ∙ rules.up (w.seats n).core k c.kept up }
      go false o is found f = absurd cc

  pub exact_is : (d : ℕ) → exact_in w d ≡ true → IsExact w d
  exact_is d all n k h e =
      let at = near n k d h e in
      let node : is_exact_node w d n ≡ true = passes_at (is_exact_node w d) n (nodes_in w.topology.links) all at.node in
      let one : is_exact_entry (entry_at w n k d) (height_at w k d) ≡ true = passes_at (λ j. is_exact_entry (entry_at w n j d) (height_at w j d)) k (neighbours_of w.topology n) node at.near in
      height_is rules h (height_at w k d) (ap (λ o. is_exact_entry o (height_at w k d)) (sym e) ∙ one)

pub is_exact : RuleLaws → (w : World) (d : ℕ) → IsExact w d → exact_in w d ≡ true
is_exact rules w d exact = all_pass (is_exact_node w d) (λ n. all_pass (λ k. is_exact_entry (entry_at w n k d) (height_at w k d)) (λ k. one n k (entry_at w n k d) refl) (neighbours_of w.topology n)) (nodes_in w.topology.links)
  where
    one : (n k : ℕ) (o : Option (Option Quintuple)) → entry_at w n k d ≡ o → is_exact_entry o (height_at w k d) ≡ true
    one n k None e = refl
    one n k (Some None) e = refl
    one n k (Some (Some h)) e = ap (is_height h) (exact n k h e) ∙ ap is_eq (itself rules h)
