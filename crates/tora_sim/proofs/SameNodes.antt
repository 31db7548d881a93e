-- The stored nodes are those of the topology, in their order.
use Rattle.std.proofs.Common.{◌≡◌, refl, sym, ap, ap₂, ◌∙◌, subst, ℕ, zero, suc, ◌<◌, ◌≤◌, ◌==◌, ◌||◌, ◌&&◌, ◌⊎◌, inl, inr, Bool, true, false, List, [], ◌∷◌, map, length, get_or, cond, find, is_some, Some, None, arith, true≢false, eqb-true, eq-eqb}
use Rattle.std.proofs.lemmas.Bool.{cases_Bool, or_from}
use Rattle.std.proofs.lemmas.Bool.Decides.{nat_tests}
use Rattle.std.proofs.lemmas.List.{length-map}
use Rattle.std.specs.List.{AllByRecursion, list_all}
use Rattle.tora_core.specs.Numbers.{has_number, IsAscending}
use Rattle.tora_world.specs.Topology.{is_node, nodes_in}
use Rattle.tora_sim.specs.Keyed.{IsFirst}
use Rattle.tora_sim.specs.Nodes.{NodeView, AreRising, is_of}
use Rattle.tora_sim.specs.Store.{SimState, IsStore}
use Rattle.tora_sim.proofs.KeyLists.{found-name}
use Rattle.tora_sim.proofs.Peers.{StaysInOrder, nodes-ascend}

-- ---- two ascending lists of the same numbers are equal

here : (n : ℕ) (ns : List ℕ) → has_number n (n ∷ ns) ≡ true
here n ns = ap (λ b. b || has_number n ns) (eq-eqb n n refl)

at-number : (P : ℕ → Type 0) (n : ℕ) (ns : List ℕ) → AllByRecursion P ns → has_number n ns ≡ true → P n
at-number P n [] all there = absurd (true≢false (sym there))
at-number P n (m ∷ ns) all there = go (at-number P n ns all.1) (cases_Bool (m == n))
  where
    go : (has_number n ns ≡ true → P n) → ((m == n) ≡ true) ⊎ ((m == n) ≡ false) → P n
    go rest (inl e) = subst P (eqb-true m n e) all.0
    go rest (inr e) = rest (sym (ap (λ b. b || has_number n ns) e) ∙ there)

none-above : (n : ℕ) (ns : List ℕ) → AllByRecursion (λ (m : ℕ). n < m) ns → has_number n ns ≡ false
none-above n [] all = refl
none-above n (m ∷ ns) all = or_from (m == n) (has_number n ns) (apart all.0) (none-above n ns all.1)
  where
    apart : n < m → (m == n) ≡ false
    apart lt = grind (arith, nat_tests)

least : (n m : ℕ) (ns : List ℕ) → AllByRecursion (λ (k : ℕ). m < k) ns → has_number n (m ∷ ns) ≡ true → m ≤ n
least n m ns all there = go (cases_Bool (m == n))
  where
    go : ((m == n) ≡ true) ⊎ ((m == n) ≡ false) → m ≤ n
    go (inl e) = let same : m ≡ n = eqb-true m n e in omega (arith, same)
    go (inr e) =
        let lt : m < n = at-number (λ (k : ℕ). m < k) n ns all (sym (ap (λ b. b || has_number n ns) e) ∙ there) in
        omega (arith, lt)

same-numbers : (xs ys : List ℕ) → IsAscending xs → IsAscending ys → ((n : ℕ) → has_number n xs ≡ has_number n ys) → xs ≡ ys
same-numbers [] [] a b h = refl
same-numbers [] (y ∷ ys) a b h = absurd (true≢false (sym (here y ys) ∙ sym (h y)))
same-numbers (x ∷ xs) [] a b h = absurd (true≢false (sym (here x xs) ∙ h x))
same-numbers (x ∷ xs) (y ∷ ys) a b h = ap₂ (λ (n : ℕ) (ns : List ℕ). n ∷ ns) first (same-numbers xs ys a.1 b.1 (λ n. rest n (cases_Bool (x == n))))
  where
    first : x ≡ y
    first =
        let more : y ≤ x = least x y ys b.0 (sym (h x) ∙ here x xs) in
        let less : x ≤ y = least y x xs a.0 (h y ∙ here y ys) in
        omega (arith, more, less)

    rest : (n : ℕ) → ((x == n) ≡ true) ⊎ ((x == n) ≡ false) → has_number n xs ≡ has_number n ys
    rest n (inl e) =
        let is : x ≡ n = eqb-true x n e in
        subst (λ (k : ℕ). has_number k xs ≡ false) is (none-above x xs a.0) ∙ sym (subst (λ (k : ℕ). has_number k ys ≡ false) (sym first ∙ is) (none-above y ys b.0))
    rest n (inr e) = sym (ap (λ b. b || has_number n xs) e) ∙ h n ∙ ap (λ b. b || has_number n ys) (subst (λ (k : ℕ). (k == n) ≡ false) first e)

-- ---- the nodes of a simulator

rising-ascend : (nodes : List NodeView) → AreRising nodes → IsAscending (map (λ (x : NodeView). x.node) nodes)
rising-ascend [] rising = tt
rising-ascend (x ∷ nodes) rising =
    (above nodes (λ j d lt. rising zero (suc j) d (omega arith) (omega (arith, lt))), rising-ascend nodes (λ i j d lt within. rising (suc i) (suc j) d (omega (arith, lt)) (omega (arith, within))))
  where
    above : (ys : List NodeView) → ((j : ℕ) (d : NodeView) → j < length ys → x.node < (get_or ys j d).node) → AllByRecursion (λ (m : ℕ). x.node < m) (map (λ (y : NodeView). y.node) ys)
    above [] h = tt
    above (y ∷ ys) h = (h zero y (omega arith), above ys (λ j d lt. h (suc j) d (omega (arith, lt))))

pub same_nodes : StaysInOrder → (s : SimState) → IsStore s → map (λ (x : NodeView). x.node) s.nodes ≡ nodes_in s.topology.links
same_nodes stays s h =
    same-numbers (map (λ (x : NodeView). x.node) s.nodes) (nodes_in s.topology.links) (rising-ascend s.nodes h.rising_nodes) (nodes-ascend stays s.topology.links)
    (λ n. sym (found-name n s.nodes) ∙ sym (h.nodes n))

pub as_many_nodes : StaysInOrder → (s : SimState) → IsStore s → length s.nodes ≡ length (nodes_in s.topology.links)
as_many_nodes stays s h = sym (length-map s.nodes (λ (x : NodeView). x.node)) ∙ ap length (same_nodes stays s h)

-- a test of all nodes
all_named : (p : ℕ → Bool) (nodes : List NodeView) → list_all (λ (x : NodeView). p x.node) nodes ≡ list_all p (map (λ (x : NodeView). x.node) nodes)
all_named p [] = refl
all_named p (x ∷ nodes) = ap (λ (b : Bool). p x.node && b) (all_named p nodes)

pub all_nodes : StaysInOrder → (s : SimState) → IsStore s → (p : ℕ → Bool) → list_all (λ (x : NodeView). p x.node) s.nodes ≡ list_all p (nodes_in s.topology.links)
all_nodes stays s h p = all_named p s.nodes ∙ ap (list_all p) (same_nodes stays s h)

-- ---- a node that is found

first_found : {A : Type 0} → (p : A → Bool) (xs : List A) (i : ℕ) → IsFirst p xs i → is_some (find p xs) ≡ true
first_found p [] i first = absurd (omega (arith, first.within))
first_found {A} p (x ∷ xs) i first = go i first (λ j h. first_found p xs j h) (cases_Bool (p x))
  where
    go : (i : ℕ) → IsFirst p (x ∷ xs) i → ((j : ℕ) → IsFirst p xs j → is_some (find p xs) ≡ true) → ((p x ≡ true) ⊎ (p x ≡ false)) → is_some (cond (p x) (Some x) (find p xs)) ≡ true
    go i first rest (inl e) = ap (λ (b : Bool). is_some (cond b (Some x) (find p xs))) e
    go zero first rest (inr e) = absurd (true≢false (sym (first.here x) ∙ e))
    go (suc j) first rest (inr e) =
        ap (λ (b : Bool). is_some (cond b (Some x) (find p xs))) e
        ∙ rest j (record { within = omega (arith, first.within); here = λ d. first.here d; before = λ k d lt. first.before (suc k) d (omega (arith, lt)) })

pub node_there : (s : SimState) → IsStore s → (n i : ℕ) → IsFirst (is_of n) s.nodes i → is_node s.topology n ≡ true
node_there s h n i first = h.nodes n ∙ first_found (is_of n) s.nodes i first

pub no_node : (s : SimState) → IsStore s → (n : ℕ) → find (is_of n) s.nodes ≡ None → is_node s.topology n ≡ false
no_node s h n none = h.nodes n ∙ ap is_some none
