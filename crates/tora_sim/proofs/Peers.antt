-- The neighbours of a node in a topology: in ascending order, without repetition, and none of them 0 or the node.
use Rattle.std.proofs.Common.{◌≡◌, ◌≢◌, refl, sym, ap, ◌∙◌, subst, ℕ, zero, suc, ◌+◌, ◌<◌, ◌≤◌, ◌==◌, Bool, true, false, ◌||◌, nat_lt, List, [], ◌∷◌, ◌++◌, length, get_or, arith, if◌then◌else◌, eq-eqb, eqb-true, true≢false}
use Rattle.tora_core.proofs.AfterInputs.{has-ascending}
use Rattle.std.specs.List.{All, AllByRecursion}
use Rattle.std.proofs.lemmas.Bool.{cond_both}
use Rattle.std.proofs.lemmas.Bool.Decides.{nat_tests}
use Rattle.tora_core.specs.Numbers.{has_number, has_repeat, with_number, ascending, IsAscending}
use Rattle.tora_world.specs.Topology.{Topology, Link, nodes_in, with_node, other_ends, neighbours_of, greatest_limits}
use Rattle.tora_seat.specs.Offers.{place_of}
use Rattle.tora_sim.specs.Topologies.{IsTopology}
use Rattle.tora_world.proofs.SoundTopology.{length-with_number}
use Rattle.tora_sim.proofs.Sound.{sorted_on}
use Rattle.tora_world.proofs.SoundTopology.{sound, others-apart, others-once, has-with_node}

-- the law of `tora_core` about sorted numbers
abbrev pub PutInOrder : Type 0
PutInOrder = (numbers : List ℕ) → has_repeat numbers ≡ false → IsAscending (ascending numbers)

-- the law of `tora_core` about one more number
abbrev pub StaysInOrder : Type 0
StaysInOrder = (n : ℕ) (numbers : List ℕ) → has_number n numbers ≡ false → IsAscending numbers → IsAscending (with_number n numbers)

-- ---- how many numbers there are

length-sorted_on : (acc ns : List ℕ) (all : ℕ) → all ≡ length acc + length ns → length (sorted_on acc ns) ≡ all
length-sorted_on acc [] all e = omega arith
length-sorted_on acc (n ∷ ns) all e = length-sorted_on (with_number n acc) ns all (omega (arith, length-with_number n acc))

pub length-ascending : (ns : List ℕ) → length (ascending ns) ≡ length ns
length-ascending ns = length-sorted_on [] ns (length ns) (omega arith)

pub there : (ns : List ℕ) (i d : ℕ) → i < length ns → has_number (get_or ns i d) ns ≡ true
there [] i d lt = absurd (omega arith)
there (n ∷ ns) zero d lt = ap (λ b. b || has_number n ns) (eq-eqb n n refl)
there (n ∷ ns) (suc i) d lt = go (n == get_or ns i d) (there ns i d (omega arith))
  where
    go : (b : Bool) → has_number (get_or ns i d) ns ≡ true → (b || has_number (get_or ns i d) ns) ≡ true
    go true e = refl
    go false e = e

-- ---- the index of each of ascending numbers

each-of : (P : ℕ → Type 0) (ns : List ℕ) (i d : ℕ) → AllByRecursion P ns → i < length ns → P (get_or ns i d)
each-of P [] i d all lt = absurd (omega arith)
each-of P (n ∷ ns) zero d all lt = all.0
each-of P (n ∷ ns) (suc i) d all lt = each-of P ns i d all.1 (omega arith)

pub place-of : (ns : List ℕ) (i d : ℕ) → IsAscending ns → i < length ns → place_of (get_or ns i d) ns ≡ i
place-of [] i d asc lt = absurd (omega arith)
place-of (n ∷ ns) zero d asc lt = ap (λ b. if b then 0 else suc (place_of n ns)) (eq-eqb n n refl)
place-of (n ∷ ns) (suc i) d asc lt =
    let above : n < get_or ns i d = each-of (λ (m : ℕ). n < m) ns i d asc.0 (omega arith) in
    let apart : (n == get_or ns i d) ≡ false = grind (arith, nat_tests) in
    ap (λ b. if b then 0 else suc (place_of (get_or ns i d) ns)) apart ∙ ap suc (place-of ns i d asc.1 (omega arith))

pub place-within : (k : ℕ) (ns : List ℕ) → place_of k ns ≤ length ns
place-within k [] = omega arith
place-within k (n ∷ ns) =
    let rest = place-within k ns in
    cond_both (n == k) 0 (suc (place_of k ns)) (λ (m : ℕ). m ≤ suc (length ns)) (λ _. omega arith) (λ _. omega arith)

-- sorting does not change ascending numbers
behind-all : (k : ℕ) (ns : List ℕ) → AllByRecursion (λ (n : ℕ). n < k) ns → with_number k ns ≡ ns ++ k ∷ []
behind-all k [] all = refl
behind-all k (n ∷ ns) all =
    let below : n < k = all.0 in
    let test : nat_lt k n ≡ false = grind (arith, nat_tests) in
    ap (λ b. if b then k ∷ n ∷ ns else n ∷ with_number k ns) test ∙ ap (λ (xs : List ℕ). n ∷ xs) (behind-all k ns all.1)

-- each number of the first list is below each of the second
abbrev AllBelow : List ℕ → List ℕ → Type 0
AllBelow acc ns = AllByRecursion (λ (n : ℕ). AllByRecursion (λ (m : ℕ). m < n) acc) ns

all-push : (P : ℕ → Type 0) (ns : List ℕ) (n : ℕ) → AllByRecursion P ns → P n → AllByRecursion P (ns ++ n ∷ [])
all-push P [] n all p = (p, tt)
all-push P (m ∷ ns) n all p = (all.0, all-push P ns n all.1 p)

below-push : (acc ns : List ℕ) (k : ℕ) → AllByRecursion (λ (n : ℕ). k < n) ns → AllBelow acc ns → AllBelow (acc ++ k ∷ []) ns
below-push acc [] k above below = tt
below-push acc (n ∷ ns) k above below = (all-push (λ (m : ℕ). m < n) acc k below.0 above.0, below-push acc ns k above.1 below.1)

appended : (acc ns : List ℕ) (n : ℕ) → (acc ++ n ∷ []) ++ ns ≡ acc ++ n ∷ ns
appended [] ns n = refl
appended (m ∷ acc) ns n = ap (λ (xs : List ℕ). m ∷ xs) (appended acc ns n)

appended-none : (acc : List ℕ) → acc ++ [] ≡ acc
appended-none [] = refl
appended-none (m ∷ acc) = ap (λ (xs : List ℕ). m ∷ xs) (appended-none acc)

stay-on : (acc ns : List ℕ) → IsAscending ns → AllBelow acc ns → sorted_on acc ns ≡ acc ++ ns
stay-on acc [] asc below = sym (appended-none acc)
stay-on acc (n ∷ ns) asc below =
    ap (λ xs. sorted_on xs ns) (behind-all n acc below.0) ∙ stay-on (acc ++ n ∷ []) ns asc.1 (below-push acc ns n asc.0 below.1) ∙ appended acc ns n

none-below : (ns : List ℕ) → AllBelow [] ns
none-below [] = tt
none-below (n ∷ ns) = (tt, none-below ns)

pub stay-ascending : (ns : List ℕ) → IsAscending ns → ascending ns ≡ ns
stay-ascending ns asc = stay-on [] ns asc (none-below ns)

-- ---- the nodes and the neighbours of a topology

pub neighbours-ascend : PutInOrder → (t : Topology) → IsTopology t → (n : ℕ) → IsAscending (neighbours_of t n)
neighbours-ascend order t h n = order (other_ends n t.links) (others-once n t.links (sound t (greatest_limits, h.sound)).links)

pub nodes-ascend : StaysInOrder → (links : List Link) → IsAscending (nodes_in links)
nodes-ascend stays [] = tt
nodes-ascend stays (x ∷ links) = one x.a (with_node x.b (nodes_in links)) (one x.b (nodes_in links) (nodes-ascend stays links))
  where
    one : (n : ℕ) (ns : List ℕ) → IsAscending ns → IsAscending (with_node n ns)
    one n ns asc = cond_both (has_number n ns) ns (with_number n ns) IsAscending (λ _. asc) (λ absent. stays n ns absent asc)

abbrev Both : Link → Type 0
Both link = (0 < link.a) × (0 < link.b)

tail : (x : Link) (links : List Link) → All Both (x ∷ links) → All Both links
tail x links all k d lt = all (suc k) d (omega arith)

end-positive : (n k : ℕ) (links : List Link) → All Both links → has_number k (other_ends n links) ≡ true → 0 < k
end-positive n k [] all e = absurd cc
end-positive n k (x ∷ links) all e = go (λ h. end-positive n k links (tail x links all) h) (all zero x (omega arith)) (x.a == n) (x.b == n) e
  where
    front : (m : ℕ) → 0 < m → (has_number k (other_ends n links) ≡ true → 0 < k) → (m == k || has_number k (other_ends n links)) ≡ true → 0 < k
    front m p rest h = at (m == k) refl h
      where
        at : (b : Bool) → (m == k) ≡ b → (b || has_number k (other_ends n links)) ≡ true → 0 < k
        at true is h = subst (λ j. 0 < j) (eqb-true m k is) p
        at false is h = rest h

    go : (has_number k (other_ends n links) ≡ true → 0 < k) → Both x → (p q : Bool)
        → has_number k (if p then x.b ∷ other_ends n links else if q then x.a ∷ other_ends n links else other_ends n links) ≡ true → 0 < k
    go rest both true q h = front x.b both.1 rest h
    go rest both false true h = front x.a both.0 rest h
    go rest both false false h = rest h

node-positive : (n : ℕ) (links : List Link) → All Both links → has_number n (nodes_in links) ≡ true → 0 < n
node-positive n [] all e = absurd cc
node-positive n (x ∷ links) all e =
    at (λ h. node-positive n links (tail x links all) h) (all zero x (omega arith)) (x.a == n) refl (x.b == n) refl
    (sym (has-with_node n x.a (with_node x.b (nodes_in links)) ∙ ap (λ b. (x.a == n) || b) (has-with_node n x.b (nodes_in links))) ∙ e)
  where
    at : (has_number n (nodes_in links) ≡ true → 0 < n) → Both x → (p : Bool) → (x.a == n) ≡ p → (q : Bool) → (x.b == n) ≡ q
        → (p || (q || has_number n (nodes_in links))) ≡ true → 0 < n
    at rest both true a q b h = subst (λ j. 0 < j) (eqb-true x.a n a) both.0
    at rest both false a true b h = subst (λ j. 0 < j) (eqb-true x.b n b) both.1
    at rest both false a false b h = rest h

pub positive-node : (t : Topology) → IsTopology t → (i d : ℕ) → i < length (nodes_in t.links) → 0 < get_or (nodes_in t.links) i d
positive-node t h i d lt = node-positive (get_or (nodes_in t.links) i d) t.links h.numbers.links (there (nodes_in t.links) i d lt)

linked : (t : Topology) (n i d : ℕ) → i < length (neighbours_of t n) → has_number (get_or (neighbours_of t n) i d) (other_ends n t.links) ≡ true
linked t n i d lt = sym (has-ascending (get_or (neighbours_of t n) i d) (other_ends n t.links)) ∙ there (neighbours_of t n) i d lt

pub positive-peer : (t : Topology) → IsTopology t → (n i d : ℕ) → i < length (neighbours_of t n) → 0 < get_or (neighbours_of t n) i d
positive-peer t h n i d lt = end-positive n (get_or (neighbours_of t n) i d) t.links h.numbers.links (linked t n i d lt)

pub other-peer : (t : Topology) → IsTopology t → (n i d : ℕ) → i < length (neighbours_of t n) → n ≢ get_or (neighbours_of t n) i d
other-peer t h n i d lt same =
    let apart = others-apart n t.links (sound t (greatest_limits, h.sound)).others in
    true≢false (sym (subst (λ m. has_number m (other_ends n t.links) ≡ true) (sym same) (linked t n i d lt)) ∙ apart)
