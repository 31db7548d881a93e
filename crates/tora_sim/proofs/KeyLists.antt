-- The search for nodes and link ends by their numbers, and the order of the numbers.
use Rattle.std.proofs.Common.{◌≡◌, refl, sym, ap, ap₂, ◌∙◌, subst, ℕ, zero, suc, ◌<◌, ◌==◌, ◌&&◌, ◌||◌, ◌⊎◌, inl, inr, Bool, true, false, List, [], ◌∷◌, ◌++◌, map, length, get_or, slice_get, find, cond, is_some, Some, None, arith, if◌then◌else◌, eq-eqb, eqb-true}
use Rattle.tora_core.proofs.AfterInputs.{has-ascending}
use Rattle.std.proofs.lemmas.Bool.{or_left, or_right}
use Rattle.std.specs.List.{AllByRecursion, flat_map, list_any}
use Rattle.tora_core.specs.Numbers.{has_number, IsAscending}
use Rattle.tora_world.specs.Topology.{Topology, Link, nodes_in, neighbours_of, other_ends, is_link}
use Rattle.tora_sim.specs.Links as Links
use Rattle.tora_sim.specs.Links.{LinkView, is_at, key_of}
use Rattle.tora_sim.specs.Nodes as Nodes
use Rattle.tora_sim.specs.Nodes.{NodeView, is_of}
use Rattle.tora_sim.specs.Readers.{ends_at}
use Rattle.tora_world.proofs.SoundTopology.{unnamed}

abbrev pub has_key : ℕ → ℕ → List (ℕ × ℕ) → Bool
has_key n k keys = list_any (λ (e : ℕ × ℕ). (e.0 == n) && (e.1 == k)) keys

-- ---- the result of a search

pub found-name : (n : ℕ) (nodes : List NodeView) → is_some (find (is_of n) nodes) ≡ has_number n (map (λ x. x.node) nodes)
found-name n [] = refl
found-name n (x ∷ nodes) = go (x.node == n) (found-name n nodes)
  where
    go : (b : Bool) → is_some (find (is_of n) nodes) ≡ has_number n (map (λ y. y.node) nodes) → is_some (cond b (Some x) (find (is_of n) nodes)) ≡ (b || has_number n (map (λ y. y.node) nodes))
    go true e = refl
    go false e = e

pub found-key : (n k : ℕ) (links : List LinkView) → is_some (find (is_at n k) links) ≡ has_key n k (map key_of links)
found-key n k [] = refl
found-key n k (x ∷ links) = go ((x.node == n) && (x.peer == k)) (found-key n k links)
  where
    go : (b : Bool) → is_some (find (is_at n k) links) ≡ has_key n k (map key_of links) → is_some (cond b (Some x) (find (is_at n k) links)) ≡ (b || has_key n k (map key_of links))
    go true e = refl
    go false e = e

pub found-there : {A : Type 0} → (p : A → Bool) (xs : List A) (x : A) → find p xs ≡ Some x → (p x ≡ true) × ((i : ℕ) × (slice_get xs i ≡ Some x))
found-there p [] x e = absurd (let z : None ≡ Some x = e in cc)
found-there {A} p (y ∷ ys) x e = go (λ h. found-there p ys x h) (p y) refl e
  where
    later : (p x ≡ true) × ((i : ℕ) × (slice_get ys i ≡ Some x)) → (p x ≡ true) × ((i : ℕ) × (slice_get (y ∷ ys) i ≡ Some x))
    later h = (h.0, (suc h.1.0, h.1.1))

    go : (find p ys ≡ Some x → (p x ≡ true) × ((i : ℕ) × (slice_get ys i ≡ Some x))) → (b : Bool) → p y ≡ b → cond b (Some y) (find p ys) ≡ Some x → (p x ≡ true) × ((i : ℕ) × (slice_get (y ∷ ys) i ≡ Some x))
    go rest true is e = let same : y ≡ x = cc in (subst (λ z. p z ≡ true) same is, (zero, e))
    go rest false is e = later (rest e)

-- ---- the keys of all link ends

joined : (n k : ℕ) (xs ys : List (ℕ × ℕ)) → has_key n k (xs ++ ys) ≡ (has_key n k xs || has_key n k ys)
joined n k [] ys = refl
joined n k (x ∷ xs) ys = ap (λ b. ((x.0 == n) && (x.1 == k)) || b) (joined n k xs ys) ∙ grouped ((x.0 == n) && (x.1 == k)) (has_key n k xs) (has_key n k ys)
  where
    grouped : (a b c : Bool) → (a || (b || c)) ≡ ((a || b) || c)
    grouped true b c = refl
    grouped false b c = refl

at-node : (n k m : ℕ) (ks : List ℕ) → has_key n k (map (λ j. (m, j)) ks) ≡ ((m == n) && has_number k ks)
at-node n k m [] = sym (none (m == n))
  where
    none : (a : Bool) → (a && false) ≡ false
    none true = refl
    none false = refl
at-node n k m (j ∷ ks) = ap (λ b. ((m == n) && (j == k)) || b) (at-node n k m ks) ∙ shared (m == n) (j == k) (has_number k ks)
  where
    shared : (a b c : Bool) → ((a && b) || (a && c)) ≡ (a && (b || c))
    shared true b c = refl
    shared false b c = refl

pub key-in : (t : Topology) (n k : ℕ) (ns : List ℕ) → has_key n k (flat_map (ends_at t) ns) ≡ (has_number n ns && has_number k (neighbours_of t n))
key-in t n k [] = refl
key-in t n k (m ∷ ns) =
    joined n k (ends_at t m) (flat_map (ends_at t) ns) ∙ ap₂ (λ a b. a || b) (at-node n k m (neighbours_of t m)) (key-in t n k ns) ∙ go (m == n) refl
  where
    idle : (a b : Bool) → (a || (b && a)) ≡ a
    idle true b = refl
    idle false true = refl
    idle false false = refl

    go : (b : Bool) → (m == n) ≡ b → ((b && has_number k (neighbours_of t m)) || (has_number n ns && has_number k (neighbours_of t n))) ≡ ((b || has_number n ns) && has_number k (neighbours_of t n))
    go true e =
        ap (λ (j : ℕ). has_number k (neighbours_of t j) || (has_number n ns && has_number k (neighbours_of t n))) (eqb-true m n e)
        ∙ idle (has_number k (neighbours_of t n)) (has_number n ns)
    go false e = refl

-- the node of a link end is a node of the topology
pub of-node : (t : Topology) (n k : ℕ) → (has_number n (nodes_in t.links) && is_link t n k) ≡ is_link t n k
of-node t n k = go (has_number n (nodes_in t.links)) refl
  where
    go : (b : Bool) → has_number n (nodes_in t.links) ≡ b → (b && is_link t n k) ≡ is_link t n k
    go true e = refl
    go false e = sym (has-ascending k (other_ends n t.links) ∙ ap (has_number k) (unnamed n t.links e))

pub key-there : (links : List LinkView) (i : ℕ) (x : LinkView) → slice_get links i ≡ Some x → has_key x.node x.peer (map key_of links) ≡ true
key-there [] i x e = absurd (let z : None ≡ Some x = e in cc)
key-there (y ∷ links) zero x e =
    let same : y ≡ x = cc in
    subst (λ (z : LinkView). has_key z.node z.peer (key_of y ∷ map key_of links) ≡ true) same
    (or_left ((y.node == y.node) && (y.peer == y.peer)) (has_key y.node y.peer (map key_of links)) (ap₂ (λ a b. a && b) (eq-eqb y.node y.node refl) (eq-eqb y.peer y.peer refl)))
key-there (y ∷ links) (suc i) x e = or_right ((y.node == x.node) && (y.peer == x.peer)) (has_key x.node x.peer (map key_of links)) (key-there links i x e)

-- a link between two nodes is a link of both
pub other-way : (n k : ℕ) (links : List Link) → has_number k (other_ends n links) ≡ has_number n (other_ends k links)
other-way n k [] = refl
other-way n k (x ∷ links) = go (other-way n k links) (x.a == n) refl (x.b == n) refl (x.a == k) refl (x.b == k) refl
  where
    same : (x.a == n) ≡ true → (x.a == k) ≡ true → (x.b == k) ≡ (x.b == n)
    same p q = ap (λ j. x.b == j) (sym (eqb-true x.a k q) ∙ eqb-true x.a n p)

    go : has_number k (other_ends n links) ≡ has_number n (other_ends k links)
        → (p : Bool) → (x.a == n) ≡ p → (q : Bool) → (x.b == n) ≡ q → (r : Bool) → (x.a == k) ≡ r → (s : Bool) → (x.b == k) ≡ s
        → has_number k (if p then x.b ∷ other_ends n links else if q then x.a ∷ other_ends n links else other_ends n links)
        ≡ has_number n (if r then x.b ∷ other_ends k links else if s then x.a ∷ other_ends k links else other_ends k links)
    go rest true a q b true c s d = ap₂ (λ u v. u || v) (same a c) rest
    go rest true a q b false c true d = ap (λ u. u || has_number k (other_ends n links)) d ∙ sym (ap (λ u. u || has_number n (other_ends k links)) a)
    go rest true a q b false c false d = ap (λ u. u || has_number k (other_ends n links)) d ∙ rest
    go rest false a true b true c s d = ap (λ u. u || has_number k (other_ends n links)) c ∙ sym (ap (λ u. u || has_number n (other_ends k links)) b)
    go rest false a true b false c true d = ap (λ u. u || has_number k (other_ends n links)) c ∙ rest ∙ sym (ap (λ u. u || has_number n (other_ends k links)) a)
    go rest false a true b false c false d = ap (λ u. u || has_number k (other_ends n links)) c ∙ rest
    go rest false a false b true c s d = rest ∙ sym (ap (λ u. u || has_number n (other_ends k links)) b)
    go rest false a false b false c true d = rest ∙ sym (ap (λ u. u || has_number n (other_ends k links)) a)
    go rest false a false b false c false d = rest

-- ---- their order

abbrev IsBefore : ℕ × ℕ → ℕ × ℕ → Type 0
IsBefore x y = (x.0 < y.0) ⊎ ((x.0 ≡ y.0) × (x.1 < y.1))

abbrev pub AreOrdered : List (ℕ × ℕ) → Type 0
AreOrdered [] = Unit {0}
AreOrdered (x ∷ xs) = AllByRecursion (IsBefore x) xs × AreOrdered xs

all-joined : (P : ℕ × ℕ → Type 0) (xs ys : List (ℕ × ℕ)) → AllByRecursion P xs → AllByRecursion P ys → AllByRecursion P (xs ++ ys)
all-joined P [] ys a b = b
all-joined P (x ∷ xs) ys a b = (a.0, all-joined P xs ys a.1 b)

-- the ends of one node are in the order of its neighbours, and before those of greater nodes
all-at : (n k : ℕ) (ks : List ℕ) → AllByRecursion (λ (j : ℕ). k < j) ks → AllByRecursion (IsBefore (n, k)) (map (λ j. (n, j)) ks)
all-at n k [] a = tt
all-at n k (j ∷ ks) a = (inr (refl, a.0), all-at n k ks a.1)

all-after : (n k m : ℕ) (ks : List ℕ) → n < m → AllByRecursion (IsBefore (n, k)) (map (λ j. (m, j)) ks)
all-after n k m [] lt = tt
all-after n k m (j ∷ ks) lt = (inl lt, all-after n k m ks lt)

all-behind : (t : Topology) (n k : ℕ) (ns : List ℕ) → AllByRecursion (λ (m : ℕ). n < m) ns → AllByRecursion (IsBefore (n, k)) (flat_map (ends_at t) ns)
all-behind t n k [] a = tt
all-behind t n k (m ∷ ns) a = all-joined (IsBefore (n, k)) (ends_at t m) (flat_map (ends_at t) ns) (all-after n k m (neighbours_of t m) a.0) (all-behind t n k ns a.1)

pub ends-ordered : (t : Topology) → ((n : ℕ) → IsAscending (neighbours_of t n)) → (ns : List ℕ) → IsAscending ns → AreOrdered (flat_map (ends_at t) ns)
ends-ordered t asc [] a = tt
ends-ordered t asc (n ∷ ns) a = front (neighbours_of t n) (asc n) (ends-ordered t asc ns a.1)
  where
    front : (ks : List ℕ) → IsAscending ks → AreOrdered (flat_map (ends_at t) ns) → AreOrdered (map (λ k. (n, k)) ks ++ flat_map (ends_at t) ns)
    front [] b rest = rest
    front (k ∷ ks) b rest =
        (all-joined (IsBefore (n, k)) (map (λ j. (n, j)) ks) (flat_map (ends_at t) ns) (all-at n k ks b.0) (all-behind t n k ns a.0), front ks b.1 rest)

each-key : (P : ℕ × ℕ → Type 0) (links : List LinkView) (i : ℕ) (d : LinkView) → AllByRecursion P (map key_of links) → i < length links → P (key_of (get_or links i d))
each-key P [] i d a lt = absurd (omega arith)
each-key P (x ∷ links) zero d a lt = a.0
each-key P (x ∷ links) (suc i) d a lt = each-key P links i d a.1 (omega arith)

pub links-rise : (links : List LinkView) → AreOrdered (map key_of links) → Links.AreRising links
links-rise [] o i j d lt within = absurd (omega arith)
links-rise (x ∷ links) o zero zero d lt within = absurd (omega arith)
links-rise (x ∷ links) o zero (suc j) d lt within = each-key (IsBefore (key_of x)) links j d o.0 (omega arith)
links-rise (x ∷ links) o (suc i) zero d lt within = absurd (omega arith)
links-rise (x ∷ links) o (suc i) (suc j) d lt within = links-rise links o.1 i j d (omega arith) (omega arith)

each-name : (P : ℕ → Type 0) (nodes : List NodeView) (i : ℕ) (d : NodeView) → AllByRecursion P (map (λ x. x.node) nodes) → i < length nodes → P (get_or nodes i d).node
each-name P [] i d a lt = absurd (omega arith)
each-name P (x ∷ nodes) zero d a lt = a.0
each-name P (x ∷ nodes) (suc i) d a lt = each-name P nodes i d a.1 (omega arith)

pub nodes-rise : (nodes : List NodeView) → IsAscending (map (λ x. x.node) nodes) → Nodes.AreRising nodes
nodes-rise [] o i j d lt within = absurd (omega arith)
nodes-rise (x ∷ nodes) o zero zero d lt within = absurd (omega arith)
nodes-rise (x ∷ nodes) o zero (suc j) d lt within = each-name (λ (m : ℕ). x.node < m) nodes j d o.0 (omega arith)
nodes-rise (x ∷ nodes) o (suc i) zero d lt within = absurd (omega arith)
nodes-rise (x ∷ nodes) o (suc i) (suc j) d lt within = nodes-rise nodes o.1 i j d (omega arith) (omega arith)
