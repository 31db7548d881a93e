-- A topology without a fault: how many neighbours a node has, and that they differ from each other and from the node.
use Rattle.std.proofs.Common.{◌≡◌, refl, sym, ap, ap₂, ◌∙◌, subst, ℕ, suc, ◌+◌, ◌≤◌, ◌==◌, Bool, true, false, not, ◌||◌, ◌&&◌, nat_lt, List, [], ◌∷◌, length, cond, arith, if◌then◌else◌, Some, None, eqb-true}
use Rattle.tora_core.proofs.AfterInputs.{has-with}
use Rattle.std.specs.List.{list_any}
use Rattle.std.proofs.lemmas.Bool.{cond_both, or_from}
use Rattle.std.proofs.lemmas.Bool.Decides.{nat_tests}
use Rattle.tora_core.specs.declared.errors.CoreError.TheVariants as Fault
use Rattle.tora_core.specs.Numbers.{has_number, has_repeat, with_number, without_number}
use Rattle.tora_world.specs.Topology.{Topology, Link, nodes_in, with_node, different, different_neighbours, other_ends, is_same_link, has_link, has_repeated_link, has_own_link, has_too_many_within, topology_fault_within, at_most, most_nodes, most_neighbours, most_destinations, greatest_limits, IsWithinLimits}
use Rattle.tora_world.specs.declared.limits.Limits.{Limits}

-- ---- inserting numbers in order

pub length-with_number : (k : ℕ) (ns : List ℕ) → length (with_number k ns) ≡ suc (length ns)
length-with_number k [] = refl
length-with_number k (n ∷ ns) =
    cond_both (nat_lt k n) (k ∷ n ∷ ns) (n ∷ with_number k ns) (λ (xs : List ℕ). length xs ≡ suc (suc (length ns))) (λ _. refl) (λ _. ap suc (length-with_number k ns))

-- ---- how many numbers are not the node itself

-- 0 for the number to leave out, and otherwise 1
abbrev pub weight : Bool → ℕ
weight true = 0
weight false = 1

without-front : (n k : ℕ) (ns : List ℕ) → length (without_number n (k ∷ ns)) ≡ weight (k == n) + length (without_number n ns)
without-front n k ns = go (k == n)
  where
    go : (b : Bool) → length (cond (not b) (k ∷ without_number n ns) (without_number n ns)) ≡ weight b + length (without_number n ns)
    go true = omega arith
    go false = omega arith

without-with_number : (n k : ℕ) (ns : List ℕ) → length (without_number n (with_number k ns)) ≡ weight (k == n) + length (without_number n ns)
without-with_number n k [] = without-front n k []
without-with_number n k (m ∷ ns) =
    cond_both (nat_lt k m) (k ∷ m ∷ ns) (m ∷ with_number k ns) (λ (xs : List ℕ). length (without_number n xs) ≡ weight (k == n) + length (without_number n (m ∷ ns)))
    (λ _. without-front n k (m ∷ ns))
    (λ _.
    let rest = without-with_number n k ns in
    let one = without-front n m (with_number k ns) in
    let two = without-front n m ns in
    omega arith)

-- 1 if the number is in the list
abbrev pub one_if : Bool → ℕ
one_if true = 1
one_if false = 0

abbrev pub IsSplit : ℕ → List ℕ → Type 0
IsSplit n ns = length (without_number n ns) + one_if (has_number n ns) ≡ length ns

split-more : (n k : ℕ) (ns : List ℕ) → has_number k ns ≡ false → IsSplit n ns → IsSplit n (with_number k ns)
split-more n k ns absent e = go (k == n) refl
  where
    go : (b : Bool) → (k == n) ≡ b → IsSplit n (with_number k ns)
    go true is =
        let same : k ≡ n = grind (arith, nat_tests) in
        let none : has_number n ns ≡ false = subst (λ m. has_number m ns ≡ false) same absent in
        let had : length (without_number n ns) + 0 ≡ length ns = subst (λ b. length (without_number n ns) + one_if b ≡ length ns) none e in
        let there : has_number n (with_number k ns) ≡ true = has-with n k ns ∙ ap (λ b. b || has_number n ns) is in
        let size : length (without_number n (with_number k ns)) ≡ 0 + length (without_number n ns) = without-with_number n k ns ∙ ap (λ b. weight b + length (without_number n ns)) is in
        subst (λ b. length (without_number n (with_number k ns)) + one_if b ≡ length (with_number k ns)) (sym there) (omega (arith, length-with_number k ns))
    go false is =
        let there : has_number n (with_number k ns) ≡ has_number n ns = has-with n k ns ∙ ap (λ b. b || has_number n ns) is in
        let size : length (without_number n (with_number k ns)) ≡ 1 + length (without_number n ns) = without-with_number n k ns ∙ ap (λ b. weight b + length (without_number n ns)) is in
        subst (λ b. length (without_number n (with_number k ns)) + one_if b ≡ length (with_number k ns)) (sym there) (omega (arith, length-with_number k ns))

pub split-different : (n : ℕ) (ns : List ℕ) → IsSplit n (different ns)
split-different n [] = omega arith
split-different n (k ∷ ns) =
    let rest = split-different n ns in
    cond_both (has_number k (different ns)) (different ns) (with_number k (different ns)) (IsSplit n) (λ _. rest) (λ absent. split-more n k (different ns) absent rest)

-- ---- tests

pub or-false-left : (a b : Bool) → (a || b) ≡ false → a ≡ false
or-false-left true b e = absurd cc
or-false-left false b e = refl

pub or-false-right : (a b : Bool) → (a || b) ≡ false → b ≡ false
or-false-right true b e = absurd cc
or-false-right false b e = e

-- none of the three causes
pub no-cause : (a b c : Bool) → (if a then Some Fault.TooMany else if b then Some Fault.Repeated else if c then Some Fault.OwnId else None) ≡ None
    → (a ≡ false) × (b ≡ false) × (c ≡ false)
no-cause true b c e = absurd cc
no-cause false true c e = absurd cc
no-cause false false true e = absurd cc
no-cause false false false e = (refl, refl, refl)

pub record IsSound (t : Topology) : Type 0 where
  pub nodes : length (nodes_in t.links) ≤ 1024
  pub neighbours : list_any (λ n. nat_lt 255 (length (different_neighbours n t.links))) (nodes_in t.links) ≡ false
  pub links : has_repeated_link t.links ≡ false
  pub few_destinations : length t.destinations ≤ 64
  pub destinations : has_repeat t.destinations ≡ false
  pub others : has_own_link t.links ≡ false

-- a count within a limit is within the greatest limit
pub within-greatest : (greatest limit count : ℕ) → nat_lt (at_most greatest limit) count ≡ false → nat_lt greatest count ≡ false
within-greatest greatest limit count few = go (nat_lt limit greatest) refl few
  where
    go : (b : Bool) → nat_lt limit greatest ≡ b → nat_lt (if b then limit else greatest) count ≡ false → nat_lt greatest count ≡ false
    go true less e = grind (arith, nat_tests)
    go false more e = e

-- if p fails for every number of the list, and q fails wherever p fails, then q fails for every number of the list
none-weaker : (p q : ℕ → Bool) → ((n : ℕ) → p n ≡ false → q n ≡ false) → (ns : List ℕ) → list_any p ns ≡ false → list_any q ns ≡ false
none-weaker p q weaker [] none = refl
none-weaker p q weaker (n ∷ ns) none =
    or_from (q n) (list_any q ns) (weaker n (or-false-left (p n) (list_any p ns) none)) (none-weaker p q weaker ns (or-false-right (p n) (list_any p ns) none))

-- the three parts of the first cause
pub record AreFew (limits : Limits) (t : Topology) : Type 0 where
  pub nodes : nat_lt (most_nodes limits) (length (nodes_in t.links)) ≡ false
  pub neighbours : list_any (λ n. nat_lt (most_neighbours limits) (length (different_neighbours n t.links))) (nodes_in t.links) ≡ false
  pub destinations : nat_lt (most_destinations limits) (length t.destinations) ≡ false

few-of : (a b c : Bool) → (a || b || c) ≡ false → (a ≡ false) × (b ≡ false) × (c ≡ false)
few-of a b c e = (or-false-left a b (or-false-left (a || b) c e), or-false-right a b (or-false-left (a || b) c e), or-false-right (a || b) c e)

pub are-few : (limits : Limits) (t : Topology) → has_too_many_within limits t ≡ false → AreFew limits t
are-few limits t e =
    let h = few-of (nat_lt (most_nodes limits) (length (nodes_in t.links)))
    (list_any (λ n. nat_lt (most_neighbours limits) (length (different_neighbours n t.links))) (nodes_in t.links))
    (nat_lt (most_destinations limits) (length t.destinations)) e in
    record { nodes = h.0; neighbours = h.1; destinations = h.2 }

pub sound : (t : Topology) → IsWithinLimits t → IsSound t
sound t (limits, e) =
    let h = no-cause (has_too_many_within limits t) (has_repeated_link t.links || has_repeat t.destinations) (has_own_link t.links) e in
    let few = are-few limits t h.0 in
    let table = within-greatest 64 limits.destinations (length t.destinations) few.destinations in
    let nodes = within-greatest 1024 limits.nodes (length (nodes_in t.links)) few.nodes in
    record {
      nodes = not-above 1024 (length (nodes_in t.links)) nodes;
      neighbours = none-weaker _ _ (λ n. within-greatest 255 limits.neighbours (length (different_neighbours n t.links))) (nodes_in t.links) few.neighbours;
      links = or-false-left _ (has_repeat t.destinations) h.1;
      few_destinations = not-above 64 (length t.destinations) table;
      destinations = or-false-right (has_repeated_link t.links) _ h.1;
      others = h.2;
    }
  where
    not-above : (most count : ℕ) → nat_lt most count ≡ false → count ≤ most
    not-above most count e = grind (arith, nat_tests)

-- a topology that is not refused within limits is not refused within the greatest
pub within-all : (t : Topology) (limits : Limits) → topology_fault_within limits t ≡ None → topology_fault_within greatest_limits t ≡ None
within-all t limits e =
    let h = no-cause (has_too_many_within limits t) (has_repeated_link t.links || has_repeat t.destinations) (has_own_link t.links) e in
    let few = are-few limits t h.0 in
    let nodes = within-greatest 1024 limits.nodes (length (nodes_in t.links)) few.nodes in
    let near = none-weaker _ _ (λ n. within-greatest 255 limits.neighbours (length (different_neighbours n t.links))) (nodes_in t.links) few.neighbours in
    let table = within-greatest 64 limits.destinations (length t.destinations) few.destinations in
    let many : has_too_many_within greatest_limits t ≡ false = or_from _ _ (or_from _ _ nodes near) table in
    rw (many, h.1, h.2) refl

-- ---- the other ends of a node's links

pub others-apart : (n : ℕ) (links : List Link) → has_own_link links ≡ false → has_number n (other_ends n links) ≡ false
others-apart n [] e = refl
others-apart n (x ∷ links) e =
    let rest = others-apart n links (or-false-right (x.a == x.b) (has_own_link links) e) in
    go rest (or-false-left (x.a == x.b) (has_own_link links) e) (x.a == n) (x.b == n) refl refl
  where
    go : has_number n (other_ends n links) ≡ false → (x.a == x.b) ≡ false → (p q : Bool) → (x.a == n) ≡ p → (x.b == n) ≡ q
        → has_number n (if p then x.b ∷ other_ends n links else if q then x.a ∷ other_ends n links else other_ends n links) ≡ false
    go rest apart true true a b = absurd (grind (arith, nat_tests))
    go rest apart true false a b = or_from (x.b == n) (has_number n (other_ends n links)) b rest
    go rest apart false true a b = or_from (x.a == n) (has_number n (other_ends n links)) a rest
    go rest apart false false a b = rest

-- a node without a link to another node is not among that node's neighbours
not-linked : (n k : ℕ) (links : List Link) → has_link (record { a = n; b = k }) links ≡ false → has_number k (other_ends n links) ≡ false
not-linked n k [] e = refl
not-linked n k (x ∷ links) e =
    let y : Link = record { a = n; b = k } in
    let rest = not-linked n k links (or-false-right (is_same_link (record { a = n; b = k }) x) (has_link (record { a = n; b = k }) links) e) in
    let here = or-false-left (is_same_link (record { a = n; b = k }) x) (has_link (record { a = n; b = k }) links) e in
    go rest here (x.a == n) (x.b == n) refl refl
  where
    other-b : is_same_link (record { a = n; b = k }) x ≡ false → (x.a == n) ≡ true → (x.b == k) ≡ false
    other-b here a = grind (arith, nat_tests)

    other-a : is_same_link (record { a = n; b = k }) x ≡ false → (x.b == n) ≡ true → (x.a == k) ≡ false
    other-a here b = grind (arith, nat_tests)

    go : has_number k (other_ends n links) ≡ false → is_same_link (record { a = n; b = k }) x ≡ false → (p q : Bool) → (x.a == n) ≡ p → (x.b == n) ≡ q
        → has_number k (if p then x.b ∷ other_ends n links else if q then x.a ∷ other_ends n links else other_ends n links) ≡ false
    go rest here true q a b = or_from (x.b == k) (has_number k (other_ends n links)) (other-b here a) rest
    go rest here false true a b = or_from (x.a == k) (has_number k (other_ends n links)) (other-a here b) rest
    go rest here false false a b = rest

swapped : (p q r s : Bool) → ((p && q) || (r && s)) ≡ ((s && r) || (q && p))
swapped true true true true = refl
swapped true true true false = refl
swapped true true false true = refl
swapped true true false false = refl
swapped true false true true = refl
swapped true false true false = refl
swapped true false false true = refl
swapped true false false false = refl
swapped false true true true = refl
swapped false true true false = refl
swapped false true false true = refl
swapped false true false false = refl
swapped false false true true = refl
swapped false false true false = refl
swapped false false false true = refl
swapped false false false false = refl

has_link-turned : (m n : ℕ) (links : List Link) → has_link (record { a = m; b = n }) links ≡ has_link (record { a = n; b = m }) links
has_link-turned m n [] = refl
has_link-turned m n (x ∷ links) = ap₂ (λ p q. p || q) (swapped (m == x.a) (n == x.b) (m == x.b) (n == x.a)) (has_link-turned m n links)

pub others-once : (n : ℕ) (links : List Link) → has_repeated_link links ≡ false → has_repeat (other_ends n links) ≡ false
others-once n [] e = refl
others-once n (x ∷ links) e =
    let rest = others-once n links (or-false-right (has_link x links) (has_repeated_link links) e) in
    go rest (or-false-left (has_link x links) (has_repeated_link links) e) (x.a == n) (x.b == n) refl refl
  where
    go : has_repeat (other_ends n links) ≡ false → has_link x links ≡ false → (p q : Bool) → (x.a == n) ≡ p → (x.b == n) ≡ q
        → has_repeat (if p then x.b ∷ other_ends n links else if q then x.a ∷ other_ends n links else other_ends n links) ≡ false
    go rest here true q a b =
        or_from (has_number x.b (other_ends n links)) (has_repeat (other_ends n links))
        (not-linked n x.b links (subst (λ m. has_link (record { a = m; b = x.b }) links ≡ false) (eqb-true x.a n a) here)) rest
    go rest here false true a b =
        or_from (has_number x.a (other_ends n links)) (has_repeat (other_ends n links))
        (not-linked n x.a links (has_link-turned n x.a links ∙ subst (λ m. has_link (record { a = x.a; b = m }) links ≡ false) (eqb-true x.b n b) here)) rest
    go rest here false false a b = rest

-- ---- numbers of a list

pub has-with_node : (n k : ℕ) (ns : List ℕ) → has_number n (with_node k ns) ≡ ((k == n) || has_number n ns)
has-with_node n k ns =
    cond_both (has_number k ns) ns (with_number k ns) (λ (xs : List ℕ). has_number n xs ≡ ((k == n) || has_number n ns))
    (λ there. go (k == n) refl there) (λ _. has-with n k ns)
  where
    go : (b : Bool) → (k == n) ≡ b → has_number k ns ≡ true → has_number n ns ≡ (b || has_number n ns)
    go true e there = subst (λ m. has_number m ns ≡ true) (eqb-true k n e) there
    go false e there = refl

pub has-different : (n : ℕ) (ns : List ℕ) → has_number n (different ns) ≡ has_number n ns
has-different n [] = refl
has-different n (k ∷ ns) = has-with_node n k (different ns) ∙ ap (λ b. (k == n) || b) (has-different n ns)

length-different : (ns : List ℕ) → has_repeat ns ≡ false → length (different ns) ≡ length ns
length-different [] e = refl
length-different (k ∷ ns) e =
    let rest = length-different ns (or-false-right (has_number k ns) (has_repeat ns) e) in
    let absent : has_number k (different ns) ≡ false = has-different k ns ∙ or-false-left (has_number k ns) (has_repeat ns) e in
    ap (λ b. length (if b then different ns else with_number k (different ns))) absent ∙ length-with_number k (different ns) ∙ ap suc rest

pub unnamed : (n : ℕ) (links : List Link) → has_number n (nodes_in links) ≡ false → other_ends n links ≡ []
unnamed n [] e = refl
unnamed n (x ∷ links) e =
    let all : ((x.a == n) || ((x.b == n) || has_number n (nodes_in links))) ≡ false =
    sym (has-with_node n x.a (with_node x.b (nodes_in links)) ∙ ap (λ b. (x.a == n) || b) (has-with_node n x.b (nodes_in links))) ∙ e in
    let a = or-false-left (x.a == n) _ all in
    let more = or-false-right (x.a == n) _ all in
    let b = or-false-left (x.b == n) (has_number n (nodes_in links)) more in
    let rest = unnamed n links (or-false-right (x.b == n) (has_number n (nodes_in links)) more) in
    ap (λ p. if p then x.b ∷ other_ends n links else if x.b == n then x.a ∷ other_ends n links else other_ends n links) a
    ∙ ap (λ p. if p then x.a ∷ other_ends n links else other_ends n links) b ∙ rest

none-any : (p : ℕ → Bool) (n : ℕ) (ns : List ℕ) → list_any p ns ≡ false → has_number n ns ≡ true → p n ≡ false
none-any p n [] none there = absurd cc
none-any p n (m ∷ ns) none there = go (none-any p n ns (or-false-right (p m) (list_any p ns) none)) (m == n) refl there
  where
    go : (has_number n ns ≡ true → p n ≡ false) → (b : Bool) → (m == n) ≡ b → (b || has_number n ns) ≡ true → p n ≡ false
    go rest true e h = subst (λ k. p k ≡ false) (eqb-true m n e) (or-false-left (p m) (list_any p ns) none)
    go rest false e h = rest h

-- a node has at most 255 neighbours
pub few-ends : (t : Topology) → IsSound t → (n : ℕ) → length (other_ends n t.links) ≤ 255
few-ends t h n = go (has_number n (nodes_in t.links)) refl
  where
    go : (b : Bool) → has_number n (nodes_in t.links) ≡ b → length (other_ends n t.links) ≤ 255
    go false e = subst (λ (ns : List ℕ). length ns ≤ 255) (sym (unnamed n t.links e)) (omega arith)
    go true e =
        let few = none-any (λ m. nat_lt 255 (length (different_neighbours m t.links))) n (nodes_in t.links) h.neighbours e in
        let size = length-different (other_ends n t.links) (others-once n t.links h.links) in
        let apart : has_number n (different (other_ends n t.links)) ≡ false = has-different n (other_ends n t.links) ∙ others-apart n t.links h.others in
        let split : length (without_number n (different (other_ends n t.links))) + one_if false ≡ length (different (other_ends n t.links)) =
        subst (λ b. length (without_number n (different (other_ends n t.links))) + one_if b ≡ length (different (other_ends n t.links))) apart (split-different n (other_ends n t.links)) in
        let bound : length (different_neighbours n t.links) ≤ 255 = grind (arith, nat_tests) in
        omega arith
