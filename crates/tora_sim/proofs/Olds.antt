-- Nodes whose link ends speak version 1, and the other nodes.
use Rattle.std.proofs.Common.{◌≡◌, ⊎_elim, ℕ, suc, ◌+◌, ◌≤◌, ◌<◌, Bool, true, false, cond, ◌||◌, ◌==◌, List, [], ◌∷◌, ◌++◌, length, refl, sym, ap, ◌∙◌, subst, arith, eqb-true, eq-eqb, true≢false, length-append}
use Rattle.std.proofs.lemmas.Bool.{cases_Bool}
use Rattle.std.proofs.lemmas.List.Folds.{list_any-append}
use Rattle.tora_core.specs.Numbers.{has_number}
use Rattle.tora_sim.specs.Topologies.{others}

-- a number of a list is in the list with one more number
idle : (m n : ℕ) (olds : List ℕ) → has_number m olds ≡ true → has_number m (olds ++ n ∷ []) ≡ true
idle m n olds h = list_any-append (λ x. x == m) olds (n ∷ []) ∙ ap (λ b. b || has_number m (n ∷ [])) h

-- the appended number is in the list
among : (n : ℕ) (olds : List ℕ) → has_number n olds ≡ false → has_number n (olds ++ n ∷ []) ≡ true
among n olds h = list_any-append (λ x. x == n) olds (n ∷ []) ∙ ap (λ b. b || has_number n (n ∷ [])) h ∙ same n
  where
    same : (n : ℕ) → has_number n (n ∷ []) ≡ true
    same n = ap (λ b. b || false) (eq-eqb n n refl)

-- lengths of two lists, to each of which the first node may be added or not
front : (a b : Bool) (x y : List ℕ) (m : ℕ) → (a ≡ true → b ≡ true) → length y ≤ length x → length (cond b y (m ∷ y)) ≤ length (cond a x (m ∷ x))
front true true x y m h le = le
front true false x y m h le = absurd (true≢false (sym (h refl)))
front false true x y m h le = omega arith
front false false x y m h le = omega arith

more_olds : (n : ℕ) (olds nodes : List ℕ) → length (others (olds ++ n ∷ []) nodes) ≤ length (others olds nodes)
more_olds n olds [] = omega arith
more_olds n olds (m ∷ nodes) =
    front (has_number m olds) (has_number m (olds ++ n ∷ [])) (others olds nodes) (others (olds ++ n ∷ []) nodes) m (idle m n olds) (more_olds n olds nodes)

front_fewer : (a b : Bool) (x y : List ℕ) (m : ℕ) → (a ≡ true → b ≡ true) → suc (length y) ≤ length x → suc (length (cond b y (m ∷ y))) ≤ length (cond a x (m ∷ x))
front_fewer true true x y m h le = le
front_fewer true false x y m h le = absurd (true≢false (sym (h refl)))
front_fewer false true x y m h le = omega arith
front_fewer false false x y m h le = omega arith

front_here : (a b : Bool) (x y : List ℕ) (m : ℕ) → a ≡ false → b ≡ true → length y ≤ length x → suc (length (cond b y (m ∷ y))) ≤ length (cond a x (m ∷ x))
front_here true b x y m h k le = absurd (true≢false h)
front_here false true x y m h k le = omega arith
front_here false false x y m h k le = absurd (true≢false (sym k))

-- a node that is added to the old ones is removed from the others
pub fewer : (n : ℕ) (olds nodes : List ℕ) → has_number n nodes ≡ true → has_number n olds ≡ false → suc (length (others (olds ++ n ∷ []) nodes)) ≤ length (others olds nodes)
fewer n olds [] there new = absurd (true≢false (sym there))
fewer n olds (m ∷ nodes) there new =
    ⊎_elim
    (λ (here : (m == n) ≡ true).
    let is : n ≡ m = sym (eqb-true m n here) in
    front_here (has_number m olds) (has_number m (olds ++ n ∷ [])) (others olds nodes) (others (olds ++ n ∷ []) nodes) m
    (subst (λ x. has_number x olds ≡ false) is new) (subst (λ x. has_number x (olds ++ n ∷ []) ≡ true) is (among n olds new)) (more_olds n olds nodes))
    (λ (further : (m == n) ≡ false).
    front_fewer (has_number m olds) (has_number m (olds ++ n ∷ [])) (others olds nodes) (others (olds ++ n ∷ []) nodes) m (idle m n olds)
    (fewer n olds nodes (ap (λ b. b || has_number n nodes) (sym further) ∙ there) new))
    (cases_Bool (m == n))

-- if there are no old nodes, all nodes are others
pub all_others : (nodes : List ℕ) → others [] nodes ≡ nodes
all_others [] = refl
all_others (n ∷ nodes) = ap (λ (xs : List ℕ). n ∷ xs) (all_others nodes)

-- there is room for one more old node
pub room : (n : ℕ) (olds nodes : List ℕ) → has_number n nodes ≡ true → has_number n olds ≡ false → length olds + length (others olds nodes) ≤ 1024 → length olds < 1024
room n olds nodes there new h = omega (arith, h, fewer n olds nodes there new)

pub kept : (n : ℕ) (olds nodes : List ℕ) → has_number n nodes ≡ true → has_number n olds ≡ false → length olds + length (others olds nodes) ≤ 1024 →
    length (olds ++ n ∷ []) + length (others (olds ++ n ∷ []) nodes) ≤ 1024
kept n olds nodes there new h = omega (arith, h, fewer n olds nodes there new, length-append olds (n ∷ []))
