-- The keys of parted pairs, after pairs are added and removed.
use Rattle.std.proofs.Common.{◌≡◌, ℕ, ◌<◌, ◌==◌, ◌&&◌, ◌||◌, ◌⊎◌, Bool, true, false, not, cond, min, max, List, [], ◌∷◌, ◌++◌, refl, sym, ap, ap₂, ◌∙◌, inl, inr, arith}
use Rattle.std.specs.List.{list_any, filter}
use Rattle.std.specs.HashSet.{HashSet, contains}
use Rattle.std.proofs.lemmas.Bool.{false≢true, eqb-true, eq-eqb, and_parts, and_from, or_cases, or_left, or_right, cases_order, both_ways, false_from_ne_true}
use Rattle.std.proofs.lemmas.List.Folds.{list_any-append}
use Rattle.tora_script.specs.Pairs.{pair_eq}
use Rattle.tora_script.specs.Parted.{is_same_pair, is_parted}
use Rattle.tora_script.specs.PartedKeys.{key_of, AreKeys}

-- ---- two pairs have the same key if they name the same two nodes

straight : (a b c d : ℕ) → a ≡ c → min c d ≡ min a b → max c d ≡ max a b → b ≡ d
straight a b c d e low high = omega (arith, e, low, high)

below : (a b c d : ℕ) → a < c → min c d ≡ min a b → max c d ≡ max a b → (a ≡ d) × (b ≡ c)
below a b c d lt low high = (omega (arith, lt, low, high), omega (arith, lt, low, high))

above : (a b c d : ℕ) → c < a → min c d ≡ min a b → max c d ≡ max a b → (a ≡ d) × (b ≡ c)
above a b c d lt low high = (omega (arith, lt, low, high), omega (arith, lt, low, high))

both : (a b c d : ℕ) → a ≡ c → b ≡ d → ((a == c) && (b == d)) ≡ true
both a b c d e f = and_from (a == c) (b == d) (eq-eqb a c e) (eq-eqb b d f)

turned : (p q : ℕ × ℕ) → (p.0 ≡ q.1) × (p.1 ≡ q.0) → is_same_pair p q ≡ true
turned p q two = or_right ((p.0 == q.0) && (p.1 == q.1)) ((p.0 == q.1) && (p.1 == q.0)) (both p.0 p.1 q.1 q.0 two.0 two.1)

named_in_order : (p q : ℕ × ℕ) → min q.0 q.1 ≡ min p.0 p.1 → max q.0 q.1 ≡ max p.0 p.1 → (p.0 ≡ q.0) ⊎ ((p.0 < q.0) ⊎ (q.0 < p.0)) → is_same_pair p q ≡ true
named_in_order p q low high (inl same) = or_left ((p.0 == q.0) && (p.1 == q.1)) ((p.0 == q.1) && (p.1 == q.0)) (both p.0 p.1 q.0 q.1 same (straight p.0 p.1 q.0 q.1 same low high))
named_in_order p q low high (inr (inl lt)) = turned p q (below p.0 p.1 q.0 q.1 lt low high)
named_in_order p q low high (inr (inr lt)) = turned p q (above p.0 p.1 q.0 q.1 lt low high)

named_from_key : (p q : ℕ × ℕ) → key_of q ≡ key_of p → is_same_pair p q ≡ true
named_from_key p q e = named_in_order p q (ap (λ (k : ℕ × ℕ). k.0) e) (ap (λ (k : ℕ × ℕ). k.1) e) (cases_order p.0 q.0)

turned_low : (a b : ℕ) → min a b ≡ min b a
turned_low a b = omega arith

turned_high : (a b : ℕ) → max a b ≡ max b a
turned_high a b = omega arith

key_in_order : (p q : ℕ × ℕ) → (((p.0 == q.0) && (p.1 == q.1)) ≡ true) ⊎ (((p.0 == q.1) && (p.1 == q.0)) ≡ true) → key_of q ≡ key_of p
key_in_order p q (inl same) =
    let two = and_parts (p.0 == q.0) (p.1 == q.1) same in
    sym (ap₂ (λ (a b : ℕ). key_of (a, b)) (eqb-true p.0 q.0 two.0) (eqb-true p.1 q.1 two.1))
key_in_order p q (inr same) =
    let two = and_parts (p.0 == q.1) (p.1 == q.0) same in
    ap₂ (λ (a b : ℕ). (a, b)) (turned_low q.0 q.1) (turned_high q.0 q.1) ∙ sym (ap₂ (λ (a b : ℕ). key_of (a, b)) (eqb-true p.0 q.1 two.0) (eqb-true p.1 q.0 two.1))

key_from_named : (p q : ℕ × ℕ) → is_same_pair p q ≡ true → key_of q ≡ key_of p
key_from_named p q h = key_in_order p q (or_cases ((p.0 == q.0) && (p.1 == q.1)) ((p.0 == q.1) && (p.1 == q.0)) h)

agree : (x y : Bool) → (x ≡ true → y ≡ true) → (y ≡ true → x ≡ true) → x ≡ y
agree true true there back = refl
agree true false there back = absurd (false≢true (there refl))
agree false true there back = absurd (false≢true (back refl))
agree false false there back = refl

-- pairs whose numbers are equal are the same
from_equal : (p q : ℕ × ℕ) → pair_eq p q ≡ true → p ≡ q
from_equal p q e = let two = and_parts (p.0 == q.0) (p.1 == q.1) e in ap₂ (λ (a b : ℕ). (a, b)) (eqb-true p.0 q.0 two.0) (eqb-true p.1 q.1 two.1)

equal_from : (p q : ℕ × ℕ) → p ≡ q → pair_eq p q ≡ true
equal_from p q e = both p.0 p.1 q.0 q.1 (ap (λ (k : ℕ × ℕ). k.0) e) (ap (λ (k : ℕ × ℕ). k.1) e)

same_key : (p q : ℕ × ℕ) → pair_eq (key_of q) (key_of p) ≡ is_same_pair p q
same_key p q =
    agree (pair_eq (key_of q) (key_of p)) (is_same_pair p q) (λ e. named_from_key p q (from_equal (key_of q) (key_of p) e)) (λ h. equal_from (key_of q) (key_of p) (key_from_named p q h))

-- ---- without pairs

pub no_keys : {S : Type 0} → (keys : HashSet (ℕ × ℕ) S) (pairs : List (ℕ × ℕ)) → keys.keys ≡ [] → pairs ≡ [] → AreKeys keys pairs
no_keys keys pairs none empty a b = ap (λ (ks : List (ℕ × ℕ)). list_any (pair_eq (key_of (a, b))) ks) none ∙ sym (ap (λ (ps : List (ℕ × ℕ)). is_parted ps a b) empty)

-- the same keys represent the same pairs
pub kept_keys : {S : Type 0} → (old new : HashSet (ℕ × ℕ) S) (before after : List (ℕ × ℕ)) → new.keys ≡ old.keys → after ≡ before → AreKeys old before → AreKeys new after
kept_keys old new before after keys pairs h a b =
    ap (λ (ks : List (ℕ × ℕ)). list_any (pair_eq (key_of (a, b))) ks) keys ∙ h a b ∙ sym (ap (λ (ps : List (ℕ × ℕ)). is_parted ps a b) pairs)

-- ---- one more pair

put_in : (same was : Bool) → cond same true was ≡ (was || (same || false))
put_in true true = refl
put_in true false = refl
put_in false true = refl
put_in false false = refl

-- a test of whether two nodes are parted is still right after a pair is added, if it is updated for the key of the pair
pub more_told : (before after : List (ℕ × ℕ)) (pair key : ℕ × ℕ) (was is : Bool) (a b : ℕ) → key ≡ key_of pair → is ≡ cond (pair_eq key (key_of (a, b))) true was → after ≡ before ++ pair ∷ [] → was ≡ is_parted before a b → is ≡ is_parted after a b
more_told before after pair key was is a b key_is update pairs h =
    update ∙ ap (λ (k : ℕ × ℕ). cond (pair_eq k (key_of (a, b))) true was) key_is
    ∙ ap (λ (x : Bool). cond (pair_eq (key_of pair) (key_of (a, b))) true x) h ∙ ap (λ (same : Bool). cond same true (is_parted before a b)) (same_key (a, b) pair) ∙ put_in (is_same_pair (a, b) pair) (is_parted before a b)
    ∙ sym (list_any-append (is_same_pair (a, b)) before (pair ∷ [])) ∙ sym (ap (λ (ps : List (ℕ × ℕ)). is_parted ps a b) pairs)

pub more_keys : {S : Type 0} → (old new : HashSet (ℕ × ℕ) S) (before after : List (ℕ × ℕ)) (pair key : ℕ × ℕ) → key ≡ key_of pair → ((q : ℕ × ℕ) → contains pair_eq new q ≡ cond (pair_eq key q) true (contains pair_eq old q)) → after ≡ before ++ pair ∷ [] → AreKeys old before → AreKeys new after
more_keys old new before after pair key is updates pairs h a b =
    more_told before after pair key (contains pair_eq old (key_of (a, b))) (contains pair_eq new (key_of (a, b))) a b is (updates (key_of (a, b))) pairs (h a b)

-- ---- one pair fewer

-- if p and q name the same two nodes, a third pair names the nodes of p exactly if it names those of q
alike : (p q r : ℕ × ℕ) → is_same_pair p q ≡ true → is_same_pair p r ≡ is_same_pair q r
alike p q r h =
    let same : key_of q ≡ key_of p = key_from_named p q h in
    sym (same_key p r) ∙ ap (λ (k : ℕ × ℕ). pair_eq (key_of r) k) (sym same) ∙ same_key q r

-- if p and q do not name the same two nodes, no pair names the nodes of both
unlike : (p q r : ℕ × ℕ) → is_same_pair p q ≡ false → is_same_pair q r ≡ true → is_same_pair p r ≡ false
unlike p q r apart h =
    false_from_ne_true (is_same_pair p r) (λ e.
    both_ways (is_same_pair p q) apart (named_from_key p q (sym (key_from_named q r h) ∙ key_from_named p r e)))

none_left : (p q : ℕ × ℕ) (pairs : List (ℕ × ℕ)) → is_same_pair p q ≡ true → list_any (is_same_pair p) (filter (λ r. not (is_same_pair q r)) pairs) ≡ false
none_left p q [] h = refl
none_left p q (r ∷ pairs) h = go (none_left p q pairs h) (is_same_pair q r) refl
  where
    go : list_any (is_same_pair p) (filter (λ x. not (is_same_pair q x)) pairs) ≡ false → (b : Bool) → is_same_pair q r ≡ b
        → list_any (is_same_pair p) (cond (not b) (r ∷ filter (λ x. not (is_same_pair q x)) pairs) (filter (λ x. not (is_same_pair q x)) pairs)) ≡ false
    go rest true e = rest
    go rest false e = ap₂ (λ (x y : Bool). x || y) (alike p q r h ∙ e) rest

all_left : (p q : ℕ × ℕ) (pairs : List (ℕ × ℕ)) → is_same_pair p q ≡ false → list_any (is_same_pair p) (filter (λ r. not (is_same_pair q r)) pairs) ≡ list_any (is_same_pair p) pairs
all_left p q [] apart = refl
all_left p q (r ∷ pairs) apart = go (all_left p q pairs apart) (is_same_pair q r) refl
  where
    go : list_any (is_same_pair p) (filter (λ x. not (is_same_pair q x)) pairs) ≡ list_any (is_same_pair p) pairs → (b : Bool) → is_same_pair q r ≡ b
        → list_any (is_same_pair p) (cond (not b) (r ∷ filter (λ x. not (is_same_pair q x)) pairs) (filter (λ x. not (is_same_pair q x)) pairs)) ≡ (is_same_pair p r || list_any (is_same_pair p) pairs)
    go rest true e = rest ∙ ap (λ (x : Bool). x || list_any (is_same_pair p) pairs) (sym (unlike p q r apart e))
    go rest false e = ap (λ (x : Bool). is_same_pair p r || x) rest

taken_out : (p q : ℕ × ℕ) (pairs : List (ℕ × ℕ)) → cond (is_same_pair p q) false (list_any (is_same_pair p) pairs) ≡ list_any (is_same_pair p) (filter (λ r. not (is_same_pair q r)) pairs)
taken_out p q pairs = go (is_same_pair p q) refl
  where
    go : (b : Bool) → is_same_pair p q ≡ b → cond b false (list_any (is_same_pair p) pairs) ≡ list_any (is_same_pair p) (filter (λ r. not (is_same_pair q r)) pairs)
    go true e = sym (none_left p q pairs e)
    go false e = sym (all_left p q pairs e)

-- a test of whether two nodes are parted is still right after a pair is removed, if it is updated for the key of the
-- pair
pub fewer_told : (before after : List (ℕ × ℕ)) (pair key : ℕ × ℕ) (was is : Bool) (a b : ℕ) → key ≡ key_of pair → is ≡ cond (pair_eq key (key_of (a, b))) false was → after ≡ filter (λ r. not (is_same_pair pair r)) before → was ≡ is_parted before a b → is ≡ is_parted after a b
fewer_told before after pair key was is a b key_is update pairs h =
    update ∙ ap (λ (k : ℕ × ℕ). cond (pair_eq k (key_of (a, b))) false was) key_is
    ∙ ap (λ (x : Bool). cond (pair_eq (key_of pair) (key_of (a, b))) false x) h ∙ ap (λ (same : Bool). cond same false (is_parted before a b)) (same_key (a, b) pair) ∙ taken_out (a, b) pair before
    ∙ sym (ap (λ (ps : List (ℕ × ℕ)). is_parted ps a b) pairs)

pub fewer_keys : {S : Type 0} → (old new : HashSet (ℕ × ℕ) S) (before after : List (ℕ × ℕ)) (pair key : ℕ × ℕ) → key ≡ key_of pair → ((q : ℕ × ℕ) → contains pair_eq new q ≡ cond (pair_eq key q) false (contains pair_eq old q)) → after ≡ filter (λ r. not (is_same_pair pair r)) before → AreKeys old before → AreKeys new after
fewer_keys old new before after pair key is updates pairs h a b =
    fewer_told before after pair key (contains pair_eq old (key_of (a, b))) (contains pair_eq new (key_of (a, b))) a b is (updates (key_of (a, b))) pairs (h a b)
