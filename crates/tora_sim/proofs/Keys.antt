-- Items that are found by a test that at most one of them passes.
use Rattle.std.proofs.Common.{◌≡◌, ℕ, zero, suc, ◌<◌, ◌≤◌, Bool, true, false, ◌⊎◌, inl, inr, List, [], ◌∷◌, length, map, get_or, set, slice_get, nat_eq, Option, Some, None, option_map, refl, sym, ap, ap₂, ◌∙◌, subst, arith, cond, find, eqb-true, eq-eqb, Ok, Err, Result, IfSome, IfNone, ltb}
use borrow.Author.Tests.{ltb-true, ltb-false}
use Rattle.std.specs.Result.{result_ok}
use Rattle.std.proofs.lemmas.Bool.Decides.{nat_tests}
use Rattle.std.proofs.lemmas.List.{get_or_default, get_or-map, length-map}
use Rattle.std.proofs.lemmas.Option.{same_Some, slice_get_within, slice_get-map, slice_get-get_or}
use Rattle.std.proofs.lemmas.Bool.{cases_Bool, and_parts, and_from}
use Rattle.std.specs.Ordering.{nat_cmp, ordering_then, ordering_index}
use Rattle.std.specs.declared.cmp.Ordering.{Ordering}
use Rattle.std.specs.declared.cmp.Ordering.TheVariants.{Less, Equal, Greater}
use Rattle.std.specs.List.Sorted.{IsNonDecreasingBy, IsBinarySearchResult, IsSearchInRange}
use Rattle.tora_sim.specs.Keyed.{IsFirst}
use Rattle.tora_sim.specs.Nodes as Nodes
use Rattle.tora_sim.specs.Nodes.{NodeView, is_of}
use Rattle.tora_sim.specs.Links.{LinkView, is_at, is_key, key_of, AreRising, AreRisingKeys, HasKeyBefore, compared}

-- ---- the first item that passes

module _ {A : Type 0} where
  rest : (p : A → Bool) (x : A) (xs : List A) (i : ℕ) → IsFirst p (x ∷ xs) (suc i) → IsFirst p xs i
  rest p x xs i h = record { within = omega (arith, h.within); here = h.here; before = λ j d lt. h.before (suc j) d (omega (arith, lt)) }

  pub found : (p : A → Bool) (xs : List A) (i : ℕ) (x : A) → IsFirst p xs i → slice_get xs i ≡ Some x → find p xs ≡ Some x
  found p [] i x h e = absurd (omega (arith, h.within))
  found p (y ∷ ys) zero x h e = ap (λ b. cond b (Some y) (find p ys)) (h.here y) ∙ e
  found p (y ∷ ys) (suc i) x h e = ap (λ b. cond b (Some y) (find p ys)) (h.before zero y (omega arith)) ∙ found p ys i x (rest p y ys i h) e

  pub found_after : (p : A → Bool) (xs : List A) (i : ℕ) (new : A) → IsFirst p xs i → p new ≡ true → find p (set xs i new) ≡ Some new
  found_after p [] i new h e = absurd (omega (arith, h.within))
  found_after p (y ∷ ys) zero new h e = ap (λ b. cond b (Some new) (find p ys)) e
  found_after p (y ∷ ys) (suc i) new h e = ap (λ b. cond b (Some y) (find p (set ys i new))) (h.before zero y (omega arith)) ∙ found_after p ys i new (rest p y ys i h) e

  -- a search with a test that neither the old nor the new item passes has the same result
  pub other_after : (q : A → Bool) (xs : List A) (i : ℕ) (x new : A) → slice_get xs i ≡ Some x → q x ≡ false → q new ≡ false → find q (set xs i new) ≡ find q xs
  other_after q [] i x new e a b = refl
  other_after q (y ∷ ys) zero x new e a b =
      let y_is : y ≡ x = cc in
      ap (λ c. cond c (Some new) (find q ys)) b ∙ sym (ap (λ c. cond c (Some y) (find q ys)) (ap q y_is ∙ a))
  other_after q (y ∷ ys) (suc i) x new e a b = ap (λ r. cond (q y) (Some y) r) (other_after q ys i x new e a b)

  pub none_found : (p : A → Bool) (xs : List A) → ((j : ℕ) (d : A) → j < length xs → p (get_or xs j d) ≡ false) → find p xs ≡ None
  none_found p [] h = refl
  none_found p (x ∷ xs) h = ap (λ b. cond b (Some x) (find p xs)) (h zero x (omega arith)) ∙ none_found p xs (λ j d lt. h (suc j) d (omega (arith, lt)))

-- ---- ends of links by node and peer

equal_numbers : (a b c d : ℕ) → ordering_then (nat_cmp a b) (nat_cmp c d) ≡ Equal → (a ≡ b) × (c ≡ d)
equal_numbers a b c d e = (grind (arith, nat_tests), grind (arith, nat_tests))

place_here : (n k : ℕ) (link : LinkView) → compared n k link ≡ Equal → is_at n k link ≡ true
place_here n k link e = let h = equal_numbers link.node n link.peer k e in grind (arith, nat_tests)

less_elsewhere : (a b c d : ℕ) → ordering_then (nat_cmp a b) (nat_cmp c d) ≡ Less → (a ≡ b) → (c ≡ d) → ⊥
less_elsewhere a b c d e p q = grind (arith, nat_tests)

greater_elsewhere : (a b c d : ℕ) → ordering_then (nat_cmp a b) (nat_cmp c d) ≡ Greater → (a ≡ b) → (c ≡ d) → ⊥
greater_elsewhere a b c d e p q = grind (arith, nat_tests)

elsewhere : (n k : ℕ) (link : LinkView) → ((link.node ≡ n) → (link.peer ≡ k) → ⊥) → is_at n k link ≡ false
elsewhere n k link h = elim (cases_Bool (is_at n k link)) [ inl e ↦ absurd (let p = and_parts _ _ e in h (eqb-true link.node n p.0) (eqb-true link.peer k p.1)) | inr e ↦ e ]

before_index : (n k a b c d : ℕ) → (a < c) ⊎ ((a ≡ c) × (b < d)) → ordering_index (ordering_then (nat_cmp a n) (nat_cmp b k)) ≤ ordering_index (ordering_then (nat_cmp c n) (nat_cmp d k))
before_index n k a b c d (inl h) = grind (arith, nat_tests)
before_index n k a b c d (inr h) = grind (arith, nat_tests)

pub le_cases : (i j : ℕ) → i ≤ j → (i ≡ j) ⊎ (i < j)
le_cases i j le = elim (cases_Bool (ltb i j)) [ inl e ↦ inr (ltb-true i j e) | inr e ↦ inl (let more = ltb-false i j e in omega arith) ]

lt_cases : (j i : ℕ) → (j < i) ⊎ (i ≤ j)
lt_cases j i = elim (cases_Bool (ltb j i)) [ inl e ↦ inl (ltb-true j i e) | inr e ↦ inr (ltb-false j i e) ]

pub place_first : (n k : ℕ) (links : List LinkView) (i : ℕ) → AreRising links → i < length links → ((d : LinkView) → compared n k (get_or links i d) ≡ Equal) → IsFirst (is_at n k) links i
place_first n k links i h lt e = record {
  within = lt;
  here = λ d. place_here n k (get_or links i d) (e d);
  before = λ j d less. elsewhere n k (get_or links j d) (λ a b.
      let at = equal_numbers (get_or links i d).node n (get_or links i d).peer k (e d) in
      elim (h j i d less lt) [ inl x ↦ (let p = at.0 in let q : (get_or links j d).node < (get_or links i d).node = x in absurd (omega arith)) | inr x ↦ (let p = at.1 in let q = x.1 in absurd (omega arith)) ]);
}

equal_compared : (n k : ℕ) (link : LinkView) → is_at n k link ≡ true → compared n k link ≡ Equal
equal_compared n k link e = let p = and_parts _ _ e in let a = eqb-true link.node n p.0 in let b = eqb-true link.peer k p.1 in grind (arith, nat_tests)

-- the end at an index is the first with its key
pub read_first : (n k : ℕ) (links : List LinkView) (i : ℕ) (x : LinkView) → AreRising links → i < length links → x ≡ get_or links i x → is_at n k x ≡ true → IsFirst (is_at n k) links i
read_first n k links i x h lt read e = place_first n k links i h lt (λ d. equal_compared n k (get_or links i d) (subst (λ y. is_at n k y ≡ true) (read ∙ get_or_default links i x d lt) e))

-- ---- their keys

abbrev key_compared : ℕ → ℕ → ℕ × ℕ → Ordering
key_compared n k key = ordering_then (nat_cmp key.0 n) (nat_cmp key.1 k)

same_key : (n k : ℕ) (key : ℕ × ℕ) → (key.0 ≡ n) → (key.1 ≡ k) → key ≡ (n, k)
same_key n k key a b = ap₂ (λ (x y : ℕ). (x, y)) a b

pub key_is : (n k : ℕ) (key : ℕ × ℕ) → is_key n k key ≡ true → key ≡ (n, k)
key_is n k key e = let p = and_parts (nat_eq key.0 n) (nat_eq key.1 k) e in same_key n k key (eqb-true key.0 n p.0) (eqb-true key.1 k p.1)

pub is_its_key : (n k : ℕ) (key : ℕ × ℕ) → key ≡ (n, k) → is_key n k key ≡ true
is_its_key n k key e = and_from (nat_eq key.0 n) (nat_eq key.1 k) (eq-eqb key.0 n (ap (λ (x : ℕ × ℕ). x.0) e)) (eq-eqb key.1 k (ap (λ (x : ℕ × ℕ). x.1) e))

key_elsewhere : (n k : ℕ) (key : ℕ × ℕ) → ((key.0 ≡ n) → (key.1 ≡ k) → ⊥) → is_key n k key ≡ false
key_elsewhere n k key h = elim (cases_Bool (is_key n k key)) [ inl e ↦ absurd (let p = and_parts (nat_eq key.0 n) (nat_eq key.1 k) e in h (eqb-true key.0 n p.0) (eqb-true key.1 k p.1)) | inr e ↦ e ]

key_indexes : (n k : ℕ) (keys : List (ℕ × ℕ)) → AreRisingKeys keys → IsNonDecreasingBy (λ y. ordering_index (key_compared n k y)) keys
key_indexes n k keys h i j d le lt = elim (le_cases i j le) [
  | inl e ↦ subst (λ m. ordering_index (key_compared n k (get_or keys i d)) ≤ ordering_index (key_compared n k (get_or keys m d))) e (omega arith)
  | inr less ↦ before_index n k (get_or keys i d).0 (get_or keys i d).1 (get_or keys j d).0 (get_or keys j d).1 (h i j d less lt)
]

pub key_found : (n k : ℕ) (keys : List (ℕ × ℕ)) (r : Result ℕ ℕ) → IsSearchInRange r (length keys) → IsBinarySearchResult (key_compared n k) keys r → IfSome (result_ok r) (λ i. slice_get keys i ≡ Some (n, k))
key_found n k keys (Ok i) lt e =
    let key = get_or keys i (0, 0) in
    let at = equal_numbers key.0 n key.1 k (e (0, 0)) in
    slice_get-get_or keys i (0, 0) lt ∙ ap (λ (x : ℕ × ℕ). Some x) (same_key n k key at.0 at.1)
key_found n k keys (Err i) lt e = tt

no_key : (n k : ℕ) (keys : List (ℕ × ℕ)) (i : ℕ) → AreRisingKeys keys → IsBinarySearchResult (key_compared n k) keys (Err i) → find (is_key n k) keys ≡ None
no_key n k keys i h e =
    let parts = e (key_indexes n k keys h) in
    none_found (is_key n k) keys (λ j d lt. key_elsewhere n k (get_or keys j d) (λ a b.
    elim (lt_cases j i) [
      | inl less ↦ less_elsewhere (get_or keys j d).0 n (get_or keys j d).1 k (parts.0 j d (omega arith) less) a b
      | inr more ↦ greater_elsewhere (get_or keys j d).0 n (get_or keys j d).1 k (parts.1 j d more lt) a b
    ]))

pub key_not_found : (n k : ℕ) (keys : List (ℕ × ℕ)) (r : Result ℕ ℕ) → AreRisingKeys keys → IsBinarySearchResult (key_compared n k) keys r → IfNone (result_ok r) (find (is_key n k) keys ≡ None)
key_not_found n k keys (Ok i) h e = tt
key_not_found n k keys (Err i) h e = no_key n k keys i h e

-- ---- the ends by their keys

some_at : (links : List LinkView) (i : ℕ) → i < length links → (x : LinkView) × (slice_get links i ≡ Some x)
some_at [] i lt = absurd (omega (arith, lt))
some_at (x ∷ links) zero lt = (x, refl)
some_at (x ∷ links) (suc i) lt = some_at links i (omega (arith, lt))

pub keys_rise : (links : List LinkView) → AreRising links → AreRisingKeys (map key_of links)
keys_rise links h i j d less lt =
    let within : j < length links = omega (arith, lt, length-map links key_of) in
    let x = (some_at links j within).0 in
    subst (λ (a : ℕ × ℕ). HasKeyBefore a (get_or (map key_of links) j d)) (sym (get_or-map key_of links i x d (omega (arith, less, within))))
    (subst (λ (b : ℕ × ℕ). HasKeyBefore (key_of (get_or links i x)) b) (sym (get_or-map key_of links j x d within)) (h i j x less within))

found_step : (x : LinkView) (b : Bool) (key : Option (ℕ × ℕ)) (link : Option LinkView) → key ≡ option_map key_of link → cond b (Some (key_of x)) key ≡ option_map key_of (cond b (Some x) link)
found_step x true key link e = refl
found_step x false key link e = e

found_mapped : (n k : ℕ) (links : List LinkView) → find (is_key n k) (map key_of links) ≡ option_map key_of (find (is_at n k) links)
found_mapped n k [] = refl
found_mapped n k (x ∷ links) = found_step x (is_at n k x) (find (is_key n k) (map key_of links)) (find (is_at n k) links) (found_mapped n k links)

not_mapped : (o : Option LinkView) → option_map key_of o ≡ None → o ≡ None
not_mapped None e = refl
not_mapped (Some x) e = absurd (let some : Some (x.node, x.peer) ≡ None = e in cc)

module _ (n k : ℕ) (links : List LinkView) (keys : List (ℕ × ℕ)) (same : keys ≡ map key_of links) where
  pub first_by_key : (i : ℕ) → AreRising links → slice_get keys i ≡ Some (n, k) → IsFirst (is_at n k) links i
  first_by_key i h there = go (slice_get links i) refl (sym (slice_get-map key_of links i) ∙ ap (λ (ks : List (ℕ × ℕ)). slice_get ks i) (sym same) ∙ there)
    where
      go : (o : Option LinkView) → slice_get links i ≡ o → option_map key_of o ≡ Some (n, k) → IsFirst (is_at n k) links i
      go None read e = absurd (let none : None ≡ Some (n, k) = e in cc)
      go (Some x) read e =
          let key : Some (x.node, x.peer) ≡ Some (n, k) = e in
          let lt = slice_get_within links i x read in
          let value : x ≡ get_or links i x = same_Some x (get_or links i x) (sym read ∙ slice_get-get_or links i x lt) in
          read_first n k links i x h lt value (is_its_key n k (x.node, x.peer) (same_Some (x.node, x.peer) (n, k) key))

  pub found_by_key : (o : Option ℕ) → AreRising links → IfSome o (λ i. slice_get keys i ≡ Some (n, k)) → IfSome o (IsFirst (is_at n k) links)
  found_by_key None h e = tt
  found_by_key (Some i) h e = first_by_key i h e

  pub none_by_key : (o : Option ℕ) → IfNone o (find (is_key n k) keys ≡ None) → IfNone o (find (is_at n k) links ≡ None)
  none_by_key None e = not_mapped (find (is_at n k) links) (sym (found_mapped n k links) ∙ ap (find (is_key n k)) (sym same) ∙ e)
  none_by_key (Some i) e = tt

-- ---- nodes

abbrev ordered : ℕ → NodeView → Ordering
ordered n node = nat_cmp node.node n

node_equal : (a n : ℕ) → nat_cmp a n ≡ Equal → a ≡ n
node_equal a n e = grind (arith, nat_tests)

node_less : (a n : ℕ) → nat_cmp a n ≡ Less → a ≡ n → ⊥
node_less a n e p = grind (arith, nat_tests)

node_greater : (a n : ℕ) → nat_cmp a n ≡ Greater → a ≡ n → ⊥
node_greater a n e p = grind (arith, nat_tests)

node_index : (n a b : ℕ) → a < b → ordering_index (nat_cmp a n) ≤ ordering_index (nat_cmp b n)
node_index n a b lt = grind (arith, nat_tests)

node_elsewhere : (n : ℕ) (node : NodeView) → (node.node ≡ n → ⊥) → is_of n node ≡ false
node_elsewhere n node h = elim (cases_Bool (is_of n node)) [ inl e ↦ absurd (h (eqb-true node.node n e)) | inr e ↦ e ]

node_indexes : (n : ℕ) (nodes : List NodeView) → Nodes.AreRising nodes → IsNonDecreasingBy (λ y. ordering_index (ordered n y)) nodes
node_indexes n nodes h i j d le lt = elim (le_cases i j le) [
  | inl e ↦ subst (λ m. ordering_index (ordered n (get_or nodes i d)) ≤ ordering_index (ordered n (get_or nodes m d))) e (omega arith)
  | inr less ↦ node_index n (get_or nodes i d).node (get_or nodes j d).node (h i j d less lt)
]

node_first : (n : ℕ) (nodes : List NodeView) (i : ℕ) → Nodes.AreRising nodes → i < length nodes → ((d : NodeView) → ordered n (get_or nodes i d) ≡ Equal) → IsFirst (is_of n) nodes i
node_first n nodes i h lt e = record {
  within = lt;
  here = λ d. eq-eqb (get_or nodes i d).node n (node_equal (get_or nodes i d).node n (e d));
  before = λ j d less. node_elsewhere n (get_or nodes j d) (λ a.
      let p = node_equal (get_or nodes i d).node n (e d) in
      let q : (get_or nodes j d).node < (get_or nodes i d).node = h j i d less lt in
      absurd (omega arith));
}

node_compared : (n : ℕ) (node : NodeView) → is_of n node ≡ true → ordered n node ≡ Equal
node_compared n node e = let a = eqb-true node.node n e in grind (arith, nat_tests)

-- the node at an index is the first with its number
pub read_first_node : (n : ℕ) (nodes : List NodeView) (i : ℕ) (x : NodeView) → Nodes.AreRising nodes → i < length nodes → x ≡ get_or nodes i x → is_of n x ≡ true → IsFirst (is_of n) nodes i
read_first_node n nodes i x h lt read e = node_first n nodes i h lt (λ d. node_compared n (get_or nodes i d) (subst (λ y. is_of n y ≡ true) (read ∙ get_or_default nodes i x d lt) e))

node_none : (n : ℕ) (nodes : List NodeView) (i : ℕ) → Nodes.AreRising nodes → IsBinarySearchResult (ordered n) nodes (Err i) → find (is_of n) nodes ≡ None
node_none n nodes i h e =
    let parts = e (node_indexes n nodes h) in
    none_found (is_of n) nodes (λ j d lt. node_elsewhere n (get_or nodes j d) (λ a.
    elim (lt_cases j i) [
      | inl less ↦ node_less (get_or nodes j d).node n (parts.0 j d (omega arith) less) a
      | inr more ↦ node_greater (get_or nodes j d).node n (parts.1 j d more lt) a
    ]))

pub node_placed : (n : ℕ) (nodes : List NodeView) (r : Result ℕ ℕ) → Nodes.AreRising nodes → IsSearchInRange r (length nodes) → IsBinarySearchResult (ordered n) nodes r → IfSome (result_ok r) (IsFirst (is_of n) nodes)
node_placed n nodes (Ok i) h lt e = node_first n nodes i h lt e
node_placed n nodes (Err i) h lt e = tt

pub node_not_placed : (n : ℕ) (nodes : List NodeView) (r : Result ℕ ℕ) → Nodes.AreRising nodes → IsBinarySearchResult (ordered n) nodes r → IfNone (result_ok r) (find (is_of n) nodes ≡ None)
node_not_placed n nodes (Ok i) h e = tt
node_not_placed n nodes (Err i) h e = node_none n nodes i h e
