-- The link ends of a node, if all are in ascending order of nodes.
use Rattle.std.proofs.Common.{◌≡◌, refl, sym, ap, ◌∙◌, subst, ℕ, zero, suc, ◌+◌, ◌-◌, ◌<◌, ◌≤◌, ◌==◌, ◌⊎◌, inl, inr, true, false, List, [], ◌∷◌, ◌++◌, length, take, drop, get_or, cond, Some, None, arith, leb, ltb, ltb-true, ltb-false}
use Rattle.std.specs.List.{cons_option}
use Rattle.std.proofs.lemmas.Bool.{cases_Bool, leb-false}
use Rattle.std.proofs.lemmas.Bool.Decides.{nat_tests}
use Rattle.std.proofs.lemmas.List.{append-nil, take-append-drop}
use Rattle.std.proofs.lemmas.List.Elements.{filter_map-append}
use Rattle.tora_script.specs.Trace.{peer_of, neighbours_in}

-- ---- ends that rise

-- the ends so far are in ascending order of nodes
pub rising_on : (ends : List (ℕ × ℕ)) (i : ℕ) → 0 < i → ((j k : ℕ) → j ≤ k → k < i → (get_or ends j (0, 0)).0 ≤ (get_or ends k (0, 0)).0) → (get_or ends (i - 1) (0, 0)).0 ≤ (get_or ends i (0, 0)).0
    → (j k : ℕ) → j ≤ k → k < i + 1 → (get_or ends j (0, 0)).0 ≤ (get_or ends k (0, 0)).0
rising_on ends i some h here j k le lt = go (cases_Bool (ltb k i)) (cases_Bool (ltb j i))
  where
    go : (ltb k i ≡ true) ⊎ (ltb k i ≡ false) → (ltb j i ≡ true) ⊎ (ltb j i ≡ false) → (get_or ends j (0, 0)).0 ≤ (get_or ends k (0, 0)).0
    go (inl e) f = h j k le (ltb-true k i e)
    go (inr e) (inl f) =
        let more : i ≤ k = ltb-false k i e in
        let less : j < i = ltb-true j i f in
        let last : i ≡ k = omega (arith, lt, more) in
        let before : (get_or ends j (0, 0)).0 ≤ (get_or ends (i - 1) (0, 0)).0 = h j (i - 1) (omega (arith, less)) (omega (arith, some)) in
        let both : (get_or ends j (0, 0)).0 ≤ (get_or ends i (0, 0)).0 = omega (arith, before, here) in
        subst (λ m. (get_or ends j (0, 0)).0 ≤ (get_or ends m (0, 0)).0) last both
    go (inr e) (inr f) =
        let more : i ≤ j = ltb-false j i f in
        let same : j ≡ k = omega (arith, le, lt, more) in
        subst (λ m. (get_or ends j (0, 0)).0 ≤ (get_or ends m (0, 0)).0) same (omega arith)

-- ---- ends of other nodes

others-none : (n : ℕ) (ends : List (ℕ × ℕ)) → ((i : ℕ) → i < length ends → ((get_or ends i (0, 0)).0 == n) ≡ false) → neighbours_in ends n ≡ []
others-none n [] other = refl
others-none n (x ∷ ends) other =
    ap (λ b. cons_option (cond b (Some x.1) None) (neighbours_in ends n)) (other zero (omega arith)) ∙ others-none n ends (λ i lt. other (suc i) (omega (arith, lt)))

less-apart : (m n : ℕ) → ltb m n ≡ true → (m == n) ≡ false
less-apart m n e = let lt = ltb-true m n e in grind (arith, nat_tests)

more-apart : (m n : ℕ) → leb m n ≡ false → (m == n) ≡ false
more-apart m n e = let lt = leb-false m n e in grind (arith, nat_tests)

take-read : (ends : List (ℕ × ℕ)) (count i : ℕ) (d : ℕ × ℕ) → i < length (take count ends) → get_or (take count ends) i d ≡ get_or ends i d
take-read [] zero i d lt = absurd (omega (arith, lt))
take-read [] (suc count) i d lt = absurd (omega (arith, lt))
take-read (x ∷ ends) zero i d lt = absurd (omega (arith, lt))
take-read (x ∷ ends) (suc count) zero d lt = refl
take-read (x ∷ ends) (suc count) (suc i) d lt = take-read ends count i d (omega (arith, lt))

take-below : (ends : List (ℕ × ℕ)) (count i : ℕ) → i < length (take count ends) → i < count
take-below [] zero i lt = absurd (omega (arith, lt))
take-below [] (suc count) i lt = absurd (omega (arith, lt))
take-below (x ∷ ends) zero i lt = absurd (omega (arith, lt))
take-below (x ∷ ends) (suc count) zero lt = omega arith
take-below (x ∷ ends) (suc count) (suc i) lt = let less = take-below ends count i (omega (arith, lt)) in omega (arith, less)

-- the first ends are of smaller nodes
pub none_before : (n : ℕ) (ends : List (ℕ × ℕ)) (count : ℕ) → ((i : ℕ) (d : ℕ × ℕ) → 0 ≤ i → i < count → ltb (get_or ends i d).0 n ≡ true) → neighbours_in (take count ends) n ≡ []
none_before n ends count below = others-none n (take count ends) (λ i lt.
    subst (λ (end : ℕ × ℕ). (end.0 == n) ≡ false) (sym (take-read ends count i (0, 0) lt)) (less-apart (get_or ends i (0, 0)).0 n (below i (0, 0) (omega arith) (take-below ends count i lt))))

-- the last ends are of greater nodes
pub none_behind : (n : ℕ) (ends : List (ℕ × ℕ)) (count : ℕ) → ((i : ℕ) (d : ℕ × ℕ) → count ≤ i → i < length ends → leb (get_or ends i d).0 n ≡ false) → neighbours_in (drop count ends) n ≡ []
none_behind n ends zero above = others-none n ends (λ i lt. more-apart (get_or ends i (0, 0)).0 n (above i (0, 0) (omega arith) lt))
none_behind n [] (suc count) above = refl
none_behind n (x ∷ ends) (suc count) above = none_behind n ends count (λ i d le lt. above (suc i) d (omega (arith, le)) (omega (arith, lt)))

-- ---- the rest has all ends of the node

pub ends_between : (n : ℕ) (ends rest own : List (ℕ × ℕ)) (first count : ℕ) → rest ≡ drop first ends → own ≡ take count rest → neighbours_in (take first ends) n ≡ [] → neighbours_in (drop count rest) n ≡ []
    → neighbours_in own n ≡ neighbours_in ends n
ends_between n ends rest own first count rest_is own_is before behind =
    let back : neighbours_in ends n ≡ neighbours_in rest n =
    ap (λ xs. neighbours_in xs n) (sym (take-append-drop first ends)) ∙ filter_map-append (peer_of n) (take first ends) (drop first ends)
    ∙ ap (λ ks. ks ++ neighbours_in (drop first ends) n) before ∙ ap (λ xs. neighbours_in xs n) (sym rest_is) in
    let front : neighbours_in rest n ≡ neighbours_in own n =
    ap (λ xs. neighbours_in xs n) (sym (take-append-drop count rest)) ∙ filter_map-append (peer_of n) (take count rest) (drop count rest)
    ∙ ap (λ ks. neighbours_in (take count rest) n ++ ks) behind ∙ append-nil (neighbours_in (take count rest) n) ∙ ap (λ xs. neighbours_in xs n) (sym own_is) in
    sym (back ∙ front)
