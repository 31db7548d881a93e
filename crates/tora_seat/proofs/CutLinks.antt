-- The meaning of the tests in serving: which session is current, and which link goes down next.
use Rattle.std.proofs.Common.{◌≡◌, ◌≢◌, ℕ, ◌<◌, ◌≤◌, true, false, true≢false, ◌&&◌, ◌⊎◌, inl, inr, ⊎_elim, List, [], ◌∷◌, Option, Some, None, nat_eq, if◌then◌else◌, refl, sym, ap, ◌∙◌, subst, arith, eqb-true, eq-eqb}
use Rattle.std.proofs.lemmas.Bool.{cases_Bool, and_parts, and_from, false≢true, or_cases}
use Rattle.std.specs.Prelude.{is_none}
use Rattle.std.specs.List.{AllByRecursion}
use Rattle.tora_arq.specs.declared.life.Life.{Life}
use Rattle.tora_arq.specs.Lives.{is_same_life}
use Rattle.tora_core.specs.Numbers.{has_number, IsAscending}
use Rattle.tora_seat.specs.Serving.{SeatState, first_cut, is_current}
use Rattle.tora_seat.specs.Serves.{IsCut, IsLeastCut}
use Rattle.tora_seat.proofs.Ups.{first_cut_is, settled_at}

-- ---- sessions

same_life : (a b : Life) → is_same_life a b ≡ true → a ≡ b
same_life a b e =
    let h = and_parts _ _ e in
    let p : a.own ≡ b.own = eqb-true _ _ h.0 in
    let q : a.peer ≡ b.peer = eqb-true _ _ h.1 in
    λ i. record { own = p i; peer = q i }

own_life : (life : Life) → is_same_life life life ≡ true
own_life life = and_from _ _ (eq-eqb life.own life.own refl) (eq-eqb life.peer life.peer refl)

pub current-is : (life : Life) (o : Option Life) → is_current life o ≡ true → o ≡ Some life
current-is life None e = absurd (false≢true e)
current-is life (Some other) e = ap Some (sym (same_life life other e))

pub is-current : (life : Life) (o : Option Life) → o ≡ Some life → is_current life o ≡ true
is-current life o e = subst (λ x. is_current life x ≡ true) (sym e) (own_life life)

pub current-not : (life : Life) (o : Option Life) → is_current life o ≡ false → o ≢ Some life
current-not life o e q = true≢false (sym (is-current life o q) ∙ e)

pub not-current : (life : Life) (o : Option Life) → o ≢ Some life → is_current life o ≡ false
not-current life o n = ⊎_elim (λ (t : is_current life o ≡ true). absurd (n (current-is life o t))) (λ (f : is_current life o ≡ false). f) (cases_Bool (is_current life o))

-- ---- the least neighbour whose session was cut

pub none-is : (o : Option Life) → is_none o ≡ true → o ≡ None
none-is None e = refl
none-is (Some life) e = absurd (false≢true e)

-- in an ascending list the first number is less than every other
after_first : (i : ℕ) (ks : List ℕ) (j : ℕ) → AllByRecursion (λ (m : ℕ). i < m) ks → has_number j ks ≡ true → i < j
after_first i [] j all e = absurd (true≢false (sym e))
after_first i (m ∷ ks) j all e =
    ⊎_elim
    (λ (q : nat_eq m j ≡ true). subst (λ x. i < x) (eqb-true m j q) all.0)
    (λ (r : has_number j ks ≡ true). after_first i ks j all.1 r)
    (or_cases (nat_eq m j) (has_number j ks) e)

first_least : (s : SeatState) (ks : List ℕ) (k : ℕ) → IsAscending ks → first_cut s ks ≡ Some k → (j : ℕ) → has_number j ks ≡ true → has_number j s.core.up ≡ true → s.current j ≡ None → k ≤ j
first_least s [] k up e j i u n = absurd (cc)
first_least s (m ∷ ks) k up e j i u n = go (cases_Bool (has_number m s.core.up && is_none (s.current m))) (λ q r. first_least s ks k up.1 q j r u n)
  where
    go : ((has_number m s.core.up && is_none (s.current m)) ≡ true) ⊎ ((has_number m s.core.up && is_none (s.current m)) ≡ false) → (first_cut s ks ≡ Some k → has_number j ks ≡ true → k ≤ j) → k ≤ j
    go (inl t) again =
        let q : Some m ≡ Some k = sym (ap (λ b. if b then Some m else first_cut s ks) t) ∙ e in
        let z : m ≡ k = cc in
        ⊎_elim
        (λ (w : nat_eq m j ≡ true). let y = eqb-true m j w in omega (arith, z, y))
        (λ (w : has_number j ks ≡ true). let y = after_first m ks j up.0 w in omega (arith, z, y))
        (or_cases (nat_eq m j) (has_number j ks) i)
    go (inr f) again =
        ⊎_elim
        (λ (w : nat_eq m j ≡ true).
        let c : (has_number j s.core.up && is_none (s.current j)) ≡ true = ap (λ b. b && is_none (s.current j)) u ∙ ap is_none n in
        absurd (true≢false (sym (subst (λ x. (has_number x s.core.up && is_none (s.current x)) ≡ true) (sym (eqb-true m j w)) c) ∙ f)))
        (λ (w : has_number j ks ≡ true). again (sym (ap (λ b. if b then Some m else first_cut s ks) f) ∙ e) w)
        (or_cases (nat_eq m j) (has_number j ks) i)

pub first-is : (ks : List ℕ) (s : SeatState) (k : ℕ) → IsAscending ks → first_cut s ks ≡ Some k → IsLeastCut ks s k
first-is ks s k up e =
    let h = first_cut_is s ks k e in record {
      cut = record { neighbour = h.0; up = h.1; none = none-is (s.current k) h.2 };
      least = λ j c. first_least s ks k up e j c.neighbour c.up c.none;
    }

pub first-none : (ks : List ℕ) (s : SeatState) → first_cut s ks ≡ None → (k : ℕ) → ¬ IsCut ks s k
first-none ks s e k c = true≢false (sym c.up ∙ settled_at s ks k e c.neighbour c.none)

pub least-first : (ks : List ℕ) (s : SeatState) (k : ℕ) → IsAscending ks → IsLeastCut ks s k → first_cut s ks ≡ Some k
least-first ks s k up h = go (first_cut s ks) refl
  where
    go : (o : Option ℕ) → first_cut s ks ≡ o → first_cut s ks ≡ Some k
    go None e = absurd (first-none ks s e k h.cut)
    go (Some j) e =
        let c = first-is ks s j up e in
        let a = h.least j c.cut in
        let b = c.least k h.cut in
        let z : j ≡ k = omega (arith, a, b) in
        e ∙ ap Some z

pub none-first : (ks : List ℕ) (s : SeatState) → IsAscending ks → ((k : ℕ) → ¬ IsCut ks s k) → first_cut s ks ≡ None
none-first ks s up n = go (first_cut s ks) refl
  where
    go : (o : Option ℕ) → first_cut s ks ≡ o → first_cut s ks ≡ None
    go None e = e
    go (Some j) e = absurd (n j (first-is ks s j up e).cut)
