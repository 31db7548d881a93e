-- Which links are up.
use Rattle.std.proofs.Common.{◌≡◌, ℕ, suc, ◌+◌, ◌<◌, ◌≤◌, Bool, true, false, true≢false, not, ◌&&◌, ◌||◌, ◌⊎◌, inl, inr, ⊎_elim, List, [], ◌∷◌, length, Some, None, nat_eq, if◌then◌else◌, refl, sym, ap, ◌∙◌, subst, arith, eqb-true, eq-eqb}
use Rattle.std.proofs.lemmas.Bool.{cond_both, cases_Bool, and_parts, or_cases, or_right}
use Rattle.std.specs.Prelude.{is_none, is_some}
use Rattle.tora_core.specs.declared.Input.{Input}
use Rattle.tora_core.specs.declared.Input.TheVariants as In
use Rattle.tora_core.specs.declared.errors.StepError.TheVariants as Fault
use Rattle.tora_core.specs.Numbers.{has_number, without_number}
use Rattle.tora_core.specs.CoreRun.{CoreView, refusal_of, up_after, core_after, core_taking}
use Rattle.tora_core.proofs.AfterInputs.{has-with, has-without}
use Rattle.tora_seat.specs.Serving.{SeatState, first_cut}
use Rattle.tora_seat.specs.SeatLaws.{is_link_down}
use Rattle.tora_seat.proofs.Places.{turned}

pub has-gone : (k : ℕ) (ns : List ℕ) → has_number k (without_number k ns) ≡ false
has-gone k ns = has-without k k ns ∙ ap (λ b. not b && has_number k ns) (eq-eqb k k refl)

-- removing another number keeps this number
pub has-other : (k m : ℕ) (ns : List ℕ) → nat_eq m k ≡ false → has_number k (without_number m ns) ≡ has_number k ns
has-other k m ns off = has-without k m ns ∙ ap (λ b. not b && has_number k ns) off

-- ---- the links that are up after an input

abbrev pub is_link_up : ℕ → Input → Bool
is_link_up k (In.LinkUp j) = nat_eq j k
is_link_up k (In.LinkDown j) = false
is_link_up k (In.Packet j packet) = false
is_link_up k (In.Need d) = false

pub up_same : (k : ℕ) (up : List ℕ) (input : Input) → is_link_up k input ≡ false → is_link_down k input ≡ false → has_number k (up_after up input) ≡ has_number k up
up_same k up (In.LinkUp j) a b = has-with k j up ∙ ap (λ x. x || has_number k up) a
up_same k up (In.LinkDown j) a b = has-other k j up b
up_same k up (In.Packet j packet) a b = refl
up_same k up (In.Need d) a b = refl

pub up_come : (k : ℕ) (up : List ℕ) → has_number k (up_after up (In.LinkUp k)) ≡ true
up_come k up = has-with k k up ∙ ap (λ x. x || has_number k up) (eq-eqb k k refl)

pub up_gone : (k : ℕ) (up : List ℕ) (input : Input) → is_link_down k input ≡ true → has_number k (up_after up input) ≡ false
up_gone k up (In.LinkUp j) e = absurd (true≢false (sym e))
up_gone k up (In.LinkDown j) e = subst (λ x. has_number k (without_number x up) ≡ false) (sym (eqb-true j k e)) (has-gone k up)
up_gone k up (In.Packet j packet) e = absurd (true≢false (sym e))
up_gone k up (In.Need d) e = absurd (true≢false (sym e))

pub not_both : (k : ℕ) (input : Input) → is_link_down k input ≡ true → is_link_up k input ≡ false
not_both k (In.LinkUp j) e = absurd (true≢false (sym e))
not_both k (In.LinkDown j) e = refl
not_both k (In.Packet j packet) e = refl
not_both k (In.Need d) e = refl

-- the core accepts an input
pub core_accepted : (c : CoreView) (input : Input) (now : ℕ) → refusal_of c input ≡ None → core_after c input now ≡ core_taking c input now
core_accepted c input now e = ap (λ o. if is_some o then c else core_taking c input now) e

pub up_accepted : (c : CoreView) (k : ℕ) → has_number k c.neighbours ≡ true → has_number k c.up ≡ false → refusal_of c (In.LinkUp k) ≡ None
up_accepted c k a b =
    ap (λ x. if not x then Some Fault.UnknownNeighbour else if has_number k c.up then Some Fault.AlreadyUp else None) a
    ∙ ap (λ x. if x then Some Fault.AlreadyUp else None) b

pub down_accepted : (c : CoreView) (k : ℕ) → has_number k c.neighbours ≡ true → has_number k c.up ≡ true → refusal_of c (In.LinkDown k) ≡ None
down_accepted c k a b =
    ap (λ x. if not x then Some Fault.UnknownNeighbour else if not (has_number k c.up) then Some Fault.NotUp else None) a
    ∙ ap (λ x. if not x then Some Fault.NotUp else None) b

-- ---- how many neighbours are up

abbrev pub one_if : Bool → ℕ
one_if b = if b then 1 else 0

abbrev pub count_up : List ℕ → List ℕ → ℕ
count_up [] up = 0
count_up (k ∷ ks) up = one_if (has_number k up) + count_up ks up

pub count_most : (ks up : List ℕ) → count_up ks up ≤ length ks
count_most [] up = omega arith
count_most (k ∷ ks) up = let h = count_most ks up in cond_both (has_number k up) 1 0 (λ x. x + count_up ks up ≤ suc (length ks)) (λ _. omega (arith, h)) (λ _. omega (arith, h))

-- a number that is removed is not counted any more
count_less : (ks up : List ℕ) (j : ℕ) → count_up ks (without_number j up) ≤ count_up ks up
count_less [] up j = omega arith
count_less (k ∷ ks) up j =
    let h = count_less ks up j in
    ⊎_elim
    (λ (e : nat_eq j k ≡ true). let g : has_number k (without_number j up) ≡ false = subst (λ x. has_number k (without_number x up) ≡ false) (sym (eqb-true j k e)) (has-gone k up) in
    let q : one_if (has_number k (without_number j up)) ≡ 0 = ap one_if g in omega (arith, h, q))
    (λ (e : nat_eq j k ≡ false). let q : one_if (has_number k (without_number j up)) ≡ one_if (has_number k up) = ap one_if (has-other k j up e) in omega (arith, h, q))
    (cases_Bool (nat_eq j k))

pub count_drops : (ks up : List ℕ) (j : ℕ) → has_number j ks ≡ true → has_number j up ≡ true → count_up ks (without_number j up) < count_up ks up
count_drops [] up j i u = absurd (true≢false (sym i))
count_drops (k ∷ ks) up j i u = go (cases_Bool (nat_eq k j)) (λ m. count_drops ks up j m u)
  where
    go : (nat_eq k j ≡ true) ⊎ (nat_eq k j ≡ false) → (has_number j ks ≡ true → count_up ks (without_number j up) < count_up ks up) → count_up (k ∷ ks) (without_number j up) < count_up (k ∷ ks) up
    go (inl e) again =
        let q : one_if (has_number k (without_number j up)) ≡ 0 = ap one_if (subst (λ x. has_number x (without_number j up) ≡ false) (sym (eqb-true k j e)) (has-gone j up)) in
        let r : one_if (has_number k up) ≡ 1 = ap one_if (subst (λ x. has_number x up ≡ true) (sym (eqb-true k j e)) u) in
        let h = count_less ks up j in omega (arith, q, r, h)
    go (inr e) again =
        let off : nat_eq j k ≡ false = turned k j e in
        let q : one_if (has_number k (without_number j up)) ≡ one_if (has_number k up) = ap one_if (has-other k j up off) in
        let m : has_number j ks ≡ true = ap (λ b. b || has_number j ks) (sym e) ∙ i in
        let h = again m in omega (arith, q, h)

-- ---- the neighbours whose links have to go down

pub first_cut_is : (s : SeatState) (ks : List ℕ) (j : ℕ) → first_cut s ks ≡ Some j → (has_number j ks ≡ true) × (has_number j s.core.up ≡ true) × (is_none (s.current j) ≡ true)
first_cut_is s [] j e = absurd (cc)
first_cut_is s (k ∷ ks) j e = go (cases_Bool (has_number k s.core.up && is_none (s.current k))) (λ q. first_cut_is s ks j q)
  where
    go : ((has_number k s.core.up && is_none (s.current k)) ≡ true) ⊎ ((has_number k s.core.up && is_none (s.current k)) ≡ false) →
        (first_cut s ks ≡ Some j → (has_number j ks ≡ true) × (has_number j s.core.up ≡ true) × (is_none (s.current j) ≡ true)) → (has_number j (k ∷ ks) ≡ true) × (has_number j s.core.up ≡ true) × (is_none (s.current j) ≡ true)
    go (inl t) again =
        let q : Some k ≡ Some j = sym (ap (λ b. if b then Some k else first_cut s ks) t) ∙ e in
        let z : k ≡ j = cc in
        let h = and_parts _ _ t in
        (ap (λ b. b || has_number j ks) (eq-eqb k j z), subst (λ x. has_number x s.core.up ≡ true) z h.0, subst (λ x. is_none (s.current x) ≡ true) z h.1)
    go (inr t) again =
        let h = again (sym (ap (λ b. if b then Some k else first_cut s ks) t) ∙ e) in
        (ap (λ b. nat_eq k j || b) h.0 ∙ or_right (nat_eq k j) true refl, h.1, h.2)

pub first_cut_none : (s : SeatState) (ks : List ℕ) → count_up ks s.core.up ≤ 0 → first_cut s ks ≡ None
first_cut_none s [] h = refl
first_cut_none s (k ∷ ks) h = go (cases_Bool (has_number k s.core.up)) (λ m. first_cut_none s ks m)
  where
    go : (has_number k s.core.up ≡ true) ⊎ (has_number k s.core.up ≡ false) → (count_up ks s.core.up ≤ 0 → first_cut s ks ≡ None) → first_cut s (k ∷ ks) ≡ None
    go (inl t) again = absurd (let q : one_if (has_number k s.core.up) ≡ 1 = ap one_if t in omega (arith, h, q))
    go (inr t) again = ap (λ b. if b && is_none (s.current k) then Some k else first_cut s ks) t ∙ again (omega (arith, h))

-- if no link has to go down, a neighbour without a current session is not up
pub settled_at : (s : SeatState) (ks : List ℕ) (k : ℕ) → first_cut s ks ≡ None → has_number k ks ≡ true → s.current k ≡ None → has_number k s.core.up ≡ false
settled_at s [] k e i n = absurd (true≢false (sym i))
settled_at s (j ∷ js) k e i n = go (cases_Bool (has_number j s.core.up && is_none (s.current j))) (λ q m. settled_at s js k q m n)
  where
    go : ((has_number j s.core.up && is_none (s.current j)) ≡ true) ⊎ ((has_number j s.core.up && is_none (s.current j)) ≡ false) → (first_cut s js ≡ None → has_number k js ≡ true → has_number k s.core.up ≡ false) → has_number k s.core.up ≡ false
    go (inl t) again = absurd (let q : Some j ≡ None = sym (ap (λ b. if b then Some j else first_cut s js) t) ∙ e in cc)
    go (inr t) again =
        ⊎_elim
        (λ (q : nat_eq j k ≡ true). ⊎_elim
        (λ (u : has_number k s.core.up ≡ true). absurd (true≢false (sym (subst (λ x. (has_number x s.core.up && is_none (s.current x)) ≡ true) (sym (eqb-true j k q)) (ap (λ b. b && is_none (s.current k)) u ∙ ap is_none n)) ∙ t)))
        (λ (u : has_number k s.core.up ≡ false). u)
        (cases_Bool (has_number k s.core.up)))
        (λ (m : has_number k js ≡ true). again (sym (ap (λ b. if b then Some j else first_cut s js) t) ∙ e) m)
        (or_cases (nat_eq j k) (has_number k js) i)
