-- Neighbours by their places, and the links at these places.
use Rattle.std.proofs.Common.{◌≡◌, ◌<◌, ◌≤◌, ℕ, zero, suc, Bool, true, false, true≢false, List, [], ◌∷◌, ◌++◌, length, Option, Some, None, nat_eq, nat_lt, ◌||◌, if◌then◌else◌, refl, sym, ap, ap₂, ◌∙◌, subst, append_assoc, append-nil, eqb-true, eq-eqb, arith}
use Rattle.std.proofs.lemmas.Bool.{cond_both, false_from_ne_true, or_right, or_parts}
use Rattle.std.proofs.lemmas.Bool.Decides.{nat_tests}
use Rattle.std.specs.List.{AllByRecursion}
use Rattle.std.specs.Prelude.{slice_get, is_some, fold}
use Rattle.tora_arq.specs.EndRange.{LinkEndView}
use Rattle.tora_core.specs.Numbers.{has_number, has_repeat, with_number, ascending}
use Rattle.tora_core.proofs.NumberLemmas.{all-with_number}
use Rattle.tora_seat.specs.Offers.{place_of}
use Rattle.tora_router.specs.declared.link.Link.{Link}
use Rattle.tora_router.specs.Links.{at_place, first_in, found_at}
use Rattle.tora_running.specs.RouterLaws.{AreEnds}

abbrev pub value_or : {A : Type 0} → A → Option A → A
value_or x None = x
value_or x (Some y) = y

pub not_none : {A : Type 0} {B : Type 0} (x : A) → None ≡ Some x → B
not_none x e = absurd (true≢false (sym (ap is_some e)))

-- ---- numbers

pub turned : (a b : ℕ) → nat_eq a b ≡ false → nat_eq b a ≡ false
turned a b e = false_from_ne_true (nat_eq b a) (λ q. true≢false (sym (eq-eqb a b (sym (eqb-true b a q))) ∙ e))

pub number_at : (k place : ℕ) (ks : List ℕ) → slice_get ks place ≡ Some k → has_number k ks ≡ true
number_at k place [] e = not_none k e
number_at k zero (x ∷ ks) e = ap (λ b. b || has_number k ks) (eq-eqb x k (ap (value_or x) e))
number_at k (suc place) (x ∷ ks) e = or_right (nat_eq x k) (has_number k ks) (number_at k place ks e)

-- a number further on in the list differs from the first
other_first : (x k : ℕ) (ks : List ℕ) → has_repeat (x ∷ ks) ≡ false → has_number k ks ≡ true → nat_eq x k ≡ false
other_first x k ks once i =
    false_from_ne_true (nat_eq x k) (λ q. true≢false (sym (subst (λ (y : ℕ). has_number y ks ≡ true) (sym (eqb-true x k q)) i) ∙ (or_parts (has_number x ks) (has_repeat ks) once).0))

pub place_at : (k place : ℕ) (ks : List ℕ) → has_repeat ks ≡ false → slice_get ks place ≡ Some k → place_of k ks ≡ place
place_at k place [] once e = not_none k e
place_at k zero (x ∷ ks) once e = ap (λ b. if b then 0 else suc (place_of k ks)) (eq-eqb x k (ap (value_or x) e))
place_at k (suc place) (x ∷ ks) once e =
    ap (λ b. if b then 0 else suc (place_of k ks)) (other_first x k ks once (number_at k place ks e)) ∙ ap suc (place_at k place ks (or_parts (has_number x ks) (has_repeat ks) once).1 e)

pub at_place_of : (k : ℕ) (ks : List ℕ) → has_number k ks ≡ true → slice_get ks (place_of k ks) ≡ Some k
at_place_of k [] i = absurd (true≢false (sym i))
at_place_of k (x ∷ ks) i = go (nat_eq x k) refl (λ j. at_place_of k ks j)
  where
    go : (b : Bool) → nat_eq x k ≡ b → (has_number k ks ≡ true → slice_get ks (place_of k ks) ≡ Some k) → slice_get (x ∷ ks) (if b then 0 else suc (place_of k ks)) ≡ Some k
    go true q more = ap Some (eqb-true x k q)
    go false q more = more (sym (ap (λ b. b || has_number k ks) q) ∙ i)

-- ---- numbers in order

abbrev IsInOrder : List ℕ → Type 0
IsInOrder [] = Unit {0}
IsInOrder (n ∷ ns) = AllByRecursion (λ (m : ℕ). n ≤ m) ns × IsInOrder ns

all_above : (k n : ℕ) (ns : List ℕ) → k ≤ n → AllByRecursion (λ (m : ℕ). n ≤ m) ns → AllByRecursion (λ (m : ℕ). k ≤ m) ns
all_above k n [] le all = tt
all_above k n (m ∷ ns) le all = let h = all.0 in (omega (arith, le, h), all_above k n ns le all.1)

put_in_order : (k : ℕ) (ns : List ℕ) → IsInOrder ns → IsInOrder (with_number k ns)
put_in_order k [] h = (tt, tt)
put_in_order k (n ∷ ns) h =
    cond_both (nat_lt k n) (k ∷ n ∷ ns) (n ∷ with_number k ns) IsInOrder
    (λ (e : nat_lt k n ≡ true). let below : k ≤ n = grind (arith, nat_tests, e) in ((below, all_above k n ns below h.0), h))
    (λ (e : nat_lt k n ≡ false). let above : n ≤ k = grind (arith, nat_tests, e) in (all-with_number (λ (m : ℕ). n ≤ m) k ns above h.0, put_in_order k ns h.1))

sorted_in_order : (acc ns : List ℕ) → IsInOrder acc → IsInOrder (fold (λ sorted n. with_number n sorted) acc ns)
sorted_in_order acc [] h = h
sorted_in_order acc (n ∷ ns) h = sorted_in_order (with_number n acc) ns (put_in_order n acc h)

-- a number that is at least as great as all others goes to the end
put_last : (k : ℕ) (ns : List ℕ) → AllByRecursion (λ (m : ℕ). m ≤ k) ns → with_number k ns ≡ ns ++ k ∷ []
put_last k [] all = refl
put_last k (n ∷ ns) all =
    let le = all.0 in
    let e : nat_lt k n ≡ false = grind (arith, nat_tests, le) in
    ap (λ b. if b then k ∷ n ∷ ns else n ∷ with_number k ns) e ∙ ap (λ xs. n ∷ xs) (put_last k ns all.1)

abbrev AreBelow : List ℕ → List ℕ → Type 0
AreBelow acc [] = Unit {0}
AreBelow acc (n ∷ ns) = AllByRecursion (λ (m : ℕ). m ≤ n) acc × AreBelow acc ns

all_push : (P : ℕ → Type 0) (xs : List ℕ) (x : ℕ) → AllByRecursion P xs → P x → AllByRecursion P (xs ++ x ∷ [])
all_push P [] x all p = (p, tt)
all_push P (y ∷ xs) x all p = (all.0, all_push P xs x all.1 p)

below_push : (acc : List ℕ) (n : ℕ) (ns : List ℕ) → AreBelow acc ns → AllByRecursion (λ (m : ℕ). n ≤ m) ns → AreBelow (acc ++ n ∷ []) ns
below_push acc n [] b all = tt
below_push acc n (m ∷ ns) b all = (all_push (λ (x : ℕ). x ≤ m) acc n b.0 all.0, below_push acc n ns b.1 all.1)

sorted_again : (acc ns : List ℕ) → AreBelow acc ns → IsInOrder ns → fold (λ sorted n. with_number n sorted) acc ns ≡ acc ++ ns
sorted_again acc [] b h = sym (append-nil acc)
sorted_again acc (n ∷ ns) b h =
    ap (λ xs. fold (λ sorted m. with_number m sorted) xs ns) (put_last n acc b.0) ∙ sorted_again (acc ++ n ∷ []) ns (below_push acc n ns b.1 h.0) h.1 ∙ append_assoc acc (n ∷ []) ns

none_below : (ns : List ℕ) → AreBelow [] ns
none_below [] = tt
none_below (n ∷ ns) = (tt, none_below ns)

-- sorting a sorted list does not change it
pub ascending_again : (ns : List ℕ) → ascending (ascending ns) ≡ ascending ns
ascending_again ns = sorted_again [] (ascending ns) (none_below (ascending ns)) (sorted_in_order [] ns tt)

-- ---- links

pub as_many : (end : ℕ → LinkEndView) (ks : List ℕ) (links : List Link) → AreEnds end ks links → length links ≡ length ks
as_many end [] [] h = refl
as_many end [] (link ∷ links) h = absurd h
as_many end (k ∷ ks) [] h = absurd h
as_many end (k ∷ ks) (link ∷ links) h = ap suc (as_many end ks links h.1)

pub neighbour_at : (end : ℕ → LinkEndView) (place : ℕ) (ks : List ℕ) (links : List Link) → AreEnds end ks links → place < length links → (k : ℕ) × (slice_get ks place ≡ Some k)
neighbour_at end place [] [] h lt = absurd (omega (arith, lt))
neighbour_at end place [] (link ∷ links) h lt = absurd h
neighbour_at end place (k ∷ ks) [] h lt = absurd h
neighbour_at end zero (k ∷ ks) (link ∷ links) h lt = (k, refl)
neighbour_at end (suc place) (k ∷ ks) (link ∷ links) h lt = neighbour_at end place ks links h.1 (omega (arith, lt))

pub link_at : (end : ℕ → LinkEndView) (k place : ℕ) (ks : List ℕ) (links : List Link) → AreEnds end ks links → slice_get ks place ≡ Some k → (link : Link) × (slice_get links place ≡ Some link) × (link.end ≡ end k)
link_at end k place [] links h e = not_none k e
link_at end k place (x ∷ ks) [] h e = absurd h
link_at end k zero (x ∷ ks) (link ∷ links) h e = (link, refl, h.0 ∙ ap end (ap (value_or x) e))
link_at end k (suc place) (x ∷ ks) (link ∷ links) h e = link_at end k place ks links h.1 e

-- a search finds the same among the links as among the neighbours
pub first_same : {A : Type 0} (end : ℕ → LinkEndView) (value : Link → Option A) (of : ℕ → Option A) → ((link : Link) (k : ℕ) → link.end ≡ end k → value link ≡ of k) → (ks : List ℕ) (links : List Link) → AreEnds end ks links → first_in value links ≡ first_in of ks
first_same end value of g [] [] h = refl
first_same end value of g [] (link ∷ links) h = absurd h
first_same end value of g (k ∷ ks) [] h = absurd h
first_same end value of g (k ∷ ks) (link ∷ links) h = ap₂ found_at (g link k h.0) (first_same end value of g ks links h.1)

pub found_in : {A : Type 0} (of : ℕ → Option A) (ks : List ℕ) (found : ℕ × A) → first_in of ks ≡ Some found → (k : ℕ) × (slice_get ks found.0 ≡ Some k) × (of k ≡ Some found.1)
found_in of [] found e = not_none found e
found_in {A} of (x ∷ ks) found e = go (of x) refl (first_in of ks) refl e (λ further t. found_in of ks further t)
  where
    goal : ℕ × A → Type 0
    goal f = (k : ℕ) × (slice_get (x ∷ ks) f.0 ≡ Some k) × (of k ≡ Some f.1)

    go : (here : Option A) → of x ≡ here → (there : Option (ℕ × A)) → first_in of ks ≡ there → found_at here there ≡ Some found
        → ((further : ℕ × A) → first_in of ks ≡ Some further → (k : ℕ) × (slice_get ks further.0 ≡ Some k) × (of k ≡ Some further.1)) → goal found
    go (Some value) h there t q more = subst goal (ap (value_or found) q) (x, refl, h)
    go None h (Some further) t q more = let m = more further t in subst goal (ap (value_or found) q) (m.0, m.1, m.2)
    go None h None t q more = not_none found q

-- only the end of k changes, and k is none of these neighbours
same_ends : (end end' : ℕ → LinkEndView) (k : ℕ) (ks : List ℕ) (links : List Link) → has_number k ks ≡ false → ((j : ℕ) → nat_eq j k ≡ false → end' j ≡ end j) → AreEnds end ks links → AreEnds end' ks links
same_ends end end' k [] [] none others h = tt
same_ends end end' k [] (link ∷ links) none others h = absurd h
same_ends end end' k (x ∷ ks) [] none others h = absurd h
same_ends end end' k (x ∷ ks) (link ∷ links) none others h =
    let p = or_parts (nat_eq x k) (has_number k ks) none in
    (h.0 ∙ sym (others x p.0), same_ends end end' k ks links p.1 others h.1)

-- the link to k changes, and its new end is that of k
pub changed_at : (end end' : ℕ → LinkEndView) (f : Link → Link) (k place : ℕ) (ks : List ℕ) (links : List Link) → has_repeat ks ≡ false → slice_get ks place ≡ Some k
    → ((link : Link) → link.end ≡ end k → (f link).end ≡ end' k) → ((j : ℕ) → nat_eq j k ≡ false → end' j ≡ end j) → AreEnds end ks links → AreEnds end' ks (at_place f place links)
changed_at end end' f k place [] links once e g others h = not_none k e
changed_at end end' f k place (x ∷ ks) [] once e g others h = absurd h
changed_at end end' f k zero (x ∷ ks) (link ∷ links) once e g others h =
    let q : x ≡ k = ap (value_or x) e in
    let none : has_number k ks ≡ false = subst (λ (y : ℕ). has_number y ks ≡ false) q (or_parts (has_number x ks) (has_repeat ks) once).0 in
    (g link (h.0 ∙ ap end q) ∙ ap end' (sym q), same_ends end end' k ks links none others h.1)
changed_at end end' f k (suc place) (x ∷ ks) (link ∷ links) once e g others h =
    (h.0 ∙ sym (others x (other_first x k ks once (number_at k place ks e))), changed_at end end' f k place ks links (or_parts (has_number x ks) (has_repeat ks) once).1 e g others h.1)

-- polling a change of a link changes no end
pub told_at : (end : ℕ → LinkEndView) (f : Link → Link) (place : ℕ) (ks : List ℕ) (links : List Link) → ((link : Link) → (f link).end ≡ link.end) → AreEnds end ks links → AreEnds end ks (at_place f place links)
told_at end f place [] [] g h = h
told_at end f place [] (link ∷ links) g h = absurd h
told_at end f place (k ∷ ks) [] g h = absurd h
told_at end f zero (k ∷ ks) (link ∷ links) g h = (g link ∙ h.0, h.1)
told_at end f (suc place) (k ∷ ks) (link ∷ links) g h = (h.0, told_at end f place ks links g h.1)

-- the ends are equal at every neighbour
pub ends_as : (end end' : ℕ → LinkEndView) (ks : List ℕ) (links : List Link) → ((k : ℕ) → end k ≡ end' k) → AreEnds end ks links → AreEnds end' ks links
ends_as end end' [] [] same h = tt
ends_as end end' [] (link ∷ links) same h = absurd h
ends_as end end' (k ∷ ks) [] same h = absurd h
ends_as end end' (k ∷ ks) (link ∷ links) same h = (h.0 ∙ same k, ends_as end end' ks links same h.1)
