-- If no link is named twice, the neighbours of a node differ from each other.
use Rattle.std.proofs.Common.{◌≡◌, ℕ, true, false, true≢false, ◌||◌, List, [], ◌∷◌, nat_eq, nat_lt, refl, sym, ap, ◌∙◌, subst, eqb-true, eq-eqb}
use Rattle.tora_world.proofs.SoundTopology.{sound, others-once}
use Rattle.std.proofs.lemmas.Bool.{cond_both, false_from_ne_true, or_right, or_parts, or_from}
use Rattle.std.specs.Prelude.{fold}
use Rattle.tora_core.specs.Numbers.{has_number, with_number, has_repeat}
use Rattle.tora_world.specs.Topology.{Topology, other_ends, neighbours_of, IsWithinLimits}
use Rattle.tora_seat.proofs.Places.{turned}
use Rattle.tora_world.specs.Layers.{CoreLaws}

repeat_with : CoreLaws → (n : ℕ) (xs : List ℕ) → has_number n xs ≡ false → has_repeat xs ≡ false → has_repeat (with_number n xs) ≡ false
repeat_with cores n [] i r = refl
repeat_with cores n (m ∷ xs) i r =
    let a = or_parts (nat_eq m n) (has_number n xs) i in
    let b = or_parts (has_number m xs) (has_repeat xs) r in
    cond_both (nat_lt n m) (n ∷ m ∷ xs) (m ∷ with_number n xs) (λ (ys : List ℕ). has_repeat ys ≡ false)
    (λ _. or_from (has_number n (m ∷ xs)) (has_repeat (m ∷ xs)) i r)
    (λ _. or_from (has_number m (with_number n xs)) (has_repeat (with_number n xs)) (cores.put m n xs ∙ or_from (nat_eq n m) (has_number m xs) (turned m n a.0) b.0) (repeat_with cores n xs a.1 b.1))

repeat_sorted : CoreLaws → (acc ns : List ℕ) → has_repeat acc ≡ false → has_repeat ns ≡ false → ((j : ℕ) → has_number j ns ≡ true → has_number j acc ≡ false) → has_repeat (fold (λ sorted n. with_number n sorted) acc ns) ≡ false
repeat_sorted cores acc [] a r d = a
repeat_sorted cores acc (n ∷ ns) a r d =
    let b = or_parts (has_number n ns) (has_repeat ns) r in
    repeat_sorted cores (with_number n acc) ns (repeat_with cores n acc (d n (ap (λ x. x || has_number n ns) (eq-eqb n n refl))) a) b.1
    (λ j i. cores.put j n acc ∙ or_from (nat_eq n j) (has_number j acc)
    (false_from_ne_true (nat_eq n j) (λ e. true≢false (sym (subst (λ x. has_number x ns ≡ true) (sym (eqb-true n j e)) i) ∙ b.0)))
    (d j (or_right (nat_eq n j) (has_number j ns) i)))

pub neighbours_apart : CoreLaws → (t : Topology) (n : ℕ) → IsWithinLimits t → has_repeat (neighbours_of t n) ≡ false
neighbours_apart cores t n within = repeat_sorted cores [] (other_ends n t.links) refl (others-once n t.links (sound t within).links) (λ j i. refl)
