-- Pairs of numbers that are equal by their order are the same.
use Rattle.std.proofs.Common.{◌≡◌, ℕ, ◌==◌, ◌&&◌, true, false, refl, ap₂, subst}
use Rattle.std.specs.Ordering.{nat_cmp, ordering_then, is_eq}
use Rattle.std.specs.declared.cmp.Ordering.{Ordering}
use Rattle.std.specs.declared.cmp.Ordering.TheVariants.{Less, Equal, Greater}
use Rattle.std.proofs.lemmas.Bool.{false≢true, eqb-true, and_parts, both_ways, false_from_ne_true}
use Rattle.std.proofs.lemmas.Cmp.{tied_itself, nat_cmp_total}
use Rattle.std.proofs.lemmas.Map.Lookups.{exact_pairs, exact_unsigned}
use Rattle.tora_script.specs.Pairs.{pair_cmp}

same_order : (r : Ordering) → is_eq r ≡ true → r ≡ Equal
same_order Less e = absurd (false≢true e)
same_order Equal e = refl
same_order Greater e = absurd (false≢true e)

pub same_pair : (p q : ℕ × ℕ) → is_eq (pair_cmp p q) ≡ true → p ≡ q
same_pair p q e = exact_pairs nat_cmp nat_cmp exact_unsigned exact_unsigned p q (same_order (pair_cmp p q) e)

itself : (p : ℕ × ℕ) → is_eq (pair_cmp p p) ≡ true
itself p = ap₂ (λ (r s : Ordering). is_eq (ordering_then r s)) (tied_itself nat_cmp_total p.0) (tied_itself nat_cmp_total p.1)

pub tied_pair : (p q : ℕ × ℕ) → p ≡ q → is_eq (pair_cmp p q) ≡ true
tied_pair p q e = subst (λ (r : ℕ × ℕ). is_eq (pair_cmp p r) ≡ true) e (itself p)

-- pairs that differ by their order differ in a number
pub other_pair : (p q : ℕ × ℕ) → is_eq (pair_cmp p q) ≡ false → ((p.0 == q.0) && (p.1 == q.1)) ≡ false
other_pair p q e =
    false_from_ne_true ((p.0 == q.0) && (p.1 == q.1)) (λ h.
    let two = and_parts (p.0 == q.0) (p.1 == q.1) h in
    let same : p ≡ q = ap₂ (λ (a b : ℕ). (a, b)) (eqb-true p.0 q.0 two.0) (eqb-true p.1 q.1 two.1) in
    both_ways (is_eq (pair_cmp p q)) e (tied_pair p q same))
