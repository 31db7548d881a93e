-- The value of digits, one digit after another.
use Rattle.std.proofs.Common.{◌≡◌, ℕ, ◌+◌, ◌-◌, ◌*◌, ◌^◌, ◌<◌, ◌≤◌, cond, ltb, List, [], ◌∷◌, length, get_or, drop, Option, None, Some, refl, sym, ◌∙◌, arith, add-one}
use Rattle.std.proofs.Math.Seq.{drop-cons}
use Rattle.std.proofs.lemmas.Bool.{le-ltb, lt-ltb}
use Rattle.std.proofs.lemmas.List.{drop_all}
use Rattle.tora_lines.specs.Words.{value_from}

pub value_ge : (n : ℕ) (cs : List ℕ) → n ≤ value_from n cs
unfolding value_from
value_ge n [] = omega arith
value_ge n (c ∷ cs) = omega (arith, value_ge (n * 10 + (c - 48)) cs)

pub value_step : (n i : ℕ) (text : List ℕ) → i < length text → value_from n (drop i text) ≡ value_from (n * 10 + (get_or text i 0 - 48)) (drop (i + 1) text)
unfolding value_from
value_step n i text h = rw (drop-cons text i 0 h, add-one) refl

pub value_end : (n i : ℕ) (text : List ℕ) → length text ≤ i → value_from n (drop i text) ≡ n
unfolding value_from
value_end n i text h = rw (drop_all i text h) refl

abbrev fitting : ℕ → Option ℕ
fitting v = cond (ltb v (2 ^ 64)) (Some v) None

pub too_large : (v : ℕ) → 2 ^ 64 ≤ v → fitting v ≡ None
too_large v h = rw (le-ltb v (2 ^ 64) h) refl

pub fits : (v : ℕ) → v < 2 ^ 64 → fitting v ≡ Some v
fits v h = rw (lt-ltb v (2 ^ 64) h) refl

-- one more digit makes the number too large
pub past : (n i : ℕ) (text : List ℕ) (r : Option ℕ) → i < length text → value_from n (drop i text) ≡ value_from 0 text → (n * 10 + (get_or text i 0 - 48) < 2 ^ 64 → ⊥) → r ≡ None → r ≡ fitting (value_from 0 text)
past n i text r h so_far over none =
    let step = value_step n i text h in
    none ∙ sym (too_large (value_from 0 text) (omega (arith, step, so_far, over, value_ge (n * 10 + (get_or text i 0 - 48)) (drop (i + 1) text))))
