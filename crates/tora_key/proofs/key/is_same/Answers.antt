use Rattle.std.proofs.Common.{◌≡◌, ℕ, ◌+◌, ◌<◌, ◌≤◌, Bool, List, length, take, get_or, bit_or, bit_xor, nat_eq, bytes_eq, ap, sym, ◌∙◌, arith, rules}
use Rattle.std.specs.Prelude.{Decides}
use Rattle.std.specs.Int.Bits.{xor_self, xor_add_and}
use Rattle.std.proofs.lemmas.Nat.{le_or_l, le_or_r, and_le_l, and_le_r}
use Rattle.std.proofs.lemmas.List.{take_more, take_more_same, take_all, same_from_push}
use Rattle.std.proofs.lemmas.Slice.Eq.{bytes_eq-Decides}
use Rattle.std.proofs.lemmas.Bool.Decides.{Decides-eqb}
use Rattle.tora_key.proofs.key.is_same.Goals as goal

first_zero : (a b : ℕ) → bit_or a b ≡ 0 → a ≡ 0
first_zero a b h = omega (arith, le_or_l a b, h)

second_zero : (a b : ℕ) → bit_or a b ≡ 0 → b ≡ 0
second_zero a b h = omega (arith, le_or_r a b, h)

-- bytes that differ in no bit are equal
no_bit : (a b : ℕ) → bit_xor a b ≡ 0 → a ≡ b
no_bit a b h = omega (arith, xor_add_and a b, and_le_l a b, and_le_r a b, h)

same_so_far : (d i : ℕ) (a b : List ℕ) → i < length a → i < length b → (d ≡ 0 → take i a ≡ take i b)
    → bit_or d (bit_xor (get_or a i 0) (get_or b i 0)) ≡ 0 → take (i + 1) a ≡ take (i + 1) b
same_so_far d i a b h k same e =
    take_more_same a b i 0 h k (same (first_zero d (bit_xor (get_or a i 0) (get_or b i 0)) e))
    (no_bit (get_or a i 0) (get_or b i 0) (second_zero d (bit_xor (get_or a i 0) (get_or b i 0)) e))

none_of : (d x y : ℕ) → d ≡ 0 → x ≡ y → bit_or d (bit_xor x y) ≡ 0
none_of d x y e f = (λ j. bit_or (e j) (bit_xor (f j) y)) ∙ ap (bit_or 0) (xor_self y)

none_so_far : (d i : ℕ) (a b : List ℕ) → i < length a → i < length b → (take i a ≡ take i b → d ≡ 0)
    → take (i + 1) a ≡ take (i + 1) b → bit_or d (bit_xor (get_or a i 0) (get_or b i 0)) ≡ 0
none_so_far d i a b h k none e =
    let p : (take i a ≡ take i b) × (get_or a i 0 ≡ get_or b i 0) = same_from_push (take i a) (take i b) (get_or a i 0) (get_or b i 0) (sym (take_more a i 0 h) ∙ e ∙ take_more b i 0 k) in
    none_of d (get_or a i 0) (get_or b i 0) (none p.0) p.1

tested : (xs ys : List ℕ) (r : Bool) → Decides r (xs ≡ ys) → r ≡ bytes_eq xs ys
tested xs ys r h = search (rules, bytes_eq-Decides)

all : (d i : ℕ) (a b : List ℕ) → length a ≤ i → length b ≤ i → (d ≡ 0 → take i a ≡ take i b) → (take i a ≡ take i b → d ≡ 0)
    → nat_eq d 0 ≡ bytes_eq a b
all d i a b h k same none = tested a b (nat_eq d 0) (
  (λ t. sym (take_all i a h) ∙ same ((Decides-eqb d 0).0 t) ∙ take_all i b k),
  (λ e. (Decides-eqb d 0).1 (none (ap (take i) e))),
)

pub loop-i-preserved : goal.loop-i-preserved
loop-i-preserved c = record {
  same = same_so_far c.loop-i.differing c.loop-i.i c.args.a.now c.args.b.now (search rules) (search rules) c.loop-i.invariant.same;
  none = none_so_far c.loop-i.differing c.loop-i.i c.args.a.now c.args.b.now (search rules) (search rules) c.loop-i.invariant.none;
}

pub returns : goal.returns
returns c = all c.loop-i.differing c.loop-i.i c.args.a.now c.args.b.now (search rules) (search rules) c.loop-i.invariant.same c.loop-i.invariant.none
