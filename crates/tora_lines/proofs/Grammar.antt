-- A text is read as a number exactly if it is the printed form of that number.
use Rattle.std.proofs.Common.{◌≡◌, ℕ, zero, suc, ◌^◌, ◌<◌, Bool, true, false, cond, not, ltb, ◌==◌, ◌&&◌, ◌||◌, List, length, get_or, None, Some, refl, sym, ap, ◌∙◌, arith, rules}
use Rattle.std.specs.List.{list_all}
use Rattle.std.specs.Char.{is_ascii_digit}
use Rattle.std.specs.Fmt.{decimal}
use Rattle.std.proofs.lemmas.Bool.{ltb-true, lt-ltb}
use Rattle.std.proofs.lemmas.Bool.Decides.{nat_tests}
use Rattle.std.proofs.lemmas.Str.Parse.{IsNumeralModel, numerals_by_fold}
use Rattle.std.proofs.lemmas.Fmt.{decimal-digits_value, digits_decimal, digits_value-decimal, decimal_nonempty, first_decimal, decimal_digit}
use Rattle.tora_lines.specs.Words.{is_numeral, value_from, number_of}

pub own : IsNumeralModel (λ ds. list_all is_ascii_digit ds ≡ true) (value_from 0)
unfolding value_from
own = numerals_by_fold _ (search rules) value_from (search rules)

and_both : (a b : Bool) → a && b ≡ true → (a ≡ true) × (b ≡ true)
and_both true b h = (refl, h)
and_both false b h = absurd cc

some_of : (b : Bool) (v n : ℕ) → cond b (Some v) None ≡ Some n → (b ≡ true) × (v ≡ n)
some_of true v n h = (refl, cc)
some_of false v n h = absurd cc

one_zero : (first len : ℕ) → not (first == 48) || (len == 1) ≡ true → first ≡ 48 → len ≡ 1
one_zero first len h e = grind (arith, nat_tests)

zero_one : (first len : ℕ) → (first ≡ 48 → len ≡ 1) → not (first == 48) || (len == 1) ≡ true
zero_one first len h = grind (arith, nat_tests)

leading : (n : ℕ) → n < 2 ^ 64 → get_or (decimal n) 0 0 ≡ 48 → length (decimal n) ≡ 1
leading zero small e = ap length (decimal_digit 0 (omega arith))
leading (suc n) small e = let f = first_decimal (suc n) (omega arith) small in absurd (omega arith)

pub number_prints : (text : List ℕ) (n : ℕ) → number_of text ≡ Some n → (text ≡ decimal n) × (n < 2 ^ 64)
unfolding number_of
number_prints text n h =
    let g = some_of (is_numeral text && ltb (value_from 0 text) (2 ^ 64)) (value_from 0 text) n h in
    let p = and_both (is_numeral text) _ g.0 in
    let q = and_both (ltb 0 (length text) && list_all is_ascii_digit text) _ p.0 in
    let r = and_both (ltb 0 (length text)) (list_all is_ascii_digit text) q.0 in
    let e = decimal-digits_value own text r.1 (ltb-true _ _ r.0) (one_zero (get_or text 0 0) (length text) q.1) (ltb-true _ _ p.1) in
    (sym e ∙ ap decimal g.1, rw (← g.1) (ltb-true _ _ p.1))

pub number_again : (n : ℕ) → n < 2 ^ 64 → number_of (decimal n) ≡ Some n
unfolding number_of
number_again n small =
    let some : ltb 0 (length (decimal n)) ≡ true = lt-ltb _ _ (decimal_nonempty n small) in
    let digits = digits_decimal own n small in
    let lead = zero_one (get_or (decimal n) 0 0) (length (decimal n)) (leading n small) in
    let v = digits_value-decimal own n small in
    let below : ltb (value_from 0 (decimal n)) (2 ^ 64) ≡ true = lt-ltb _ _ (rw v small) in
    rw (some, digits, lead, below, v) refl
