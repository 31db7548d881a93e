-- The bits of parted pairs, after words are appended and pairs are added or removed.
use Rattle.std.proofs.Common.{◌≡◌, ◌≢◌, ℕ, zero, suc, ◌+◌, ◌*◌, ◌/◌, ◌%◌, ◌-◌, ◌^◌, ◌<◌, ◌==◌, ◌⊎◌, Bool, true, false, not, cond, List, [], ◌∷◌, ◌++◌, length, replicate, refl, sym, ap, ap₂, ◌∙◌, inl, inr, arith}
use Rattle.std.specs.Prelude.{slice_index, slice_set, bit_and, bit_or, filter}
use Rattle.std.specs.Int.{w64, bit_at}
use Rattle.std.proofs.lemmas.Bool.{eq-eqb, eqb-true, and_parts, and_from, cases_eq, false_from_ne_true}
use Rattle.std.proofs.lemmas.List.{get_or-set_same, get_or-set_other}
use Rattle.std.proofs.lemmas.Nat.{same_from_place}
use Rattle.std.proofs.lemmas.Nat.Bits.{bit_at-zero, bit_at_set_same, bit_at_set_other, bit_at_clear_same, bit_at_clear_other}
use Rattle.tora_script.specs.Pairs.{pair_eq}
use Rattle.tora_script.specs.Parted.{is_same_pair, is_parted}
use Rattle.tora_script.specs.PartedKeys.{key_of}
use Rattle.tora_script.specs.PairBits.{word_of, place_of, has_bit, AreBits}
use Rattle.tora_script.proofs.PartedLaws.{more_told, fewer_told}

-- ---- appended words, in which no bit is set

zeros : (n i : ℕ) → slice_index (replicate n 0) i ≡ 0
zeros zero i = refl
zeros (suc n) zero = refl
zeros (suc n) (suc i) = zeros n i

padded : (words : List ℕ) (n i : ℕ) → slice_index (words ++ replicate n 0) i ≡ slice_index words i
padded [] n i = zeros n i
padded (word ∷ words) n zero = refl
padded (word ∷ words) n (suc i) = padded words n i

pub padded_bits : (old new : List ℕ) (n : ℕ) → new ≡ old ++ replicate n 0 → (other : ℕ × ℕ) → has_bit new other ≡ has_bit old other
padded_bits old new n is other =
    ap (λ (words : List ℕ). has_bit words other) is ∙ ap (λ (word : ℕ). bit_at word (place_of other) == 1) (padded old n (word_of other))

-- ---- one bit is written

two_equal : (p q : ℕ × ℕ) → p.0 ≡ q.0 → p.1 ≡ q.1 → pair_eq p q ≡ true
two_equal p q first second = and_from (p.0 == q.0) (p.1 == q.1) (eq-eqb p.0 q.0 first) (eq-eqb p.1 q.1 second)

two_apart : (p q : ℕ × ℕ) → ((p.0 ≡ q.0) → (p.1 ≡ q.1) → ⊥) → pair_eq p q ≡ false
two_apart p q apart = false_from_ne_true (pair_eq p q) (λ e. let two = and_parts (p.0 == q.0) (p.1 == q.1) e in apart (eqb-true p.0 q.0 two.0) (eqb-true p.1 q.1 two.1))

-- the word with the bit of the key has the new bit there, and its other bits are unchanged
module _ (words : List ℕ) (key : ℕ × ℕ) (at place new bit : ℕ) (at_is : at ≡ word_of key) (place_is : place ≡ place_of key) (within : at < length words) (small : key.1 < 1024)
    (same : bit_at new place ≡ bit) (others : (i : ℕ) → i < 64 → i ≢ place → bit_at new i ≡ bit_at (slice_index words at) i) (other : ℕ × ℕ) (small_too : other.1 < 1024) where
  in_word : word_of other ≡ at → (place_of other ≡ place) ⊎ (place_of other ≢ place) → (bit_at new (place_of other) == 1) ≡ cond (pair_eq key other) (bit == 1) (has_bit words other)
  in_word e (inl p) =
      let two = same_from_place other.0 (other.1 / 64) key.0 (key.1 / 64) 16 (omega (arith, small_too)) (omega (arith, small)) (e ∙ at_is) in
      let first = two.0 in
      let high = two.1 in
      let low : other.1 % 64 ≡ key.1 % 64 = p ∙ place_is in
      ap (λ (i : ℕ). bit_at new i == 1) p ∙ ap (λ (b : ℕ). b == 1) same
      ∙ sym (ap (λ (x : Bool). cond x (bit == 1) (has_bit words other)) (two_equal key other (sym first) (omega (arith, high, low))))
  in_word e (inr apart) =
      ap (λ (b : ℕ). b == 1) (others (place_of other) (omega arith) apart) ∙ ap (λ (i : ℕ). bit_at (slice_index words i) (place_of other) == 1) (sym e)
      ∙ sym (ap (λ (x : Bool). cond x (bit == 1) (has_bit words other)) (two_apart key other (λ first second. apart (ap (λ (n : ℕ). n % 64) (sym second) ∙ sym place_is))))

  in_words : (word_of other ≡ at) ⊎ (word_of other ≢ at) → has_bit (slice_set words at new) other ≡ cond (pair_eq key other) (bit == 1) (has_bit words other)
  in_words (inl e) =
      ap (λ (i : ℕ). bit_at (slice_index (slice_set words at new) i) (place_of other) == 1) e ∙ ap (λ (word : ℕ). bit_at word (place_of other) == 1) (get_or-set_same words at new 0 within)
      ∙ in_word e (cases_eq (place_of other) place)
  in_words (inr apart) =
      ap (λ (word : ℕ). bit_at word (place_of other) == 1) (get_or-set_other words at (word_of other) new 0 apart)
      ∙ sym (ap (λ (x : Bool). cond x (bit == 1) (has_bit words other)) (two_apart key other (λ first second. apart (ap₂ (λ (a b : ℕ). a * 16 + b / 64) (sym first) (sym second) ∙ sym at_is))))

  one_written : has_bit (slice_set words at new) other ≡ cond (pair_eq key other) (bit == 1) (has_bit words other)
  one_written = in_words (cases_eq (word_of other) at)

place_below : (key : ℕ × ℕ) (place : ℕ) → place ≡ place_of key → place < 64
place_below key place is = omega (arith, is)

pub set_one : (words : List ℕ) (key : ℕ × ℕ) (at place word : ℕ) → at ≡ word_of key → place ≡ place_of key → word ≡ slice_index words at → at < length words → key.1 < 1024
    → (other : ℕ × ℕ) → other.1 < 1024 → has_bit (slice_set words at (bit_or word (1 * 2 ^ place % 2 ^ 64))) other ≡ cond (pair_eq key other) true (has_bit words other)
set_one words key at place word at_is place_is word_is within small other small_too =
    one_written words key at place (bit_or word (1 * 2 ^ place % 2 ^ 64)) 1 at_is place_is within small
    (bit_at_set_same w64 word place (place_below key place place_is))
    (λ i below apart. bit_at_set_other w64 word place (place_below key place place_is) i apart ∙ ap (λ (x : ℕ). bit_at x i) word_is) other small_too

pub clear_one : (words : List ℕ) (key : ℕ × ℕ) (at place word : ℕ) → at ≡ word_of key → place ≡ place_of key → word ≡ slice_index words at → at < length words → key.1 < 1024
    → (other : ℕ × ℕ) → other.1 < 1024 → has_bit (slice_set words at (bit_and word (2 ^ 64 - 1 - 1 * 2 ^ place % 2 ^ 64))) other ≡ cond (pair_eq key other) false (has_bit words other)
clear_one words key at place word at_is place_is word_is within small other small_too =
    one_written words key at place (bit_and word (2 ^ 64 - 1 - 1 * 2 ^ place % 2 ^ 64)) 0 at_is place_is within small
    (bit_at_clear_same w64 word place (place_below key place place_is))
    (λ i below apart. bit_at_clear_other w64 word place (place_below key place place_is) i below apart ∙ ap (λ (x : ℕ). bit_at x i) word_is) other small_too

-- ---- the bits of parted pairs

-- without pairs, no bit is set
pub no_bits : (words : List ℕ) (pairs : List (ℕ × ℕ)) → words ≡ [] → pairs ≡ [] → AreBits words pairs
no_bits words pairs none empty a b first second =
    ap (λ (ws : List ℕ). has_bit ws (key_of (a, b))) none ∙ ap (λ (bit : ℕ). bit == 1) (bit_at-zero (place_of (key_of (a, b)))) ∙ sym (ap (λ (ps : List (ℕ × ℕ)). is_parted ps a b) empty)

-- the same bits represent the same pairs
pub kept_bits : (old new : List ℕ) (pairs : List (ℕ × ℕ)) → ((other : ℕ × ℕ) → has_bit new other ≡ has_bit old other) → AreBits old pairs → AreBits new pairs
kept_bits old new pairs same h a b first second = same (key_of (a, b)) ∙ h a b first second

-- the bits represent the pairs with one more
pub more_bits : (old new : List ℕ) (before after : List (ℕ × ℕ)) (pair key : ℕ × ℕ) → key ≡ key_of pair → ((other : ℕ × ℕ) → other.1 < 1024 → has_bit new other ≡ cond (pair_eq key other) true (has_bit old other)) → after ≡ before ++ pair ∷ [] → AreBits old before → AreBits new after
more_bits old new before after pair key is updates pairs h a b first second =
    more_told before after pair key (has_bit old (key_of (a, b))) (has_bit new (key_of (a, b))) a b is (updates (key_of (a, b)) (omega (arith, first, second))) pairs (h a b first second)

-- the bits represent the pairs with one fewer
pub fewer_bits : (old new : List ℕ) (before after : List (ℕ × ℕ)) (pair key : ℕ × ℕ) → key ≡ key_of pair → ((other : ℕ × ℕ) → other.1 < 1024 → has_bit new other ≡ cond (pair_eq key other) false (has_bit old other)) → after ≡ filter (λ r. not (is_same_pair pair r)) before → AreBits old before → AreBits new after
fewer_bits old new before after pair key is updates pairs h a b first second =
    fewer_told before after pair key (has_bit old (key_of (a, b))) (has_bit new (key_of (a, b))) a b is (updates (key_of (a, b)) (omega (arith, first, second))) pairs (h a b first second)
