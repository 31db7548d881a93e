-- The effect of the write of a slot on both slots.
use Rattle.std.proofs.Common.{◌≡◌, ◌≤◌, ◌<◌, ◌^◌, ◌+◌, ◌-◌, inl, inr, ℕ, List, [], ◌∷◌, ◌++◌, length, take, drop, refl, sym, ◌∙◌, ap, subst, arith, length-append, length-take, append_assoc, ◌⊎◌, nat_le, zero, suc, min, if◌then◌else◌}
use Rattle.std.proofs.lemmas.Bool.Decides.{nat_tests}
use Rattle.std.proofs.lemmas.List.{take_at, drop_at, take_all, drop_all, drop-drop}
use Rattle.std.proofs.lemmas.Nat.{from_be_bytes-to_be_bytes_8}
use Rattle.std.specs.Int.{w64, to_be_bytes}
use Rattle.tora_life.specs.declared.tags.Owner.{Owner}
use Rattle.tora_life.specs.declared.slots.Slot.{Slot}
use Rattle.tora_life.specs.declared.slots.Slot.TheVariants.{First, Second}
use Rattle.tora_life.specs.Disk.{Holds, Torn, IsTornFrom, IsOnlyImage, IsRead}
use Rattle.tora_life.specs.LifeFile.{number_of, slot_bound, slot_of, file_value, slot_value, Covers}
use Rattle.tora_life.specs.declared.numbers.Numbers.{Numbers}
use Rattle.tora_life.specs.Numbers.{lesser_slot}
use Rattle.tora_life.specs.Calls.{place_of}
use Rattle.tora_life.specs.Tags.{tag_of}
use Rattle.tora_life.specs.Slots.{kept_bound, written_bound, IsReplaced}

pub length-slot_of : (bound : ℕ) → length (slot_of bound) ≡ 16
unfolding slot_of
length-slot_of bound = refl

pick : (slot : List ℕ) (bound : ℕ) → bound < 2 ^ 64 → length slot ≡ 16 → number_of (take 8 slot) ≡ bound → number_of (take 8 (drop 8 slot)) ≡ 2 ^ 64 - 1 - bound → slot_bound slot ≡ bound
unfolding slot_bound
pick slot bound below long one other = grind (arith, nat_tests)

spelled : (xs ys : List ℕ) (bound : ℕ) → bound < 2 ^ 64 → length xs ≡ 8 → length ys ≡ 8 → number_of xs ≡ bound → number_of ys ≡ 2 ^ 64 - 1 - bound → slot_bound (xs ++ ys) ≡ bound
spelled xs ys bound below a b one other =
    pick (xs ++ ys) bound below (omega (arith, length-append xs ys)) (ap number_of (take_at xs ys 8 a) ∙ one)
    (ap (λ (l : List ℕ). number_of (take 8 l)) (drop_at xs ys 8 a) ∙ ap number_of (take_all 8 ys (omega (arith, b))) ∙ other)

number_back : (n : ℕ) → n < 2 ^ 64 → number_of (to_be_bytes w64 n) ≡ n
unfolding number_of
number_back n below = from_be_bytes-to_be_bytes_8 n below

pub slot_bound-slot_of : (bound : ℕ) → bound < 2 ^ 64 → slot_bound (slot_of bound) ≡ bound
unfolding slot_of
slot_bound-slot_of bound below =
    spelled (to_be_bytes w64 bound) (to_be_bytes w64 (2 ^ 64 - 1 - bound)) bound below refl refl (number_back bound below) (number_back (2 ^ 64 - 1 - bound) (omega arith))

pub kept_below : (slot : Slot) (file : List ℕ) → kept_bound slot file ≤ file_value file
kept_below First file = omega arith
kept_below Second file = omega arith

pub torn_keeps : (slot : Slot) (old new : List ℕ) → Torn (place_of slot) 16 old new → kept_bound slot new ≡ kept_bound slot old
torn_keeps First old new torn = ap (λ (l : List ℕ). slot_bound (take 16 l)) torn.after
torn_keeps Second old new torn = ap slot_bound torn.before

take_none : (l : List ℕ) → take 0 l ≡ []
take_none [] = refl
take_none (x ∷ l) = refl

pub drop_none : (l : List ℕ) → drop 0 l ≡ l
drop_none [] = refl
drop_none (x ∷ l) = refl

module _ (old bytes new : List ℕ) (long : length bytes ≡ 16) where
  from_first : Holds old 0 bytes new → new ≡ bytes ++ drop 16 old
  from_first holds = holds ∙ ap (λ (l : List ℕ). (l ++ bytes) ++ drop (0 + length bytes) old) (take_none old) ∙ ap (λ (k : ℕ). bytes ++ drop k old) {y = 16} (omega (arith, long))

  from_second : Holds old 16 bytes new → new ≡ take 16 old ++ (bytes ++ drop (16 + length bytes) old)
  from_second holds = holds ∙ append_assoc (take 16 old) bytes (drop (16 + length bytes) old)

  pub written_keeps : (slot : Slot) → place_of slot ≤ length old → Holds old (place_of slot) bytes new → kept_bound slot new ≡ kept_bound slot old
  written_keeps First le holds = ap (λ (l : List ℕ). slot_bound (take 16 l)) (ap (λ (l : List ℕ). drop 16 l) (from_first holds) ∙ drop_at bytes (drop 16 old) 16 long)
  written_keeps Second le holds =
      ap slot_bound (ap (λ (l : List ℕ). take 16 l) (from_second holds) ∙ take_at (take 16 old) (bytes ++ drop (16 + length bytes) old) 16 (omega (arith, length-take 16 old, le)))

  pub written_has : (slot : Slot) → place_of slot ≤ length old → Holds old (place_of slot) bytes new → written_bound slot new ≡ slot_bound bytes
  written_has First le holds = ap slot_bound (ap (λ (l : List ℕ). take 16 l) (from_first holds) ∙ take_at bytes (drop 16 old) 16 long)
  written_has Second le holds =
      ap (λ (l : List ℕ). slot_bound (take 16 l)) (ap (λ (l : List ℕ). drop 16 l) (from_second holds) ∙ drop_at (take 16 old) (bytes ++ drop (16 + length bytes) old) 16 (omega (arith, length-take 16 old, le)))
      ∙ ap slot_bound (take_at bytes (drop (16 + length bytes) old) 16 long)

torn_tag : (slot : Slot) (old new : List ℕ) → Torn (place_of slot) 16 old new → drop 32 new ≡ drop 32 old
torn_tag First old new torn = sym (drop-drop 16 16 new) ∙ ap (λ (l : List ℕ). drop 16 l) torn.after ∙ drop-drop 16 16 old
torn_tag Second old new torn = torn.after

torn_covers : (owner : Owner) (slot : Slot) (old new : List ℕ) → drop 32 old ≡ tag_of owner → Torn (place_of slot) 16 old new → Covers owner (kept_bound slot old) new
torn_covers owner slot old new tag torn =
    record { value = subst (λ (k : ℕ). k ≤ file_value new) (torn_keeps slot old new torn) (kept_below slot new); tag = torn_tag slot old new torn ∙ tag }

-- the property of the images after the write of a slot, which a crash may tear
pub images_keep : (owner : Owner) (slot : Slot) (file : List ℕ) (at n : ℕ) (old : List ℕ → Type 0) → at ≡ place_of slot → n ≡ 16 → drop 32 file ≡ tag_of owner → IsOnlyImage file old → (c : List ℕ) → IsTornFrom at n old c → Covers owner (kept_bound slot file) c
images_keep owner slot file at n old here is tag only c from =
    let torn : Torn (place_of slot) 16 file c = subst (λ (f : List ℕ). Torn (place_of slot) 16 f c) (only from.0 from.1) (subst (λ (k : ℕ). Torn (place_of slot) k from.0 c) is (subst (λ (p : ℕ). Torn p n from.0 c) here from.2)) in
    torn_covers owner slot file c tag torn

-- the file after the slot is on the disk
pub replaced : (slot : Slot) (bound at : ℕ) (file bytes new : List ℕ) (images : List ℕ → Type 0) → at ≡ place_of slot → bytes ≡ slot_of bound → bound < 2 ^ 64 → place_of slot ≤ length file → Holds file at bytes new → IsOnlyImage new images → IsReplaced slot bound file new images
replaced slot bound at file bytes new images here is below le holds only =
    let long : length bytes ≡ 16 = ap length is ∙ length-slot_of bound in
    let held : Holds file (place_of slot) bytes new = subst (λ (p : ℕ). Holds file p bytes new) here holds in
    record {
      only = only;
      written = written_has file bytes new long slot le held ∙ ap slot_bound is ∙ slot_bound-slot_of bound below;
      kept = written_keeps file bytes new long slot le held;
    }

pub counted : (slot : List ℕ) → 0 < slot_bound slot → 16 ≤ length slot
unfolding slot_bound
counted slot some = grind (arith, nat_tests)

pub le_or_lt : (a b : ℕ) → (a ≤ b) ⊎ (b < a)
le_or_lt zero b = inl (omega arith)
le_or_lt (suc a) zero = inr (omega arith)
le_or_lt (suc a) (suc b) = elim (le_or_lt a b) [ inl le ↦ inl (omega arith) | inr lt ↦ inr (omega arith) ]

pub take_min : (n : ℕ) (l : List ℕ) → take (min (length l) n) l ≡ take n l
take_min n l = elim (le_or_lt n (length l)) [
  | inl le ↦ let is : min (length l) n ≡ n = omega arith in ap (λ (k : ℕ). take k l) is
  | inr lt ↦ take_all (min (length l) n) l (omega arith) ∙ sym (take_all n l (omega arith))
]

pub drop_min : (n : ℕ) (l : List ℕ) → drop (min (length l) n) l ≡ drop n l
drop_min n l = elim (le_or_lt n (length l)) [
  | inl le ↦ let is : min (length l) n ≡ n = omega arith in ap (λ (k : ℕ). drop k l) is
  | inr lt ↦ drop_all (min (length l) n) l (omega arith) ∙ sym (drop_all n l (omega arith))
]

-- a read that does not fill the buffer returns the whole file
pub read_whole : (seen buf new : List ℕ) (n : ℕ) → IsRead seen 0 buf n new → n < length buf → (take n new ≡ seen) × (n ≡ length seen)
read_whole seen buf new n read short =
    let none : drop 0 seen ≡ seen = drop_none seen in
    let count : n ≡ min (length buf) (length seen) = read.count ∙ ap (λ (l : List ℕ). min (length buf) (length l)) none in
    let is : n ≡ length seen = omega (arith, count, short) in
    let whole : take (length buf) (drop 0 seen) ≡ seen = ap (λ (l : List ℕ). take (length buf) l) none ∙ take_all (length buf) seen (omega (arith, count, short)) in
    (ap (λ (l : List ℕ). take n l) (read.bytes ∙ ap (λ (l : List ℕ). l ++ drop n buf) whole) ∙ take_at seen (drop n buf) n (sym is), is)

-- a read that fills the buffer shows that the file is longer
pub read_long : (seen buf new : List ℕ) (n m : ℕ) → IsRead seen 0 buf n new → m < n → m < length seen
read_long seen buf new n m read lt =
    let none : drop 0 seen ≡ seen = drop_none seen in
    let count : n ≡ min (length buf) (length seen) = read.count ∙ ap (λ (l : List ℕ). min (length buf) (length l)) none in
    omega (arith, count, lt)

lesser_is : (a b : ℕ) → place_of (if nat_le a b then First else Second) ≤ 16 × (b < a ⊎ (place_of (if nat_le a b then First else Second) ≡ 0))
lesser_is a b = elim (le_or_lt a b) [
  | inl le ↦ let first : (if nat_le a b then First else Second) ≡ First = grind (arith, nat_tests) in (rw first (omega arith), inr (ap place_of first))
  | inr lt ↦ let second : (if nat_le a b then First else Second) ≡ Second = grind (arith, nat_tests) in (rw second (omega arith), inl lt)
]

-- the slot with the smaller bound begins within the file
pub lesser_place : (numbers : Numbers) (file : List ℕ) → numbers.first ≡ slot_value file 0 → place_of (lesser_slot numbers) ≤ length file
lesser_place numbers file is =
    let which = lesser_is numbers.first numbers.second in
    elim which.1 [
      | inl lt ↦ let long = counted (take 16 file) (omega (arith, is, lt)) in omega (arith, which.0, length-take 16 file, long)
      | inr none ↦ omega (arith, none)
    ]
