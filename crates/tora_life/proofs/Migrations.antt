-- The effect of the migration on a life file.
use Rattle.std.proofs.Common.{◌≡◌, ◌≤◌, ◌<◌, ◌^◌, ◌+◌, ◌-◌, inl, inr, ℕ, zero, suc, Bool, true, false, List, [], ◌∷◌, ◌++◌, length, take, drop, replicate, max, get_or, refl, sym, ◌∙◌, ap, subst, arith, length-append, length-take, append_assoc, append-nil, if◌then◌else◌, nat_lt, Result, Ok, Err}
use Rattle.std.proofs.lemmas.Bool.Decides.{nat_tests}
use Rattle.std.proofs.lemmas.List.{take_at, drop_at, take_all, drop_all, take-take, drop-take, length-replicate, length-drop, take-append-drop}
use Rattle.std.proofs.Math.Seq.{take-append-add}
use Rattle.std.specs.Str.{bytes_eq}
use Rattle.std.specs.Cmp.Lexicographic.{same_text, other_text}
use Rattle.tora_life.specs.declared.numbers.LifeError.{LifeError}
use Rattle.tora_life.specs.declared.numbers.LifeError.TheVariants.{Damaged}
use Rattle.tora_life.specs.declared.migration.Version.{Version}
use Rattle.tora_life.specs.declared.migration.Version.TheVariants.{Tagged}
use Rattle.tora_life.specs.declared.tags.Owner.{Owner}
use Rattle.tora_life.specs.declared.tags.Tag.{Tag}
use Rattle.tora_life.specs.declared.tags.Tag.TheVariants.{Absent, Strange, Of}
use Rattle.tora_life.specs.Disk.{Holds, Torn, IsTornFrom, IsOnlyImage}
use Rattle.tora_life.specs.LifeFile.{number_of, slot_bound, slot_value, file_value}
use Rattle.tora_life.specs.Migration.{version_by, version_of, slot_filled, migrated, migration_place, migration_bytes}
use Rattle.tora_life.specs.Tags.{tag_read, tag_of}
use Rattle.tora_life.proofs.Bounds.{le_or_lt, counted, take_min}

-- ---- the version of a file

abbrev chosen : Bool → Bool → Result Version LifeError → Result Version LifeError
chosen long own other = if long then Err Damaged else if own then Ok Tagged else other

other_chosen : (long own : Bool) (other : Result Version LifeError) → long ≡ false → own ≡ false → chosen long own other ≡ other
other_chosen true own other a b = absurd (cc)
other_chosen false true other a b = absurd (cc)
other_chosen false false other a b = refl

pub not_own : (owner : Owner) (file tag : List ℕ) → length file ≤ 64 → bytes_eq tag (tag_of owner) ≡ false → tag ≡ drop 32 file → version_by (tag_read tag) ≡ version_of owner file
not_own owner file tag fits not from =
    ap (λ (l : List ℕ). version_by (tag_read l)) from
    ∙ sym (other_chosen (nat_lt 64 (length file)) (bytes_eq (drop 32 file) (tag_of owner)) (version_by (tag_read (drop 32 file))) (grind (arith, nat_tests)) (ap (λ (l : List ℕ). bytes_eq l (tag_of owner)) (sym from) ∙ not))

own_chosen : (long own : Bool) (tag : Tag) → chosen long own (version_by tag) ≡ Ok Tagged → (long ≡ false) × (own ≡ true)
own_chosen true own tag is = absurd (cc)
own_chosen false true tag is = (refl, refl)
own_chosen false false Absent is = absurd (cc)
own_chosen false false Strange is = absurd (cc)
own_chosen false false (Of other) is = absurd (cc)

pub tag_is : (owner : Owner) (file : List ℕ) → version_of owner file ≡ Ok Tagged → drop 32 file ≡ tag_of owner
tag_is owner file is = same_text (drop 32 file) (tag_of owner) (sym (own_chosen (nat_lt 64 (length file)) (bytes_eq (drop 32 file) (tag_of owner)) (tag_read (drop 32 file)) is).1)

pub length-tag_of : (owner : Owner) → length (tag_of owner) ≡ 32
unfolding tag_of
length-tag_of owner = refl

pub tagged_length : (owner : Owner) (file : List ℕ) → drop 32 file ≡ tag_of owner → length file ≡ 64
tagged_length owner file is = omega (arith, length-drop 32 file, ap length is, length-tag_of owner)

tagged_chosen : (long own : Bool) (other : Result Version LifeError) → long ≡ false → own ≡ true → chosen long own other ≡ Ok Tagged
tagged_chosen true own other a b = absurd (cc)
tagged_chosen false true other a b = refl
tagged_chosen false false other a b = absurd (cc)

equal : (own : Bool) (xs ys : List ℕ) → own ≡ bytes_eq xs ys → xs ≡ ys → own ≡ true
equal true xs ys is same = refl
equal false xs ys is same = absurd (other_text xs ys is same)

pub is_tagged : (owner : Owner) (file : List ℕ) → drop 32 file ≡ tag_of owner → version_of owner file ≡ Ok Tagged
is_tagged owner file is =
    let long : length file ≡ 64 = tagged_length owner file is in
    tagged_chosen (nat_lt 64 (length file)) (bytes_eq (drop 32 file) (tag_of owner)) (version_by (tag_read (drop 32 file))) (grind (arith, nat_tests)) (equal (bytes_eq (drop 32 file) (tag_of owner)) (drop 32 file) (tag_of owner) refl is)

fits_chosen : (long own : Bool) (other : Result Version LifeError) (v : Version) → chosen long own other ≡ Ok v → long ≡ false
fits_chosen true own other v is = absurd (cc)
fits_chosen false own other v is = refl

pub version_fits : (owner : Owner) (file : List ℕ) (v : Version) → version_of owner file ≡ Ok v → length file ≤ 64
version_fits owner file v is =
    let short : nat_lt 64 (length file) ≡ false = fits_chosen (nat_lt 64 (length file)) (bytes_eq (drop 32 file) (tag_of owner)) (version_by (tag_read (drop 32 file))) v is in grind (arith, nat_tests)

-- ---- a slot that is filled up

agree : (xs l : List ℕ) (i : ℕ) → length xs ≤ i → i < length l → get_or (xs ++ drop (length xs) l) i 0 ≡ get_or l i 0
agree [] [] i le lt = refl
agree [] (a ∷ l) i le lt = refl
agree (x ∷ xs) [] i le lt = absurd (omega arith)
agree (x ∷ xs) (a ∷ l) zero le lt = absurd (omega arith)
agree (x ∷ xs) (a ∷ l) (suc i) le lt = agree xs l i (omega arith) (omega arith)

-- two numbers whose last bytes are equal are not complements
uneven : (xs ys : List ℕ) → get_or xs 7 0 ≡ get_or ys 7 0 → number_of xs + number_of ys ≡ 2 ^ 64 - 1 → ⊥
unfolding number_of
uneven xs ys same is = omega (arith, same, is)

not_counted : (slot : List ℕ) → (number_of (take 8 slot) + number_of (take 8 (drop 8 slot)) ≡ 2 ^ 64 - 1 → ⊥) → slot_bound slot ≡ 0
unfolding slot_bound
not_counted slot never = grind (arith, nat_tests)

short_none : (slot : List ℕ) → length slot < 16 → slot_bound slot ≡ 0
unfolding slot_bound
short_none slot lt = grind (arith, nat_tests)

module _ (s : List ℕ) (fits : length s ≤ 16) where
  abbrev first : List ℕ
  first = take 8 s ++ replicate (8 - length s) 0

  abbrev rest : List ℕ
  rest = drop (length s - 8) first

  is_filled : slot_filled s ≡ first ++ drop 8 s ++ rest
  unfolding slot_filled
  is_filled = refl

  length-first : length first ≡ 8
  length-first = omega (arith, length-append (take 8 s) (replicate (8 - length s) 0), length-take 8 s, length-replicate {A = ℕ} (8 - length s) 0)

  length-second : length (drop 8 s ++ rest) ≡ 8
  length-second = omega (arith, length-append (drop 8 s) rest, length-drop 8 s, length-drop (length s - 8) first, length-first, fits)

  halves : slot_filled s ≡ first ++ (drop 8 s ++ rest)
  halves = is_filled ∙ append_assoc first (drop 8 s) rest

  pub length-slot_filled : length (slot_filled s) ≡ 16
  length-slot_filled = omega (arith, ap length halves, length-append first (drop 8 s ++ rest), length-first, length-second)

  begins : first ++ drop 8 s ≡ s ++ replicate (8 - length s) 0
  begins = elim (le_or_lt (length s) 8) [
    | inl le ↦ ap (λ (l : List ℕ). first ++ l) (drop_all 8 s le) ∙ append-nil first ∙ ap (λ (l : List ℕ). l ++ replicate (8 - length s) 0) (take_all 8 s le)
    | inr lt ↦
        let none : 8 - length s ≡ 0 = omega (arith, lt) in
        let empty : replicate {A = ℕ} (8 - length s) 0 ≡ [] = ap (λ (n : ℕ). replicate {A = ℕ} n 0) none in
        ap (λ (l : List ℕ). (take 8 s ++ l) ++ drop 8 s) empty ∙ ap (λ (l : List ℕ). l ++ drop 8 s) (append-nil (take 8 s)) ∙ take-append-drop 8 s ∙ sym (append-nil s) ∙ ap (λ (l : List ℕ). s ++ l) (sym empty)
  ]

  abbrev pub more : List ℕ
  more = replicate (8 - length s) 0 ++ rest

  pub filled_on : slot_filled s ≡ s ++ more
  filled_on = is_filled ∙ ap (λ (l : List ℕ). l ++ rest) begins ∙ append_assoc s (replicate (8 - length s) 0) rest

  pub filled_whole : length s ≡ 16 → slot_filled s ≡ s
  filled_whole whole = sym (take_all (length s) (slot_filled s) (omega (arith, length-slot_filled, whole))) ∙ ap (λ (l : List ℕ). take (length s) l) filled_on ∙ take_at s more (length s) refl

  last : length s < 16 → get_or first 7 0 ≡ get_or (drop 8 s ++ rest) 7 0
  last lt =
      let n : length (drop 8 s) ≡ length s - 8 = length-drop 8 s in
      sym (ap (λ (k : ℕ). get_or (drop 8 s ++ drop k first) 7 0) (sym n) ∙ agree (drop 8 s) first 7 (omega (arith, n, lt)) (omega (arith, length-first)))

  filled_none : length s < 16 → slot_bound (slot_filled s) ≡ 0
  filled_none lt =
      let front : take 8 (slot_filled s) ≡ first = ap (λ (l : List ℕ). take 8 l) halves ∙ take_at first (drop 8 s ++ rest) 8 length-first in
      let back : take 8 (drop 8 (slot_filled s)) ≡ drop 8 s ++ rest =
      ap (λ (l : List ℕ). take 8 (drop 8 l)) halves ∙ ap (λ (l : List ℕ). take 8 l) (drop_at first (drop 8 s ++ rest) 8 length-first) ∙ take_all 8 (drop 8 s ++ rest) (omega (arith, length-second))
      in
      not_counted (slot_filled s) (λ is. uneven first (drop 8 s ++ rest) (last lt) ((λ i. number_of (sym front i) + number_of (sym back i)) ∙ is))

  pub filled_bound : slot_bound (slot_filled s) ≡ slot_bound s
  filled_bound = elim (le_or_lt 16 (length s)) [
    | inl le ↦ ap slot_bound (filled_whole (omega (arith, le, fits)))
    | inr lt ↦ filled_none lt ∙ sym (short_none s lt)
  ]

-- ---- a file that is migrated

module _ (owner : Owner) (file : List ℕ) where
  abbrev one : List ℕ
  one = take 16 file

  abbrev two : List ℕ
  two = take 16 (drop 16 file)

  one_fits : length one ≤ 16
  one_fits = omega (arith, length-take 16 file)

  two_fits : length two ≤ 16
  two_fits = omega (arith, length-take 16 (drop 16 file))

  abbrev a : List ℕ
  a = slot_filled one

  abbrev b : List ℕ
  b = slot_filled two

  length-a : length a ≡ 16
  length-a = length-slot_filled one one_fits

  length-b : length b ≡ 16
  length-b = length-slot_filled two two_fits

  length-both : length (a ++ b) ≡ 32
  length-both = omega (arith, length-append a b, length-a, length-b)

  pub length-migrated : length (migrated owner file) ≡ 64
  length-migrated = omega (arith, length-append (a ++ b) (tag_of owner), length-both, length-tag_of owner)

  pub migrated_tag : drop 32 (migrated owner file) ≡ tag_of owner
  migrated_tag = drop_at (a ++ b) (tag_of owner) 32 length-both

  apart : migrated owner file ≡ a ++ (b ++ tag_of owner)
  apart = append_assoc a b (tag_of owner)

  migrated_first : take 16 (migrated owner file) ≡ a
  migrated_first = ap (λ (l : List ℕ). take 16 l) apart ∙ take_at a (b ++ tag_of owner) 16 length-a

  migrated_second : take 16 (drop 16 (migrated owner file)) ≡ b
  migrated_second = ap (λ (l : List ℕ). take 16 (drop 16 l)) apart ∙ ap (λ (l : List ℕ). take 16 l) (drop_at a (b ++ tag_of owner) 16 length-a) ∙ take_at b (tag_of owner) 16 length-b

  pub migrated_slot_0 : slot_value (migrated owner file) 0 ≡ slot_value file 0
  migrated_slot_0 = ap slot_bound migrated_first ∙ filled_bound one one_fits

  pub migrated_slot_1 : slot_value (migrated owner file) 1 ≡ slot_value file 1
  migrated_slot_1 = ap slot_bound migrated_second ∙ filled_bound two two_fits

  pub migrated_value : file_value (migrated owner file) ≡ file_value file
  migrated_value = λ i. max (migrated_slot_0 i) (migrated_slot_1 i)

  -- the first 32 bytes, as far as the file has them
  front : take 32 file ≡ one ++ two
  front = elim (le_or_lt 16 (length file)) [
    | inl le ↦
        let sixteen : length one ≡ 16 = omega (arith, length-take 16 file, le) in
        let is : 32 ≡ length one + 16 = omega (arith, sixteen) in
        (λ i. take (is i) (sym (take-append-drop 16 file) i)) ∙ take-append-add one (drop 16 file) 16
    | inr lt ↦
        let none : drop 16 file ≡ [] = drop_all 16 file (omega (arith, lt)) in
        take_all 32 file (omega (arith, lt)) ∙ sym (take_all 16 file (omega (arith, lt))) ∙ sym (append-nil one) ∙ ap (λ (l : List ℕ). one ++ take 16 l) (sym none)
  ]

  goes_on : (rest : List ℕ) × (migrated owner file ≡ take 32 file ++ rest)
  goes_on = elim (le_or_lt 16 (length file)) [
    | inl le ↦
        let sixteen : length one ≡ 16 = omega (arith, length-take 16 file, le) in
        let tail = more two two_fits in (
          tail ++ tag_of owner,
          ap (λ (l : List ℕ). l ++ tag_of owner) ((λ i. filled_whole one one_fits sixteen i ++ filled_on two two_fits i) ∙ sym (append_assoc one two tail)) ∙ append_assoc (one ++ two) tail (tag_of owner) ∙ ap (λ (l : List ℕ). l ++ (tail ++ tag_of owner)) (sym front),
        )
    | inr lt ↦
        let all : take 32 file ≡ one = take_all 32 file (omega (arith, lt)) ∙ sym (take_all 16 file (omega (arith, lt))) in
        let tail = more one one_fits in (
          tail ++ (b ++ tag_of owner),
          apart ∙ ap (λ (l : List ℕ). l ++ (b ++ tag_of owner)) (filled_on one one_fits) ∙ append_assoc one tail (b ++ tag_of owner) ∙ ap (λ (l : List ℕ). l ++ (tail ++ (b ++ tag_of owner))) (sym all),
        )
  ]

  -- the migration keeps the contents of the file
  pub migration_keeps : take (migration_place file) (migrated owner file) ≡ take (migration_place file) file
  migration_keeps =
      ap (λ (l : List ℕ). take (migration_place file) l) goes_on.1 ∙ take_at (take 32 file) goes_on.0 (migration_place file) (omega (arith, length-take 32 file)) ∙ sym (take_min 32 file)

  pub length-migration_bytes : length (migration_bytes owner file) ≡ 64 - migration_place file
  length-migration_bytes = length-drop (migration_place file) (migrated owner file) ∙ ap (λ (n : ℕ). n - migration_place file) length-migrated

  pub migration_held : (new : List ℕ) → length file ≤ 64 → Holds file (migration_place file) (migration_bytes owner file) new → new ≡ migrated owner file
  migration_held new fits holds =
      let end : migration_place file + length (migration_bytes owner file) ≡ 64 = omega (arith, length-migration_bytes) in
      let none : drop (migration_place file + length (migration_bytes owner file)) file ≡ [] = ap (λ (n : ℕ). drop n file) end ∙ drop_all 64 file fits in
      holds ∙ ap (λ (l : List ℕ). take (migration_place file) file ++ migration_bytes owner file ++ l) none ∙ append-nil (take (migration_place file) file ++ migration_bytes owner file)
      ∙ ap (λ (l : List ℕ). l ++ migration_bytes owner file) (sym migration_keeps) ∙ take-append-drop (migration_place file) (migrated owner file)

  -- a file with its tag is unchanged
  pub tagged_stays : drop 32 file ≡ tag_of owner → migrated owner file ≡ file
  tagged_stays is =
      let long : length file ≡ 64 = tagged_length owner file is in
      let p : a ≡ one = filled_whole one one_fits (omega (arith, length-take 16 file, long)) in
      let q : b ≡ two = filled_whole two two_fits (omega (arith, length-take 16 (drop 16 file), length-drop 16 file, long)) in
      (λ i. p i ++ q i ++ sym is i) ∙ ap (λ (l : List ℕ). l ++ drop 32 file) (sym front) ∙ take-append-drop 32 file

-- ---- a crash during the migration

at_least : (x y : ℕ) → (0 < x → x ≡ y) → x ≤ y
at_least zero y same = omega arith
at_least (suc x) y same = omega (arith, same (omega arith))

module _ (file c : List ℕ) (n : ℕ) (torn : Torn (migration_place file) n file c) where
  same_front : (k : ℕ) → k ≤ migration_place file → take k c ≡ take k file
  same_front k le = sym (take-take k (migration_place file) c le) ∙ ap (λ (l : List ℕ). take k l) torn.before ∙ take-take k (migration_place file) file le

  second_of : (l : List ℕ) → take 16 (drop 16 l) ≡ drop 16 (take 32 l)
  second_of l = sym (drop-take 16 16 l)

  kept_0 : 0 < slot_value file 0 → slot_value file 0 ≡ slot_value c 0
  kept_0 some = let long = counted (take 16 file) some in ap slot_bound (sym (same_front 16 (omega (arith, long, length-take 16 file))))

  kept_1 : 0 < slot_value file 1 → slot_value file 1 ≡ slot_value c 1
  kept_1 some =
      let long = counted (take 16 (drop 16 file)) some in
      ap slot_bound (second_of file ∙ ap (λ (l : List ℕ). drop 16 l) (sym (same_front 32 (omega (arith, long, length-take 16 (drop 16 file), length-drop 16 file)))) ∙ sym (second_of c))

  pub torn_value : file_value file ≤ file_value c
  torn_value = omega (arith, at_least (slot_value file 0) (slot_value c 0) kept_0, at_least (slot_value file 1) (slot_value c 1) kept_1)

pub migration_done : (owner : Owner) (file seen new : List ℕ) (at : ℕ) (bytes : List ℕ) → file ≡ seen → length file ≤ 64 → at ≡ migration_place file → bytes ≡ migration_bytes owner file → Holds seen at bytes new → new ≡ migrated owner file
migration_done owner file seen new at bytes whole fits here is holds =
    migration_held owner file new fits (subst (λ (l : List ℕ). Holds l (migration_place file) (migration_bytes owner file) new) (sym whole) (subst (λ (p : ℕ × List ℕ). Holds seen p.0 p.1 new) (λ i. (here i, is i)) holds))

pub migration_torn : (file seen : List ℕ) (at n : ℕ) (old : List ℕ → Type 0) → file ≡ seen → at ≡ migration_place file → IsOnlyImage seen old → (c : List ℕ) → IsTornFrom at n old c → file_value file ≤ file_value c
migration_torn file seen at n old whole here only c from =
    torn_value file c n (subst (λ (p : ℕ). Torn p n file c) here (subst (λ (l : List ℕ). Torn at n l c) (only from.0 from.1 ∙ sym whole) from.2))
