-- The result of a read of a life file.
use Rattle.std.proofs.Common.{◌≡◌, ◌≤◌, ◌<◌, ◌+◌, inl, inr, ℕ, Bool, List, take, drop, replicate, length, min, max, refl, sym, subst, ◌∙◌, ap, arith, length-append, length-take, Ok, Err, true, false, IsTrue, nat_lt}
use Rattle.tora_life.specs.declared.numbers.Numbers.{Numbers}
use Rattle.std.proofs.lemmas.Bool.Decides.{nat_tests}
use Rattle.tora_life.specs.declared.migration.Version.{Version}
use Rattle.tora_life.specs.declared.numbers.LifeError.TheVariants.{Damaged}
use Rattle.tora_life.specs.declared.tags.Owner.{Owner}
use Rattle.tora_life.specs.LifeFile.{slot_bound, slot_value, file_value, Covers}
use Rattle.tora_life.specs.Disk.{IsOnlyImage, IsRead}
use Rattle.tora_life.specs.Numbers.{numbers_of, value_of, IsKept}
use Rattle.tora_life.specs.Migration.{version_of, migrated}
use Rattle.tora_life.proofs.Bounds.{take_min, drop_min, drop_none, le_or_lt, read_whole}
use Rattle.tora_life.proofs.Migrations.{migrated_slot_0, migrated_slot_1, migrated_tag, migrated_value, version_fits}

pub read_numbers : (file : List ℕ) (first second drawn : ℕ) → first ≡ slot_bound (take (min (length file) 16) file) → second ≡ slot_bound (take (min (length (drop (min (length file) 16) file)) 16) (drop (min (length file) 16) file)) → drawn ≡ max first second
    → let made : Numbers = record { first = first; second = second; drawn = drawn; failed = false } in made ≡ numbers_of file
read_numbers file first second drawn a b d =
    let a' : first ≡ slot_value file 0 = a ∙ ap slot_bound (take_min 16 file) in
    let b' : second ≡ slot_value file 1 = b ∙ ap slot_bound (take_min 16 (drop (min (length file) 16) file)) ∙ ap (λ (l : List ℕ). slot_bound (take 16 l)) (drop_min 16 file) in
    let d' : drawn ≡ file_value file = d ∙ (λ i. max (a' i) (b' i)) in
    λ i. record { first = a' i; second = b' i; drawn = d' i; failed = false }

-- the invariant of an opened file, from the bytes that were read
pub opened_kept : {D : Type 0} (tells : D → Bool) (seen : D → List ℕ) (may_leave : D → List ℕ → Type 0) (owner : Owner) (numbers : Numbers) (disk : D) (bytes : List ℕ) → numbers.drawn ≡ value_of numbers → (IsTrue (tells disk) → numbers ≡ numbers_of bytes) → (IsTrue (tells disk) → seen disk ≡ migrated owner bytes) → (IsTrue (tells disk) → IsOnlyImage (seen disk) (may_leave disk))
    → IsKept tells seen may_leave owner numbers disk
opened_kept tells seen may_leave owner numbers disk bytes used is whole only = record {
  room = omega (arith, used);
  reach = λ less. absurd (omega (arith, used, less));
  images = λ told c left.
      subst (λ (n : Numbers). Covers owner n.drawn c) (sym (is told)) (subst (λ (l : List ℕ). Covers owner (file_value bytes) l) (sym (only told c left ∙ whole told)) (record { value = omega (arith, migrated_value owner bytes); tag = migrated_tag owner bytes }));
  only = λ told sound. only told;
  first = λ told sound. ap (λ (n : Numbers). n.first) (is told) ∙ sym (migrated_slot_0 owner bytes) ∙ ap (λ (l : List ℕ). slot_value l 0) (sym (whole told));
  second = λ told sound. ap (λ (n : Numbers). n.second) (is told) ∙ sym (migrated_slot_1 owner bytes) ∙ ap (λ (l : List ℕ). slot_value l 1) (sym (whole told));
}

-- ---- what was read

long_version : (owner : Owner) (file : List ℕ) → 64 < length file → version_of owner file ≡ Err Damaged
long_version owner file lt = let long : nat_lt 64 (length file) ≡ true = grind (arith, nat_tests) in rw long refl

-- a read into 65 bytes determines the version of the file
pub read_version : (owner : Owner) (seen buf : List ℕ) (n : ℕ) → IsRead seen 0 (replicate 65 0) n buf → version_of owner (take n buf) ≡ version_of owner seen
read_version owner seen buf n read = elim (le_or_lt 65 n) [
  | inl le ↦
      let none : drop 0 seen ≡ seen = drop_none seen in
      let count : n ≡ min 65 (length seen) = read.count ∙ ap (λ (l : List ℕ). min 65 (length l)) none in
      let long : length buf ≡ length (take 65 (drop 0 seen)) + length (drop n (replicate {A = ℕ} 65 0)) = ap length read.bytes ∙ length-append (take 65 (drop 0 seen)) (drop n (replicate 65 0)) in
      let front : length (take 65 (drop 0 seen)) ≡ min 65 (length seen) = length-take 65 (drop 0 seen) ∙ ap (λ (l : List ℕ). min 65 (length l)) none in
      long_version owner (take n buf) (omega (arith, length-take n buf, long, front, count, le)) ∙ sym (long_version owner seen (omega (arith, count, le)))
  | inr lt ↦ ap (version_of owner) (read_whole seen (replicate 65 0) buf n read lt).0
]

-- if a file opens, the whole of it was read
pub read_all : (owner : Owner) (seen buf : List ℕ) (n : ℕ) (v : Version) → IsRead seen 0 (replicate 65 0) n buf → version_of owner (take n buf) ≡ Ok v → take n buf ≡ seen
read_all owner seen buf n v read is =
    let fits : length seen ≤ 64 = version_fits owner seen v (sym (read_version owner seen buf n read) ∙ is) in
    let count : n ≡ min 65 (length seen) = read.count ∙ ap (λ (l : List ℕ). min 65 (length l)) (drop_none seen) in
    (read_whole seen (replicate 65 0) buf n read (omega (arith, count, fits))).0
