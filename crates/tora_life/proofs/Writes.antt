-- The effect of a write and a sync on a disk in memory.
use Rattle.std.proofs.Common.{◌≡◌, inl, inr, ℕ, zero, suc, ◌+◌, ◌-◌, ◌≤◌, max, Bool, true, false, List, [], ◌∷◌, ◌++◌, length, take, drop, replicate, refl, sym, ◌∙◌, ap, subst, arith, append_assoc, length-append, length-take, Result, Ok, Err, OnOk, nat_lt, if◌then◌else◌, ◌||◌}
use Rattle.std.proofs.lemmas.List.{take_at, drop_at, drop_all, take-take, drop-take, length-replicate, length-drop}
use Rattle.std.proofs.Math.Seq.{take-append-add}
use Rattle.std.proofs.lemmas.Bool.Decides.{nat_tests}
use Rattle.tora_life.specs.declared.disk.DiskError.{DiskError}
use Rattle.tora_life.specs.declared.state.State.{State}
use Rattle.tora_life.specs.Disk.{Torn, Holds, IsOnlyImage}
use Rattle.tora_life.specs.State.{IsImage, MayLeave, IsWhole, over, marked, seen_of, synced_of, marks_of, failures_more, after_write, write_answer, after_sync, sync_answer}
use Rattle.tora_life.proofs.Bounds.{le_or_lt}
use Rattle.tora_life.proofs.Images.{mark, torn_back, torn_same, clean}

module _ {A : Type 0} where
  none_taken : (l : List A) → take 0 l ≡ []
  none_taken [] = refl
  none_taken (x ∷ l) = refl

  drop_nothing : (n : ℕ) → drop {A = A} n [] ≡ []
  drop_nothing zero = refl
  drop_nothing (suc n) = refl

  length-front : (at : ℕ) (new old : List A) → at ≤ length old → length (take at old ++ new) ≡ at + length new
  length-front at new old le = omega (arith, length-append (take at old) new, length-take at old, le)

  pub length-over : (at : ℕ) (new old : List A) → at + length new ≤ length old → length (over at new old) ≡ length old
  length-over at new old fits =
      omega (arith, length-append (take at old ++ new) (drop (at + length new) old), length-front at new old (omega (arith, fits)), length-drop (at + length new) old, fits)

  dropped : (k m : ℕ) (old : List A) → drop k (take m old) ≡ take (m - k) (drop k old)
  dropped k m old = elim (le_or_lt k m) [
    | inl le ↦ let is : m ≡ k + (m - k) = omega (arith, le) in ap (λ (i : ℕ). drop k (take i old)) is ∙ drop-take k (m - k) old
    | inr lt ↦ let none : m - k ≡ 0 = omega (arith, lt) in drop_all k (take m old) (omega (arith, length-take m old, lt)) ∙ sym (ap (λ (i : ℕ). take i (drop k old)) none ∙ none_taken (drop k old))
  ]

  pub over_take : (at m : ℕ) (new old : List A) → at ≤ m → at + length new ≤ length old → take (max m (at + length new)) (over at new old) ≡ over at new (take m old)
  over_take at m new old le fits =
      let k = at + length new in
      let front = take at old ++ new in
      let long : length front ≡ at + length new = length-front at new old (omega (arith, fits)) in
      let is : max m (at + length new) ≡ length front + (m - k) = omega (arith, long) in
      ap (λ (i : ℕ). take i (front ++ drop k old)) is ∙ take-append-add front (drop k old) (m - k)
      ∙ (λ i. (sym (take-take at m old le) i ++ new) ++ sym (dropped k m old) i)

pub torn_held : (at : ℕ) (bytes old : List ℕ) → at ≤ length old → Torn at (length bytes) old (over at bytes old)
torn_held at bytes old le =
    let long : length (take at old ++ bytes) ≡ at + length bytes = length-front at bytes old le in
    let rest = drop (at + length bytes) old in
    let all : length (over at bytes old) ≡ at + length bytes + (length old - (at + length bytes)) = omega (arith, length-append (take at old ++ bytes) rest, long, length-drop (at + length bytes) old) in
    record {
      before = ap (λ (l : List ℕ). take at l) (append_assoc (take at old) bytes rest) ∙ take_at (take at old) (bytes ++ rest) at (omega (arith, length-take at old, le));
      after = drop_at (take at old ++ bytes) rest (at + length bytes) long;
      no_shorter = omega (arith, all);
      no_longer = omega (arith, all);
    }

front_marks : (n : ℕ) (ms : List Bool) → replicate n true ++ drop n ms ≡ mark 0 n ms
front_marks zero [] = refl
front_marks zero (m ∷ ms) = refl
front_marks (suc n) [] = ap (λ (l : List Bool). true ∷ l) (ap (λ (l : List Bool). replicate n true ++ l) (sym (drop_nothing n)) ∙ front_marks n [])
front_marks (suc n) (m ∷ ms) = ap (λ (l : List Bool). true ∷ l) (front_marks n ms)

all_marks : (at n : ℕ) (ms : List Bool) → at ≤ length ms → (take at ms ++ replicate n true) ++ drop (at + n) ms ≡ mark at n ms
all_marks zero n ms le =
    let less : 0 + n ≡ n = omega arith in
    (λ i. (none_taken ms i ++ replicate n true) ++ drop (less i) ms) ∙ front_marks n ms
all_marks (suc k) n [] le = absurd (omega arith)
all_marks (suc k) n (m ∷ ms) le =
    let more : suc k + n ≡ suc (k + n) = omega arith in
    ap (λ (j : ℕ). (take (suc k) (m ∷ ms) ++ replicate n true) ++ drop j (m ∷ ms)) more ∙ ap (λ (l : List Bool). m ∷ l) (all_marks k n ms (omega arith))

pub marks_over : (at n : ℕ) (ms : List Bool) → at ≤ length ms → over at (replicate n true) ms ≡ mark at n ms
marks_over at n ms le = ap (λ (j : ℕ). (take at ms ++ replicate n true) ++ drop (at + j) ms) (length-replicate n true) ∙ all_marks at n ms le

module _ (s : State) (whole : IsWhole s) (at : ℕ) (bytes : List ℕ) (place : at ≤ length (seen_of s)) where
  abbrev n : ℕ
  n = length bytes

  at_len : at ≤ s.len
  at_len = omega (arith, place, length-take s.len s.bytes)

  new_marks : at + n ≤ 80 → marks_of (marked s at n) ≡ mark at n (marks_of s)
  new_marks fits =
      let long : length (replicate n true) ≡ n = length-replicate n true in
      ap (λ (j : ℕ). take (max s.reach (at + j)) (over at (replicate n true) s.written)) (sym long)
      ∙ over_take at s.reach (replicate n true) s.written (omega (arith, at_len, whole.len)) (omega (arith, long, fits, whole.written))
      ∙ marks_over at n (marks_of s) (omega (arith, length-take s.reach s.written, at_len, whole.len, whole.reach, whole.written))

  back : at + n ≤ 80 → (c : List ℕ) → IsImage (synced_of s) (marks_of (marked s at n)) c → (d : List ℕ) × MayLeave s d × Torn at n d c
  back fits c image =
      let was = torn_back at n (synced_of s) (marks_of s) c (omega (arith, length-take s.reach s.written, at_len, whole.len, whole.reach, whole.written)) (subst (λ (ms : List Bool). IsImage (synced_of s) ms c) (new_marks fits) image) in
      (was.0, inr was.1, was.2)

  held : at + n ≤ 80 → take (max s.len (at + n)) (over at bytes s.bytes) ≡ over at bytes (seen_of s)
  held fits = over_take at s.len bytes s.bytes at_len (omega (arith, fits, whole.bytes))

  fits_if : false ≡ nat_lt 80 (at + n) → at + n ≤ 80
  fits_if is = grind (arith, nat_tests)

  abbrev after : Bool → Bool → State
  after long fails =
      if long then record s { write_fails = false; failures = failures_more s.failures }
      else if fails then record (marked s at n) { write_fails = false; failures = failures_more s.failures }
      else record (marked s at n) { bytes = over at bytes s.bytes; len = max s.len (at + n) }

  crash_of : (long fails : Bool) → long ≡ nat_lt 80 (at + n) → (c : List ℕ) → MayLeave (after long fails) c → (d : List ℕ) × MayLeave s d × Torn at n d c
  crash_of true fails is c left = (c, left, torn_same at n c)
  crash_of false true is c (inl seen) = (c, inl seen, torn_same at n c)
  crash_of false true is c (inr image) = back (fits_if is) c image
  crash_of false false is c (inl seen) =
      (seen_of s, inl refl, subst (λ (l : List ℕ). Torn at n (seen_of s) l) (sym (seen ∙ held (fits_if is))) (torn_held at bytes (seen_of s) place))
  crash_of false false is c (inr image) = back (fits_if is) c image

  pub write_crash : (c : List ℕ) → MayLeave (after_write s at bytes) c → (d : List ℕ) × MayLeave s d × Torn at n d c
  write_crash c left = crash_of (nat_lt 80 (at + n)) s.write_fails refl c left

  held_of : (long fails : Bool) → long ≡ nat_lt 80 (at + n) → let answer : Result (Unit {0}) DiskError = if long || fails then Err (record {}) else Ok tt in OnOk answer (Holds (seen_of s) at bytes (seen_of (after long fails)))
  held_of true fails is = tt
  held_of false true is = tt
  held_of false false is = held (fits_if is)

  pub write_held : OnOk (write_answer s at bytes) (Holds (seen_of s) at bytes (seen_of (after_write s at bytes)))
  write_held = held_of (nat_lt 80 (at + n)) s.write_fails refl

module _ (s : State) (whole : IsWhole s) where
  abbrev pub synced : Bool → State
  synced fails =
      if fails then record s { sync_fails = false; failures = failures_more s.failures }
      else record s { synced = s.bytes; synced_len = s.len; written = replicate 80 false; reach = s.len }

  pub only : (c : List ℕ) → MayLeave (synced false) c → c ≡ seen_of s
  only c (inl seen) = seen
  only c (inr image) = clean s.len 80 (seen_of s) c (omega (arith, length-take s.len (replicate 80 false), length-take s.len s.bytes, whole.bytes, length-replicate 80 false)) image

  durable_of : (fails : Bool) → let answer : Result (Unit {0}) DiskError = if fails then Err (record {}) else Ok tt in OnOk answer (IsOnlyImage (seen_of s) (MayLeave (synced fails)))
  durable_of true = tt
  durable_of false = only

  pub sync_durable : OnOk (sync_answer s) (IsOnlyImage (seen_of s) (MayLeave (after_sync s)))
  sync_durable = durable_of s.sync_fails

  kept_of : (fails : Bool) (c : List ℕ) → MayLeave (synced fails) c → MayLeave s c
  kept_of true c left = left
  kept_of false c left = inl (only c left)

  pub sync_crash : (c : List ℕ) → MayLeave (after_sync s) c → MayLeave s c
  sync_crash c left = kept_of s.sync_fails c left
