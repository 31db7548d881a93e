-- What the calls of a disk do to its bytes, and what a crash may leave of them.
use Rattle.std.specs.Prelude.{◌≡◌, ◌⊎◌, ℕ, ◌+◌, ◌-◌, ◌^◌, ◌<◌, ◌≤◌, min, max, List, ◌++◌, length, take, drop, Result}
use Rattle.std.specs.Prelude.{is_err, if◌then◌else◌}
use Rattle.tora_life.specs.declared.disk.DiskError.{DiskError}

-- the new bytes are the old ones with these written over them at this offset
abbrev pub Holds : List ℕ → ℕ → List ℕ → List ℕ → Type 0
Holds old at bytes new = new ≡ take at old ++ bytes ++ drop (at + length bytes) old

-- the new file is the old one after a torn write of n bytes: any bytes in the range, cut anywhere past the old end
pub record Torn (at n : ℕ) (old new : List ℕ) : Type 0 where
  pub before : take at new ≡ take at old
  pub after : drop (at + n) new ≡ drop (at + n) old
  pub no_shorter : length old ≤ length new
  pub no_longer : length new ≤ max (length old) (at + n)

-- the file is one of these, or one of these after a torn write
abbrev pub IsTornFrom : ℕ → ℕ → (List ℕ → Type 0) → List ℕ → Type 0
IsTornFrom at n old file = (d : List ℕ) × old d × Torn at n d file

-- each new image is an old image after a step
abbrev pub Follows : (List ℕ → List ℕ → Type 0) → (List ℕ → Type 0) → (List ℕ → Type 0) → Type 0
Follows step old new = (c : List ℕ) → new c → (d : List ℕ) × old d × step d c

-- this is the only file that a crash may leave
abbrev pub IsOnlyImage : List ℕ → (List ℕ → Type 0) → Type 0
IsOnlyImage file images = (c : List ℕ) → images c → c ≡ file

-- Time passes: a crash since the moment t may have left what it may have left before, or what it may leave now.
pub record Elapses (before now : ℕ) (past since : ℕ → List ℕ → Type 0) (may_leave : List ℕ → Type 0) : Type 0 where
  pub later : before ≤ now
  pub nothing_else : (t : ℕ) (c : List ℕ) → t ≤ before → since t c → past t c ⊎ may_leave c
  pub keeps : (t : ℕ) (c : List ℕ) → t ≤ before → past t c → since t c

-- A crash at any moment since the state `old` leaves a file with the property P.
pub record LeavesOnly {D : Type 0} (moment : D → ℕ) (left_since : D → ℕ → List ℕ → Type 0) (old new : D) (P : List ℕ
    → Type 0) : Type 0 where
  pub later : moment old ≤ moment new
  pub each : (c : List ℕ) → left_since new (moment old) c → P c
  -- a crash since an earlier moment t leaves a file that it may have left before the run, or one with the property P
  pub before : (t : ℕ) (c : List ℕ) → t ≤ moment old → left_since new t c → left_since old t c ⊎ P c

-- the count of failures rises by 1 if the call failed; it stops at 2^64 - 1
abbrev pub failures_after : {T : Type 0} → Result T DiskError → ℕ → ℕ
failures_after result before = if is_err result then min (before + 1) (2 ^ 64 - 1) else before

-- a call failed in between: the count of failures rose, or is 2^64 - 1
abbrev pub HasCause : ℕ → ℕ → Type 0
HasCause before now = before < now ⊎ (now ≡ 2 ^ 64 - 1)

-- n bytes were read into the front of a buffer: as many as there are and fit
pub record IsRead (seen : List ℕ) (at : ℕ) (old : List ℕ) (n : ℕ) (new : List ℕ) : Type 0 where
  pub count : n ≡ min (length old) (length (drop at seen))
  pub bytes : new ≡ take (length old) (drop at seen) ++ drop n old

-- n bytes were read into the front of a buffer: at most as many as there are and fit, and at least one if possible
pub record IsReadInPart (seen : List ℕ) (at : ℕ) (old : List ℕ) (n : ℕ) (new : List ℕ) : Type 0 where
  pub few : n ≤ length (drop at seen)
  pub fits : n ≤ length old
  pub some : n ≡ 0 → (length old ≡ 0) ⊎ (length (drop at seen) ≡ 0)
  pub bytes : new ≡ take n (drop at seen) ++ drop n old
