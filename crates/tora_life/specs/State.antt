-- A disk in memory: what a crash may leave, and the results and effects of its calls.
use Rattle.std.specs.Prelude.{◌≡◌, ◌⊎◌, ℕ, ◌+◌, ◌-◌, ◌^◌, ◌≤◌, min, max, Bool, true, false, List, [], ◌∷◌, ◌++◌, length}
use Rattle.std.specs.Prelude.{take, drop, replicate, Result, Ok, Err, if◌then◌else◌, nat_lt, IsFalse, ◌||◌, Option}
use Rattle.std.specs.Prelude.{Some, None}
use Rattle.tora_life.specs.declared.lengths.TheConstants.{DISK_LENGTH}
use Rattle.tora_life.specs.TornBytes.{torn_over}
use Rattle.tora_life.specs.declared.state.State.{State}
use Rattle.tora_life.specs.declared.state.DiskCall.{DiskCall}
use Rattle.tora_life.specs.declared.state.DiskCall.TheVariants.{Read, Write, Sync}
use Rattle.tora_life.specs.declared.disk.DiskError.{DiskError}

-- the bytes that a read returns
abbrev pub seen_of : State → List ℕ
seen_of s = take s.len s.bytes

-- the file as it was at the last sync
abbrev pub synced_of : State → List ℕ
synced_of s = take s.synced_len s.synced

-- marks for the bytes that were written since the last sync, up to the end of the furthest write
abbrev pub marks_of : State → List Bool
marks_of s = take s.reach s.written

-- a crash keeps the bytes that were not written, may change the others, and may end the file anywhere from its old end
-- to the end of the furthest write
abbrev pub IsImage : List ℕ → List Bool → List ℕ → Type 0
IsImage [] marks file = length file ≤ length marks
IsImage (s ∷ synced) marks [] = ⊥
IsImage (s ∷ synced) [] (x ∷ file) = (x ≡ s) × IsImage synced [] file
IsImage (s ∷ synced) (m ∷ marks) (x ∷ file) = (IsFalse m → x ≡ s) × IsImage synced marks file

-- what a crash may leave: the bytes that a read returns, or the file of the last sync with torn bytes where it was
-- written since
abbrev pub MayLeave : State → List ℕ → Type 0
MayLeave s file = (file ≡ seen_of s) ⊎ IsImage (synced_of s) (marks_of s) file

-- the invariant of a disk in memory
pub record IsWhole (s : State) : Type 0 where
  pub len : s.len ≤ s.reach
  pub synced_len : s.synced_len ≤ s.reach
  pub reach : s.reach ≤ DISK_LENGTH
  pub bytes : length s.bytes ≡ DISK_LENGTH
  pub synced : length s.synced ≡ DISK_LENGTH
  pub written : length s.written ≡ DISK_LENGTH

-- the bytes of the file, followed by zeros up to 80 bytes
abbrev pub filled : List ℕ → List ℕ
filled file = file ++ replicate (DISK_LENGTH - length file) 0

-- a disk with this file, nothing written since a sync, and no call armed to fail
abbrev pub fresh_state : List ℕ → State
fresh_state file = record {
  bytes = filled file;
  len = length file;
  synced = filled file;
  synced_len = length file;
  written =
      replicate DISK_LENGTH false;
  reach = length file;
  read_fails = false;
  write_fails = false;
  sync_fails = false;
  failures = 0;
}

-- a list with these items written over it at an offset
abbrev pub over : {A : Type 0} → ℕ → List A → List A → List A
over at new old = take at old ++ new ++ drop (at + length new) old

-- one more failed call; the count stops at the greatest number
abbrev pub failures_more : ℕ → ℕ
failures_more failures = min (failures + 1) (2 ^ 64 - 1)

-- a read into a buffer, from an offset on: as many bytes as there are and fit
abbrev pub read_answer : State → ℕ → List ℕ → Result ℕ DiskError
read_answer s at buf = if s.read_fails then Err (record {}) else Ok (min (length buf) (length (drop at (seen_of s))))

-- the buffer after a read: the bytes read, followed by its old contents
abbrev pub bytes_read : State → ℕ → List ℕ → List ℕ
bytes_read s at buf = if s.read_fails then buf else take (length buf) (drop at (seen_of s))
    ++ drop (min (length buf) (length (drop at (seen_of s)))) buf

-- an armed read fails and changes nothing else
abbrev pub after_read : State → State
after_read s = if s.read_fails then record s { read_fails = false; failures = failures_more s.failures } else s

-- n bytes from an offset on count as written
abbrev pub marked : State → ℕ → ℕ → State
marked s at n = record s { written = over at (replicate n true) s.written; reach = max s.reach (at + n) }

-- a write past 80 bytes fails, and so does an armed write
abbrev pub write_answer : State → ℕ → List ℕ → Result (Unit {0}) DiskError
write_answer s at bytes = if nat_lt DISK_LENGTH (at + length bytes) || s.write_fails then Err (record {}) else Ok tt

-- a write past 80 bytes marks nothing; an armed write marks its range and keeps the old bytes
abbrev pub after_write : State → ℕ → List ℕ → State
after_write s at bytes =
    if nat_lt DISK_LENGTH (at + length bytes) then record s { write_fails = false; failures = failures_more s.failures }
    else if s.write_fails then record (marked s at (length bytes)) {
      write_fails = false;
      failures = failures_more s.failures;
    }
    else record (marked s at (length bytes)) { bytes = over at bytes s.bytes; len = max s.len (at + length bytes) }

-- an armed sync fails
abbrev pub sync_answer : State → Result (Unit {0}) DiskError
sync_answer s = if s.sync_fails then Err (record {}) else Ok tt

-- a successful sync puts all bytes on the disk, and then no byte counts as written
abbrev pub after_sync : State → State
after_sync s =
    if s.sync_fails then record s { sync_fails = false; failures = failures_more s.failures }
    else record s { synced = s.bytes; synced_len = s.len; written = replicate DISK_LENGTH false; reach = s.len }

-- the next call of this kind fails
abbrev pub armed : DiskCall → State → State
armed Read s = record s { read_fails = true }
armed Write s = record s { write_fails = true }
armed Sync s = record s { sync_fails = true }

-- the bytes written since the last sync are torn, or lost; they still count as written
abbrev pub after_crash : Option (List ℕ) → State → State
after_crash (Some torn) s = record s { bytes = torn_over 0 torn (marks_of s) s.synced; len = s.reach }
after_crash None s = record s { bytes = s.synced; len = s.synced_len }
