-- A life file on a disk in memory: the results and effects of its calls, as functions of its numbers and the disk's
-- state.
use Rattle.std.specs.Prelude.{ℕ, ◌+◌, List, Result, Ok, Err, if◌then◌else◌, ◌==◌, nat_lt, true, replicate}
use Rattle.tora_life.specs.declared.lengths.TheConstants.{FIRST_READ}
use Rattle.tora_life.specs.declared.numbers.TheConstants.{LAST_NUMBER, RESERVED}
use Rattle.tora_life.specs.declared.numbers.Numbers.{Numbers}
use Rattle.tora_life.specs.declared.numbers.LifeError.{LifeError}
use Rattle.tora_life.specs.declared.numbers.LifeError.TheVariants.{Disk, Failed, Spent}
use Rattle.tora_life.specs.declared.disk.DiskError.{DiskError}
use Rattle.tora_life.specs.declared.state.State.{State}
use Rattle.tora_life.specs.LifeFile.{slot_of}
use Rattle.tora_life.specs.declared.migration.Version.{Version}
use Rattle.tora_life.specs.declared.migration.Version.TheVariants.{Untagged, Tagged}
use Rattle.tora_life.specs.declared.tags.Owner.{Owner}
use Rattle.tora_life.specs.Migration.{migration_place, migration_bytes}
use Rattle.tora_life.specs.Numbers.{value_of, lesser_slot, numbers_of, IsKept}
use Rattle.tora_life.specs.Calls.{place_of, file_read, version_read}
use Rattle.tora_life.specs.State.{read_answer, bytes_read, after_read, write_answer, after_write, sync_answer}
use Rattle.tora_life.specs.State.{after_sync, seen_of, MayLeave}

-- the first value if the call of the disk succeeded, the second if it failed
abbrev pub by_result : {A T : Type 0} → Result T DiskError → A → A → A
by_result (Ok _) ok err = ok
by_result (Err _) ok err = err

-- the count of bytes that the read of `open` returns
abbrev pub count_read : State → Result ℕ DiskError
count_read s = read_answer s 0 (replicate FIRST_READ 0)

abbrev pub buffer_read : State → List ℕ
buffer_read s = bytes_read s 0 (replicate FIRST_READ 0)

-- the result of the write of a migration
abbrev pub migration_answer : Owner → List ℕ → State → Result (Unit {0}) DiskError
migration_answer owner file s = write_answer s (migration_place file) (migration_bytes owner file)

abbrev pub migration_state : Owner → List ℕ → State → State
migration_state owner file s = after_write s (migration_place file) (migration_bytes owner file)

-- the result after a file was read, by its version
abbrev pub version_answer : Owner → List ℕ → Result Version LifeError → State → Result Numbers LifeError
version_answer owner file (Err error) s = Err error
version_answer owner file (Ok Tagged) s = Ok (numbers_of file)
version_answer owner file (Ok Untagged) s = by_result (migration_answer owner file s)
    (by_result (sync_answer (migration_state owner file s)) (Ok (numbers_of file)) (Err Disk)) (Err Disk)

abbrev pub version_state : Owner → List ℕ → Result Version LifeError → State → State
version_state owner file (Err error) s = s
version_state owner file (Ok Tagged) s = s
version_state owner file (Ok Untagged) s = by_result (migration_answer owner file s)
    (after_sync (migration_state owner file s)) (migration_state owner file s)

-- `open`: a sync, then one read of 65 bytes, and then the migration of a file without a tag
abbrev pub open_answer : Owner → State → Result Numbers LifeError
open_answer owner s =
    let synced = after_sync s in
    let count = count_read synced in
    let bytes = buffer_read synced in by_result (sync_answer s) (version_answer owner (file_read count bytes)
    (version_read owner count bytes) (after_read synced)) (Err Disk)

abbrev pub open_state : Owner → State → State
open_state owner s =
    let synced = after_sync s in
    let count = count_read synced in
    let bytes = buffer_read synced in by_result (sync_answer s) (version_state owner (file_read count bytes)
    (version_read owner count bytes) (after_read synced)) synced

-- the result of the write of a draw that reserves numbers
abbrev pub slot_answer : Numbers → State → Result (Unit {0}) DiskError
slot_answer numbers s = write_answer s (place_of (lesser_slot numbers)) (slot_of (value_of numbers + RESERVED))

abbrev pub slot_state : Numbers → State → State
slot_state numbers s = after_write s (place_of (lesser_slot numbers)) (slot_of (value_of numbers + RESERVED))

-- `draw`: the next number; if the reserved numbers are used up, a write and then a sync come first
abbrev pub draw_answer : Numbers → State → Result ℕ LifeError
draw_answer numbers s =
    if numbers.failed then Err Failed
    else if numbers.drawn == value_of numbers then
    (if nat_lt LAST_NUMBER (value_of numbers + RESERVED) then Err Spent
    else by_result (slot_answer numbers s) (by_result (sync_answer (slot_state numbers s)) (Ok (numbers.drawn + 1))
    (Err Disk)) (Err Disk))
    else Ok (numbers.drawn + 1)

abbrev pub draw_state : Numbers → State → State
draw_state numbers s =
    if numbers.failed then s
    else if numbers.drawn == value_of numbers then
    (if nat_lt LAST_NUMBER (value_of numbers + RESERVED) then s
    else by_result (slot_answer numbers s) (after_sync (slot_state numbers s)) (slot_state numbers s))
    else s

-- the invariant of an open life file on such a disk
abbrev pub IsKeptOn : Owner → Numbers → State → Type 0
IsKeptOn owner numbers s = IsKept (λ _. true) seen_of MayLeave owner numbers s
