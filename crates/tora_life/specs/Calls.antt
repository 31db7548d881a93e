-- The calls of the disk that a life file makes, in their order.
use Rattle.std.specs.Prelude.{◌≡◌, ℕ, Bool, if◌then◌else◌, Result, Ok, Err, is_ok, List, [], take, replicate}
use Rattle.std.specs.Prelude.{MatchResult}
use Rattle.tora_life.specs.declared.lengths.TheConstants.{SLOT_LENGTH, FIRST_READ}
use Rattle.tora_life.specs.declared.disk.DiskError.{DiskError}
use Rattle.tora_life.specs.declared.migration.Version.{Version}
use Rattle.tora_life.specs.declared.migration.Version.TheVariants.{Untagged, Tagged}
use Rattle.tora_life.specs.declared.numbers.Numbers.{Numbers}
use Rattle.tora_life.specs.declared.numbers.LifeError.{LifeError}
use Rattle.tora_life.specs.declared.numbers.LifeError.TheVariants.{Disk}
use Rattle.tora_life.specs.declared.slots.Slot.{Slot}
use Rattle.tora_life.specs.declared.slots.Slot.TheVariants.{First, Second}
use Rattle.tora_life.specs.declared.tags.Owner.{Owner}
use Rattle.tora_life.specs.Migration.{version_of, migration_place, migration_bytes}
use Rattle.tora_life.specs.Numbers.{numbers_of}

-- where a slot begins
abbrev pub place_of : Slot → ℕ
place_of First = 0
place_of Second = SLOT_LENGTH

-- one write of these bytes at an offset, and then a sync if the write succeeded
abbrev pub WritesAndSyncs : {D : Type 0} → (D → ℕ → List ℕ → Result (Unit {0}) DiskError → D → Type 0)
    → (D → Result (Unit {0}) DiskError → D → Type 0) → ℕ → List ℕ → D → Bool → D → Type 0
WritesAndSyncs {D = D} writes syncs at bytes old ok new =
    (written : Result (Unit {0}) DiskError) × (between : D) × writes old at bytes written between
    × MatchResult written (λ _. (synced : Result (Unit {0}) DiskError) × syncs between synced new
    × (is_ok synced ≡ ok)) (λ _. (new ≡ between) × (is_ok written ≡ ok))

-- the file that a read into 65 bytes returned: the whole file, if it has at most 64 bytes
abbrev pub file_read : Result ℕ DiskError → List ℕ → List ℕ
file_read (Ok count) bytes = take count bytes
file_read (Err _) bytes = []

abbrev pub version_read : Owner → Result ℕ DiskError → List ℕ → Result Version LifeError
version_read owner (Ok count) bytes = version_of owner (take count bytes)
version_read owner (Err _) bytes = Err Disk

-- the result of opening a file that was read; the flag says whether a migration, if there is one, succeeded
abbrev pub answer_after : Bool → List ℕ → Result Numbers LifeError
answer_after ok file = if ok then Ok (numbers_of file) else Err Disk

-- after the file was read: no further call if it has its tag or is refused; otherwise one write up to the end of its
-- tag, and a sync
abbrev pub Migrates : {D : Type 0} → (D → ℕ → List ℕ → Result (Unit {0}) DiskError → D → Type 0)
    → (D → Result (Unit {0}) DiskError → D → Type 0) → Owner → List ℕ → Result Version LifeError → D
    → Result Numbers LifeError → D → Type 0
Migrates writes syncs owner file (Err error) old answer new = (new ≡ old) × (answer ≡ Err error)
Migrates writes syncs owner file (Ok Tagged) old answer new = (new ≡ old) × (answer ≡ Ok (numbers_of file))
Migrates writes syncs owner file (Ok Untagged) old answer new =
    (ok : Bool) × WritesAndSyncs writes syncs (migration_place file) (migration_bytes owner file) old ok new
    × (answer ≡ answer_after ok file)

-- a sync, then one read of 65 bytes if the sync succeeded, and then the migration of a file without a tag
abbrev pub OpensBy : {D : Type 0} → (D → Result (Unit {0}) DiskError → D → Type 0)
    → (D → ℕ → List ℕ → Result ℕ DiskError → List ℕ → D → Type 0)
    → (D → ℕ → List ℕ → Result (Unit {0}) DiskError → D → Type 0) → Owner → D → Result Numbers LifeError → D → Type 0
OpensBy {D = D} syncs reads writes owner old answer new =
    (synced : Result (Unit {0}) DiskError) × (between : D) × syncs old synced between
    × MatchResult synced
    (λ _. (count : Result ℕ DiskError) × (bytes : List ℕ) × (after : D)
    × reads between 0 (replicate FIRST_READ 0) count bytes after × Migrates writes syncs owner (file_read count bytes)
    (version_read owner count bytes) after answer new)
    (λ _. (new ≡ between) × (answer ≡ Err Disk))
