-- What contracts see of a disk over a file of the system, and the system calls that each call of the disk makes.
use Rattle.std.specs.Prelude.{◌≡◌, ◌==◌, ℕ, List, length, Option, Some, None, Result, Ok, Err, IsErr, MatchResult}
use Rattle.std.specs.Prelude.{if◌then◌else◌, codes}
use Rattle.std.specs.Path.{path_parent}
use Rattle.std.specs.declared.io.Error.{Error}
use Rattle.tora_life.specs.declared.disk.DiskError.{DiskError}
use Rattle.tora_life.specs.Disk.{failures_after}

-- its open file, and how many calls have failed
pub record FileDiskView (F : Type 0) : Type 0 where
  pub file : F
  pub failures : ℕ

-- the result of a disk is that of the system, with every error replaced by the one error of a disk
abbrev pub Answers : {T : Type 0} → Result T Error → Result T DiskError → Type 0
Answers (Ok value) answer = answer ≡ Ok value
Answers (Err _) answer = IsErr answer

-- one call of the file with this result; it is counted if it failed
abbrev pub MakesCall : {F T : Type 0} → (F → Result T Error → F → Type 0) → FileDiskView F → Result T DiskError
    → FileDiskView F → Type 0
MakesCall {T = T} call disk answer after =
    (said : Result T Error) × call disk.file said after.file × Answers said answer
    × (after.failures ≡ failures_after answer disk.failures)

-- the folder `.`, for a path without a folder
abbrev pub here : List ℕ
here = codes "."

abbrev pub named_or_here : Option (List ℕ) → List ℕ
named_or_here None = here
named_or_here (Some folder) = if length folder == 0 then here else folder

-- the folder of the file at a path
abbrev pub folder_of : List ℕ → List ℕ
folder_of path = named_or_here (path_parent path)

-- the steps continue after a system call that succeeded, and return its error if it failed
abbrev pub GoesOn : {T D : Type 0} → Result T Error → Result D Error → (T → Type 0) → Type 0
GoesOn said answer next = MatchResult said next (λ error. answer ≡ Err error)

-- the folder at a path is opened and synced, and the result is the disk over a file
abbrev pub SyncsFolder : {S F : Type 0} → (S → List ℕ → Result F Error → S → Type 0)
    → (S → F → Result (Unit {0}) Error → F → S → Type 0) → S → List ℕ → F → Result (FileDiskView F) Error → Type 0
SyncsFolder {S = S} {F = F} open_folder sync_all files path file answer =
    (opened : Result F Error) × (with_folder : S) × open_folder files path opened with_folder
    × GoesOn opened answer (λ folder.
    (synced : Result (Unit {0}) Error) × (left : F) × (after : S) × sync_all with_folder folder synced left after
    × GoesOn synced answer (λ _.
    answer ≡ Ok (record { file = file; failures = 0 })))

-- the file at a path is opened or created, locked and synced, and then its folder is opened and synced; a step that
-- fails ends the sequence
abbrev pub OpensFile : {S F : Type 0} → (S → List ℕ → Result F Error → S → Type 0)
    → (S → List ℕ → Result F Error → S → Type 0) → (S → F → Result (Unit {0}) Error → F → S → Type 0)
    → (S → F → Result (Unit {0}) Error → F → S → Type 0) → S → List ℕ → Result (FileDiskView F) Error → Type 0
OpensFile {S = S} {F = F} open_file open_folder lock sync_all files path answer =
    (opened : Result F Error) × (with_file : S) × open_file files path opened with_file × GoesOn opened answer (λ file.
    (locked : Result (Unit {0}) Error) × (held : F) × (with_lock : S) × lock with_file file locked held with_lock
    × GoesOn locked answer (λ _.
    (synced : Result (Unit {0}) Error) × (kept : F) × (after : S) × sync_all with_lock held synced kept after
    × GoesOn synced answer (λ _.
    SyncsFolder open_folder sync_all after (folder_of path) kept answer)))
