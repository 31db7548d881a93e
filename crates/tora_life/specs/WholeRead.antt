-- Repeated reads, up to the end of the file or until the buffer is full.
use Rattle.std.specs.Prelude.{◌≡◌, ◌≢◌, ◌⊎◌, ℕ, zero, suc, ◌+◌, ◌-◌, ◌^◌, ◌==◌, min, List, ◌++◌, take, drop, Result, Ok}
use Rattle.std.specs.Prelude.{Err, IsErr, MatchResult, MatchBool}
use Rattle.std.specs.declared.io.Error.{Error}
use Rattle.std.specs.declared.io.ErrorKind.TheVariants.{Interrupted}
use Rattle.std.specs.IoError.{error_kind}

-- Continues reading into a buffer: old reader, bytes read so far, old buffer, result, new reader and new buffer. Each
-- read fills the rest of the buffer. It ends at the first read of no bytes and at the first error other than an
-- interruption. After a bounded number of reads it ends with an error.
unfoldable pub ReadsOn : {F : Type 0} → (F → ℕ → List ℕ → Result ℕ Error → List ℕ → F → Type 0) → ℕ → ℕ → F → ℕ → List ℕ
    → Result ℕ Error → F → List ℕ → Type 0
ReadsOn read zero at reader count buf answer after new = IsErr answer × (after ≡ reader) × (new ≡ buf)
ReadsOn {F = F} read (suc more) at reader count buf answer after new =
    (said : Result ℕ Error) × (bytes : List ℕ) × (between : F) × read reader (min (at + count) (2 ^ 64 - 1))
    (drop count buf) said bytes between
    × MatchResult said
    (λ n. MatchBool (n == 0) ((answer ≡ Ok count) × (after ≡ between)
    × (new ≡ take count buf ++ bytes)) (ReadsOn read more at between (count + n) (take count buf ++ bytes) answer
    after new))
    (λ error. ((error_kind error ≡ Interrupted) × ReadsOn read more at between count (take count buf ++ bytes) answer
    after new)
    ⊎ ((error_kind error ≢ Interrupted) × (answer ≡ Err error) × (after ≡ between) × (new ≡ take count buf ++ bytes)))

-- reads from an offset on until the buffer is full or nothing is left: old reader, old buffer, result, new reader and
-- new buffer
abbrev pub ReadsWhole : {F : Type 0} → (F → ℕ → List ℕ → Result ℕ Error → List ℕ → F → Type 0) → ℕ → F → List ℕ
    → Result ℕ Error → F → List ℕ → Type 0
ReadsWhole read at reader buf answer after new = ReadsOn read (2 ^ 64 - 1) at reader 0 buf answer after new
