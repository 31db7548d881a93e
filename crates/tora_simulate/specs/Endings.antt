-- The status and the output of a run over a file of lines.
use Rattle.std.specs.Prelude.{◌≡◌, ◌≢◌, ◌⊎◌, ℕ, Bool, false, List, Option, Some, None, Result, Ok, Err, IfOk, IfErr}
use Rattle.std.specs.Prelude.{IfSome}
use Rattle.std.specs.declared.io.Error.{Error}
use Rattle.std.specs.Io.KnownBytes.{IsAtEnd}
use Rattle.tora_lines.specs.Reads.{Given, IsReadSo}
use Rattle.tora_lines.specs.Engine.{IsWholeText, IsFrontOfText}
use Rattle.tora_lines.specs.LineText.{Text, Rules, whole_text}
use Rattle.tora_simulate.specs.Paths.{IsFailed}
use Rattle.tora_simulate.specs.Statuses.{traced_status}
use Rattle.tora_lines.specs.declared.ended.Ended.{Ended}
use Rattle.tora_lines.specs.declared.ended.Ended.TheVariants.{Whole}
use Rattle.tora_lines.specs.declared.ended.ReplayError.{ReplayError}
use Rattle.tora_lines.specs.declared.ended.ReplayError.TheVariants.{Write}
use Rattle.tora_simulate.specs.Flushing.{IsFlushed}

-- The status is that of an end of the engine over this reader: the whole text of its input was written, or a front of
-- it if memory ran out or a read failed, and then the writer was flushed. If the end says that a read or a write
-- failed, one did. If a trace is lost, the status is not 0.
pub record EndsWith {R W : Type 0} (text : List ℕ → Text) (remaining : R → Option (List ℕ))
    (did_read : R → Given → R → Type 0)
    (contents : W → Option (List ℕ)) (did_write : W → List ℕ → Bool → W → Type 0) (did_flush : W → Bool → W → Type 0)
    (reader : R) (old new : W) (is_lost : Bool) (status : ℕ) : Type 0 where
  pub ended : Result Ended ReplayError
  pub after : R  -- the reader
  pub whole : IfOk ended (λ e. IfSome (remaining reader)
      (λ bytes. IsWholeText text bytes (contents old) (contents new) e))
  pub at_end : ended ≡ Ok Whole → IsAtEnd (remaining after)
  pub begun : IfErr ended (λ e. e ≢ Write → IsFrontOfText text (remaining reader) (remaining after) (contents old)
      (contents new))
  pub reads : IsReadSo did_read reader after ended
  pub flushed : IsFlushed did_write did_flush ended new
  pub status_is : status ≡ traced_status is_lost ended

-- `EndsWith` for the text that these rules make.
abbrev pub EndsBy : {S R W : Type 0} → Rules S → (R → Option (List ℕ)) → (R → Given → R → Type 0)
    → (W → Option (List ℕ)) → (W → List ℕ → Bool → W → Type 0) → (W → Bool → W → Type 0) → R → W → W → Bool → ℕ → Type 0
EndsBy rules remaining did_read contents did_write did_flush reader old new is_lost status =
    EndsWith (whole_text rules) remaining did_read contents did_write did_flush reader old new is_lost status

-- Opening or creating a file gave an error; the status is that of the error, and nothing was written.
pub record IsUnopened {W : Type 0} (gave : Error → Type 0) (old new : W) (status : ℕ) : Type 0 where
  pub failed : IsFailed gave status
  pub nothing : new ≡ old

-- Memory ran out, and nothing was written.
pub record HasNoMemory {W : Type 0} (old new : W) (status : ℕ) : Type 0 where
  pub status_is : status ≡ 5
  pub nothing : new ≡ old

-- A file that is read and one that is written have the same path; nothing was written.
pub record IsOnePlace {W : Type 0} (path place : List ℕ) (old new : W) (status : ℕ) : Type 0 where
  pub same : path ≡ place
  pub status_is : status ≡ 1
  pub nothing : new ≡ old

-- The file at the path was opened, and the status is that of the engine's run over it; or it was not opened, with an
-- error.
abbrev pub EndsFile : {R S W : Type 0} → (List ℕ → Result R Error → Type 0) → (R → Option (List ℕ))
    → (R → Given → R → Type 0)
    → Rules S → (W → Option (List ℕ)) → (W → List ℕ → Bool → W → Type 0) → (W → Bool → W → Type 0) → List ℕ → W → W
    → ℕ → Type 0
EndsFile {R} did_open remaining did_get rules contents did_write did_flush path old new status =
    ((reader : R) × did_open path (Ok reader)
    × EndsBy rules remaining did_get contents did_write did_flush reader old new false status)
    ⊎ IsUnopened (λ e. did_open path (Err e)) old new status

-- Opening the file at `path` gave this error; or it was opened, and creating the file at `trace` gave the error.
abbrev pub IsUntraced : {R : Type 0} → (List ℕ → Result R Error → Type 0) → (List ℕ → Result R Error → Type 0) → List ℕ
    → List ℕ → Error → Type 0
IsUntraced {R} did_open did_create path trace error = did_open path (Err error)
    ⊎ ((reader : R) × did_open path (Ok reader) × did_create trace (Err error))

-- A run that writes its trace to a new file at `trace`. The trace may be lost. There is no run if a file cannot be
-- opened or created, if memory runs out, or if the trace would replace the file that is read.
abbrev pub EndsTraced : {R S W : Type 0} → (List ℕ → Result R Error → Type 0) → (List ℕ → Result R Error → Type 0)
    → (R → Option (List ℕ)) → (R → Given → R → Type 0)
    → Rules S → (W → Option (List ℕ)) → (W → List ℕ → Bool → W → Type 0) → (W → Bool → W → Type 0)
    → List ℕ → List ℕ → W → W → ℕ → Type 0
EndsTraced {R} did_open did_create remaining did_get rules contents did_write did_flush path trace old new status =
    ((reader : R) × (made : R) × (is_lost : Bool) × did_open path (Ok reader) × did_create trace (Ok made)
    × EndsBy rules remaining did_get contents did_write did_flush reader old new is_lost status)
    ⊎ (IsUnopened (IsUntraced did_open did_create path trace) old new status
    ⊎ (HasNoMemory old new status ⊎ IsOnePlace path trace old new status))

-- A run with a trace or without one.
abbrev pub EndsSimulated : {R S W : Type 0} → (List ℕ → Result R Error → Type 0) → (List ℕ → Result R Error → Type 0)
    → (R → Option (List ℕ)) → (R → Given → R → Type 0)
    → Rules S → (W → Option (List ℕ)) → (W → List ℕ → Bool → W → Type 0) → (W → Bool → W → Type 0)
    → List ℕ → Option (List ℕ) → W → W → ℕ → Type 0
EndsSimulated did_open did_create remaining did_get rules contents did_write did_flush path None old new status =
    EndsFile did_open remaining did_get rules contents did_write did_flush path old new status
EndsSimulated did_open did_create remaining did_get rules contents did_write did_flush path (Some trace) old new
    status =
    EndsTraced did_open did_create remaining did_get rules contents did_write did_flush path trace old new status
