-- How a drive ended, and with which status.
use Rattle.std.specs.Prelude.{◌≡◌, ◌⊎◌, ℕ, Bool, false, List, Option, Result, Ok, Err}
use Rattle.std.specs.declared.io.Error.{Error}
use Rattle.std.specs.Io.KnownBytes.{Appends}
use Rattle.tora_lines.specs.LineText.{Text}
use Rattle.tora_simulate.specs.Flushing.{FailedWriting}
use Rattle.tora_lines.specs.Reads.{Given}
use Rattle.tora_drive.specs.declared.setup.DriveSetup.{DriveSetup}
use Rattle.tora_drive.specs.DriveText.{drive_rules, shortened_text, greeting}
use Rattle.tora_drive.specs.Recording.{recorded_rules}
use Rattle.tora_simulate.specs.Endings.{EndsWith, IsUnopened, HasNoMemory}

-- The greeting was written, and then the engine ended over this reader with this status.
pub record EndsGreeted {R W : Type 0} (text : List ℕ → Text) (remaining : R → Option (List ℕ))
    (did_read : R → Given → R → Type 0)
    (contents : W → Option (List ℕ)) (did_write : W → List ℕ → Bool → W → Type 0) (did_flush : W → Bool → W → Type 0)
    (reader : R) (old new : W) (is_lost : Bool) (status : ℕ) : Type 0 where
  pub greeted : W
  pub greets : Appends (contents old) (contents greeted) greeting
  pub ends : EndsWith text remaining did_read contents did_write did_flush reader greeted new is_lost status

-- The greeting could not be written or flushed.
pub record IsUngreeted {W : Type 0} (did_write : W → List ℕ → Bool → W → Type 0) (did_flush : W → Bool → W → Type 0)
    (new : W) (status : ℕ) : Type 0 where
  pub failed : FailedWriting did_write did_flush new
  pub status_is : status ≡ 1

-- A drive: it was greeted and ended with this status, or it could not be greeted.
abbrev pub EndsDrive : {R W : Type 0} → DriveSetup → (R → Option (List ℕ)) → (R → Given → R → Type 0)
    → (W → Option (List ℕ)) → (W → List ℕ → Bool → W → Type 0) → (W → Bool → W → Type 0) → R → W → W → ℕ → Type 0
EndsDrive setup remaining did_read contents did_write did_flush reader old new status =
    EndsGreeted (shortened_text (drive_rules setup)) remaining did_read contents did_write did_flush reader old new
    false status
    ⊎ IsUngreeted did_write did_flush new status

-- A recorded drive, whose record may be lost.
abbrev pub EndsRecorded : {R W : Type 0} → DriveSetup → (R → Option (List ℕ)) → (R → Given → R → Type 0)
    → (W → Option (List ℕ)) → (W → List ℕ → Bool → W → Type 0) → (W → Bool → W → Type 0) → R → W → W → Bool → ℕ → Type 0
EndsRecorded setup remaining did_read contents did_write did_flush reader old new is_lost status =
    EndsGreeted (shortened_text (recorded_rules setup)) remaining did_read contents did_write did_flush reader old new
    is_lost status
    ⊎ IsUngreeted did_write did_flush new status

-- A drive whose record goes to a new file. If the file cannot be created or memory runs out, nothing is written.
abbrev pub EndsRecordedTo : {F R W : Type 0} → (Result F Error → Type 0) → DriveSetup
    → (R → Option (List ℕ)) → (R → Given → R → Type 0)
    → (W → Option (List ℕ)) → (W → List ℕ → Bool → W → Type 0) → (W → Bool → W → Type 0) → R → W → W → ℕ → Type 0
EndsRecordedTo {F} created setup remaining did_read contents did_write did_flush reader old new status =
    ((made : F) × (is_lost : Bool) × created (Ok made)
    × EndsRecorded setup remaining did_read contents did_write did_flush reader old new is_lost status)
    ⊎ (IsUnopened (λ e. created (Err e)) old new status ⊎ HasNoMemory old new status)
