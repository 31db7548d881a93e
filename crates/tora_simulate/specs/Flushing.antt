-- The result of a run whose output is flushed at the end, and which calls of its writer failed.
use Rattle.std.specs.Prelude.{◌≡◌, ◌⊎◌, ℕ, Bool, true, false, List, Result, IfOk, IfErr}
use Rattle.tora_lines.specs.Reads.{IsUnwritten}
use Rattle.tora_lines.specs.declared.ended.Ended.{Ended}
use Rattle.tora_lines.specs.declared.ended.ReplayError.{ReplayError}
use Rattle.tora_lines.specs.declared.ended.ReplayError.TheVariants.{Write}

-- The last call flushed the writer. The run succeeded only if the flush did, and ended with Write only if the flush or
-- a write failed.
pub record IsFlushed {W : Type 0} (did_write : W → List ℕ → Bool → W → Type 0) (did_flush : W → Bool → W → Type 0)
    (ended : Result Ended ReplayError) (new : W) : Type 0 where
  pub before : W
  pub ok : Bool
  pub call : did_flush before ok new
  pub only : IfOk ended (λ e. ok ≡ true)
  pub failed : IfErr ended (λ e. e ≡ Write → (ok ≡ false) ⊎ IsUnwritten did_write before)

-- A write or a flush failed.
abbrev pub FailedWriting : {W : Type 0} → (W → List ℕ → Bool → W → Type 0) → (W → Bool → W → Type 0) → W → Type 0
FailedWriting {W} did_write did_flush new = IsUnwritten did_write new ⊎ ((before : W) × did_flush before false new)
