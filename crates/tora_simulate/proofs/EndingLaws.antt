-- How a run ended, from the contract of the engine for the reader that was passed to it.
use Rattle.std.proofs.Common.{◌≡◌, ◌≢◌, ℕ, Bool, List, Option, Result, Ok, subst}
use Rattle.std.specs.Prelude.{IfOk, IfErr, IfSome}
use Rattle.std.specs.Io.KnownBytes.{IsAtEnd}
use Rattle.tora_lines.specs.declared.ended.Ended.{Ended}
use Rattle.tora_lines.specs.declared.ended.Ended.TheVariants.{Whole}
use Rattle.tora_lines.specs.declared.ended.ReplayError.{ReplayError}
use Rattle.tora_lines.specs.declared.ended.ReplayError.TheVariants.{Write}
use Rattle.tora_lines.specs.Engine.{IsWholeText, IsFrontOfText}
use Rattle.tora_lines.specs.LineText.{Text, Rules, whole_text}
use Rattle.tora_lines.specs.Reads.{Given, IsReadSo}
use Rattle.tora_lines.proofs.ReadLaws.{read_so_within}
use Rattle.tora_simulate.specs.Statuses.{traced_status}
use Rattle.tora_simulate.specs.Flushing.{IsFlushed}
use Rattle.tora_simulate.specs.Endings.{EndsWith, EndsBy}

module _ {R W : Type 0} (text : List ℕ → Text) (remaining : R → Option (List ℕ)) (did_read : R → Given → R → Type 0)
    (contents : W → Option (List ℕ)) (did_write : W → List ℕ → Bool → W → Type 0) (did_flush : W → Bool → W → Type 0)
    (reader given after : R) (old new : W) (ended : Result Ended ReplayError) (is_lost : Bool) (status : ℕ) where
  -- the engine ran over this reader
  pub ends_with : given ≡ reader → IfOk ended (λ e. IfSome (remaining given)
      (λ bytes. IsWholeText text bytes (contents old) (contents new) e))
      → (ended ≡ Ok Whole → IsAtEnd (remaining after))
      → IfErr ended (λ e. e ≢ Write → IsFrontOfText text (remaining given) (remaining after) (contents old)
      (contents new))
      → IsReadSo did_read given after ended → IsFlushed did_write did_flush ended new
      → status ≡ traced_status is_lost ended
      → EndsWith text remaining did_read contents did_write did_flush reader old new is_lost status
  ends_with same whole at_end begun reads flushed is =
      subst (λ (r : R). EndsWith text remaining did_read contents did_write did_flush r old new is_lost status) same
      (record {
        ended = ended;
        after = after;
        whole = whole;
        at_end = at_end;
        begun = begun;
        reads = reads;
        flushed = flushed;
        status_is = is;
      })

module _ {S R W : Type 0} (rules : Rules S) (remaining : R → Option (List ℕ)) (did_read : R → Given → R → Type 0)
    (contents : W → Option (List ℕ)) (did_write : W → List ℕ → Bool → W → Type 0) (did_flush : W → Bool → W → Type 0)
    (reader given after : R) (old new : W) (ended : Result Ended ReplayError) (is_lost : Bool) (status : ℕ) where
  pub ends_from : given ≡ reader
      → IfOk ended (λ e. IfSome (remaining given) (λ bytes. IsWholeText (whole_text rules) bytes (contents old)
      (contents new) e))
      → (ended ≡ Ok Whole → IsAtEnd (remaining after))
      → IfErr ended (λ e. e ≢ Write → IsFrontOfText (whole_text rules) (remaining given) (remaining after)
      (contents old) (contents new))
      → IsReadSo did_read given after ended → IsFlushed did_write did_flush ended new
      → status ≡ traced_status is_lost ended
      → EndsBy rules remaining did_read contents did_write did_flush reader old new is_lost status
  ends_from = ends_with (whole_text rules) remaining did_read contents did_write did_flush reader given after old new
      ended is_lost status

-- an end over a reader that passes on another's data is an end over that other reader
module _ {R V W : Type 0} (inner : V → R) (text : List ℕ → Text) (remaining : R → Option (List ℕ))
    (did_read : R → Given → R → Type 0)
    (contents : W → Option (List ℕ)) (did_write : W → List ℕ → Bool → W → Type 0) (did_flush : W → Bool → W → Type 0)
    (reader : V) (same : R) (old new : W) (is_lost : Bool) (status : ℕ) where
  pub ends_within : inner reader ≡ same
      → EndsWith text (λ v. remaining (inner v)) (λ a given b. did_read (inner a) given (inner b)) contents did_write
      did_flush
      reader old new is_lost status
      → EndsWith text remaining did_read contents did_write did_flush same old new is_lost status
  ends_within is h =
      ends_with text remaining did_read contents did_write did_flush same (inner reader) (inner h.after) old new
      h.ended is_lost status
      is h.whole h.at_end h.begun (read_so_within did_read inner reader h.after h.ended h.reads) h.flushed h.status_is
