-- What the reads of an input return, and how they determine the end of a run.
use Rattle.std.specs.Prelude.{◌≡◌, ◌≢◌, ◌⊎◌, ◌^◌, ℕ, Bool, false, List, [], ◌∷◌, length, take, Option, Result, Ok, Err}
use Rattle.std.specs.Io.KnownBytes.{Consumes, Keeps}
use Rattle.std.specs.IoError.{error_kind}
use Rattle.std.specs.declared.io.Error.{Error}
use Rattle.std.specs.declared.io.ErrorKind.TheVariants.{Interrupted}
use Rattle.tora_lines.specs.declared.ended.Ended.{Ended}
use Rattle.tora_lines.specs.declared.ended.Ended.TheVariants.{Whole, Fault}
use Rattle.tora_lines.specs.declared.ended.ReplayError.{ReplayError}
use Rattle.tora_lines.specs.declared.ended.ReplayError.TheVariants.{Memory, Read, Write}

-- the result of one read: some bytes, none at the end of the input, or an error
abbrev pub Given : Type 0
Given = Result (List ℕ) Error

-- the result of a read that returned this and left this in the buffer
abbrev pub given_by : Result ℕ Error → List ℕ → Given
given_by (Ok n) buffer = Ok (take n buffer)
given_by (Err error) buffer = Err error

-- if the remaining bytes of a reader are known, they begin with the bytes of this read, and lose them
abbrev pub Gives : Option (List ℕ) → Given → Option (List ℕ) → Type 0
Gives old (Ok bytes) new = Consumes old new bytes
Gives old (Err error) new = Keeps old new

-- These reads lead from one reader to another; the list has the last read first.
abbrev pub AreReads : {R : Type 0} → (R → Given → R → Type 0) → R → List Given → R → Type 0
AreReads did_read old [] new = new ≡ old
AreReads {R} did_read old (given ∷ earlier) new = (before : R) × AreReads did_read old earlier before
    × did_read before given new

-- the read did not fail, or it was interrupted and is repeated
abbrev pub GoesOn : Given → Type 0
GoesOn (Ok bytes) = Unit {0}
GoesOn (Err error) = error_kind error ≡ Interrupted

-- none of the reads failed
abbrev pub NoneFailed : List Given → Type 0
NoneFailed [] = Unit {0}
NoneFailed (given ∷ earlier) = GoesOn given × NoneFailed earlier

-- the last read returned no bytes, and no earlier read failed
abbrev pub AreToTheEnd : List Given → Type 0
AreToTheEnd reads = (earlier : List Given) × (reads ≡ Ok [] ∷ earlier) × NoneFailed earlier

-- the last read failed, and no earlier read did
abbrev pub FailedLast : List Given → Type 0
FailedLast reads = (error : Error) × (earlier : List Given) × (reads ≡ Err error ∷ earlier)
    × (error_kind error ≢ Interrupted) × NoneFailed earlier

-- 2^32 reads did not reach the end of the input
abbrev pub AreTooMany : List Given → Type 0
AreTooMany reads = (length reads ≡ 2 ^ 32) × NoneFailed reads

-- how reads and the result of a run fit: `Read` only if the last read failed or there were too many
abbrev pub EndsReading : List Given → Result Ended ReplayError → Type 0
EndsReading reads (Ok Whole) = AreToTheEnd reads
EndsReading reads (Ok (Fault n)) = NoneFailed reads
EndsReading reads (Err Memory) = NoneFailed reads
EndsReading reads (Err Read) = FailedLast reads ⊎ AreTooMany reads
EndsReading reads (Err Write) = NoneFailed reads

-- The reads of a run lead from one reader to another, and fit its result.
pub record IsReadSo {R : Type 0} (did_read : R → Given → R → Type 0) (old new : R) (ended : Result Ended ReplayError) :
    Type 0 where
  pub reads : List Given
  pub are : AreReads did_read old reads new
  pub ends : EndsReading reads ended

-- The last call of a writer was a write, and it failed.
abbrev pub IsUnwritten : {W : Type 0} → (W → List ℕ → Bool → W → Type 0) → W → Type 0
IsUnwritten {W} did_write new = (before : W) × (bytes : List ℕ) × did_write before bytes false new

-- This number of reads led from one reader to another, and none failed.
pub record HasRead {R : Type 0} (did_read : R → Given → R → Type 0) (old new : R) (count : ℕ) : Type 0 where
  pub reads : List Given
  pub are : AreReads did_read old reads new
  pub none : NoneFailed reads
  pub count_is : length reads ≡ count
