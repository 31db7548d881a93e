-- The reads of a run over lines.
use Rattle.std.proofs.Common.{◌≡◌, ◌≢◌, ◌⊎◌, inl, inr, ℕ, ◌+◌, ◌^◌, List, [], ◌∷◌, ◌++◌, length, take, Option, Result, Ok, Err, refl, sym, ap, ◌∙◌, subst, arith}
use Rattle.std.specs.Prelude.{Bool, IfErr, OnErr}
use Rattle.std.specs.IoError.{error_kind}
use Rattle.std.specs.declared.io.Error.{Error}
use Rattle.std.specs.declared.io.ErrorKind.TheVariants.{Interrupted}
use Rattle.tora_lines.specs.Reads.{Given, given_by, AreReads, GoesOn, NoneFailed, IsReadSo, HasRead}
use Rattle.tora_lines.specs.LineText.{Text, faulty}
use Rattle.tora_lines.specs.Engine.{Kind, Stops, Finishes, Ends}
use Rattle.tora_lines.specs.Shortened.{TakesBytes, WritesText}
use Rattle.tora_lines.specs.declared.shortened.Held.{Held}
use Rattle.tora_lines.specs.declared.ended.Ended.{Ended}
use Rattle.tora_lines.specs.declared.ended.Ended.TheVariants.{Whole, Fault}
use Rattle.tora_lines.specs.declared.ended.ReplayError.{ReplayError}
use Rattle.tora_lines.specs.declared.ended.ReplayError.TheVariants.{Memory, Read, Write}

-- ---- between two reads

pub nothing_read : {R : Type 0} (did_read : R → Given → R → Type 0) (old : R) → HasRead did_read old old 0
nothing_read did_read old = record { reads = []; are = refl; none = tt; count_is = refl }

pub read_more : {R : Type 0} (did_read : R → Given → R → Type 0) (old before new : R) (count : ℕ) (given : Given) → HasRead did_read old before count → did_read before given new → GoesOn given → HasRead did_read old new (count + 1)
read_more did_read old before new count given h call goes = record {
  reads = given ∷ h.reads;
  are = (before, h.are, call);
  none = (goes, h.none);
  count_is = omega (arith, h.count_is);
}

-- ---- where a run ends

pub ends_at_memory : {R : Type 0} (did_read : R → Given → R → Type 0) (old new : R) (count : ℕ) → HasRead did_read old new count → IsReadSo did_read old new (Err Memory)
ends_at_memory did_read old new count h = record { reads = h.reads; are = h.are; ends = h.none }

pub ends_at_most : {R : Type 0} (did_read : R → Given → R → Type 0) (old new : R) (count : ℕ) → HasRead did_read old new count → count ≡ 2 ^ 32 → IsReadSo did_read old new (Err Read)
ends_at_most did_read old new count h e = record { reads = h.reads; are = h.are; ends = inr (h.count_is ∙ e, h.none) }

pub ends_at_failure : {R : Type 0} (did_read : R → Given → R → Type 0) (old before new : R) (count : ℕ) (error : Error) → HasRead did_read old before count → did_read before (Err error) new → error_kind error ≢ Interrupted → IsReadSo did_read old new (Err Read)
ends_at_failure did_read old before new count error h call failed = record {
  reads = Err error ∷ h.reads;
  are = (before, h.are, call);
  ends = inl (error, h.reads, refl, failed, h.none);
}

-- the result of a run that reached the end of the input
abbrev pub IsNoFailedRead : Result Ended ReplayError → Type 0
IsNoFailedRead (Ok ended) = Unit {0}
IsNoFailedRead (Err Memory) = Unit {0}
IsNoFailedRead (Err Read) = ⊥
IsNoFailedRead (Err Write) = Unit {0}

-- the result of a run that did not reach the end
abbrev pub IsNoEnd : Result Ended ReplayError → Type 0
IsNoEnd (Ok Whole) = ⊥
IsNoEnd (Ok (Fault n)) = Unit {0}
IsNoEnd (Err Memory) = Unit {0}
IsNoEnd (Err Read) = ⊥
IsNoEnd (Err Write) = Unit {0}

pub ends_at_end : {R : Type 0} (did_read : R → Given → R → Type 0) (old before new : R) (count n : ℕ) (buffer : List ℕ) (ended : Result Ended ReplayError) → HasRead did_read old before count → did_read before (given_by (Ok n) buffer) new → n ≡ 0 → IsNoFailedRead ended → IsReadSo did_read old new ended
ends_at_end {R} did_read old before new count n buffer ended h call zero fine = by_end ended fine
  where
    nothing : did_read before (Ok []) new
    nothing = subst (λ (k : ℕ). did_read before (Ok (take k buffer)) new) zero call

    by_end : (e : Result Ended ReplayError) → IsNoFailedRead e → IsReadSo did_read old new e
    by_end (Ok Whole) f = record { reads = Ok [] ∷ h.reads; are = (before, h.are, nothing); ends = (h.reads, refl, h.none) }
    by_end (Ok (Fault m)) f = record { reads = Ok [] ∷ h.reads; are = (before, h.are, nothing); ends = (tt, h.none) }
    by_end (Err Memory) f = record { reads = Ok [] ∷ h.reads; are = (before, h.are, nothing); ends = (tt, h.none) }
    by_end (Err Read) f = absurd f
    by_end (Err Write) f = record { reads = Ok [] ∷ h.reads; are = (before, h.are, nothing); ends = (tt, h.none) }

pub ends_before : {R : Type 0} (did_read : R → Given → R → Type 0) (old before new : R) (count n : ℕ) (buffer : List ℕ) (ended : Result Ended ReplayError) → HasRead did_read old before count → did_read before (given_by (Ok n) buffer) new → IsNoEnd ended → IsReadSo did_read old new ended
ends_before did_read old before new count n buffer (Ok Whole) h call fine = absurd fine
ends_before did_read old before new count n buffer (Ok (Fault m)) h call fine = record { reads = Ok (take n buffer) ∷ h.reads; are = (before, h.are, call); ends = (tt, h.none) }
ends_before did_read old before new count n buffer (Err Memory) h call fine = record { reads = Ok (take n buffer) ∷ h.reads; are = (before, h.are, call); ends = (tt, h.none) }
ends_before did_read old before new count n buffer (Err Read) h call fine = absurd fine
ends_before did_read old before new count n buffer (Err Write) h call fine = record { reads = Ok (take n buffer) ∷ h.reads; are = (before, h.are, call); ends = (tt, h.none) }

-- ---- the results of the engine's steps

pub finished_fine : {S : Type 0} (kind : Kind S) (state : S) (n : ℕ) (bytes : List ℕ) (w w' : Option (List ℕ)) (result : Result Ended ReplayError) → Finishes kind state n bytes w w' result → IsNoFailedRead result
finished_fine kind state n bytes w w' (Ok ended) f = tt
finished_fine kind state n bytes w w' (Err Memory) f = tt
finished_fine kind state n bytes w w' (Err Read) f = f
finished_fine kind state n bytes w w' (Err Write) f = tt

pub fault_fine : (m : ℕ) (w w' : Option (List ℕ)) (result : Result Ended ReplayError) → Ends (faulty m) w w' result → IsNoEnd result
fault_fine m w w' (Ok Whole) f = let d : Whole ≡ Fault m = f.1 in absurd cc
fault_fine m w w' (Ok (Fault n)) f = tt
fault_fine m w w' (Err Memory) f = tt
fault_fine m w w' (Err Read) f = f
fault_fine m w w' (Err Write) f = tt

pub stops_fine : {S : Type 0} (kind : Kind S) (state : S) (n : ℕ) (bytes : List ℕ) (w w' : Option (List ℕ)) (error : ReplayError) → Stops kind state n bytes w w' error → IsNoEnd (Err error)
stops_fine kind state n bytes w w' Memory s = tt
stops_fine kind state n bytes w w' Read s = s
stops_fine kind state n bytes w w' Write s = tt

pub written_fine : (text : Text) (w w' : Option (List ℕ)) (result : Result Ended ReplayError) → WritesText text w w' result → IsNoFailedRead result
written_fine text w w' (Ok ended) f = tt
written_fine text w w' (Err Memory) f = tt
written_fine text w w' (Err Read) f = f
written_fine text w w' (Err Write) f = tt

pub taken_fine : {S : Type 0} (kind : Kind S) (start : S) (n : ℕ) (front bytes : List ℕ) (w w' : Option (List ℕ)) (state : S) (m : ℕ) (held : Held) (error : ReplayError) → TakesBytes kind start n front bytes w w' state m held (Err error) → IsNoEnd (Err error)
taken_fine kind start n front bytes w w' state m held Memory s = tt
taken_fine kind start n front bytes w w' state m held Read s = s
taken_fine kind start n front bytes w w' state m held Write s = tt

-- ---- a type that passes on the reads of another reader

pub reads_within : {R V : Type 0} (did_read : R → Given → R → Type 0) (inner : V → R) (old : V) (reads : List Given) (new : V) → AreReads (λ a given b. did_read (inner a) given (inner b)) old reads new → AreReads did_read (inner old) reads (inner new)
reads_within did_read inner old [] new h = ap inner h
reads_within did_read inner old (given ∷ earlier) new h = (inner h.0, reads_within did_read inner old earlier h.0 h.1, h.2)

pub read_so_within : {R V : Type 0} (did_read : R → Given → R → Type 0) (inner : V → R) (old new : V) (ended : Result Ended ReplayError) → IsReadSo (λ a given b. did_read (inner a) given (inner b)) old new ended → IsReadSo did_read (inner old) (inner new) ended
read_so_within did_read inner old new ended h = record { reads = h.reads; are = reads_within did_read inner old h.reads new h.are; ends = h.ends }
