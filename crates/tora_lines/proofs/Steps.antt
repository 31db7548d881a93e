-- The steps of the engine over one line.
use Rattle.std.proofs.Common.{◌≡◌, ℕ, ◌+◌, ◌-◌, ◌<◌, ◌≤◌, ◌==◌, List, [], ◌++◌, length, take, drop, Option, Some, Err, refl, ap, arith}
use Rattle.std.specs.List.{position}
use Rattle.std.specs.Io.KnownBytes.{Appends}
use Rattle.std.proofs.lemmas.List.{length-drop, drop-drop, take_all}
use Rattle.tora_lines.specs.LineText.{faulty}
use Rattle.tora_lines.specs.Engine.{Kind, IsFault, text_of, Prints, Answers, IsAnswered, Stops}
use Rattle.tora_lines.specs.declared.ended.ReplayError.{ReplayError}
use Rattle.tora_lines.specs.declared.ended.ReplayError.TheVariants.{Memory, Read, Write}
use Rattle.tora_lines.proofs.Splits.{cut_at}
use Rattle.tora_lines.proofs.Flow.{text_goes_on, text_faults, Prints-then}

-- one line that is processed, from its index on
pub line_prints : {S : Type 0} (kind : Kind S) (state : S) (n i : ℕ) (bytes : List ℕ) (next : S) (b c : Option (List ℕ)) → position (λ x. x == 10) bytes ≡ Some i → IsAnswered kind state (take i bytes) next b c
    → Prints kind state n bytes b c (λ more. text_of kind next (n + 1) (drop (i + 1) bytes ++ more))
line_prints kind state n i bytes next b c h a = record {
  written = a.text;
  grown = a.grown;
  goes = λ more. text_goes_on kind state n i bytes more next a.text h a.goes_on;
}

pub line_faults : {S : Type 0} (kind : Kind S) (state : S) (n i : ℕ) (bytes : List ℕ) (b c : Option (List ℕ)) → position (λ x. x == 10) bytes ≡ Some i → IsFault kind state (take i bytes) → Appends b c [] → Prints kind state n bytes b c (λ more. faulty n)
line_faults kind state n i bytes b c h r kept = record { written = []; grown = kept; goes = λ more. text_faults kind state n i bytes more h r }

-- nothing was processed, and memory ran out
pub nothing_prints : {S : Type 0} (kind : Kind S) (state : S) (n : ℕ) (bytes : List ℕ) (b c : Option (List ℕ)) → Appends b c [] → Prints kind state n bytes b c (λ more. text_of kind state n (bytes ++ more))
nothing_prints kind state n bytes b c kept = record { written = []; grown = kept; goes = λ more. refl }

pub line_stops : {S : Type 0} (kind : Kind S) (state : S) (n : ℕ) (bytes line : List ℕ) (next : S) (b c : Option (List ℕ)) (e : ReplayError) → Answers kind state line next b c (Err e) → Stops kind state n bytes b c e
line_stops kind state n bytes line next b c Memory h = ((λ more. text_of kind state n (bytes ++ more)), nothing_prints kind state n bytes b c h)
line_stops kind state n bytes line next b c Read h = h
line_stops kind state n bytes line next b c Write h = tt

pub Stops-then : {S : Type 0} (kind : Kind S) (state : S) (n : ℕ) (bytes : List ℕ) (a b c : Option (List ℕ)) (next : S) (m : ℕ) (left : List ℕ) (e : ReplayError)
    → Prints kind state n bytes a b (λ more. text_of kind next m (left ++ more)) → Stops kind next m left b c e → Stops kind state n bytes a c e
Stops-then kind state n bytes a b c next m left Memory p q = (q.0, Prints-then kind state n bytes a b c next m left q.0 p q.1)
Stops-then kind state n bytes a b c next m left Read p q = q
Stops-then kind state n bytes a b c next m left Write p q = tt

-- the rest of a text after one more line
pub left_is : (text rest : List ℕ) (i : ℕ) → length rest ≤ length text → i < length rest → rest ≡ drop (length text - length rest) text → drop (i + 1) rest ≡ drop (length text - length (drop (i + 1) rest)) text
left_is text rest i within below e =
    let k : length text - length (drop (i + 1) rest) ≡ (length text - length rest) + (i + 1) = simp length-drop (omega arith) in
    rw (k, ← drop-drop (i + 1) (length text - length rest) text) (ap (drop (i + 1)) e)

pub record IsRunning {S : Type 0} (kind : Kind S) (state : S) (n : ℕ) (text : List ℕ) (a b : Option (List ℕ)) (next : S) (m : ℕ) (rest : List ℕ) : Type 0 where
  pub prints : Prints kind state n text a b (λ more. text_of kind next m (rest ++ more))
  pub count : m + length rest ≤ n + length text
  pub within : length rest ≤ length text
  pub rest_is : rest ≡ drop (length text - length rest) text

pub tail_is : (k : ℕ) (rest : List ℕ) → take (length rest - k) (drop k rest) ≡ drop k rest
tail_is k rest = take_all (length rest - k) (drop k rest) (omega (arith, length-drop k rest))

-- a line is processed, and the loop goes on after it
pub runs_on : {S : Type 0} (kind : Kind S) (state : S) (n : ℕ) (text : List ℕ) (a b c : Option (List ℕ)) (next : S) (m : ℕ) (rest : List ℕ) (i : ℕ) (new : S)
    → IsRunning kind state n text a b next m rest → position (λ x. x == 10) rest ≡ Some i → IsAnswered kind next (take i rest) new b c
    → IsRunning kind state n text a c new (m + 1) (take (length rest - (i + 1)) (drop (i + 1) rest))
runs_on kind state n text a b c next m rest i new r h done =
    let below = (cut_at 10 i rest h).below in
    rw (tail_is (i + 1) rest) (record {
      prints = Prints-then kind state n text a b c next m rest (λ more. text_of kind new (m + 1) (drop (i + 1) rest ++ more)) r.prints (line_prints kind next m i rest new b c h done);
      count = omega (arith, r.count, length-drop (i + 1) rest);
      within = omega (arith, r.within, length-drop (i + 1) rest);
      rest_is = left_is text rest i r.within below r.rest_is;
    })
