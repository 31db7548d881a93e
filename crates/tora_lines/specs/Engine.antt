-- What the engine promises of its input and its output.
use Rattle.std.specs.Prelude.{◌≡◌, ℕ, ◌+◌, ◌-◌, ◌≤◌, ◌<◌, ◌==◌, Bool, true, false, List, [], ◌∷◌, ◌++◌, length, drop}
use Rattle.std.specs.Prelude.{Option, Some, None, Result, Ok, Err}
use Rattle.std.specs.List.{position}
use Rattle.std.specs.Io.KnownBytes.{Appends, Consumes}
use Rattle.tora_lines.specs.declared.session.TheConstants.{LONGEST_LINE}
use Rattle.tora_lines.specs.Pieces.{pieces_of}
use Rattle.tora_lines.specs.LineText.{Text, prepend, faulty}
use Rattle.tora_lines.specs.declared.ended.Ended.{Ended}
use Rattle.tora_lines.specs.declared.ended.ReplayError.{ReplayError}
use Rattle.tora_lines.specs.declared.ended.ReplayError.TheVariants.{Memory, Read, Write}

-- ---- a kind of file

-- a line is a fault, whatever lines follow
abbrev pub IsFaultIn : {S : Type 0} → (S → ℕ → List (List ℕ) → Text) → S → List ℕ → Type 0
IsFaultIn text state line = (n : ℕ) (lines : List (List ℕ)) → text state n (line ∷ lines) ≡ faulty n

-- a line leads to a state and prints a text, whatever lines follow
abbrev pub GoesOnIn : {S : Type 0} → (S → ℕ → List (List ℕ) → Text) → S → List ℕ → S → List ℕ → Type 0
GoesOnIn text state line next out =
    (n : ℕ) (lines : List (List ℕ)) → text state n (line ∷ lines) ≡ prepend out (text next (n + 1) lines)

-- the output for the lines from line n on, in each state, and how the input ends; a line of more than 4,096 bytes is a
-- fault
pub record Kind (S : Type 0) : Type 0 where
  pub text : S → ℕ → List (List ℕ) → Text
  pub long : (state : S) (line : List ℕ) → LONGEST_LINE < length line → IsFaultIn text state line

abbrev pub IsFault : {S : Type 0} → Kind S → S → List ℕ → Type 0
IsFault kind state line = IsFaultIn kind.text state line

abbrev pub GoesOn : {S : Type 0} → Kind S → S → List ℕ → S → List ℕ → Type 0
GoesOn kind state line next out = GoesOnIn kind.text state line next out

-- the output for bytes that begin with line n
unfoldable pub text_of : {S : Type 0} → Kind S → S → ℕ → List ℕ → Text
text_of kind state n bytes = kind.text state n (pieces_of bytes)

-- ---- promises about an input

-- The known bytes of the writer grew by the output for the input, and the input ends as the result says.
pub record IsWholeText (text : List ℕ → Text) (input : List ℕ) (old new : Option (List ℕ)) (ended : Ended) : Type 0
  where
    pub written : Appends old new (text input).0
    pub ends : ended ≡ (text input).1

-- s is a prefix of t
abbrev pub Begins : List ℕ → List ℕ → Type 0
Begins s t = (rest : List ℕ) × (t ≡ s ++ rest)

-- The reader returned some bytes, and the writer got a prefix of the output for them.
pub record IsFrontOfText (text : List ℕ → Text) (old_reader new_reader old_writer new_writer : Option (List ℕ)) : Type 0
  where
    pub given : List ℕ
    pub written : List ℕ
    pub read : Consumes old_reader new_reader given
    pub grown : Appends old_writer new_writer written
    pub begins : Begins written (text given).0

-- ---- steps of the engine

-- The written text, followed by `onward`, is the output for these bytes and any that follow them.
pub record Prints {S : Type 0} (kind : Kind S) (state : S) (n : ℕ) (bytes : List ℕ) (old new : Option (List ℕ))
    (onward : List ℕ → Text) : Type 0 where
  pub written : List ℕ
  pub grown : Appends old new written
  pub goes : (more : List ℕ) → text_of kind state n (bytes ++ more) ≡ prepend written (onward more)

-- the bytes have no LF
abbrev pub IsOpen : List ℕ → Type 0
IsOpen bytes = position (λ x. x == 10) bytes ≡ None

-- One line was processed (true), or it is a fault (false).
pub record IsAnswered {S : Type 0} (kind : Kind S) (state : S) (line : List ℕ) (next : S) (old new : Option (List ℕ)) :
    Type 0 where
  pub text : List ℕ
  pub goes_on : GoesOn kind state line next text
  pub grown : Appends old new text

abbrev pub Answers : {S : Type 0} → Kind S → S → List ℕ → S → Option (List ℕ) → Option (List ℕ)
    → Result Bool ReplayError → Type 0
Answers kind state line next old new (Ok true) = IsAnswered kind state line next old new
Answers kind state line next old new (Ok false) = IsFault kind state line × Appends old new []
Answers kind state line next old new (Err Memory) = Appends old new []
Answers kind state line next old new (Err Read) = ⊥
Answers kind state line next old new (Err Write) = Unit {0}

-- The bytes were appended to the pending ones (true), or the line is too long (false).
abbrev pub Keeps : List ℕ → List ℕ → List ℕ → Result Bool ReplayError → Type 0
Keeps old bytes new (Ok true) = (new ≡ old ++ bytes) × (length new ≤ LONGEST_LINE)
Keeps old bytes new (Ok false) = LONGEST_LINE < length old + length bytes
Keeps old bytes new (Err Memory) = Unit {0}
Keeps old bytes new (Err Read) = ⊥
Keeps old bytes new (Err Write) = ⊥

-- memory ran out, and the written text is a prefix of the output, or a write failed
abbrev pub Stops : {S : Type 0} → Kind S → S → ℕ → List ℕ → Option (List ℕ) → Option (List ℕ) → ReplayError → Type 0
Stops kind state n bytes old new Memory = (onward : List ℕ → Text) × Prints kind state n bytes old new onward
Stops kind state n bytes old new Read = ⊥
Stops kind state n bytes old new Write = Unit {0}

-- Complete lines were taken from the front of the bytes, and these bytes are left.
pub record IsDrained {S : Type 0} (kind : Kind S) (state : S) (n : ℕ) (bytes : List ℕ) (old new : Option (List ℕ))
    (next : S) (m : ℕ) (left : List ℕ) : Type 0 where
  pub prints : Prints kind state n bytes old new (λ more. text_of kind next m (left ++ more))
  pub is_open : IsOpen left
  pub count : m + length left ≤ n + length bytes

abbrev pub Drains : {S : Type 0} → Kind S → S → ℕ → List ℕ → Option (List ℕ) → Option (List ℕ) → S → ℕ
    → Result (Option ℕ) ReplayError → Type 0
Drains kind state n bytes old new next m (Ok (Some left)) = (left ≤ length bytes)
    × IsDrained kind state n bytes old new next m (drop (length bytes - left) bytes)
Drains kind state n bytes old new next m (Ok None) = Prints kind state n bytes old new (λ more. faulty m)
Drains kind state n bytes old new next m (Err e) = Stops kind state n bytes old new e

-- The complete lines of the bytes were processed (true), or one is a fault (false).
abbrev pub TakesChunk : {S : Type 0} → Kind S → S → ℕ → List ℕ → Option (List ℕ) → Option (List ℕ) → S → ℕ → List ℕ
    → Result Bool ReplayError → Type 0
TakesChunk kind state n bytes old new next m left (Ok true) = IsDrained kind state n bytes old new next m left
    × (length left ≤ LONGEST_LINE)
TakesChunk kind state n bytes old new next m left (Ok false) = Prints kind state n bytes old new (λ more. faulty m)
TakesChunk kind state n bytes old new next m left (Err e) = Stops kind state n bytes old new e

-- The output for the bytes was written, and the input ends as the result says.
pub record IsFinished {S : Type 0} (kind : Kind S) (state : S) (n : ℕ) (bytes : List ℕ) (old new : Option (List ℕ))
    (ended : Ended) : Type 0 where
  pub grown : Appends old new (text_of kind state n bytes).0
  pub ends : ended ≡ (text_of kind state n bytes).1

-- memory ran out at the end of the input, after a prefix of the output
pub record IsCutOff {S : Type 0} (kind : Kind S) (state : S) (n : ℕ) (bytes : List ℕ) (old new : Option (List ℕ)) :
    Type 0 where
  pub written : List ℕ
  pub grown : Appends old new written
  pub begins : Begins written (text_of kind state n bytes).0

abbrev pub Finishes : {S : Type 0} → Kind S → S → ℕ → List ℕ → Option (List ℕ) → Option (List ℕ)
    → Result Ended ReplayError → Type 0
Finishes kind state n bytes old new (Ok ended) = IsFinished kind state n bytes old new ended
Finishes kind state n bytes old new (Err Memory) = IsCutOff kind state n bytes old new
Finishes kind state n bytes old new (Err Read) = ⊥
Finishes kind state n bytes old new (Err Write) = Unit {0}

-- The output at the end of the input was written: nothing, or a fault.
abbrev pub Ends : Text → Option (List ℕ) → Option (List ℕ) → Result Ended ReplayError → Type 0
Ends text old new (Ok ended) = Appends old new text.0 × (ended ≡ text.1)
Ends text old new (Err Memory) = Appends old new []
Ends text old new (Err Read) = ⊥
Ends text old new (Err Write) = Unit {0}

-- Between two reads: the bytes that were read, and those of them that are still pending.
pub record IsUnderway {S : Type 0} (kind : Kind S) (start state : S) (n : ℕ) (left : List ℕ)
    (old_reader reader old_writer writer : Option (List ℕ)) (most : ℕ) : Type 0 where
  pub given : List ℕ
  pub read : Consumes old_reader reader given
  pub drained : IsDrained kind start 1 given old_writer writer state n left
  pub short : length left ≤ LONGEST_LINE
  pub few : length given ≤ most
