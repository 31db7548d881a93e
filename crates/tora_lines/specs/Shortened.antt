-- Lines of any length: one of more than 4,096 bytes is processed as an empty line.
use Rattle.std.specs.Prelude.{◌≡◌, ◌⊎◌, ℕ, nat_lt, ◌<◌, ◌≤◌, if◌then◌else◌, Bool, true, false, List, [], ◌++◌, length}
use Rattle.std.specs.Prelude.{map, Option, Result, Ok, Err}
use Rattle.std.specs.Io.KnownBytes.{Appends, Consumes}
use Rattle.tora_lines.specs.declared.session.TheConstants.{LONGEST_LINE}
use Rattle.tora_lines.specs.Pieces.{pieces_of}
use Rattle.tora_lines.specs.LineText.{Text, prepend, faulty}
use Rattle.tora_lines.specs.Engine.{Kind, IsOpen, Begins}
use Rattle.tora_lines.specs.declared.ended.Ended.{Ended}
use Rattle.tora_lines.specs.declared.ended.ReplayError.{ReplayError}
use Rattle.tora_lines.specs.declared.ended.ReplayError.TheVariants.{Memory, Read, Write}
use Rattle.tora_lines.specs.declared.shortened.Held.{Held}

abbrev pub shortened : List ℕ → List ℕ
shortened line = if nat_lt LONGEST_LINE (length line) then [] else line

-- the output for bytes that begin with line n
unfoldable pub shortened_text_of : {S : Type 0} → Kind S → S → ℕ → List ℕ → Text
shortened_text_of kind state n bytes = kind.text state n (map shortened (pieces_of bytes))

-- the stored line has these bytes, or it is too long
abbrev pub Holds : Held → List ℕ → Type 0
Holds held text = ((held.is_too_long ≡ false) × (held.bytes.items ≡ text) × (length text ≤ LONGEST_LINE))
    ⊎ ((held.is_too_long ≡ true) × (LONGEST_LINE < length text))

-- The written text, followed by `onward`, is the output for these bytes and any that follow them.
pub record Goes (text : List ℕ → Text) (bytes : List ℕ) (old new : Option (List ℕ)) (onward : List ℕ
    → Text) : Type 0 where
  pub written : List ℕ
  pub grown : Appends old new written
  pub goes : (more : List ℕ) → text (bytes ++ more) ≡ prepend written (onward more)

-- the output for bytes, if line n begins with `front` before them
abbrev pub text_behind : {S : Type 0} → Kind S → S → ℕ → List ℕ → List ℕ → Text
text_behind kind state n front bytes = shortened_text_of kind state n (front ++ bytes)

-- The bytes that are not left were processed, after the beginning `front` of line n; the beginning of line m is stored.
pub record Takes {S : Type 0} (kind : Kind S) (start : S) (n : ℕ) (front bytes : List ℕ) (old new : Option (List ℕ))
    (state : S) (m : ℕ) (held : Held) (left : List ℕ) : Type 0 where
  pub rest : List ℕ
  pub holds : Holds held rest
  pub is_open : IsOpen rest
  pub goes : Goes (text_behind kind start n front) bytes old new (λ more. text_behind kind state m rest (left ++ more))

-- All bytes were processed (true), or one of their lines is a fault (false).
abbrev pub TakesBytes : {S : Type 0} → Kind S → S → ℕ → List ℕ → List ℕ → Option (List ℕ) → Option (List ℕ) → S → ℕ
    → Held → Result Bool ReplayError → Type 0
TakesBytes kind start n front bytes old new state m held (Ok true) =
    Takes kind start n front bytes old new state m held []
TakesBytes kind start n front bytes old new state m held (Ok false) =
    Goes (text_behind kind start n front) bytes old new (λ more. faulty m)
TakesBytes kind start n front bytes old new state m held (Err Memory) = (onward : List ℕ → Text)
    × Goes (text_behind kind start n front) bytes old new onward
TakesBytes kind start n front bytes old new state m held (Err Read) = ⊥
TakesBytes kind start n front bytes old new state m held (Err Write) = Unit {0}

-- The whole output was written, or a prefix of it if memory ran out.
abbrev pub WritesText : Text → Option (List ℕ) → Option (List ℕ) → Result Ended ReplayError → Type 0
WritesText text old new (Ok ended) = Appends old new text.0 × (ended ≡ text.1)
WritesText text old new (Err Memory) = (written : List ℕ) × Appends old new written × Begins written text.0
WritesText text old new (Err Read) = ⊥
WritesText text old new (Err Write) = Unit {0}

-- Between two reads: the bytes that were read, and the stored beginning of a line.
pub record IsBetweenReads {S : Type 0} (kind : Kind S) (start state : S) (n : ℕ) (held : Held)
    (old_reader reader old_writer writer : Option (List ℕ)) : Type 0 where
  pub given : List ℕ
  pub read : Consumes old_reader reader given
  pub rest : List ℕ
  pub holds : Holds held rest
  pub is_open : IsOpen rest
  pub goes : Goes (shortened_text_of kind start 1) given old_writer writer (text_behind kind state n rest)
