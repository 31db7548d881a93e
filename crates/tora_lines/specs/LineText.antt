-- The output for a file of lines, and how the file ends, by the rules of its kind.
use Rattle.std.specs.Prelude.{◌≡◌, ℕ, ◌+◌, nat_lt, if◌then◌else◌, codes, List, [], ◌∷◌, ◌++◌, length, Option, Some}
use Rattle.std.specs.Prelude.{None}
use Rattle.std.specs.Option.{option_map_or, option_and_then}
use Rattle.std.specs.Fmt.{decimal}
use Rattle.tora_lines.specs.declared.session.TheConstants.{LONGEST_LINE}
use Rattle.tora_lines.specs.Pieces.{pieces_of}
use Rattle.tora_lines.specs.declared.ended.Ended.{Ended}
use Rattle.tora_lines.specs.declared.ended.Ended.TheVariants.{Whole, Fault}

-- a word, a number and a line feed
abbrev pub numbered : List ℕ → ℕ → List ℕ
numbered word n = word ++ decimal n ++ 10 ∷ []

-- the state is the reply's, and the text has grown by the reply's text
pub record TakesReply {S : Type 0} (reply : S × List ℕ) (state : S) (old new : List ℕ) : Type 0 where
  pub state_is : state ≡ reply.0
  pub text_is : new ≡ old ++ reply.1

-- ---- one kind of file

pub record Rules (S : Type 0) : Type 0 where
  pub start : S  -- the state before the first line
  -- the state after a line of at most 4,096 bytes, and its output; None if the line is a fault
  pub reply : S → List ℕ → Option (S × List ℕ)
  -- if the input ends before the line with this number: the number of the line that is a fault, if that is one
  pub at_end : S → ℕ → Option ℕ

-- the reply to a line of any length
unfoldable pub reply : {S : Type 0} → Rules S → S → List ℕ → Option (S × List ℕ)
reply rules state line = if nat_lt LONGEST_LINE (length line) then None else rules.reply state line

-- ---- all lines

-- an output, and how the input ends
abbrev pub Text : Type 0
Text = List ℕ × Ended

-- `fault N`
abbrev pub faulty : ℕ → Text
faulty n = (numbered (codes "fault ") n, Fault n)

abbrev pub prepend : List ℕ → Text → Text
prepend front text = (front ++ text.0, text.1)

-- the output at the end of the input, by the number of the line that is a fault, if one is
abbrev pub ending : Option ℕ → Text
ending None = ([], Whole)
ending (Some n) = faulty n

-- the output for the lines from line n on, up to the first fault
unfoldable pub text_from : {S : Type 0} → Rules S → S → ℕ → List (List ℕ) → Text
text_from rules state n [] = ending (rules.at_end state n)
text_from rules state n (line ∷ lines) = option_map_or (λ r. prepend r.1 (text_from rules r.0 (n + 1) lines))
    (reply rules state line) (faulty n)

-- the output for an input
abbrev pub whole_text : {S : Type 0} → Rules S → List ℕ → Text
whole_text rules bytes = text_from rules rules.start 1 (pieces_of bytes)

abbrev pub fault_of : Ended → Option ℕ
fault_of Whole = None
fault_of (Fault n) = Some n

-- ---- which line is the first fault

-- the state after these lines, or None if one of them is a fault
unfoldable pub state_behind : {S : Type 0} → Rules S → S → List (List ℕ) → Option S
state_behind rules state [] = Some state
state_behind rules state (line ∷ lines) = option_and_then (λ r. state_behind rules r.0 lines) (reply rules state line)

-- line m is a fault: it is line n and the first of these lines, or there are no lines and the end of the input is a
-- fault
abbrev pub IsFaultNext : {S : Type 0} → Rules S → S → ℕ → List (List ℕ) → ℕ → Type 0
IsFaultNext rules state n (line ∷ lines) m = (reply rules state line ≡ None) × (m ≡ n)
IsFaultNext rules state n [] m = rules.at_end state n ≡ Some m

-- line m is the first fault of the lines from line n on
pub record IsFirstFaultBy {S : Type 0} (rules : Rules S) (state : S) (n : ℕ) (lines : List (List ℕ)) (m : ℕ) : Type 0
  where
    pub before : List (List ℕ)
    pub rest : List (List ℕ)
    pub last : S
    pub lines_are : lines ≡ before ++ rest
    pub taken : state_behind rules state before ≡ Some last
    pub fault : IsFaultNext rules last (n + length before) rest m
