-- The lines of a channel file.
use Rattle.std.specs.Prelude.{◌≡◌, ℕ, ◌+◌, ◌==◌, min, max, if◌then◌else◌, List, [], ◌∷◌, Option, Some, None, Result, Ok}
use Rattle.std.specs.Prelude.{Err, Vec}
use Rattle.tora_lines.specs.Words.{cut, split, number_of, id_of}
use Rattle.tora_lines.specs.Fronts.{◌>>=◌}
use Rattle.tora_script.specs.declared.channel.parts.Parts.{Parts}
use Rattle.tora_script.specs.declared.channel.line.ChannelLine.{ChannelLine}
use Rattle.tora_script.specs.declared.channel.table.ChannelTable.{ChannelTable}
use Rattle.tora_script.specs.Table.{lines_of}
use Rattle.tora_script.specs.TableOrder.{IsTableOf}
use Rattle.tora_script.specs.declared.channel.table_text.TableError.{TableError}
use Rattle.tora_script.specs.declared.channel.table_text.TableError.TheVariants.{Memory, Line}
use Rattle.tora_script.specs.Parts.{parts_of}

-- the line of two nodes in either order; a node has no link with itself
abbrev pub line_from : ℕ → ℕ → ℕ → Parts → Option ChannelLine
line_from round a b parts =
    if a == b then None else Some (record { round = round; low = min a b; high = max a b; parts = parts })

-- `T A B PARTS`
unfoldable pub channel_line_of : List ℕ → Option ChannelLine
channel_line_of text = do
  time ← cut 32 text
  round ← number_of time.0
  first ← cut 32 time.1
  a ← id_of first.0
  second ← cut 32 first.1
  b ← id_of second.0
  parts ← parts_of second.1
  line_from round a b parts

abbrev pub after_line : ChannelLine → Result (List ChannelLine) ℕ → Result (List ChannelLine) ℕ
after_line line (Ok lines) = Ok (line ∷ lines)
after_line line (Err n) = Err n

-- a line with its number, and the lines after it: the number of the first invalid one
abbrev pub from_line : ℕ → Option ChannelLine → Result (List ChannelLine) ℕ → Result (List ChannelLine) ℕ
from_line n None rest = Err n
from_line n (Some line) rest = after_line line rest

-- the lines from line n on; there is none after the last LF
unfoldable pub lines_from : ℕ → List (List ℕ) → Result (List ChannelLine) ℕ
lines_from n [] = Ok []
lines_from n ([] ∷ []) = Ok []
lines_from n ((c ∷ cs) ∷ []) = from_line n (channel_line_of (c ∷ cs)) (Ok [])
lines_from n (text ∷ next ∷ others) = from_line n (channel_line_of text) (lines_from (n + 1) (next ∷ others))

-- the lines of a file, or the number of the first invalid one
abbrev pub channel_lines_of : List ℕ → Result (List ChannelLine) ℕ
channel_lines_of bytes = lines_from 1 (split 10 bytes)

-- A line was read, or it is invalid.
abbrev pub Numbers : ℕ → Option ChannelLine → Result ChannelLine TableError → Type 0
Numbers n read (Ok line) = read ≡ Some line
Numbers n read (Err Memory) = ⊥
Numbers n read (Err (Line m cause)) = (read ≡ None) × (m ≡ n)

-- A line is invalid, or memory ran out.
abbrev pub Refuses : TableError → Result (List ChannelLine) ℕ → Type 0
Refuses Memory read = Unit {0}
Refuses (Line n cause) read = read ≡ Err n

-- Lines were read, or a line is invalid, or memory ran out.
abbrev pub Reads : {A : Type 0} → Result (Vec ChannelLine A) TableError → Result (List ChannelLine) ℕ → Type 0
Reads (Ok v) read = read ≡ Ok v.items
Reads (Err e) read = Refuses e read

-- The table has the lines that were read; or a line is invalid, or memory ran out.
abbrev pub IsRead : Result ChannelTable TableError → Result (List ChannelLine) ℕ → Type 0
IsRead (Ok table) read = (lines : List ChannelLine) × (read ≡ Ok lines) × IsTableOf lines (lines_of table)
IsRead (Err e) read = Refuses e read
