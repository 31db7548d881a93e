-- Steps of reading commands.
use Rattle.std.specs.Prelude.{◌≡◌, ◌≢◌, ◌⊎◌, ◌<◌, ℕ, Bool, true, false, List, [], ◌++◌, length, Option, Some, None}
use Rattle.std.specs.Prelude.{Result, Ok, Err}
use Rattle.std.specs.IoError.{error_kind}
use Rattle.std.specs.declared.io.Error.{Error}
use Rattle.std.specs.declared.io.ErrorKind.TheVariants.{Interrupted}
use Rattle.std.specs.Io.KnownBytes.{Consumes, IsAtEnd}
use Rattle.tora_lines.specs.Reads.{Given, GoesOn}
use Rattle.tora_lane.specs.Ports.{InEnd}
use Rattle.tora_seat.specs.declared.item.Item.{Item}
use Rattle.tora_seat.specs.declared.what.What.{What}
use Rattle.tora_node.specs.declared.commands.TheConstants.{LONGEST_COMMAND}
use Rattle.tora_node.specs.declared.commands.Command.{Command}
use Rattle.tora_node.specs.declared.commands.CommandsEnd.{CommandsEnd}
use Rattle.tora_node.specs.declared.commands.CommandsEnd.TheVariants as Ends
use Rattle.tora_node.specs.declared.commands.Line.{Line}
use Rattle.tora_node.specs.CommandRuns.{put_for, put_from, whats, HasPut, ReadsMore}

-- the stored line has these bytes, or it is too long
abbrev pub Holds : Line → List ℕ → Type 0
Holds line text =
    ((line.is_too_long ≡ false) × (line.bytes.items ≡ text))
    ⊎ ((line.is_too_long ≡ true) × (LONGEST_COMMAND < length text))

-- the item of a command was put, and further lines follow (None) or not (Some)
abbrev pub DidPut : {C : Type 0} → (C → ℕ → C → Type 0) → Command → InEnd × C → InEnd × C → Option CommandsEnd → Type 0
DidPut tell command before after None = (items : List Item) × HasPut tell before items after
    × ((behind : List What) → put_for command behind ≡ whats items ++ behind)
DidPut tell command before after (Some Ends.Quit) = (items : List Item) × HasPut tell before items after
    × ((behind : List What) → put_for command behind ≡ whats items)
DidPut tell command before after (Some Ends.End) = ⊥
DidPut tell command before after (Some Ends.Read) = ⊥
DidPut tell command before after (Some Ends.Gone) = HasPut tell before [] (after.0, before.1) × (after.0.gone ≡ true)
    × ReadsMore tell before.1 after.1

-- these items were put for the bytes after the beginning `text` of a line, and the items for the rest follow them
pub record Putting {C : Type 0} (tell : C → ℕ → C → Type 0) (text bytes : List ℕ) (before after : InEnd
    × C) (line : Line) (left : List ℕ) : Type 0 where
  pub items : List Item
  pub rest : List ℕ
  pub put : HasPut tell before items after
  pub holds : Holds line rest
  pub goes : (more : List ℕ) → put_from text (bytes ++ more) ≡ whats items ++ put_from rest (left ++ more)

-- the items of the lines that end in these bytes were put, after the beginning `text` of a line
abbrev pub PutsAll : {C : Type 0} → (C → ℕ → C → Type 0) → List ℕ → List ℕ → InEnd × C → InEnd × C → Line
    → Option CommandsEnd → Type 0
PutsAll tell text bytes before after line None = Putting tell text bytes before after line []
PutsAll tell text bytes before after line (Some Ends.Quit) =
    (items : List Item) × HasPut tell before items after × ((more : List ℕ)
    → put_from text (bytes ++ more) ≡ whats items)
PutsAll tell text bytes before after line (Some Ends.End) = ⊥
PutsAll tell text bytes before after line (Some Ends.Read) = ⊥
PutsAll {C = C} tell text bytes before after line (Some Ends.Gone) =
    (items : List Item) × (last : C) × HasPut tell before items (after.0, last) × (after.0.gone ≡ true)
    × ReadsMore tell last after.1
    × ((more : List ℕ) → (left : List What) × (put_from text (bytes ++ more) ≡ whats items ++ left))

-- the item of a last line was put, and then Quit
abbrev pub PutsLast : {C : Type 0} → (C → ℕ → C → Type 0) → List ℕ → InEnd × C → InEnd × C → Option CommandsEnd → Type 0
PutsLast tell text before after None = ⊥
PutsLast tell text before after (Some Ends.Quit) = (items : List Item) × HasPut tell before items after
    × (put_from text [] ≡ whats items)
PutsLast tell text before after (Some Ends.End) = ⊥
PutsLast tell text before after (Some Ends.Read) = ⊥
PutsLast {C = C} tell text before after (Some Ends.Gone) =
    (items : List Item) × (last : C) × HasPut tell before items (after.0, last) × (after.0.gone ≡ true)
    × ReadsMore tell last after.1
    × (left : List What) × (put_from text [] ≡ whats items ++ left)

abbrev pub is_gone : Option CommandsEnd → Bool
is_gone (Some Ends.Gone) = true
is_gone (Some Ends.Quit) = false
is_gone (Some Ends.End) = false
is_gone (Some Ends.Read) = false
is_gone None = false

-- reading ended: the input is at its end, or a read failed
abbrev pub EndsReading : CommandsEnd → Option (List ℕ) → Option (List ℕ) → Type 0
EndsReading Ends.Quit old new = ⊥
EndsReading Ends.End old new = Consumes old new [] × IsAtEnd new
EndsReading Ends.Read old new = Consumes old new []
EndsReading Ends.Gone old new = ⊥

-- The effect of one read: it gave bytes or was interrupted, it gave nothing, or it failed.
abbrev pub ReadsOnce : {R : Type 0} → (R → Given → R → Type 0) → R → R → Result ℕ CommandsEnd → Type 0
ReadsOnce did_read old new (Ok n) = (given : Given) × did_read old given new × GoesOn given
ReadsOnce did_read old new (Err Ends.Quit) = ⊥
ReadsOnce did_read old new (Err Ends.End) = did_read old (Ok []) new
ReadsOnce did_read old new (Err Ends.Read) = (error : Error) × did_read old (Err error) new
    × (error_kind error ≢ Interrupted)
ReadsOnce did_read old new (Err Ends.Gone) = ⊥
