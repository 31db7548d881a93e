-- The items that reading commands puts into the queue of the core.
use Rattle.std.specs.Prelude.{◌≡◌, ◌⊎◌, ℕ, nat_lt, ◌==◌, if◌then◌else◌, Bool, true, false, List, [], ◌∷◌, ◌++◌, length}
use Rattle.std.specs.Prelude.{map, Option}
use Rattle.std.specs.Io.KnownBytes.{Consumes, IsAtEnd}
use Rattle.tora_lines.specs.Reads.{Given, AreReads, NoneFailed, AreToTheEnd, FailedLast}
use Rattle.tora_lane.specs.Ports.{InEnd}
use Rattle.tora_neighbour.specs.LaneHub.{IsSamePort}
use Rattle.tora_neighbour.specs.Turns.{AreRead}
use Rattle.tora_seat.specs.declared.item.Item.{Item}
use Rattle.tora_seat.specs.declared.what.What.{What}
use Rattle.tora_seat.specs.declared.what.What.TheVariants as Tells
use Rattle.tora_node.specs.declared.commands.TheConstants.{LONGEST_COMMAND}
use Rattle.tora_node.specs.declared.commands.Command.{Command}
use Rattle.tora_node.specs.declared.commands.Command.TheVariants as Asks
use Rattle.tora_node.specs.declared.commands.CommandsEnd.{CommandsEnd}
use Rattle.tora_node.specs.declared.commands.CommandsEnd.TheVariants as Ends
use Rattle.tora_node.specs.CommandText.{asked_by}

-- ---- the items for an input

-- the command of a line; a line of more than 4,096 bytes is not a command
abbrev pub asked_in : List ℕ → Command
asked_in line = if nat_lt LONGEST_COMMAND (length line) then Asks.Unknown else asked_by line

-- the item for a command, followed by the items after it; nothing follows Quit
abbrev pub put_for : Command → List What → List What
put_for (Asks.Need d) behind = Tells.Need d ∷ behind
put_for (Asks.Cut k) behind = Tells.Cut k ∷ behind
put_for Asks.Show behind = Tells.Show ∷ behind
put_for (Asks.Status status) behind = Tells.Status status ∷ behind
put_for Asks.Quit behind = Tells.Quit ∷ []
put_for Asks.Unknown behind = behind

-- the items for the bytes of an input, if `line` has the bytes of a line that has not ended; each LF ends a line, and
-- the end of the input ends one, too, and puts Quit
abbrev pub put_from : List ℕ → List ℕ → List What
put_from line [] = put_for (asked_in line) (Tells.Quit ∷ [])
put_from line (c ∷ bytes) = if c == 10 then put_for (asked_in line) (put_from [] bytes)
    else put_from (line ++ c ∷ []) bytes

-- the bytes have no LF
abbrev pub IsLine : List ℕ → Type 0
IsLine [] = Unit {0}
IsLine (c ∷ bytes) = ((c == 10) ≡ false) × IsLine bytes

-- ---- the effect of reading commands

abbrev pub whats : List Item → List What
whats items = map (λ x. x.what) items

abbrev pub ticks_put : List Item → List ℕ
ticks_put items = map (λ x. x.now) items

-- These items were put at the same port, each with its tick of the clock, one after another.
abbrev pub HasPut : {C : Type 0} → (C → ℕ → C → Type 0) → InEnd × C → List Item → InEnd × C → Type 0
HasPut tell before items after = (after.0.put ≡ before.0.put ++ items) × AreRead tell before.1 (ticks_put items) after.1
    × IsSamePort before.0 after.0

-- one more tick was read, for an item that the port refused
abbrev pub ReadsMore : {C : Type 0} → (C → ℕ → C → Type 0) → C → C → Type 0
ReadsMore tell clock after = (now : ℕ) × tell clock now after

-- The clock at the end: after the last item that was put, and after one more tick if the port returned Gone.
abbrev pub LeavesClock : {C : Type 0} → (C → ℕ → C → Type 0) → CommandsEnd → C → C → Type 0
LeavesClock tell Ends.Quit last after = after ≡ last
LeavesClock tell Ends.End last after = after ≡ last
LeavesClock tell Ends.Read last after = after ≡ last
LeavesClock tell Ends.Gone last after = ReadsMore tell last after

-- Why reading ended, and which items were put for the bytes so far: `Quit` after a line `quit`, whatever follows; `End`
-- at the end of the input; `Read` after a failed read, which counts as the end; `Gone` if the port returned Gone, with
-- some items left.
abbrev pub EndsAt : CommandsEnd → List ℕ → List Item → Option (List ℕ) → Bool → Type 0
EndsAt Ends.Quit given items remaining gone = (more : List ℕ) → put_from [] (given ++ more) ≡ whats items
EndsAt Ends.End given items remaining gone = (put_from [] given ≡ whats items) × IsAtEnd remaining
EndsAt Ends.Read given items remaining gone = put_from [] given ≡ whats items
EndsAt Ends.Gone given items remaining gone =
    (left : List What) × (put_from [] given ≡ whats items ++ left) × (gone ≡ true)

-- Some bytes were read, and their items were put at the port, with ticks of the clock
pub record Commands {C : Type 0} (tell : C → ℕ → C → Type 0) (old_reader new_reader : Option (List ℕ))
    (before after : InEnd × C) (end : CommandsEnd) : Type 0 where
  pub given : List ℕ
  pub items : List Item
  pub read : Consumes old_reader new_reader given
  pub last : C
  pub put : HasPut tell before items (after.0, last)
  pub clock : LeavesClock tell end last after.1
  pub ends : EndsAt end given items new_reader after.0.gone

-- why reading ended, by its reads, the last of them first: End if the last read gave nothing, and Read if it failed;
-- reading may end at any read with Quit, or with Gone
abbrev pub EndsByReads : CommandsEnd → List Given → Type 0
EndsByReads Ends.Quit reads = NoneFailed reads
EndsByReads Ends.End reads = AreToTheEnd reads
EndsByReads Ends.Read reads = FailedLast reads
EndsByReads Ends.Gone reads = NoneFailed reads ⊎ FailedLast reads

-- These reads lead from one reader to another, and they fit the end.
abbrev pub AreReadBy : {R : Type 0} → (R → Given → R → Type 0) → R → R → CommandsEnd → Type 0
AreReadBy did_read old new end = (reads : List Given) × AreReads did_read old reads new × EndsByReads end reads

-- `Commands`, for some reader and some clock at the end
abbrev pub CommandsFrom : {C : Type 0} → (C → ℕ → C → Type 0) → C → Option (List ℕ) → InEnd → InEnd → CommandsEnd
    → Type 0
CommandsFrom {C = C} tell clock old_reader before after end =
    (new_reader : Option (List ℕ)) × (clock_after : C) × Commands tell old_reader new_reader (before, clock)
    (after, clock_after) end
