-- The command of a line: `show`, `json`, `watch`, `quit`, `need D` or `cut K`, with D and K in decimal digits.
use Rattle.std.specs.Prelude.{ℕ, Bool, ◌==◌, ◌&&◌, if◌then◌else◌, codes, is_some, List, length, Option, Some, None}
use Rattle.tora_lines.specs.Fronts.{after}
use Rattle.tora_lines.specs.Words.{id_of}
use Rattle.tora_seat.specs.declared.status.Status.TheVariants as Of
use Rattle.tora_node.specs.declared.commands.Command.{Command}
use Rattle.tora_node.specs.declared.commands.Command.TheVariants as Asks

-- the text is this word
unfoldable pub is_word : List ℕ → List ℕ → Bool
is_word word text = (length text == length word) && is_some (after word text)

-- the request of a route to the destination with these digits
abbrev pub need_of : Option ℕ → Command
need_of None = Asks.Unknown
need_of (Some d) = Asks.Need d

-- the cut of the current session of the neighbour with these digits
abbrev pub cut_of : Option ℕ → Command
cut_of None = Asks.Unknown
cut_of (Some k) = Asks.Cut k

abbrev pub cut_in : Option (List ℕ) → Command
cut_in None = Asks.Unknown
cut_in (Some digits) = cut_of (id_of digits)

-- the command by the text after `need `, or else by the text after `cut `
abbrev pub need_or_cut_in : Option (List ℕ) → Option (List ℕ) → Command
need_or_cut_in None other = cut_in other
need_or_cut_in (Some digits) other = need_of (id_of digits)

-- the command of a line
unfoldable pub asked_by : List ℕ → Command
asked_by line =
    if is_word (codes "show") line then Asks.Show
    else (if is_word (codes "json") line then Asks.Status Of.Json
    else (if is_word (codes "watch") line then Asks.Status Of.Watch
    else (if is_word (codes "quit") line then Asks.Quit
    else need_or_cut_in (after (codes "need ") line) (after (codes "cut ") line))))
