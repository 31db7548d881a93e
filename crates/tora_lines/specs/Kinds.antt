-- The kind of file that a set of rules defines.
use Rattle.std.specs.Prelude.{◌≡◌, ℕ, ◌<◌, true, nat_lt, List, length, refl}
use Rattle.std.proofs.lemmas.Bool.{lt-ltb}
use Rattle.tora_lines.specs.declared.session.TheConstants.{LONGEST_LINE}
use Rattle.tora_lines.specs.LineText.{Rules, reply, text_from}
use Rattle.tora_lines.specs.Engine.{Kind, IsFaultIn}

-- a line of more than 4,096 bytes is a fault
pub long_lines_are_faults : {S : Type 0} (rules : Rules S) (state : S) (line : List ℕ) → LONGEST_LINE < length line
    → IsFaultIn (text_from rules) state line
unfolding text_from reply
long_lines_are_faults rules state line long n lines =
    let over : nat_lt LONGEST_LINE (length line) ≡ true = lt-ltb _ _ long in rw over refl

abbrev pub kind_of : {S : Type 0} → Rules S → Kind S
kind_of rules = record { text = text_from rules; long = long_lines_are_faults rules }
