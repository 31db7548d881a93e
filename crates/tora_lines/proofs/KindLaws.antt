-- The reply to a line, as the output for the lines from that line on.
use Rattle.std.proofs.Common.{◌≡◌, ℕ, ◌≤◌, false, ltb, List, length, None, Some, refl}
use Rattle.std.proofs.lemmas.Bool.{le-ltb}
use Rattle.tora_lines.specs.declared.session.TheConstants.{LONGEST_LINE}
use Rattle.tora_lines.specs.LineText.{Rules, reply, text_from}
use Rattle.tora_lines.specs.Engine.{IsFaultIn, GoesOnIn}

pub goes_on : {S : Type 0} (rules : Rules S) (state : S) (line : List ℕ) (next : S) (out : List ℕ) → length line ≤ LONGEST_LINE → rules.reply state line ≡ Some (next, out) → GoesOnIn (text_from rules) state line next out
unfolding text_from reply
goes_on rules state line next out short r n lines = let within : ltb LONGEST_LINE (length line) ≡ false = le-ltb _ _ short in rw (within, r) refl

pub is_fault : {S : Type 0} (rules : Rules S) (state : S) (line : List ℕ) → length line ≤ LONGEST_LINE → rules.reply state line ≡ None → IsFaultIn (text_from rules) state line
unfolding text_from reply
is_fault rules state line short r n lines = let within : ltb LONGEST_LINE (length line) ≡ false = le-ltb _ _ short in rw (within, r) refl
