-- The effect of a line on a session.
use Rattle.std.specs.Prelude.{ℕ, List, Result, Ok, Err}
use Rattle.tora_lines.specs.declared.words.LineError.{LineError}
use Rattle.tora_lines.specs.declared.words.LineError.TheVariants.{Memory, Fault}
use Rattle.tora_lines.specs.Engine.{Kind, IsFault, GoesOn}

-- the line leads to this state and prints this text, or it is a fault, or memory ran out
abbrev pub TakesLine : {S : Type 0} → Kind S → S → List ℕ → S → List ℕ → Result (Unit {0}) LineError → Type 0
TakesLine kind old line new out (Ok x) = GoesOn kind old line new out
TakesLine kind old line new out (Err Memory) = Unit {0}
TakesLine kind old line new out (Err Fault) = IsFault kind old line
