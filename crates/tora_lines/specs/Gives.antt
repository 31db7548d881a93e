-- A result that may be `Memory`, compared with a definition.
use Rattle.std.specs.Prelude.{◌≡◌, Option, Some, None, Result, Ok, Err}
use Rattle.tora_lines.specs.declared.words.LineError.{LineError}
use Rattle.tora_lines.specs.declared.words.LineError.TheVariants.{Memory, Fault}

abbrev pub Fails : {Y : Type 0} → LineError → Option Y → Type 0
Fails Memory read = Unit {0}
Fails Fault read = read ≡ None

-- The result is the view of the value that was read, or `Fault` if reading gives no value, or `Memory`.
abbrev pub Gives : {X Y : Type 0} → (X → Y) → Result X LineError → Option Y → Type 0
Gives view (Ok x) read = read ≡ Some (view x)
Gives view (Err e) read = Fails e read
