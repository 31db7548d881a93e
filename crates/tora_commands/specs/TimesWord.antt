-- The times of a world's link ends, as a word of the command line.
use Rattle.std.specs.Prelude.{ℕ, nat_lt, if◌then◌else◌, List, Option, Some, None}
use Rattle.tora_arq.specs.declared.times.Times.{Times}
use Rattle.tora_arq.specs.declared.times.TheConstants.Times.{STANDARD}
use Rattle.tora_lines.specs.Words.{cut, number_of}
use Rattle.tora_lines.specs.Fronts.{◌>>=◌}

abbrev pub positive_from : ℕ → Option ℕ
positive_from n = if nat_lt 0 n then Some n else None

-- a number from 1 on
unfoldable pub positive_of : List ℕ → Option ℕ
positive_of text = number_of text >>= positive_from

-- `HELLO,SILENCE,RETRY,TRIES`
unfoldable pub times_of : List ℕ → Option Times
times_of text = do
  a ← cut 44 text
  hello ← positive_of a.0
  b ← cut 44 a.1
  silent ← positive_of b.0
  c ← cut 44 b.1
  retry ← positive_of c.0
  tries ← positive_of c.1
  Some (record { hello = hello; silent = silent; retry = retry; tries = tries })

-- the times in a word; the standard times without a word
abbrev pub asked_times : Option (List ℕ) → Option Times
asked_times None = Some STANDARD
asked_times (Some text) = times_of text
