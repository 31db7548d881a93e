-- The first and the last record of a trace.
use Rattle.std.specs.Prelude.{ℕ, Bool, if◌then◌else◌, codes, List, [], ◌++◌, Option, Some, None}
use Rattle.std.specs.Fmt.{decimal}
use Rattle.tora_core.specs.declared.erasure.Erasure.{Erasure}
use Rattle.tora_core.specs.declared.erasure.Erasure.TheVariants.{Plain, Remembered}
use Rattle.tora_script.specs.declared.setup.Setup.{Setup}
use Rattle.tora_script.specs.TraceRecords.{line_end}

-- a blank and a number
abbrev pub field : ℕ → List ℕ
field n = codes " " ++ decimal n

-- 1 for true, 0 for false
abbrev pub flag : Bool → ℕ
flag is = if is then 1 else 0

abbrev pub word_text : Option (List ℕ) → List ℕ
word_text None = codes "-"
word_text (Some text) = text

-- ` UNTIL FILE` if there is a last round or a channel file
abbrev pub more_fields : Option ℕ → Option (List ℕ) → List ℕ
more_fields None None = []
more_fields (Some until) file = codes " " ++ decimal until ++ codes " " ++ word_text file
more_fields None (Some file) = codes " - " ++ file

unfoldable pub until_field : Option ℕ → List ℕ
until_field None = codes " -"
until_field (Some until) = field until

unfoldable pub file_field : Option (List ℕ) → List ℕ
file_field None = codes " -"
file_field (Some file) = codes " " ++ file

-- ` UNTIL FILE remembered`, with `-` for a missing last round or channel file
abbrev pub remembered_fields : Option ℕ → Option (List ℕ) → List ℕ
remembered_fields until file = until_field until ++ file_field file ++ codes " remembered"

-- the last fields; the choice of erasure is among them unless it is plain
abbrev pub erasure_fields : Erasure → Option ℕ → Option (List ℕ) → List ℕ
erasure_fields Plain until file = more_fields until file
erasure_fields Remembered until file = remembered_fields until file

-- `0 trace 1 HELLO SILENCE RETRY TRIES LOSS LEAST MOST REPEAT SEED NOTICE`, with ` UNTIL FILE` if there is a last round
-- or a channel file, or with ` UNTIL FILE remembered` if nodes remember erased levels
unfoldable pub first_record : Setup → Option (List ℕ) → List ℕ
first_record s file =
    codes "0 trace 1" ++ field s.times.hello ++ field s.times.silent ++ field s.times.retry ++ field s.times.tries
    ++ field s.channel.loss ++ field s.channel.least ++ field s.channel.most ++ field s.channel.repeat
    ++ field s.channel.seed
    ++ field (flag s.has_notice) ++ erasure_fields s.options.erasure s.until file ++ line_end

-- `T end DIGEST`
unfoldable pub last_record : ℕ → List ℕ → List ℕ
last_record t digest = decimal t ++ codes " end " ++ digest ++ line_end
