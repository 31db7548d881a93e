-- The content of a key file.
use Rattle.std.specs.Prelude.{ℕ, ◌-◌, List, length, take, slice_index, ◌==◌, if◌then◌else◌}

-- the bytes without a line feed at the end
abbrev pub digits_in : List ℕ → List ℕ
digits_in bytes = if slice_index bytes (length bytes - 1) == 10 then take (length bytes - 1) bytes else bytes
