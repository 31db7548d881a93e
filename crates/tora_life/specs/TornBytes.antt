-- Bytes that a crash tears.
use Rattle.std.specs.Prelude.{ℕ, ◌+◌, ◌%◌, Bool, List, [], ◌∷◌, get_or, if◌then◌else◌}

-- from place i on, each marked byte is replaced by the torn byte at its place modulo 16
abbrev pub torn_over : ℕ → List ℕ → List Bool → List ℕ → List ℕ
torn_over i torn [] bytes = bytes
torn_over i torn (m ∷ marks) [] = []
torn_over i torn (m ∷ marks) (b ∷ bytes) = (if m then get_or torn (i % 16) 0
    else b) ∷ torn_over (i + 1) torn marks bytes
