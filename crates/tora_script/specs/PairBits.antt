-- A bit for each pair of nodes below 1,024: whether the two are parted.
use Rattle.std.specs.Prelude.{◌≡◌, ℕ, ◌+◌, ◌*◌, ◌/◌, ◌%◌, ◌<◌, ◌==◌, Bool, List, slice_index}
use Rattle.std.specs.Int.{bit_at}
use Rattle.tora_script.specs.Parted.{is_parted}
use Rattle.tora_script.specs.PartedKeys.{key_of}

-- the index of the word that has the bit of a pair: each lower node has a row of sixteen words, with a bit for each
-- higher node
abbrev pub word_of : ℕ × ℕ → ℕ
word_of key = key.0 * 16 + key.1 / 64

abbrev pub place_of : ℕ × ℕ → ℕ
place_of key = key.1 % 64

-- the bit of a pair is set; a pair beyond the words has no set bit
abbrev pub has_bit : List ℕ → ℕ × ℕ → Bool
has_bit words key = bit_at (slice_index words (word_of key)) (place_of key) == 1

-- for any two nodes below 1,024, the bit is set exactly if they are parted
abbrev pub AreBits : List ℕ → List (ℕ × ℕ) → Type 0
AreBits words pairs = (a b : ℕ) → a < 1024 → b < 1024 → has_bit words (key_of (a, b)) ≡ is_parted pairs a b
