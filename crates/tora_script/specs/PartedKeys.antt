-- One key for each pair of nodes, whichever node is named first.
use Rattle.std.specs.Prelude.{◌≡◌, ℕ, min, max, List}
use Rattle.std.specs.HashSet.{HashSet, contains}
use Rattle.tora_script.specs.Pairs.{pair_eq}
use Rattle.tora_script.specs.Parted.{is_parted}

-- the lower node of a pair, and then the higher one
abbrev pub key_of : ℕ × ℕ → ℕ × ℕ
key_of p = (min p.0 p.1, max p.0 p.1)

-- the keys contain the key of two nodes exactly if the two are parted
abbrev pub AreKeys : {S : Type 0} → HashSet (ℕ × ℕ) S → List (ℕ × ℕ) → Type 0
AreKeys keys pairs = (a b : ℕ) → contains pair_eq keys (key_of (a, b)) ≡ is_parted pairs a b
