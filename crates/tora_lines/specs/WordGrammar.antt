-- The written form of ids and lists of ids.
use Rattle.std.specs.Prelude.{◌≡◌, ℕ, codes, List, [], ◌∷◌, ◌++◌, map}
use Rattle.std.specs.List.{join_with_byte}
use Rattle.std.specs.Fmt.{decimal}
use Rattle.tora_packet.specs.PacketParts.{IsId}

-- a word and the number of a node
pub record SpellsId (word text : List ℕ) (n : ℕ) : Type 0 where
  pub id : IsId n
  pub text_is : text ≡ word ++ decimal n

-- ids separated by commas, or `-` for the empty list
abbrev pub list_text : List ℕ → List ℕ
list_text [] = codes "-"
list_text (n ∷ ns) = join_with_byte 44 (map decimal (n ∷ ns))
