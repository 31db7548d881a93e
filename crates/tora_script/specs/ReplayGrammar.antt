-- The form of each line.
use Rattle.std.specs.Prelude.{◌≡◌, ℕ, ◌<◌, ◌^◌, ◌⊎◌, codes, List, [], ◌∷◌, ◌++◌, length, All, Result, Ok}
use Rattle.std.specs.Fmt.{decimal}
use Rattle.hex.specs.Hex.{decode_of}
use Rattle.tora_packet.specs.declared.Packet.{Packet}
use Rattle.tora_packet.specs.declared.PacketError.{PacketError}
use Rattle.tora_packet.specs.PacketParts.{IsId}
use Rattle.tora_packet.specs.PacketGrammar.{packet_reading}
use Rattle.tora_script.specs.ReplayLines.{HeaderParts}
use Rattle.tora_script.specs.declared.replays.line.Line.{Line}
use Rattle.tora_script.specs.declared.replays.line.Order.{Order}
use Rattle.tora_script.specs.declared.replays.line.Order.TheVariants.{Up, Down, Need, From, Show}
use Rattle.tora_lines.specs.WordGrammar.{SpellsId, list_text}

-- two hexadecimal digits of either case for each byte, one byte at least, or `-` for no bytes
abbrev pub SpellsBytes : List ℕ → List ℕ → Type 0
SpellsBytes word bytes = ((word ≡ codes "-") × (bytes ≡ [])) ⊎ ((0 < length word) × (decode_of word ≡ Ok bytes))

-- `from`, a neighbour, and bytes: the decoded packet, or why they are not one
pub record SpellsFrom (text : List ℕ) (k : ℕ) (read : Result Packet PacketError) : Type 0 where
  pub id : IsId k
  pub word : List ℕ
  pub bytes : List ℕ
  pub spelled : SpellsBytes word bytes
  pub text_is : text ≡ codes "from " ++ (decimal k ++ 32 ∷ word)
  pub read_is : read ≡ packet_reading bytes

-- `up K`, `down K`, `need D`, `from K HEX` or `show`
abbrev pub SpellsOrder : List ℕ → Order → Type 0
SpellsOrder text (Up k) = SpellsId (codes "up ") text k
SpellsOrder text (Down k) = SpellsId (codes "down ") text k
SpellsOrder text (Need d) = SpellsId (codes "need ") text d
SpellsOrder text (From k read) = SpellsFrom text k read
SpellsOrder text Show = text ≡ codes "show"

-- `NOW`, a blank and an order
pub record SpellsLine (text : List ℕ) (line : Line) : Type 0 where
  pub time : line.now < 2 ^ 64
  pub order : List ℕ
  pub spelled : SpellsOrder order line.order
  pub text_is : text ≡ decimal line.now ++ 32 ∷ order

-- `node I links LIST dests LIST`
pub record SpellsHeader (text : List ℕ) (h : HeaderParts) : Type 0 where
  pub node : IsId h.node
  pub links : All IsId h.links
  pub dests : All IsId h.dests
  pub text_is : text ≡ codes "node " ++ (decimal h.node ++ (codes " links "
      ++ (list_text h.links ++ (codes " dests " ++ list_text h.dests))))
