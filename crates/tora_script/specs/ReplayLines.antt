-- The lines of a replay file, parsed.
use Rattle.std.specs.Prelude.{ℕ, Bool, ◌==◌, ◌&&◌, if◌then◌else◌, codes, is_some, List, [], length, Option, Some, None}
use Rattle.tora_packet.specs.PacketGrammar.{packet_reading}
use Rattle.tora_script.specs.declared.replays.line.Header.{Header}
use Rattle.tora_script.specs.declared.replays.line.Line.{Line}
use Rattle.tora_script.specs.declared.replays.line.Order.{Order}
use Rattle.tora_script.specs.declared.replays.line.Order.TheVariants.{Up, Down, Need, From, Show}
use Rattle.tora_lines.specs.Words.{cut, number_of, id_of, list_of}
use Rattle.std.specs.Result.{result_ok}
use Rattle.hex.specs.Hex.{decode_of}
use Rattle.tora_lines.specs.Fronts.{◌>>=◌, after, or_else}
use Rattle.tora_lines.specs.Words.{is_dash}

-- an even number of hexadecimal digits of either case, or `-` for no bytes
unfoldable pub bytes_of : List ℕ → Option (List ℕ)
bytes_of text = if length text == 0 then None else if is_dash text then Some [] else result_ok (decode_of text)

-- the first line: a node, its neighbours and the destinations of its table
pub record HeaderParts : Type 0 where
  pub node : ℕ
  pub links : List ℕ
  pub dests : List ℕ

abbrev pub header : Header → HeaderParts
header h = record { node = h.node; links = h.links.items; dests = h.dests.items }

-- `node I links LIST dests LIST`
unfoldable pub header_of : List ℕ → Option HeaderParts
header_of text = do
  a ← after (codes "node ") text
  b ← cut 32 a
  node ← id_of b.0
  c ← after (codes "links ") b.1
  d ← cut 32 c
  links ← list_of d.0
  e ← after (codes "dests ") d.1
  dests ← list_of e
  Some (record { node = node; links = links; dests = dests })

-- `K HEX`
unfoldable pub from_of : List ℕ → Option Order
from_of text = do
  a ← cut 32 text
  k ← id_of a.0
  bytes ← bytes_of a.1
  Some (From k (packet_reading bytes))

-- a word followed by an id
unfoldable pub with_id : (ℕ → Order) → List ℕ → Option Order
with_id order text = do
  n ← id_of text
  Some (order n)

unfoldable pub is_show : List ℕ → Bool
is_show text = (length text == 4) && is_some (after (codes "show") text)

-- `from K HEX`, `up K`, `down K`, `need D` or `show`
unfoldable pub order_of : List ℕ → Option Order
order_of text =
    or_else (after (codes "from ") text) from_of
    (or_else (after (codes "up ") text) (with_id Up)
    (or_else (after (codes "down ") text) (with_id Down)
    (or_else (after (codes "need ") text) (with_id Need)
    (if is_show text then Some Show else None))))

-- `NOW` and an order
unfoldable pub line_of : List ℕ → Option Line
line_of text = do
  a ← cut 32 text
  now ← number_of a.0
  order ← order_of a.1
  Some (record { now = now; order = order })
