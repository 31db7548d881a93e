-- The channel of a link in a round, by the table of a channel file.
use Rattle.std.specs.Prelude.{ℕ, zero, suc, ◌==◌, ◌&&◌, nat_le, min, max, if◌then◌else◌, List, [], Option, Some, None}
use Rattle.std.specs.Prelude.{slice_get}
use Rattle.std.specs.List.{prefix_len}
use Rattle.tora_script.specs.declared.channel.channel.Channel.{Channel}
use Rattle.tora_script.specs.declared.channel.channel.Copies.{Copies}
use Rattle.tora_script.specs.declared.channel.channel.Place.{Place}
use Rattle.tora_script.specs.declared.channel.line.ChannelLine.{ChannelLine}
use Rattle.tora_script.specs.declared.channel.table.ChannelTable.{ChannelTable}
use Rattle.tora_script.specs.Channel as Base
use Rattle.tora_script.specs.Channel.{copies_of}
use Rattle.tora_script.specs.Parts.{channel_by}
use Rattle.tora_script.specs.TableOrder.{key_at, key_of, items_of}

abbrev pub lines_of : ChannelTable → List ChannelLine
lines_of table = items_of table.lines

-- a channel, and the lines that change it
pub record Channels : Type 0 where
  pub base : Channel
  pub lines : List ChannelLine

-- a channel with the lines of a table
abbrev pub over : ChannelTable → Channel → Channels
over table channel = record { base = channel; lines = lines_of table }

-- a channel without a table
abbrev pub alone : Channel → Channels
alone channel = record { base = channel; lines = [] }

-- the channel over which every datagram arrives exactly once, without delay
abbrev pub clear : Channels
clear = alone Base.clear

-- ---- the channel of a link in a round

-- how many lines are at or before a key
abbrev pub count_at : List ChannelLine → ℕ → ℕ
count_at table key = prefix_len (λ line. nat_le (key_of line) key) table

-- the last of a number of lines
abbrev pub last_of : List ChannelLine → ℕ → Option ChannelLine
last_of table zero = None
last_of table (suc n) = slice_get table n

-- the last line at or before a key
abbrev pub line_before : List ChannelLine → ℕ → Option ChannelLine
line_before table key = last_of table (count_at table key)

-- the channel that a line gives a link, if it is for that link; missing parts are 0, and the seed stays
abbrev pub by_line : Channel → ℕ → ℕ → Option ChannelLine → Channel
by_line channel low high None = channel
by_line channel low high (Some line) = if (line.low == low) && (line.high == high) then channel_by line.parts
    channel.seed else channel

-- the channel of a datagram's link in its round: that of the link's last line whose round has begun, if there is one
unfoldable pub channel_on : Channels → Place → Channel
channel_on c p = by_line c.base (min p.sender p.receiver) (max p.sender p.receiver)
    (line_before c.lines (key_at (min p.sender p.receiver) (max p.sender p.receiver) p.round))

-- after how many rounds a datagram arrives, and arrives again
abbrev pub copies_on : Channels → Place → Copies
copies_on c p = copies_of (channel_on c p) p
