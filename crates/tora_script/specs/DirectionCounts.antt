-- How many datagrams were counted in each direction, from a sender to a receiver.
use Rattle.std.specs.Prelude.{◌≡◌, ℕ, ◌+◌, ◌==◌, ◌&&◌, if◌then◌else◌, Option, option_map, unwrap_or}
use Rattle.std.specs.BTreeMap.{get}
use Rattle.tora_frame.specs.FrameParts.{FrameParts}
use Rattle.tora_world.specs.World.{World}
use Rattle.tora_script.specs.InFlight.{gone}
use Rattle.tora_script.specs.Pairs.{pair_cmp}
use Rattle.tora_script.specs.declared.direction_counts.DirectionCounts.{DirectionCounts}

-- the sender and the receiver of a datagram, if there is one
abbrev pub direction_in : Option FrameParts → Option (ℕ × ℕ)
direction_in o = option_map (λ f. (f.header.sender, f.header.receiver)) o

-- how many datagrams were counted in a direction
abbrev pub times : DirectionCounts → ℕ × ℕ → ℕ
times counts direction = unwrap_or (get pair_cmp counts.counts direction) 0

-- 1 if the two directions are the same, otherwise 0
abbrev pub goes_as : ℕ × ℕ → ℕ × ℕ → ℕ
goes_as direction other = if (direction.0 == other.0) && (direction.1 == other.1) then 1 else 0

-- one more datagram was counted in this direction
abbrev pub IsOneMore : DirectionCounts → DirectionCounts → ℕ × ℕ → Type 0
IsOneMore old new direction = (other : ℕ × ℕ) → times new other ≡ times old other + goes_as direction other

-- the `count` datagrams after number `first` are counted, each in its direction
abbrev pub AreCounted : World → DirectionCounts → ℕ → ℕ → Type 0
AreCounted w counts first count = (direction : ℕ × ℕ) → times counts direction ≡ gone w direction first count
