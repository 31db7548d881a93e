-- The effect of a channel on a datagram.
use Rattle.std.specs.Prelude.{ℕ, zero, suc, ◌+◌, ◌-◌, ◌*◌, ◌%◌, ◌^◌, ◌==◌, ◌&&◌, Bool, nat_lt, if◌then◌else◌, Some}
use Rattle.std.specs.Prelude.{None}
use Rattle.rand_core.specs.Pcg32Seed.{pcg32_seed}
use Rattle.rand_chacha.specs.ChaCha.{ChaCha, next_word, key_of}
use Rattle.tora_script.specs.declared.channel.channel.TheConstants.{PARTS}
use Rattle.tora_script.specs.declared.channel.channel.Channel.{Channel}
use Rattle.tora_script.specs.declared.channel.channel.Copies.{Copies}
use Rattle.tora_script.specs.declared.channel.channel.Place.{Place}

-- the generator of a datagram: ChaCha with 8 rounds and the key of the seed; each direction of each link has a stream,
-- and each of its datagrams a block
unfoldable pub generator_at : ℕ → Place → ChaCha
generator_at seed p = record {
  key = key_of (pcg32_seed 32 seed);
  stream = p.sender * 2 ^ 32 + p.receiver;
  word_pos = ((p.round * 1024 + p.before) * 16) % 2 ^ 68;
}

-- the random word at this index, counted from 0
abbrev pub word : ChaCha → ℕ → ℕ
word g zero = (next_word 4 g).0
word g (suc k) = word (next_word 4 g).1 k

-- the channel over which every datagram arrives exactly once, without delay
abbrev pub clear : Channel
clear = record { seed = 0; loss = 0; repeat = 0; least = 0; most = 0 }

-- nothing is lost, late or repeated
abbrev pub is_clear : Channel → Bool
is_clear c = (c.loss == 0) && (c.repeat == 0) && (c.least == 0) && (c.most == 0)

-- a random word falls into a share of this many millionths
abbrev pub is_among : ℕ → ℕ → Bool
is_among w share = nat_lt (w % PARTS) share

-- the delay in rounds that a random word gives, from the least to the greatest
abbrev pub delay_by : Channel → ℕ → ℕ
delay_by c w = c.least + w % ((c.most - c.least) + 1)

abbrev pub copies_by : Channel → ChaCha → Copies
copies_by c g =
    if is_among (word g 0) c.loss then record { first = None; second = None }
    else record {
      first = Some (delay_by c (word g 1));
      second =
          if is_among (word g 2) c.repeat then Some (delay_by c (word g 3)) else None;
    }

-- after how many rounds a datagram arrives, and arrives again
unfoldable pub copies_of : Channel → Place → Copies
copies_of c p = copies_by c (generator_at c.seed p)
