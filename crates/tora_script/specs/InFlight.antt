-- The effect of a channel on the datagrams of rounds: which copies arrive at once, and which in later rounds.
use Rattle.std.specs.Prelude.{◌≡◌, ℕ, zero, suc, ◌+◌, ◌-◌, ◌%◌, ◌^◌, ◌==◌, ◌&&◌, nat_lt, if◌then◌else◌, List, [], ◌∷◌}
use Rattle.std.specs.Prelude.{◌++◌, length, map, filter, Option, Some, None}
use Rattle.tora_frame.specs.FrameParts.{FrameParts}
use Rattle.tora_script.specs.declared.channel.channel.Copies.{Copies}
use Rattle.tora_script.specs.declared.channel.channel.Place.{Place}
use Rattle.tora_script.specs.Table.{Channels, over, copies_on}
use Rattle.tora_world.specs.World.{World, datagram}
use Rattle.tora_script.specs.Parted.{is_parted}
use Rattle.tora_script.specs.declared.in_flight.InFlight.{InFlight}
use Rattle.tora_script.specs.declared.in_flight.Moment.{Moment}

-- a round: its channel with the lines that change it, and how many rounds and datagrams there were before it
pub record MomentView : Type 0 where
  pub channel : Channels
  pub round : ℕ
  pub start : ℕ

-- the view of a `Moment`
abbrev pub moment_view : Moment → MomentView
moment_view m = record {
  channel = over m.network.table.now m.network.channel;
  round = m.round;
  start = m.start;
}

-- the number of rounds so far, and the delayed copies: after how many more rounds each arrives, and the number of its
-- datagram
pub record InFlightView : Type 0 where
  pub round : ℕ
  pub later : List (ℕ × ℕ)

abbrev pub in_flight_view : InFlight → InFlightView
in_flight_view in_flight = record { round = in_flight.round; later = in_flight.later.items }

abbrev pub first_in_flight : InFlightView
first_in_flight = record { round = 0; later = [] }

-- 1 if the datagram was sent in this direction, otherwise 0
abbrev pub goes : ℕ × ℕ → Option FrameParts → ℕ
goes direction None = 0
goes direction (Some f) = if (f.header.sender == direction.0) && (f.header.receiver == direction.1) then 1 else 0

-- how many of the `count` datagrams after number `first` were sent in this direction
unfoldable pub gone : World → ℕ × ℕ → ℕ → ℕ → ℕ
gone w direction first zero = 0
gone w direction first (suc count) = gone w direction first count + goes direction (datagram w (first + count + 1))

-- the copies of datagram i, which was sent in this direction: its round is that of the moment, and the earlier
-- datagrams of the round in this direction are counted
abbrev pub copies_in : MomentView → ℕ → ℕ × ℕ → World → Copies
copies_in m i direction w = copies_on m.channel (record {
  round = m.round;
  sender = direction.0;
  receiver = direction.1;
  before = gone w direction m.start (i - 1 - m.start);
})

-- nothing is lost, late or repeated in the round
abbrev pub IsClear : MomentView → Type 0
IsClear m = (place : Place) → copies_on m.channel place ≡ record { first = Some 0; second = None }

-- ---- copies that arrive at once

abbrev pub is_now : Option ℕ → ℕ
is_now None = 0
is_now (Some zero) = 1
is_now (Some (suc d)) = 0

-- how many copies of a datagram arrive in the round in which it is sent
abbrev pub at_once : Copies → ℕ
at_once c = is_now c.first + is_now c.second

-- ---- copies that arrive in later rounds

abbrev pub later_copy : ℕ → Option ℕ → List (ℕ × ℕ)
later_copy i None = []
later_copy i (Some zero) = []
later_copy i (Some (suc d)) = (suc d, i) ∷ []

abbrev pub later_copies : ℕ → Copies → List (ℕ × ℕ)
later_copies i c = later_copy i c.first ++ later_copy i c.second

abbrev pub put_off_of : List (ℕ × ℕ) → MomentView → ℕ → World → Option FrameParts → List (ℕ × ℕ)
put_off_of parted m i w None = []
put_off_of parted m i w (Some f) = if is_parted parted f.header.sender f.header.receiver then []
    else later_copies i (copies_in m i (f.header.sender, f.header.receiver) w)

-- the delayed copies of the first `count` datagrams since the round began
unfoldable pub put_off : List (ℕ × ℕ) → MomentView → ℕ → World → List (ℕ × ℕ)
put_off parted m zero w = []
put_off parted m (suc count) w = put_off parted m count w ++ put_off_of parted m (m.start + count + 1) w
    (datagram w (m.start + count + 1))

-- the delayed copies after this round: those that arrived are removed, and the delay of the others is 1 less
abbrev pub still_later : List (ℕ × ℕ) → List (ℕ × ℕ)
still_later later = map (λ p. (p.0 - 1, p.1)) (filter (λ p. nat_lt 1 p.0) later)

-- the number of the round and the delayed copies after a round that led to a world
abbrev pub in_flight_after : List (ℕ × ℕ) → MomentView → InFlightView → World → InFlightView
in_flight_after parted m in_flight w = record {
  round = (in_flight.round + 1) % 2 ^ 64;
  later = still_later in_flight.later ++ put_off parted m (length w.datagrams - m.start) w;
}
