-- A core with the packets that its last accepted step broadcast, as a handle holds it, and the effect of each call.
use Rattle.std.specs.Prelude.{ℕ, ◌==◌, ◌||◌, Bool, is_some, is_none, if◌then◌else◌, List, [], Option, None, Some}
use Rattle.std.specs.Prelude.{option_map, Result, Ok, Err}
use Rattle.std.specs.Option.{option_map_or}
use Rattle.tora_packet.specs.declared.Packet.{Packet}
use Rattle.tora_packet.specs.declared.PacketError.{PacketError}
use Rattle.tora_packet.specs.PacketGrammar.{packet_reading}
use Rattle.tora_core.specs.declared.erasure.Erasure.{Erasure}
use Rattle.tora_core.specs.declared.erasure.Erasure.TheVariants.{Plain, Remembered}
use Rattle.tora_core.specs.declared.Input.{Input}
use Rattle.tora_core.specs.declared.Input.TheVariants as In
use Rattle.tora_core.specs.Limits.{greatest_core_limits, most_destinations, most_neighbours}
use Rattle.tora_core.specs.Numbers.{has_number}
use Rattle.tora_core.specs.CoreRun.{CoreView, core_after, core_refusal_within, first_core_of, refusal_of, sends_of}
use Rattle.tora_c.specs.declared.codes.TheConstants.{NULL, ZERO, CHOICE}
use Rattle.tora_c.specs.Codes.{code_or_ok, core_code, packet_code, refused_code}

pub record NodeView : Type 0 where
  pub core : CoreView
  pub sent : List Packet  -- the packets that the last accepted step broadcast

-- ---- a new core

abbrev pub erasure_of : ℕ → Option Erasure
erasure_of choice = if choice == 0 then Some Plain else if choice == 1 then Some Remembered else None

-- one of the numbers of the node, its neighbours and its destinations is 0
abbrev pub has_zero : ℕ → List ℕ → List ℕ → Bool
has_zero me neighbours destinations = (me == 0) || has_number 0 neighbours || has_number 0 destinations

-- the code of the first cause for which a new core is refused, apart from memory
abbrev pub new_refusal : ℕ → List ℕ → List ℕ → ℕ → Option ℕ
new_refusal me neighbours destinations choice =
    if is_none (erasure_of choice) then Some CHOICE
    else if has_zero me neighbours destinations then Some ZERO
    else option_map core_code (core_refusal_within (most_neighbours greatest_core_limits)
    (most_destinations greatest_core_limits) me neighbours destinations)

abbrev pub first_node : Erasure → ℕ → List ℕ → List ℕ → NodeView
first_node erasure me neighbours destinations = record {
  core = first_core_of erasure me neighbours destinations;
  sent = [];
}

-- ---- a step

-- the core after an input, with the packets of its last accepted step; a refused input changes nothing
abbrev pub node_after : NodeView → Input → ℕ → NodeView
node_after n input now = if is_some (refusal_of n.core input) then n
    else record { core = core_after n.core input now; sent = sends_of n.core input now }

abbrev pub step_code : NodeView → Input → ℕ
step_code n input = code_or_ok (option_map refused_code (refusal_of n.core input))

-- `node_after` of the core in a handle; None if the handle is null
abbrev pub held_after : Option NodeView → Input → ℕ → Option NodeView
held_after held input now = option_map (λ n. node_after n input now) held

abbrev pub held_code : Option NodeView → Input → ℕ
held_code held input = option_map_or (λ n. step_code n input) held NULL

-- ---- a packet of a neighbour, as bytes

abbrev pub reading_after : Option NodeView → ℕ → Result Packet PacketError → ℕ → Option NodeView
reading_after held k (Ok packet) now = held_after held (In.Packet k packet) now
reading_after held k (Err e) now = held

abbrev pub reading_code : Option NodeView → ℕ → Result Packet PacketError → ℕ
reading_code None k reading = NULL
reading_code (Some n) k (Ok packet) = step_code n (In.Packet k packet)
reading_code (Some n) k (Err e) = packet_code e

abbrev pub bytes_after : Option NodeView → ℕ → List ℕ → ℕ → Option NodeView
bytes_after held k bytes now = reading_after held k (packet_reading bytes) now

abbrev pub bytes_code : Option NodeView → ℕ → List ℕ → ℕ
bytes_code held k bytes = reading_code held k (packet_reading bytes)
