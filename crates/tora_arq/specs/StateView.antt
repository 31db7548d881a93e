-- The settings and the state as the code stores them.
use Rattle.std.specs.Prelude.{ℕ}
use Rattle.tora_arq.specs.declared.TheConstants.{EVENT_PLACES, QUEUE_PLACES, HELD_PLACES}
use Rattle.tora_arq.specs.declared.settings.Settings.{Settings as CodeSettings}
use Rattle.tora_arq.specs.declared.state.State.{State}
use Rattle.tora_arq.specs.Settings.{Settings, settings_of}
use Rattle.tora_arq.specs.LinkEnd.{EndState}

abbrev pub settings_in : CodeSettings → Settings
settings_in s = settings_of s.version s.me s.peer s.times

abbrev pub state_in : State → EndState
state_in s = record {
  phase = s.phase;
  heard = s.heard;
  last_life = s.last_life;
  queue = s.queue.items;
  acknowledged = s.acknowledged;
  transmitted = s.transmitted;
  accepted = s.accepted;
  held = s.held.items;
  events = s.events.items;
  speaks_two = s.speaks_two;
  owes_hello = s.owes_hello;
  owes_old_hello = s.owes_old_hello;
  owes_ack = s.owes_ack;
  last_hello = s.last_hello;
  last_hearing = s.last_hearing;
}

-- the room for events, for unacknowledged packets, and for out-of-order packets
pub record Rooms : Type 0 where
  pub events : ℕ
  pub packets : ℕ
  pub early : ℕ

abbrev pub rooms_of : ℕ → ℕ → ℕ → Rooms
rooms_of events packets early = record { events = events; packets = packets; early = early }

abbrev pub rooms_in : State → Rooms
rooms_in s = rooms_of s.events.capacity s.queue.capacity s.held.capacity

-- the room for all events and packets that there may be
abbrev pub whole_rooms : Rooms
whole_rooms = rooms_of EVENT_PLACES QUEUE_PLACES HELD_PLACES
