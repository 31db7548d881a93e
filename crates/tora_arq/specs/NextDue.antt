-- When something is next due at a link end, if there is no other call.
use Rattle.std.specs.Prelude.{◌≡◌, ℕ, ◌^◌, ◌<◌, ◌≤◌, Bool, true, false, not, nat_le, ◌||◌, ◌&&◌, Option, Some, None}
use Rattle.std.specs.Prelude.{is_some}
use Rattle.tora_arq.specs.declared.life.Life.{Life}
use Rattle.tora_arq.specs.declared.times.Times.{Times}
use Rattle.tora_arq.specs.declared.queued_packet.QueuedPacket.{QueuedPacket}
use Rattle.tora_arq.specs.Settings.{Settings}
use Rattle.tora_arq.specs.SendQueue.{is_ready, is_given_up}
use Rattle.tora_arq.specs.LinkEnd.{EndState, is_closed, is_silent, is_hello_due, is_old_hello_due, due_of}
use Rattle.tora_arq.specs.LinkEnd.{on_transmit_due, frame_due, after_tick}

-- at this tick a frame is due, or the session times out
abbrev pub is_any_due : Settings → EndState → ℕ → Bool
is_any_due s e tick = is_some (frame_due s e tick) || (not (is_closed e) && is_closed (after_tick s e tick))

-- the first such tick from `now` on, below 2^64; None if there is none
abbrev pub IsNextDue : Settings → EndState → ℕ → Option ℕ → Type 0
IsNextDue s e now None = (tick : ℕ) → tick < 2 ^ 64 → now ≤ tick → is_any_due s e tick ≡ false
IsNextDue s e now (Some next) =
    (now ≤ next) × (is_any_due s e next ≡ true) × ((tick : ℕ) → now ≤ tick → tick < next → is_any_due s e tick ≡ false)

-- a tick is at or after this one
abbrev pub has_begun : Option ℕ → ℕ → Bool
has_begun None tick = false
has_begun (Some first) tick = nat_le first tick

-- at this tick a packet is due or given up
abbrev pub is_packet_due : Times → ℕ → QueuedPacket → Bool
is_packet_due times tick q = is_ready times tick q || is_given_up times tick q

-- at this tick a frame of a session is due, or the session times out
abbrev pub is_due_in : Settings → EndState → Life → ℕ → Bool
is_due_in s e life tick =
    ((is_hello_due s e tick || is_old_hello_due e) || is_some (on_transmit_due s e life (due_of s e tick)).0) ||
    is_silent s e tick
