-- The packets that were submitted and are not acknowledged, and which of them are due.
use Rattle.std.specs.Prelude.{◌≡◌, ℕ, zero, suc, ◌<◌, Bool, true, false, nat_lt, nat_le, min, ◌==◌, ◌||◌, ◌&&◌}
use Rattle.std.specs.Prelude.{if◌then◌else◌, List, [], ◌∷◌, map, slice_get, Option, Some, None}
use Rattle.tora_packet.specs.declared.Packet.{Packet}
use Rattle.tora_arq.specs.declared.times.Times.{Times}
use Rattle.tora_arq.specs.declared.queued_packet.QueuedPacket.{QueuedPacket}
use Rattle.tora_arq.specs.Settings.{ticks_passed}

abbrev pub packet_in : QueuedPacket → Packet
packet_in q = q.packet

abbrev pub packets_in : List QueuedPacket → List Packet
packets_in queue = map packet_in queue

-- a packet that was never transmitted
abbrev pub untried : Packet → QueuedPacket
untried packet = record { packet = packet; tries = 0; last_try = 0 }

abbrev pub retried : QueuedPacket → ℕ → QueuedPacket
retried q now = record q { tries = suc q.tries; last_try = now }

abbrev pub is_retry_time : Times → ℕ → QueuedPacket → Bool
is_retry_time times now q = nat_le times.retry (ticks_passed q.last_try now)

-- never transmitted, or fewer than `tries` times and the last time at least `retry` ticks ago
abbrev pub is_ready : Times → ℕ → QueuedPacket → Bool
is_ready times now q = (q.tries == 0) || (nat_lt q.tries times.tries && is_retry_time times now q)

-- transmitted `tries` times, the last time at least `retry` ticks ago
abbrev pub is_given_up : Times → ℕ → QueuedPacket → Bool
is_given_up times now q = nat_le times.tries q.tries && is_retry_time times now q

abbrev pub has_given_up : Times → ℕ → List QueuedPacket → Bool
has_given_up times now [] = false
has_given_up times now (q ∷ queue) = is_given_up times now q || has_given_up times now queue

-- packets at the front of a queue that are due, and the queue after they are transmitted
pub record ReadyRun : Type 0 where
  pub packets : List Packet
  pub queue : List QueuedPacket

abbrev pub no_run : List QueuedPacket → ReadyRun
no_run queue = record { packets = []; queue = queue }

abbrev pub with_ready : QueuedPacket → ℕ → ReadyRun → ReadyRun
with_ready q now run = record { packets = q.packet ∷ run.packets; queue = retried q now ∷ run.queue }

-- the due packets at the front of a queue, up to the first that is not due, at most this many
unfoldable pub ready_run : Times → ℕ → ℕ → List QueuedPacket → ReadyRun
ready_run times now zero queue = no_run queue
ready_run times now (suc most) [] = no_run []
ready_run times now (suc most) (q ∷ queue) = if is_ready times now q then with_ready q now
    (ready_run times now most queue) else no_run (q ∷ queue)

-- the packets that are due in one frame, the number of the first, and the queue after they are transmitted
pub record DueBatch : Type 0 where
  pub number : ℕ
  pub packets : List Packet
  pub queue : List QueuedPacket

abbrev pub due_batch : ℕ → ReadyRun → DueBatch
due_batch number run = record { number = number; packets = run.packets; queue = run.queue }

abbrev pub due_behind : QueuedPacket → Option DueBatch → Option DueBatch
due_behind q None = None
due_behind q (Some due) = Some (record due { queue = q ∷ due.queue })

-- the first packet due within the window, and the due packets that follow it directly, at most `most` in all; `number`
-- is the number of the first packet of this queue
unfoldable pub first_due : Times → ℕ → ℕ → ℕ → ℕ → List QueuedPacket → Option DueBatch
first_due times now most number zero queue = None
first_due times now most number (suc window) [] = None
first_due times now most number (suc window) (q ∷ queue) =
    if is_ready times now q
    then Some (due_batch number (ready_run times now (min most (suc window)) (q ∷ queue)))
    else due_behind q (first_due times now most (suc number) window queue)

-- none of the first packets of a queue, this many at most, is due
abbrev pub AreLate : Times → ℕ → ℕ → List QueuedPacket → Type 0
AreLate times now count queue =
    (k : ℕ) (q : QueuedPacket) → k < count → slice_get queue k ≡ Some q → is_ready times now q ≡ false

-- the packet at this place is the first one due within the window
pub record IsFirstReady (times : Times) (now window : ℕ) (queue : List QueuedPacket) (place : ℕ) (packet : QueuedPacket)
    : Type 0 where
  pub within : place < window
  pub before : AreLate times now place queue
  pub packet_is : slice_get queue place ≡ Some packet
  pub ready : is_ready times now packet ≡ true
