-- What contracts see of a queue to a neighbour.
use Rattle.std.specs.Prelude.{◌≡◌, ℕ, List, [], ◌∷◌, ◌++◌}
use denote.RawPtr.{Ptr}
use Rattle.rtrb.specs.declared.producer.Producer.{Producer}
use Rattle.rtrb.specs.declared.consumer.Consumer.{Consumer}
use Rattle.rtrb.specs.Ring.{sent, received, known_items}
use Rattle.tora_seat.specs.declared.cargo.Cargo.{Cargo}

-- the identity of a ring
pub record Ring : Type 0 where
  pub words : Ptr
  pub slots : Ptr
  pub names : ℕ × (ℕ × ℕ)

-- all that the end has sent, oldest first
pub record SendEnd : Type 0 where
  pub ring : Ring
  pub sent : List Cargo

-- all that the end has received, and the following ones that it has seen in the queue, oldest first
pub record ReceiveEnd : Type 0 where
  pub ring : Ring
  pub received : List Cargo
  pub found : List Cargo

module _ {A P : Type 0} where
  abbrev pub send_end : Producer Cargo A P → SendEnd
  send_end p = record { ring = record { words = p.end.words; slots = p.end.slots; names = p.end.names }; sent = sent p }

  abbrev pub receive_end : Consumer Cargo A P → ReceiveEnd
  receive_end c = record {
    ring = record { words = c.end.words; slots = c.end.slots; names = c.end.names };
    received = received c;
    found = known_items c;
  }

-- the two ends of one queue
abbrev pub AreEndsOf : SendEnd → ReceiveEnd → Type 0
AreEndsOf s r = s.ring ≡ r.ring

-- the end after it has sent one more outbound message
abbrev pub with_sent : SendEnd → Cargo → SendEnd
with_sent end cargo = record end { sent = end.sent ++ cargo ∷ [] }
