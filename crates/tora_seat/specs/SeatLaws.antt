-- Invariants of serving items, in terms of sessions, packets and inputs.
use Rattle.std.specs.Prelude.{◌≡◌, ℕ, ◌==◌, ◌&&◌, ◌||◌, not, Bool, true, false, is_some, if◌then◌else◌, List, [], ◌∷◌}
use Rattle.std.specs.Prelude.{◌++◌, slice_get, Option, None, Some}
use Rattle.tora_packet.specs.declared.Packet.{Packet}
use Rattle.tora_arq.specs.declared.life.Life.{Life}
use Rattle.tora_core.specs.declared.Input.{Input}
use Rattle.tora_core.specs.declared.Input.TheVariants as In
use Rattle.tora_core.specs.Numbers.{has_number}
use Rattle.tora_core.specs.CoreRun.{CoreView, core_after, sends_of}
use Rattle.tora_seat.specs.declared.what.What.{What}
use Rattle.tora_seat.specs.declared.what.What.TheVariants as Tells
use Rattle.tora_seat.specs.declared.item.Item.{Item}
use Rattle.tora_seat.specs.declared.cargo.Cargo.{Cargo}
use Rattle.tora_seat.specs.declared.cargo.Cargo.TheVariants as Gives
use Rattle.tora_seat.specs.Serving.{SeatState, Serving, Offer}

-- each neighbour has a current session exactly if its link is up at the core
abbrev pub IsInStep : List ℕ → SeatState → Type 0
IsInStep ks s = (k : ℕ) → has_number k ks ≡ true → is_some (s.current k) ≡ has_number k s.core.up

-- ---- what was offered to a neighbour

abbrev pub is_packet : Cargo → Bool
is_packet (Gives.Packet life packet) = true
is_packet (Gives.Cut life) = false

-- the offer was a packet for this neighbour, and the queue returned it
abbrev pub is_back : ℕ → Offer → Bool
is_back k o = (o.to == k) && (is_packet o.cargo && not o.put)

-- the queue to this neighbour returned some packet
abbrev pub has_back : ℕ → List Offer → Bool
has_back k [] = false
has_back k (o ∷ offers) = is_back k o || has_back k offers

abbrev pub has_offer : ℕ → List Offer → Bool
has_offer k [] = false
has_offer k (o ∷ offers) = (o.to == k) || has_offer k offers

-- after the queue returned a packet, nothing more is offered to this neighbour
abbrev pub NothingAfterBack : ℕ → List Offer → Type 0
NothingAfterBack k [] = Unit {0}
NothingAfterBack k (o ∷ offers) = (is_back k o ≡ true → has_offer k offers ≡ false) × NothingAfterBack k offers

-- the packet of an outbound message, if it has one
abbrev pub packet_in : Cargo → List Packet
packet_in (Gives.Packet life packet) = packet ∷ []
packet_in (Gives.Cut life) = []

-- the packets that were put into the queue to this neighbour, in order
abbrev pub packets_put : ℕ → List Offer → List Packet
packets_put k [] = []
packets_put k (o ∷ offers) = (if (o.to == k) && o.put then packet_in o.cargo else []) ++ packets_put k offers

-- if the outbound message is a packet, it is of this session
abbrev pub IsOfLife : Option Life → Cargo → Type 0
IsOfLife life (Gives.Packet other packet) = life ≡ Some other
IsOfLife life (Gives.Cut other) = Unit {0}

-- every packet that was offered to this neighbour is of this session
abbrev pub AreOfLife : ℕ → Option Life → List Offer → Type 0
AreOfLife k life [] = Unit {0}
AreOfLife k life (o ∷ offers) = (o.to ≡ k → IsOfLife life o.cargo) × AreOfLife k life offers

-- ---- the actions of the core

-- the packets that inputs broadcast to this neighbour: those of each input after which its link is up
abbrev pub broadcast_to : ℕ → CoreView → List (Input × ℕ) → List Packet
broadcast_to k c [] = []
broadcast_to k c ((input, now) ∷ inputs) = (if has_number k (core_after c input now).up then sends_of c input now
    else []) ++ broadcast_to k (core_after c input now) inputs

abbrev pub is_link_down : ℕ → Input → Bool
is_link_down k (In.LinkUp j) = false
is_link_down k (In.LinkDown j) = j == k
is_link_down k (In.Packet j packet) = false
is_link_down k (In.Need d) = false

-- these inputs took down the link to this neighbour
abbrev pub has_link_down : ℕ → List (Input × ℕ) → Bool
has_link_down k [] = false
has_link_down k ((input, now) ∷ inputs) = is_link_down k input || has_link_down k inputs

-- the session of packets for this neighbour while an item is served: the one that the item brings up, or else the
-- current one
abbrev pub life_brought : ℕ → Option ℕ → What → Option Life → Option Life
life_brought k None what life = life
life_brought k (Some j) (Tells.Up new) life = if j == k then Some new else life
life_brought k (Some j) (Tells.Packet other packet) life = life
life_brought k (Some j) (Tells.Down other reason) life = life
life_brought k (Some j) Tells.Beat life = life
life_brought k (Some j) (Tells.Need d) life = life
life_brought k (Some j) (Tells.Cut other) life = life
life_brought k (Some j) Tells.Show life = life
life_brought k (Some j) (Tells.Status status) life = life
life_brought k (Some j) Tells.Quit life = life

abbrev pub life_served : List ℕ → SeatState → Item → ℕ → Option Life
life_served ks s item k = life_brought k (slice_get ks item.seat) item.what (s.current k)

-- the first list is a prefix of the second
abbrev pub Begins : List Packet → List Packet → Type 0
Begins xs ys = (rest : List Packet) × (xs ++ rest ≡ ys)

-- ---- properties of a served item, at a neighbour

-- the packets put are a prefix of those that the core broadcast while the link was up, and all of them if the queue
-- returned no packet; all packets offered are of the session served
pub record HasNoGap (ks : List ℕ) (first : SeatState) (item : Item) (k : ℕ) (v : Serving) : Type 0 where
  pub life : AreOfLife k (life_served ks first item k) v.offers
  pub begins : Begins (packets_put k v.offers) (broadcast_to k first.core v.inputs)
  pub whole : has_back k v.offers ≡ false → packets_put k v.offers ≡ broadcast_to k first.core v.inputs

-- if the queue returned a packet, nothing more is offered, the session is over, its cut is pending, and the link goes
-- down in the same item
pub record EndsAtBack (ks : List ℕ) (first : SeatState) (item : Item) (k : ℕ) (v : Serving) : Type 0 where
  pub nothing_more : NothingAfterBack k v.offers
  pub over : has_back k v.offers ≡ true → v.seat.current k ≡ None
  pub pending : has_back k v.offers ≡ true → v.seat.pending k ≡ life_served ks first item k
  pub down : has_back k v.offers ≡ true → has_link_down k v.inputs ≡ true
