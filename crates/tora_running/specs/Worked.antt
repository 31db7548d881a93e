-- Two running nodes, computed: a run in which a datagram is lost, a queue returns a packet, both nodes are killed, and
-- a route is found in a second session of their link. Then a wire fails, the other end receives nothing any more, and
-- the route is lost with the session.
use Rattle.std.specs.Prelude.{◌≡◌, ℕ, Bool, true, false, List, [], ◌∷◌, length, slice_get, Option, Some, None, Ok}
use Rattle.tora_frame.specs.FrameParts.{FrameParts, frame_of}
use Rattle.tora_frame.specs.declared.parts.Version.TheVariants.{One}
use Rattle.tora_frame.specs.declared.parts.Body.TheVariants.{Hello}
use Rattle.tora_arq.specs.declared.life.Life.{Life}
use Rattle.tora_arq.specs.declared.link_event.LinkEvent.{LinkEvent}
use Rattle.tora_arq.specs.declared.phase.Phase.TheVariants.{Closed, Bound}
use Rattle.tora_arq.specs.LinkEnd.{frame_due, first_event}
use Rattle.tora_core.specs.CoreRun.{hop_of}
use Rattle.tora_seat.specs.declared.what.What.TheVariants as Told
use Rattle.tora_seat.specs.declared.item.Item.{Item}
use Rattle.tora_seat.specs.declared.cargo.Cargo.{Cargo}
use Rattle.tora_seat.specs.Serving.{serving_of}
use Rattle.tora_arq.specs.Lives.{reversed}
use Rattle.tora_world.specs.World.{Sending}
use Rattle.tora_world.specs.World.Sending.{Goes, IsLost, IsGone}
use Rattle.tora_world.specs.Worked.{pair, times, life, update}
use Rattle.tora_running.specs.Parts.LinkPart.{Opens, Ticks, Takes, Sends, Hears, Tells, Beats, Breaks}
use Rattle.tora_running.specs.Network.{Network, Part, first_network, settings_at, neighbours_at, after_part}
use Rattle.tora_running.specs.Network.{after_parts, packets_sent, packets_taken}
use Rattle.tora_running.specs.Network.Part.{Starts, OfLink, Serves, Asks}

-- ---- parts that depend on the network before them; a part without its subject is replaced by a beat

abbrev pub Reads : Type 0
Reads = Network → Part

abbrev pub part_sent : ℕ → ℕ → Sending → Option FrameParts → Part
part_sent n k sending None = OfLink n k (Beats 0)
part_sent n k sending (Some frame) = OfLink n k (Sends 0 frame sending)

-- the first frame that is due
abbrev pub sends : ℕ → ℕ → Sending → Reads
sends n k sending w = part_sent n k sending (frame_due (settings_at w n k) (w.ends n k) 0)

abbrev pub part_heard : ℕ → ℕ → Option FrameParts → Part
part_heard n k None = OfLink n k (Beats 0)
part_heard n k (Some frame) = OfLink n k (Hears 0 (Ok frame))

-- the frame at this place among all sent from k to n
abbrev pub hears : ℕ → ℕ → ℕ → Reads
hears n k place w = part_heard n k (slice_get (w.frames k n) place)

abbrev pub part_told : ℕ → ℕ → Option LinkEvent → Part
part_told n k None = OfLink n k (Beats 0)
part_told n k (Some event) = OfLink n k (Tells 0 event)

abbrev pub tells : ℕ → ℕ → Reads
tells n k w = part_told n k (first_event (w.ends n k))

abbrev pub part_taken : ℕ → ℕ → List Cargo → Part
part_taken n k [] = OfLink n k (Beats 0)
part_taken n k (cargo ∷ cargoes) = OfLink n k (Takes cargo)

abbrev pub takes : ℕ → ℕ → Reads
takes n k w = part_taken n k (w.cargoes n k)

abbrev pub part_served : Network → ℕ → Bool → List Item → Part
part_served w n put [] = OfLink n n (Beats 0)
part_served w n put (item ∷ items) = Serves n item (serving_of (λ offers k. put) (neighbours_at w n) (w.seats n)
    item).offers

-- every outbound message is put into its queue, or every one is returned
abbrev pub serves : ℕ → Bool → Reads
serves n put w = part_served w n put (w.items n)

abbrev pub opens : ℕ → ℕ → ℕ → Reads
opens n k number w = OfLink n k (Opens number 0)

abbrev pub starts : ℕ → Reads
starts n w = Starts n

abbrev pub needs : ℕ → ℕ → Reads
needs n d w = Asks n 0 (Told.Need d)

abbrev pub shows : ℕ → Reads
shows n w = Asks n 0 Told.Show

abbrev pub ticks : ℕ → ℕ → ℕ → Reads
ticks n k now w = OfLink n k (Ticks now)

abbrev pub beats : ℕ → ℕ → ℕ → Reads
beats n k now w = OfLink n k (Beats now)

abbrev pub breaks : ℕ → ℕ → Reads
breaks n k w = OfLink n k Breaks

-- a HELLO of a node that is not a neighbour
abbrev pub strange : FrameParts
strange = frame_of (record { version = One; sender = 9; receiver = 1; life = 1; heard = 0 }) Hello

abbrev pub hears_strange : ℕ → ℕ → Reads
hears_strange n k w = OfLink n k (Hears 0 (Ok strange))

abbrev pub read_from : Network → List Reads → List Part
read_from w [] = []
read_from w (next ∷ more) = next w ∷ read_from (after_part w (next w)) more

-- ---- the run

abbrev pub start : Network
start = first_network pair times

-- the first HELLO of node 1 is lost, the second one and two more bind both ends; the queue returns node 1's update when
-- the session comes up
abbrev pub first_life : List Reads
first_life =
    starts 1 ∷ starts 2 ∷ needs 1 2 ∷ serves 1 true ∷ opens 1 2 1 ∷ opens 2 1 1 ∷ sends 1 2 IsLost ∷ sends 1 2 Goes
    ∷ hears 2 1 0 ∷ sends 2 1 Goes ∷ hears 1 2 0 ∷ sends 1 2 Goes ∷ hears 2 1 1
    ∷ tells 1 2 ∷ tells 2 1 ∷ serves 2 true ∷ serves 1 false ∷ []

-- both nodes are killed, and started again; node 1 has drawn some numbers that it did not use. The first datagram that
-- arrives is an old one
abbrev pub second_life : List Reads
second_life =
    starts 1 ∷ starts 2 ∷ needs 1 2 ∷ serves 1 true ∷ opens 1 2 5 ∷ opens 2 1 2 ∷ hears 2 1 1 ∷ sends 1 2 Goes
    ∷ hears 2 1 2 ∷ sends 2 1 Goes ∷ hears 1 2 1 ∷ sends 1 2 Goes ∷ hears 2 1 3
    ∷ tells 1 2 ∷ tells 2 1 ∷ serves 2 true ∷ serves 1 true ∷ takes 1 2 ∷ sends 1 2 Goes ∷ hears 2 1 4 ∷ hears 2 1 4
    ∷ tells 2 1 ∷ serves 2 true ∷ []

abbrev pub first_parts : List Part
first_parts = read_from start first_life

abbrev pub parted : Network
parted = after_parts first_parts start

abbrev pub second_parts : List Part
second_parts = read_from parted second_life

abbrev pub met : Network
met = after_parts second_parts parted

abbrev pub new_life : Life
new_life = record { own = 5; peer = 2 }

-- the queue returned the update: its session is cut, and nothing was sent in it
pub record HandsBack (w : Network) : Type 0 where
  pub bound : (w.ends 1 2).phase ≡ Bound life
  pub over : (w.seats 1).current 2 ≡ None
  pub cut : (w.seats 1).pending 2 ≡ Some life
  pub none : packets_sent w 1 2 life ≡ []

-- in the second session the update arrives once, and node 1 has a route
pub record HasMet (w : Network) : Type 0 where
  pub bound : (w.ends 1 2).phase ≡ Bound new_life
  pub other : (w.ends 2 1).phase ≡ Bound (reversed new_life)
  pub sent : packets_sent w 1 2 new_life ≡ update ∷ []
  pub taken : packets_taken w 2 1 (reversed new_life) ≡ update ∷ []
  pub none : packets_taken w 2 1 life ≡ []
  pub hop : hop_of (w.seats 1).core 2 ≡ Some 2

-- ---- the end of that session

-- a beat arrives, and a user requests node 1's text; an acknowledgement is sent although its send failed; a frame of
-- another node is refused. Then the wire of node 1 fails, and node 2 receives nothing for 60 ticks
abbrev pub last_turns : List Reads
last_turns =
    beats 1 2 10 ∷ serves 1 true ∷ shows 1 ∷ serves 1 true ∷ sends 2 1 IsGone ∷ hears 1 2 2 ∷ hears_strange 1 2
    ∷ breaks 1 2 ∷ tells 1 2 ∷ serves 1 true
    ∷ ticks 2 1 60 ∷ tells 2 1 ∷ serves 2 true ∷ []

abbrev pub last_parts : List Part
last_parts = read_from met last_turns

abbrev pub left : Network
left = after_parts last_parts met

-- both sessions have ended, at the ends and at the cores, nothing waits in the queues, and node 1 has lost its route
pub record HasLeft (w : Network) : Type 0 where
  pub closed : (w.ends 1 2).phase ≡ Closed
  pub other : (w.ends 2 1).phase ≡ Closed
  pub over : (w.seats 1).current 2 ≡ None
  pub other_over : (w.seats 2).current 1 ≡ None
  pub served : w.items 1 ≡ []
  pub other_served : w.items 2 ≡ []
  pub gone : length (w.frames 2 1) ≡ 3
  pub hop : hop_of (w.seats 1).core 2 ≡ None

-- ---- not a run, because a number is drawn again

-- the update is taken in the session with the numbers 1 and 1; both nodes are started again and draw the same numbers,
-- and the old datagram arrives again
abbrev pub numbers_again : List Reads
numbers_again =
    starts 1 ∷ starts 2 ∷ needs 1 2 ∷ serves 1 true ∷ opens 1 2 1 ∷ opens 2 1 1 ∷ sends 1 2 Goes ∷ hears 2 1 0
    ∷ sends 2 1 Goes ∷ hears 1 2 0 ∷ sends 1 2 Goes ∷ hears 2 1 1
    ∷ tells 1 2 ∷ tells 2 1 ∷ serves 2 true ∷ serves 1 true ∷ takes 1 2 ∷ sends 1 2 Goes ∷ hears 2 1 2 ∷ tells 2 1
    ∷ serves 2 true
    ∷ starts 1 ∷ starts 2 ∷ opens 1 2 1 ∷ opens 2 1 1 ∷ sends 1 2 Goes ∷ hears 2 1 3 ∷ sends 2 1 Goes ∷ hears 1 2 1
    ∷ sends 1 2 Goes ∷ hears 2 1 4
    ∷ tells 2 1 ∷ serves 2 true ∷ hears 2 1 2 ∷ tells 2 1 ∷ serves 2 true ∷ []

abbrev pub drawn_again : Network
drawn_again = after_parts (read_from start numbers_again) start

-- the update was sent once, and taken twice
pub record TakesTwice (w : Network) : Type 0 where
  pub sent : packets_sent w 1 2 life ≡ update ∷ []
  pub taken : packets_taken w 2 1 life ≡ update ∷ update ∷ []
