-- What a core broadcasts to a neighbour, compared with what was sent.
use Rattle.std.specs.Prelude.{◌≡◌, ℕ, ◌==◌, ◌⊎◌, Bool, true, false, is_some, if◌then◌else◌, List, [], ◌∷◌, ◌++◌}
use Rattle.std.specs.Prelude.{slice_get, Option, Some, None}
use Rattle.tora_packet.specs.declared.Packet.{Packet}
use Rattle.tora_arq.specs.declared.life.Life.{Life}
use Rattle.tora_arq.specs.declared.times.Times.{Times}
use Rattle.tora_core.specs.declared.Input.{Input}
use Rattle.tora_core.specs.declared.Input.TheVariants as In
use Rattle.tora_core.specs.Numbers.{has_number}
use Rattle.tora_core.specs.CoreRun.{CoreView, core_after, sends_of}
use Rattle.tora_seat.specs.declared.what.What.{What}
use Rattle.tora_seat.specs.declared.what.What.TheVariants as Tells
use Rattle.tora_seat.specs.declared.item.Item.{Item}
use Rattle.tora_world.specs.declared.event.Event.{Event}
use Rattle.tora_world.specs.declared.event.Event.TheVariants.{Need, Tick, Open, Pull, Transmit, Deliver, Pump, CoreTurn}
use Rattle.tora_world.specs.declared.event.Event.TheVariants.{Arm, Restart}
use Rattle.tora_world.specs.Topology.{Topology, IsWithinLimits, new_core, is_link}
use Rattle.tora_world.specs.Lists.{Begins}
use Rattle.tora_world.specs.World.{World, Choice, first_world, neighbours, refusal_by, sent_packets}
use Rattle.tora_world.specs.FreeWorld.{FreeEvent, if_happens, free_by, Schedule, after_schedule}
use Rattle.tora_world.specs.Law.{Sometime}

abbrev pub is_link_up : ℕ → Input → Bool
is_link_up k (In.LinkUp j) = j == k
is_link_up k (In.LinkDown j) = false
is_link_up k (In.Packet j packet) = false
is_link_up k (In.Need d) = false

-- the packets broadcast to a neighbour since its link came up last; an input broadcasts to each neighbour whose link is
-- up after it
abbrev pub with_sends : ℕ → CoreView → Input → ℕ → List Packet → List Packet
with_sends k c input now packets =
    if is_link_up k input then sends_of c input now
    else if has_number k (core_after c input now).up then packets ++ sends_of c input now
    else packets

abbrev pub broadcast_from : ℕ → CoreView → List (Input × ℕ) → List Packet → List Packet
broadcast_from k c [] packets = packets
broadcast_from k c ((input, now) ∷ inputs) packets = broadcast_from k (core_after c input now) inputs
    (with_sends k c input now packets)

-- the packets that the core of n has broadcast to k since their link came up last, in this world
abbrev pub broadcast_packets : Topology → World → ℕ → ℕ → List Packet
broadcast_packets t w n k = broadcast_from k (new_core t n) (w.inputs n) []

-- ---- the session that a link brought up last at its core, since the node's last restart

abbrev pub life_told : ℕ → Option ℕ → What → Option Life → Option Life
life_told k None what life = life
life_told k (Some j) (Tells.Up new) life = if j == k then Some new else life
life_told k (Some j) (Tells.Packet other packet) life = life
life_told k (Some j) (Tells.Down other reason) life = life
life_told k (Some j) Tells.Beat life = life
life_told k (Some j) (Tells.Need d) life = life
life_told k (Some j) (Tells.Cut other) life = life
life_told k (Some j) Tells.Show life = life
life_told k (Some j) (Tells.Status status) life = life
life_told k (Some j) Tells.Quit life = life

abbrev pub life_taken : List ℕ → ℕ → List Item → Option Life → Option Life
life_taken ks k [] life = life
life_taken ks k (item ∷ items) life = life_told k (slice_get ks item.seat) item.what life

abbrev pub life_by : World → ℕ → ℕ → Event → Option Life → Option Life
life_by w n k (CoreTurn m) life = if n == m then life_taken (neighbours w n) k (w.items n) life else life
life_by w n k (Restart m torn) life = if n == m then None else life
life_by w n k (Need m d) life = life
life_by w n k Tick life = life
life_by w n k (Open m j) life = life
life_by w n k (Pull m j) life = life
life_by w n k (Transmit m j) life = life
life_by w n k (Deliver i) life = life
life_by w n k (Pump m j) life = life
life_by w n k (Arm m call) life = life

abbrev pub life_after : Choice → World → ℕ → ℕ → Event → Option Life → Option Life
life_after c w n k event life = if is_some (refusal_by c w event) then life else life_by w n k event life

-- a start clears it as a Restart does, and no other event of threads makes the core take a session from the queue
abbrev pub free_life_after : Choice → World → ℕ → ℕ → FreeEvent → Option Life → Option Life
free_life_after c w n k event life = if_happens (λ e. life_after c w n k e life) life event

abbrev pub latest_life : ℕ → ℕ → Schedule → World → Option Life → Option Life
latest_life n k [] w life = life
latest_life n k (e ∷ es) w life = latest_life n k es (free_by e.1 w e.0) (free_life_after e.1 w n k e.0 life)

-- ---- no gap

-- the cut of this session is pending
abbrev pub IsCut : ℕ → ℕ → Life → World → Type 0
IsCut n k life w = (w.seats n).pending k ≡ Some life

-- for the session that came up last: what was sent is a prefix of what the core broadcast while its link was up, and
-- all of it unless the session was cut
pub record HasNoGap (broadcast sent : List Packet) (WasCut : Type 0) : Type 0 where
  pub begins : Begins sent broadcast
  pub whole : (sent ≡ broadcast) ⊎ WasCut

pub record IsWithoutGap (t : Topology) (first : World) (es : Schedule) (w : World) (n k : ℕ) : Type 0 where
  -- while a session is current, all that the core broadcast since its link came up was sent in it
  pub now : (life : Life) → (w.seats n).current k ≡ Some life → sent_packets w n k life ≡ broadcast_packets t w n k
  pub current : (life : Life) → (w.seats n).current k ≡ Some life → latest_life n k es first None ≡ Some life
  pub latest : (life : Life) → latest_life n k es first None ≡ Some life
      → HasNoGap (broadcast_packets t w n k) (sent_packets w n k life) (Sometime (IsCut n k life) es first)

-- an event sends only in the session that came up last
abbrev pub SendsInLatest : World → Schedule → World → ℕ → ℕ → Type 0
SendsInLatest first es w n k =
    (event : FreeEvent) (c : Choice) (life : Life) → (free_life_after c w n k event (latest_life n k es first None)
    ≡ Some life → ⊥) → sent_packets (free_by c w event) n k life ≡ sent_packets w n k life

-- a statement holds for every link end of every run, over any topology that is not refused within some limits
abbrev pub EveryEnd : (Topology → World → Schedule → World → ℕ → ℕ → Type 0) → Type 0
EveryEnd Holds =
    (t : Topology) (times : Times) (es : Schedule) (n k : ℕ) → IsWithinLimits t → is_link t n k ≡ true
    → Holds t (first_world t times) es (after_schedule es (first_world t times)) n k
