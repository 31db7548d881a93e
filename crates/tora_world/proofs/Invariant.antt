-- The invariant of the prefix law: it relates every link end, its queues, its core's seat and its life file to a run of
-- the link machine. Read it from the bottom: AllEndsFollow is the whole, FollowsMachine the part of one node and one
-- neighbour. It does not mention timers, tries, owed frames, the window, pending cuts, results and the core's views.
use Rattle.std.proofs.Common.{◌≡◌, ◌≢◌, ℕ, ◌<◌, ◌≤◌, Bool, true, false, ◌&&◌, List, [], ◌∷◌, ◌++◌, length, Option, Some, None, if◌then◌else◌}
use Rattle.tora_packet.specs.declared.Packet.{Packet}
use Rattle.tora_frame.specs.declared.parts.Body.{Body}
use Rattle.tora_frame.specs.declared.parts.Body.TheVariants.{Hello, Data, Ack}
use Rattle.tora_frame.specs.FrameParts.{FrameParts}
use Rattle.tora_arq.specs.declared.life.Life.{Life}
use Rattle.tora_arq.specs.declared.link_event.LinkEvent.{LinkEvent}
use Rattle.tora_arq.specs.declared.link_event.LinkEvent.TheVariants.{Up, Deliver, Down}
use Rattle.tora_arq.specs.declared.phase.Phase.{Phase}
use Rattle.tora_arq.specs.declared.phase.Phase.TheVariants.{Closed, Unbound, Bound}
use Rattle.tora_arq.specs.Lives.{is_same_life, life_of, reversed}
use Rattle.tora_arq.specs.Settings.{Settings}
use Rattle.tora_arq.specs.LinkEnd.{EndState}
use Rattle.tora_arq.specs.LinkFacts.{IsEnd, IsQueueOf, IsPacketAt, BodyTells, AreHeld}
use Rattle.tora_life.specs.LifeRun.{LifeDisk, IsFloor}
use Rattle.tora_seat.specs.Serving.{Parcel}
use Rattle.tora_world.specs.Lists.{packets_of, Begins, IsIn, Each}
use Rattle.tora_world.specs.LinkMachine.{MachineEnd, Machine, MachineStep, IsMachineRun, machine_after, IsLast}

-- the arrivals at the core from one neighbour
pub data Arrival : Type 0 where
  LifeComes : (l : Life) → Arrival
  PacketComes : (l : Life) (p : Packet) → Arrival
  OtherComes : Arrival

abbrev pub arrival_of : LinkEvent → Arrival
arrival_of (Up l) = LifeComes l
arrival_of (Deliver l p) = PacketComes l p
arrival_of (Down l r) = OtherComes

-- the parts of a world that the invariant reads for a node and a neighbour
pub record EndView : Type 0 where
  pub settings : Settings
  pub endpoint : EndState  -- the link end, except its events, which are among the arrivals
  pub file : LifeDisk  -- its life file
  pub current : Option Life  -- the session that is current at the core
  pub coming : List Arrival  -- the arrivals in the queue, and then those of the events that are not polled
  pub out : List Parcel  -- the packets in the queue out of the core
  pub sent : List Parcel  -- all packets that the core ever sent to this neighbour
  pub taken : List Parcel  -- all packets that the core ever took from it

abbrev pub is_the_current : Life → Option Life → Bool
is_the_current l None = false
is_the_current l (Some j) = is_same_life l j

-- a packet that arrives, if it is of this session and the session is current then
abbrev pub given : Life → Bool → Life → Packet → List Packet
given l live j p = if live && is_same_life l j then p ∷ [] else []

-- the packets of this session that the core will take, if no cut comes before
abbrev pub awaited : Life → Bool → List Arrival → List Packet
awaited l live [] = []
awaited l live (LifeComes j ∷ q) = awaited l (is_same_life l j) q
awaited l live (PacketComes j p ∷ q) = given l live j p ++ awaited l live q
awaited l live (OtherComes ∷ q) = awaited l live q

-- whether the session is the current one after all these arrivals
abbrev pub lives : Life → Bool → List Arrival → Bool
lives l live [] = live
lives l live (LifeComes j ∷ q) = lives l (is_same_life l j) q
lives l live (PacketComes j p ∷ q) = lives l live q
lives l live (OtherComes ∷ q) = lives l live q

abbrev pub number_of : Option Life → ℕ
number_of None = 0
number_of (Some l) = l.own

-- each session that comes up is above the one before it
abbrev pub AreRising : ℕ → List Arrival → Type 0
AreRising n [] = Unit {0}
AreRising n (LifeComes l ∷ q) = (n < l.own) × AreRising l.own q
AreRising n (PacketComes l p ∷ q) = AreRising n q
AreRising n (OtherComes ∷ q) = AreRising n q

-- each session that comes up is among these
abbrev pub ComesOf : List Life → List Arrival → Type 0
ComesOf ls [] = Unit {0}
ComesOf ls (LifeComes l ∷ q) = IsIn l ls × ComesOf ls q
ComesOf ls (PacketComes l p ∷ q) = ComesOf ls q
ComesOf ls (OtherComes ∷ q) = ComesOf ls q

abbrev pub IsOf : List Life → Option Life → Type 0
IsOf ls None = Unit {0}
IsOf ls (Some l) = IsIn l ls

-- each packet is of one of these sessions
abbrev pub AllOf : List Life → List Parcel → Type 0
AllOf ls xs = Each (λ x. IsIn x.life ls) xs

-- the packets sent are those submitted to the bound end, followed by those in the queue to it
pub record Queued (l : Life) (e : EndState) (out sent : List Parcel) : Type 0 where
  pub submitted : List Packet
  pub queue : IsQueueOf submitted e
  pub waits : submitted ++ packets_of l out ≡ packets_of l sent

-- if the core can still take packets of the session, each accepted packet is taken or among the arrivals
abbrev pub Counted : Life → ℕ → Option Life → List Arrival → List Parcel → Type 0
Counted l accepted current coming taken =
    lives l (is_the_current l current) coming ≡ true → length (packets_of l taken ++ awaited l (is_the_current l current) coming) ≡ accepted

-- a bound end: the session is bound and its number drawn; queued packets were sent; accepted packets are taken or among
-- the arrivals; held packets are those that the other end sent at their places; and the other end was seen to have
-- accepted the packets that count as acknowledged
pub record InLife (l : Life) (e : EndState) (current : Option Life) (coming : List Arrival) (out sent taken other : List Parcel) (p : MachineEnd) (done : Life → ℕ → Type 0) : Type 0 where
  pub bound : IsIn l p.bound
  pub drawn : IsIn l.own p.drawn
  pub queued : Queued l e out sent
  pub counted : Counted l e.accepted current coming taken
  pub held : AreHeld (IsPacketAt (packets_of (reversed l) other)) e.accepted e.held
  pub told : done l e.acknowledged

-- an unbound end: its number is the last one drawn, above the number of each session bound
pub record InWait (own : ℕ) (p : MachineEnd) : Type 0 where
  pub last : IsLast own p.drawn
  pub above : Each (λ l. l.own < own) p.bound
  pub some : 0 < own

abbrev pub InPhase : Phase → EndView → MachineEnd → List Parcel → (Life → ℕ → Type 0) → Type 0
InPhase Closed v p other done = Unit {0}
InPhase (Unbound own) v p other done = InWait own p
InPhase (Bound l) v p other done = InLife l v.endpoint v.current v.coming v.out v.sent v.taken other p done

-- no number drawn or bound is above the floor of the life file; the machine's lists are the world's; each packet is of
-- a session bound
pub record Histories (file : LifeDisk) (last : ℕ) (out sent taken : List Parcel) (p : MachineEnd) : Type 0 where
  pub floor : ℕ
  pub kept : IsFloor floor file  -- no later draw gives this number or a smaller one
  pub opened : last ≤ floor
  pub drawn : Each (λ x. x ≤ floor) p.drawn
  pub bound : Each (λ l. l.own ≤ floor) p.bound
  pub sent_is : p.sent ≡ sent
  pub taken_is : p.taken ≡ taken
  pub all_sent : AllOf p.bound sent
  pub all_taken : AllOf p.bound taken
  pub all_out : AllOf p.bound out

-- the current session, if there is one, is the last one that came up
abbrev pub IsLatest : Option Life → Option Life → Type 0
IsLatest latest None = Unit {0}
IsLatest latest (Some l) = latest ≡ Some l

-- a closed session came up no later than the last one, and is not current
abbrev pub IsOver : Option Life → Option Life → Life → Type 0
IsOver latest current l = (l.own ≤ number_of latest) × (current ≢ Some l)

-- the arrivals at the core: sessions come up with rising numbers, above that of the last one; nothing was sent or taken
-- in a session that is yet to come up; a closed session does not come up again; and for every session the packets taken
-- and awaited are a prefix of those that the other end has sent
pub record Arriving (current : Option Life) (coming : List Arrival) (sent taken other : List Parcel) (bound closed : List Life) : Type 0 where
  pub latest : Option Life  -- the session that came up last at the core
  pub was_bound : IsOf bound latest
  pub now : IsLatest latest current
  pub comes : ComesOf bound coming
  pub rises : AreRising (number_of latest) coming
  pub older : Each (λ x. x.life.own ≤ number_of latest) sent
  pub taken_before : Each (λ x. x.life.own ≤ number_of latest) taken
  pub over : Each (IsOver latest current) closed
  pub chain : (l : Life) → Begins (packets_of l taken ++ awaited l (is_the_current l current) coming) (packets_of (reversed l) other)

-- one end follows the machine, given what the other end has sent to it, and how much of each session the other end was
-- seen to have accepted
pub record FollowsMachine (v : EndView) (p : MachineEnd) (other : List Parcel) (done : Life → ℕ → Type 0) : Type 0 where
  pub kept : IsEnd v.settings v.endpoint
  pub histories : Histories v.file v.endpoint.last_life v.out v.sent v.taken p
  pub arriving : Arriving v.current v.coming v.sent v.taken other p.bound p.closed
  pub phase : InPhase v.endpoint.phase v p other done

-- a frame carries packets that its sender has sent, and a count of packets that its sender was seen to accept
abbrev pub Tells : List Parcel → (Life → ℕ → Type 0) → Life → Body → Type 0
Tells sent done l Hello = Unit {0}
Tells sent done l (Data number count packets) = BodyTells (IsPacketAt (packets_of l sent)) (Data number count packets) × done l count
Tells sent done l (Ack count) = done l count

-- the counts of accepted packets that were seen, for each end and session
abbrev pub Seen : Type 1
Seen = ℕ → ℕ → Life → ℕ → Type 0

-- the invariant of every datagram ever sent: its number was drawn, and its body agrees with its sender's record
abbrev pub Told : Machine → Seen → FrameParts → Type 0
Told m seen f =
    IsIn f.header.life (m f.header.sender f.header.receiver).drawn
    × Tells (m f.header.sender f.header.receiver).sent (seen f.header.sender f.header.receiver) (life_of f.header.life f.header.heard) f.body

-- the counts that the other end was seen to accept, by the session as this end writes it
abbrev pub seen_at_other : Seen → ℕ → ℕ → Life → ℕ → Type 0
seen_at_other seen n k l c = seen k n (reversed l) c

-- the whole invariant: the steps are a run of the machine, and every end and every datagram follows it
pub record AllEndsFollow (steps : List MachineStep) (view : ℕ → ℕ → EndView) (frames : List FrameParts) (seen : Seen) : Type 0 where
  pub legal : IsMachineRun steps
  pub sides : (n k : ℕ) → FollowsMachine (view n k) (machine_after steps n k) (machine_after steps k n).sent (seen_at_other seen n k)
  pub tells : Each (Told (machine_after steps) seen) frames
