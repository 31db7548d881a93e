-- A round of a simulation: its list of events, and the delayed datagrams after it.
pub use Rattle.tora_script.specs.Parted.{is_same_pair, is_parted}
unfoldable pub use Rattle.tora_sim.specs.Steps.{repeats}
pub use Rattle.tora_sim.specs.Steps.{Happened}
use Rattle.std.specs.Prelude.{◌≡◌, ℕ, zero, suc, ◌+◌, ◌-◌, Bool, true, nat_lt, if◌then◌else◌, List, [], ◌∷◌, ◌++◌}
use Rattle.std.specs.Prelude.{length, Option, Some, None}
use Rattle.tora_frame.specs.FrameParts.{FrameParts}
use Rattle.tora_world.specs.declared.event.Event.{Event}
use Rattle.tora_world.specs.declared.event.Event.TheVariants.{Tick, Open, Pull, Transmit, Deliver, Pump, CoreTurn}
use Rattle.tora_world.specs.World.{World, datagram, is_empty, world_after_all}
use Rattle.tora_script.specs.Table.{Channels}
use Rattle.tora_sim.specs.Readers.{ends_in}
use Rattle.tora_script.specs.declared.rounds.TheConstants.{MOST_PASSES}
use Rattle.tora_script.specs.InFlight.{MomentView, InFlightView, in_flight_view, copies_in, at_once, in_flight_after}
use Rattle.tora_script.specs.declared.in_flight.InFlight.{InFlight}
use Rattle.tora_script.specs.declared.turns.EndTurn.{EndTurn}
use Rattle.tora_script.specs.declared.turns.EndTurn.TheVariants as turn

-- ---- plans: the events that happen next in a world; `repeats` is the plan to repeat one event until it is refused, at
-- most a number of times

abbrev pub Plan : Type 0
Plan = World → List Event

-- an event once, unless it is refused
abbrev pub once : Event → Plan
once event = repeats 1 event

-- an event until it is refused, at most 1,024 times
abbrev pub while_possible : Event → Plan
while_possible event = repeats 1024 event

-- one plan, and then another one in the world after it
abbrev pub plan_then : Plan → Plan → Plan
plan_then plan next w = plan w ++ next (world_after_all w (plan w))

-- a plan for each item of a list, in order
abbrev pub each : {A : Type 0} → (A → Plan) → List A → Plan
each plan [] w = []
each plan (x ∷ xs) w = plan_then (plan x) (each plan xs) w

-- ---- a round, over nodes in ascending order, and over link ends in ascending order of the node and then the neighbour

-- the event of this kind of turn at a link end
abbrev pub end_event : EndTurn → ℕ × ℕ → Event
end_event turn.Open e = Open e.0 e.1
end_event turn.Pull e = Pull e.0 e.1
end_event turn.Transmit e = Transmit e.0 e.1
end_event turn.Pump e = Pump e.0 e.1

-- one event at each link end, unless it is refused
abbrev pub each_end_once : EndTurn → List (ℕ × ℕ) → Plan
each_end_once kind ends = each (λ e. once (end_event kind e)) ends

abbrev pub each_end : EndTurn → List (ℕ × ℕ) → Plan
each_end kind ends = each (λ e. while_possible (end_event kind e)) ends

-- each core takes its items
abbrev pub each_core : List ℕ → Plan
each_core nodes = each (λ n. while_possible (CoreTurn n)) nodes

-- the delivery of a datagram that was sent before the round, unless its nodes are parted
abbrev pub arrival_of : List (ℕ × ℕ) → ℕ → Option FrameParts → Plan
arrival_of parted i None w = []
arrival_of parted i (Some f) w = if is_parted parted f.header.sender f.header.receiver then [] else once (Deliver i) w

-- the delivery of a delayed copy, given by its delay and the number of its datagram, if it arrives in this round
abbrev pub arrival : List (ℕ × ℕ) → ℕ × ℕ → Plan
arrival parted p w = if nat_lt 1 p.0 then [] else arrival_of parted p.1 (datagram w p.1) w

abbrev pub arrivals : List (ℕ × ℕ) → List (ℕ × ℕ) → Plan
arrivals parted later = each (arrival parted) later

-- the deliveries of a datagram, as often as the channel says, unless its nodes are parted
abbrev pub delivery_of : List (ℕ × ℕ) → MomentView → ℕ → Option FrameParts → Plan
delivery_of parted m i None w = []
delivery_of parted m i (Some f) w = if is_parted parted f.header.sender f.header.receiver then []
    else repeats (at_once (copies_in m i (f.header.sender, f.header.receiver) w)) (Deliver i) w

abbrev pub delivery : List (ℕ × ℕ) → MomentView → ℕ → Plan
delivery parted m i w = delivery_of parted m i (datagram w i) w

-- the deliveries of the `count` datagrams after number `first`, in order
unfoldable pub deliveries : List (ℕ × ℕ) → MomentView → ℕ → ℕ → Plan
deliveries parted m first zero w = []
deliveries parted m first (suc count) w = plan_then (delivery parted m (first + 1))
    (deliveries parted m (first + 1) count) w

-- the deliveries of all datagrams numbered above `first`
abbrev pub new_deliveries : List (ℕ × ℕ) → MomentView → ℕ → Plan
new_deliveries parted m first w = deliveries parted m first (length w.datagrams - first) w

unfoldable pub pass : List ℕ → List (ℕ × ℕ) → List (ℕ × ℕ) → MomentView → Plan
pass nodes ends parted m w =
    plan_then (each_core nodes)
    (plan_then (each_end turn.Pull ends)
    (plan_then (each_end turn.Transmit ends)
    (plan_then (new_deliveries parted m (length w.datagrams))
    (each_end turn.Pump ends)))) w

-- passes until one has no event, at most this many
unfoldable pub passes : ℕ → List ℕ → List (ℕ × ℕ) → List (ℕ × ℕ) → MomentView → Plan
passes zero nodes ends parted m w = []
passes (suc k) nodes ends parted m w = if is_empty (pass nodes ends parted m w) then []
    else plan_then (pass nodes ends parted m) (passes k nodes ends parted m) w

unfoldable pub round : List ℕ → List (ℕ × ℕ) → List (ℕ × ℕ) → MomentView → List (ℕ × ℕ) → Plan
round nodes ends parted m later = plan_then (once Tick) (plan_then (each_end_once turn.Open ends)
    (plan_then (arrivals parted later) (passes MOST_PASSES nodes ends parted m)))

-- ---- rounds

-- a world, with the number of rounds so far and the delayed copies of datagrams
pub record Sky : Type 0 where
  pub world : World
  pub in_flight : InFlightView

-- the world of a simulator, with the number of rounds so far and the delayed copies
abbrev pub sky_of : {S : Type 0} → (S → World) → S → InFlight → Sky
sky_of world sim in_flight = record { world = world sim; in_flight = in_flight_view in_flight }

-- the moment at which a round begins: how many rounds and datagrams there were before it
abbrev pub moment_of : Channels → Sky → MomentView
moment_of channel s = record { channel = channel; round = s.in_flight.round; start = length s.world.datagrams }

-- the state after a round that led to this world
abbrev pub sky_behind : List (ℕ × ℕ) → MomentView → InFlightView → World → Sky
sky_behind parted m in_flight w = record { world = w; in_flight = in_flight_after parted m in_flight w }

-- the state after one round
unfoldable pub after_round : List ℕ → List (ℕ × ℕ) → List (ℕ × ℕ) → Channels → Sky → Sky
after_round nodes ends parted channel s =
    sky_behind parted (moment_of channel s) s.in_flight (world_after_all s.world
    (round nodes ends parted (moment_of channel s) s.in_flight.later s.world))

unfoldable pub rounds : ℕ → List ℕ → List (ℕ × ℕ) → List (ℕ × ℕ) → Channels → Sky → Sky
rounds zero nodes ends parted channel s = s
rounds (suc r) nodes ends parted channel s = rounds r nodes ends parted channel
    (after_round nodes ends parted channel s)

-- ---- the code of a round

-- if `known`, these are the link ends of the world, in their order
abbrev pub AreKnown : Bool → List (ℕ × ℕ) → World → Type 0
AreKnown known ends w = known ≡ true → ends ≡ ends_in w.topology
