-- The inputs that the cores of the world refuse.
use Rattle.std.specs.Prelude.{◌≡◌, ℕ, ◌==◌, false, is_some, if◌then◌else◌, List, [], ◌∷◌, ◌++◌, map}
use Rattle.tora_packet.specs.declared.Packet.{Packet}
use Rattle.tora_core.specs.declared.Input.{Input}
use Rattle.tora_core.specs.declared.Input.TheVariants as In
use Rattle.tora_core.specs.declared.errors.StepError.{StepError}
use Rattle.tora_core.specs.declared.errors.StepError.TheVariants as Fault
use Rattle.tora_core.specs.CoreRun.{has_destination}
use Rattle.tora_seat.specs.declared.what.What.TheVariants as Tells
use Rattle.tora_seat.specs.declared.item.Item.{Item}
use Rattle.tora_seat.specs.declared.answer.Answer.TheVariants as Says
use Rattle.tora_seat.specs.Serving.{Parcel, Answers, serving_of}
use Rattle.tora_world.specs.declared.event.Event.{Event}
use Rattle.tora_world.specs.declared.event.Event.TheVariants.{Need, Tick, Open, Pull, Transmit, Deliver, Pump, CoreTurn}
use Rattle.tora_world.specs.declared.event.Event.TheVariants.{Arm, Restart}
use Rattle.tora_world.specs.World.{World, Choice, neighbours, refusal_by}
use Rattle.tora_world.specs.FreeWorld.{FreeEvent, if_happens, free_by, Schedule}

-- a core refuses its next item only if that is the need of a destination that is not in its table, and for that cause,
-- whatever the results of its offers are
abbrev pub OnlyNeedsAreRefused : World → Type 0
OnlyNeedsAreRefused w =
    (n : ℕ) (answers : Answers) (item : Item) (items : List Item) (error : StepError) → w.items n ≡ item ∷ items
    → (serving_of answers (neighbours w n) (w.seats n) item).answer ≡ Says.Refused error
    → (d : ℕ) × (item.what ≡ Tells.Need d) × (has_destination d (w.seats n).core.views ≡ false)
    × (error ≡ Fault.UnknownDestination)

-- the packet of an input, if it is from this neighbour
abbrev pub packet_in : ℕ → Input → List Packet
packet_in k (In.LinkUp j) = []
packet_in k (In.LinkDown j) = []
packet_in k (In.Packet j packet) = if j == k then packet ∷ [] else []
packet_in k (In.Need d) = []

abbrev pub packets_accepted : ℕ → List (Input × ℕ) → List Packet
packets_accepted k [] = []
packets_accepted k ((input, now) ∷ inputs) = packet_in k input ++ packets_accepted k inputs

abbrev pub packets_in : List Parcel → List Packet
packets_in parcels = map (λ x. x.packet) parcels

-- the packets that a node had taken from a neighbour before its last restart, after this event
abbrev pub stepped_by : World → ℕ → ℕ → Event → List Packet → List Packet
stepped_by w n k (Restart m torn) earlier = if n == m then packets_in (w.steps n k) else earlier
stepped_by w n k (Need m d) earlier = earlier
stepped_by w n k Tick earlier = earlier
stepped_by w n k (Open m j) earlier = earlier
stepped_by w n k (Pull m j) earlier = earlier
stepped_by w n k (Transmit m j) earlier = earlier
stepped_by w n k (Deliver i) earlier = earlier
stepped_by w n k (Pump m j) earlier = earlier
stepped_by w n k (CoreTurn m) earlier = earlier
stepped_by w n k (Arm m call) earlier = earlier

abbrev pub stepped_after : Choice → World → ℕ → ℕ → Event → List Packet → List Packet
stepped_after c w n k event earlier = if is_some (refusal_by c w event) then earlier else stepped_by w n k event earlier

-- a start counts as a Restart here, and no other event of threads does
abbrev pub free_stepped_after : Choice → World → ℕ → ℕ → FreeEvent → List Packet → List Packet
free_stepped_after c w n k event earlier = if_happens (λ e. stepped_after c w n k e earlier) earlier event

-- the packets that a node had taken from a neighbour before its last restart, after a run
abbrev pub stepped_at_restart : ℕ → ℕ → Schedule → World → List Packet → List Packet
stepped_at_restart n k [] w earlier = earlier
stepped_at_restart n k (e ∷ es) w earlier = stepped_at_restart n k es (free_by e.1 w e.0)
    (free_stepped_after e.1 w n k e.0 earlier)

-- the packets ever taken from a neighbour are those taken before the node's last restart, followed by those that its
-- core has accepted since
abbrev pub SteppedAreAccepted : World → Schedule → World → Type 0
SteppedAreAccepted first es w =
    (n k : ℕ) → stepped_at_restart n k es first [] ++ packets_accepted k (w.inputs n) ≡ packets_in (w.steps n k)
