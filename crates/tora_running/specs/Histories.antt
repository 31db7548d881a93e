-- The turns of a link's thread and the items of a core's thread, as parts.
use Rattle.std.specs.Prelude.{◌≡◌, ℕ, ◌==◌, ◌&&◌, Bool, IsFalse, if◌then◌else◌, List, [], ◌∷◌, ◌++◌, Option, Some, None}
use Rattle.std.specs.Prelude.{Result, Ok, Err}
use Rattle.tora_frame.specs.FrameParts.{FrameParts}
use Rattle.tora_arq.specs.declared.link_event.LinkEvent.{LinkEvent}
use Rattle.tora_arq.specs.LinkEnd.{EndState, first_event, after_poll_event}
use Rattle.tora_seat.specs.declared.cargo.Cargo.{Cargo}
use Rattle.tora_world.specs.World.{Sending}
use Rattle.tora_world.specs.World.Sending.{Goes, IsGone}
use Rattle.tora_neighbour.specs.declared.wire.WireError.{WireError}
use Rattle.tora_neighbour.specs.declared.ending.Ending.{Ending}
use Rattle.tora_neighbour.specs.declared.ending.Ending.TheVariants.{NoNumber, Broken, Refused}
use Rattle.tora_neighbour.specs.Intake.{Reading}
use Rattle.tora_neighbour.specs.Turns.{Turn, came_of}
use Rattle.tora_node.specs.CoreRuns.{ServedItem}
use Rattle.tora_running.specs.Parts.{LinkPart}
use Rattle.tora_running.specs.Parts.LinkPart.{Opens, Ticks, Takes, Sends, Hears, Tells, Beats, Breaks}
use Rattle.tora_running.specs.Network.{Part}
use Rattle.tora_running.specs.Network.Part.{Starts, OfLink, Serves, Asks}

-- ---- a turn of a link's thread

abbrev pub parts_opened : ℕ → Option ℕ → List LinkPart
parts_opened now None = []
parts_opened now (Some number) = Opens number now ∷ []

abbrev pub parts_taken : List Cargo → List LinkPart
parts_taken [] = []
parts_taken (cargo ∷ cargoes) = Takes cargo ∷ parts_taken cargoes

-- a failed send may have sent the datagram nevertheless
abbrev pub sending_of : Result (Unit {0}) WireError → Sending
sending_of (Ok done) = Goes
sending_of (Err error) = IsGone

abbrev pub parts_sent : ℕ → List FrameParts → List (Result (Unit {0}) WireError) → List LinkPart
parts_sent now [] answers = []
parts_sent now (frame ∷ frames) [] = Sends now frame IsGone ∷ parts_sent now frames []
parts_sent now (frame ∷ frames) (answer ∷ answers) = Sends now frame (sending_of answer) ∷ parts_sent now frames answers

-- what the receive returned, if anything
abbrev pub parts_heard : ℕ → Option Reading → List LinkPart
parts_heard now None = []
parts_heard now (Some reading) = Hears now reading ∷ []

abbrev pub parts_told : ℕ → List LinkEvent → List LinkPart
parts_told now [] = []
parts_told now (event ∷ events) = Tells now event ∷ parts_told now events

abbrev pub parts_of_beat : ℕ → Bool → List LinkPart
parts_of_beat now beat = if beat then Beats now ∷ [] else []

-- the parts of a turn up to the last frame that was sent
abbrev pub parts_begun : Turn → List LinkPart
parts_begun t =
    parts_opened t.now t.opened ++ Ticks t.now ∷ (parts_taken t.cargoes ++ parts_sent t.now t.sent t.answers)

abbrev pub parts_of : Turn → List LinkPart
parts_of t = parts_begun t ++ (parts_heard t.now (came_of t) ++ (parts_told t.now t.told ++ parts_of_beat t.now t.beat))

abbrev pub parts_of_turns : List Turn → List LinkPart
parts_of_turns [] = []
parts_of_turns (t ∷ turns) = parts_of t ++ parts_of_turns turns

-- the parts of the last turn, by its ending
abbrev pub parts_of_last : Ending → Turn → List LinkPart
parts_of_last (NoNumber error) t = []
parts_of_last (Broken at) t = parts_begun t ++ Breaks ∷ parts_told t.now t.told
parts_of_last Refused t = parts_of t

-- an event that the hub refused was removed from the end, and was not put
abbrev pub IsAfterRefused : EndState → Option LinkEvent → EndState → Type 0
IsAfterRefused e None after = after ≡ e
IsAfterRefused e (Some event) after = (first_event e ≡ Some event) × (after ≡ after_poll_event e)

-- ---- the core's thread

abbrev pub parts_served : ℕ → List ServedItem → List Part
parts_served n [] = []
parts_served n (x ∷ xs) = Serves n x.item x.offers ∷ parts_served n xs

-- ---- the history of one thread in a run of all threads

-- the node is not started in this run
abbrev pub IsNotStarted : ℕ → List Part → Type 0
IsNotStarted n [] = Unit {0}
IsNotStarted n (Starts m ∷ parts) = IsFalse (n == m) × IsNotStarted n parts
IsNotStarted n (OfLink m j part ∷ parts) = IsNotStarted n parts
IsNotStarted n (Serves m item offers ∷ parts) = IsNotStarted n parts
IsNotStarted n (Asks m now what ∷ parts) = IsNotStarted n parts

-- the parts of the thread of n's link to k
abbrev pub parts_of_link : ℕ → ℕ → List Part → List LinkPart
parts_of_link n k [] = []
parts_of_link n k (OfLink m j part ∷ parts) = if (n == m) && (k == j) then part ∷ parts_of_link n k parts
    else parts_of_link n k parts
parts_of_link n k (Starts m ∷ parts) = parts_of_link n k parts
parts_of_link n k (Serves m item offers ∷ parts) = parts_of_link n k parts
parts_of_link n k (Asks m now what ∷ parts) = parts_of_link n k parts

-- the items that the core's thread of n has served
abbrev pub served_in : ℕ → List Part → List ServedItem
served_in n [] = []
served_in n (Serves m item offers ∷ parts) = if n == m then record { item = item; offers = offers } ∷ served_in n parts
    else served_in n parts
served_in n (Starts m ∷ parts) = served_in n parts
served_in n (OfLink m j part ∷ parts) = served_in n parts
served_in n (Asks m now what ∷ parts) = served_in n parts
