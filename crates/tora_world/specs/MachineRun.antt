-- The steps of the link machine in a run of the world.
use Rattle.std.specs.Prelude.{ℕ, Bool, is_some, if◌then◌else◌, List, [], ◌∷◌, ◌++◌, slice_get, Option, Some, None}
use Rattle.tora_frame.specs.FrameParts.{FrameParts}
use Rattle.tora_arq.specs.declared.life.Life.{Life}
use Rattle.tora_arq.specs.LinkEnd.{bound_life, after_frame}
use Rattle.tora_life.specs.LifeRun.{drawn_by}
use Rattle.tora_life.specs.LifeRun.LifeEvent.{Draw as DrawsNumber}
use Rattle.tora_seat.specs.declared.what.What.{What}
use Rattle.tora_seat.specs.declared.what.What.TheVariants as Tells
use Rattle.tora_seat.specs.declared.item.Item.{Item}
use Rattle.tora_seat.specs.declared.cargo.Cargo.{Cargo}
use Rattle.tora_seat.specs.declared.cargo.Cargo.TheVariants as Gives
use Rattle.tora_core.specs.Numbers.{has_number}
use Rattle.tora_seat.specs.Serving.{Offer, is_current, serving_of}
use Rattle.tora_world.specs.declared.event.Event.{Event}
use Rattle.tora_world.specs.declared.event.Event.TheVariants.{Need, Tick, Open, Pull, Transmit, Deliver, Pump, CoreTurn}
use Rattle.tora_world.specs.declared.event.Event.TheVariants.{Arm, Restart}
use Rattle.tora_world.specs.LinkMachine.{MachineStep, made}
use Rattle.tora_world.specs.LinkMachine.MachineStep.{Draw, Bind, Send, Take, Close}
use Rattle.tora_world.specs.World.{World, Choice, settings, neighbours, datagram, refusal_by}
use Rattle.tora_world.specs.FreeWorld.{FreeEvent, if_happens, free_by, Schedule}

-- an Open that draws a number makes a Draw
abbrev pub steps_of_opening : ℕ → ℕ → List ℕ → List MachineStep
steps_of_opening n k [] = []
steps_of_opening n k (number ∷ none) = Draw n k number ∷ []

-- a Deliver that binds an end makes a Bind
abbrev pub steps_of_binding : ℕ → ℕ → Option Life → Option Life → List MachineStep
steps_of_binding n k before None = []
steps_of_binding n k before (Some life) = if is_some before then [] else Bind n k life.own life.peer ∷ []

abbrev pub steps_of_frame : World → Choice → Option FrameParts → List MachineStep
steps_of_frame w c None = []
steps_of_frame w c (Some f) =
    if (w.arms f.header.receiver).receive then []
    else steps_of_binding f.header.receiver f.header.sender (bound_life (w.ends f.header.receiver f.header.sender))
    (bound_life (after_frame (settings w f.header.receiver f.header.sender) (w.ends f.header.receiver f.header.sender) f
    (c.now f.header.receiver f.header.sender)))

-- the end of a current session makes a Close
abbrev pub steps_of_end : ℕ → ℕ → Option Life → List MachineStep
steps_of_end n k None = []
steps_of_end n k (Some life) = Close n k life ∷ []

-- the steps of an item of the link to k: a new session or the session's Down closes the current one, a packet is taken
abbrev pub steps_of_link_item : ℕ → ℕ → Option Life → What → List MachineStep
steps_of_link_item n k current (Tells.Up life) = steps_of_end n k current
steps_of_link_item n k current (Tells.Packet life packet) = if is_current life current then Take n k life packet ∷ []
    else []
steps_of_link_item n k current (Tells.Down life reason) = if is_current life current then Close n k life ∷ [] else []
steps_of_link_item n k current Tells.Beat = []
steps_of_link_item n k current (Tells.Need d) = []
steps_of_link_item n k current (Tells.Cut j) = []
steps_of_link_item n k current Tells.Show = []
steps_of_link_item n k current (Tells.Status status) = []
steps_of_link_item n k current Tells.Quit = []

-- the steps of an item of a seat that is not a link: a cut closes the current session of that neighbour
abbrev pub steps_of_other_item : ℕ → List ℕ → (ℕ → Option Life) → What → List MachineStep
steps_of_other_item n ks current (Tells.Up life) = []
steps_of_other_item n ks current (Tells.Packet life packet) = []
steps_of_other_item n ks current (Tells.Down life reason) = []
steps_of_other_item n ks current Tells.Beat = []
steps_of_other_item n ks current (Tells.Need d) = []
steps_of_other_item n ks current (Tells.Cut k) = if has_number k ks then steps_of_end n k (current k) else []
steps_of_other_item n ks current Tells.Show = []
steps_of_other_item n ks current (Tells.Status status) = []
steps_of_other_item n ks current Tells.Quit = []

-- the steps of an item of any seat, for these neighbours
abbrev pub steps_of_item : ℕ → List ℕ → Option ℕ → (ℕ → Option Life) → What → List MachineStep
steps_of_item n ks None current what = steps_of_other_item n ks current what
steps_of_item n ks (Some k) current what = steps_of_link_item n k (current k) what

-- a packet that is put into the queue makes a Send; one that the queue returns ends its session, and makes a Close
abbrev pub steps_of_cargo : ℕ → ℕ → Cargo → Bool → List MachineStep
steps_of_cargo n k (Gives.Packet life packet) put = (if put then Send n k life packet else Close n k life) ∷ []
steps_of_cargo n k (Gives.Cut life) put = []

-- the steps of all offers, in their order
abbrev pub steps_of_offers : ℕ → List Offer → List MachineStep
steps_of_offers n [] = []
steps_of_offers n (o ∷ offers) = steps_of_cargo n o.to o.cargo o.put ++ steps_of_offers n offers

-- the steps of a turn of the core: those of the item come before those of its offers, as in serving
abbrev pub steps_of_turn : World → Choice → ℕ → List Item → List MachineStep
steps_of_turn w c n [] = []
steps_of_turn w c n (item ∷ items) =
    steps_of_item n (neighbours w n) (slice_get (neighbours w n) item.seat) (w.seats n).current item.what
    ++ steps_of_offers n (serving_of c.answers (neighbours w n) (w.seats n) item).offers

-- a Restart makes a Close for each current session
abbrev pub steps_of_restart : ℕ → (ℕ → Option Life) → List ℕ → List MachineStep
steps_of_restart n current [] = []
steps_of_restart n current (k ∷ ks) = steps_of_end n k (current k) ++ steps_of_restart n current ks

-- the steps of an event that is not refused
abbrev pub steps_of_effect : Choice → World → Event → List MachineStep
steps_of_effect c w (Open n k) = steps_of_opening n k (drawn_by DrawsNumber (w.files n k))
steps_of_effect c w (Deliver i) = steps_of_frame w c (datagram w i)
steps_of_effect c w (CoreTurn n) = steps_of_turn w c n (w.items n)
steps_of_effect c w (Restart n torn) = steps_of_restart n (w.seats n).current (neighbours w n)
steps_of_effect c w (Need n d) = []
steps_of_effect c w Tick = []
steps_of_effect c w (Pull n k) = []
steps_of_effect c w (Transmit n k) = []
steps_of_effect c w (Pump n k) = []
steps_of_effect c w (Arm n call) = []

-- the steps of any event, first one first
abbrev pub steps_by : Choice → World → Event → List MachineStep
steps_by c w event = if is_some (refusal_by c w event) then [] else steps_of_effect c w event

-- a start makes the steps of a Restart, and the other events of threads make no step
abbrev pub free_steps_by : Choice → World → FreeEvent → List MachineStep
free_steps_by c w event = if_happens (λ e. steps_by c w e) [] event

-- the steps of a run added to earlier steps, last one first
abbrev pub machine_steps : Schedule → World → List MachineStep → List MachineStep
machine_steps [] w before = before
machine_steps (e ∷ es) w before = machine_steps es (free_by e.1 w e.0) (made (free_steps_by e.1 w e.0) before)
