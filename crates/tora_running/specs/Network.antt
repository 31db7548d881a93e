-- A network of running nodes, and the effect of each part on it. A part is one atomic action of a thread; a run is a
-- list of the parts of all threads.
use Rattle.std.specs.Prelude.{◌≡◌, ◌⊎◌, ℕ, suc, ◌<◌, ◌≤◌, ◌==◌, IsTrue, if◌then◌else◌, List, [], ◌∷◌, ◌++◌, length}
use Rattle.std.specs.Prelude.{drop, Ok, Err}
use Rattle.tora_packet.specs.declared.Packet.{Packet}
use Rattle.tora_frame.specs.declared.parts.TheConstants.{GREATEST_NUMBER}
use Rattle.tora_frame.specs.FrameParts.{FrameParts}
use Rattle.tora_arq.specs.declared.life.Life.{Life}
use Rattle.tora_arq.specs.declared.times.Times.{Times}
use Rattle.tora_arq.specs.declared.verdict.Verdict.{Verdict}
use Rattle.tora_arq.specs.declared.verdict.Verdict.TheVariants.{Accepted, Repeated, Ahead, Stale, Foreign, Busy}
use Rattle.tora_arq.specs.Settings.{Settings, settings_of}
use Rattle.tora_arq.specs.LinkEnd.{EndState, first_end, verdict_of}
use Rattle.tora_core.specs.declared.Input.{Input}
use Rattle.tora_seat.specs.declared.what.What.{What}
use Rattle.tora_seat.specs.declared.what.What.TheVariants as Told
use Rattle.tora_seat.specs.declared.item.Item.{Item}
use Rattle.tora_seat.specs.declared.cargo.Cargo.{Cargo}
use Rattle.tora_seat.specs.Serving.{SeatState, Parcel, Offer, Serving, put_one, put_to, stepped_from}
use Rattle.tora_world.specs.Topology.{Topology, version_at, neighbours_of, is_node, is_link}
use Rattle.tora_world.specs.Lists.{packets_of, parcels_in, IsIn}
use Rattle.tora_world.specs.LinkMachine.{put_at}
use Rattle.tora_seat.specs.Between.{what_of}
use Rattle.tora_world.specs.World.{first_seat, with_datagram}
use Rattle.tora_seat.specs.Offers.{place_of}
use Rattle.tora_world.specs.FreeWorld.{TellsNoLife}
use Rattle.tora_node.specs.CoreRuns.{serving_told}
use Rattle.tora_neighbour.specs.Intake.{Reading}
use Rattle.tora_running.specs.Parts.{LinkPart, end_after, IsPossible}
use Rattle.tora_running.specs.Parts.LinkPart.{Opens, Ticks, Takes, Sends, Hears, Tells, Beats, Breaks}

pub record Network : Type 0 where
  pub topology : Topology
  pub times : Times  -- the times of every link end
  pub seats : ℕ → SeatState  -- for each node, its core with the sessions of its links
  pub ends : ℕ → ℕ → EndState  -- for each node and each neighbour, the link end
  pub numbers : ℕ → ℕ → ℕ  -- the last number that was drawn for each link end
  pub items : ℕ → List Item  -- the queue into each core
  pub counts : ℕ → ℕ → ℕ  -- how many items each seat of a node has put since the node's last start
  pub cargoes : ℕ → ℕ → List Cargo  -- the queue from each core to each neighbour
  pub frames : ℕ → ℕ → List FrameParts  -- all frames that were sent from a node to a neighbour
  pub put : ℕ → ℕ → List Cargo  -- all outbound messages that were ever put into each such queue
  pub inputs : ℕ → List (Input × ℕ)  -- the inputs that each core accepted since its node's last start
  pub steps : ℕ → ℕ → List Parcel  -- the packets that were ever taken from each neighbour

-- no node was started yet
abbrev pub first_network : Topology → Times → Network
first_network t times = record {
  topology = t;
  times = times;
  seats = first_seat t;
  ends = λ n k. first_end;
  numbers = λ n k. 0;
  items = λ n. [];
  counts = λ n seat. 0;
  cargoes = λ n k. [];
  frames = λ n k. [];
  put = λ n k. [];
  inputs = λ n. [];
  steps = λ n k. [];
}

-- the packets that the core of a put into the queue to b in a session, as a's end writes it
abbrev pub packets_sent : Network → ℕ → ℕ → Life → List Packet
packets_sent w a b life = packets_of life (parcels_in (w.put a b))

-- the packets of a that the core of b took in a session, as b's end writes it
abbrev pub packets_taken : Network → ℕ → ℕ → Life → List Packet
packets_taken w b a life = packets_of life (w.steps b a)

-- ---- parts

pub data Part : Type 0 where
  -- a node is started, for the first time or after its process has ended at any moment
  Starts : (n : ℕ) → Part
  -- an action of the thread of n's link to k
  OfLink : (n k : ℕ) (part : LinkPart) → Part
  -- the core's thread takes an item and serves it, and these outbound messages are offered
  Serves : (n : ℕ) (item : Item) (offers : List Offer) → Part
  -- a user puts an item
  Asks : (n now : ℕ) (what : What) → Part

-- ---- their effect on the network

abbrev pub settings_at : Network → ℕ → ℕ → Settings
settings_at w n k = settings_of (version_at w.topology n) n k w.times

abbrev pub neighbours_at : Network → ℕ → List ℕ
neighbours_at w n = neighbours_of w.topology n

-- the seat of a link is the place of its neighbour, and the seat of the commands comes after those
abbrev pub seat_of : Network → ℕ → ℕ → ℕ
seat_of w n k = place_of k (neighbours_at w n)

-- the core, the ends and the queues of n are new; the record of what was drawn, sent and taken is unchanged
abbrev pub after_start : Network → ℕ → Network
after_start w n = record w {
  seats = put_one w.seats n (first_seat w.topology n);
  ends = λ a k. if a == n then first_end else w.ends a k;
  items = put_one w.items n [];
  counts = put_one w.counts n (λ seat. 0);
  cargoes = put_one w.cargoes n (λ k. []);
  inputs = put_one w.inputs n [];
}

-- one more item in the queue into the core of n
abbrev pub with_item : Network → ℕ → ℕ → ℕ → What → Network
with_item w n seat now what = record w {
  items = put_one w.items n (w.items n ++ record {
    seat = seat;
    number = suc (w.counts n seat);
    now = now;
    what = what;
  } ∷ []);
  counts = put_at w.counts n seat (suc (w.counts n seat));
}

-- the effect of a part of a link's thread, except that on the end
abbrev pub beside : Network → ℕ → ℕ → LinkPart → Network
beside w n k (Opens number now) = record w { numbers = put_at w.numbers n k number }
beside w n k (Ticks now) = w
beside w n k (Takes cargo) = record w { cargoes = put_at w.cargoes n k (drop 1 (w.cargoes n k)) }
beside w n k (Sends now frame sending) = record w {
  frames = put_at w.frames n k
      (with_datagram sending (w.frames n k) frame);
}
beside w n k (Hears now reading) = w
beside w n k (Tells now event) = with_item w n (seat_of w n k) now (what_of event)
beside w n k (Beats now) = with_item w n (seat_of w n k) now Told.Beat
beside w n k Breaks = w

abbrev pub with_part : Network → ℕ → ℕ → LinkPart → Network
with_part w n k part = record w { ends = put_at w.ends n k (end_after (settings_at w n k) (w.ends n k) part) }

-- the item is served, with the results of these offers
abbrev pub served_at : Network → ℕ → Item → List Offer → Serving
served_at w n item offers = serving_told (neighbours_at w n) (w.seats n) (record { item = item; offers = offers })

-- the network after the first item of the queue was taken and served
abbrev pub after_serving : Network → ℕ → Serving → Network
after_serving w n v = record w {
  seats = put_one w.seats n v.seat;
  items = put_one w.items n (drop 1 (w.items n));
  cargoes = put_one w.cargoes n (λ k. w.cargoes n k ++ put_to k v.offers);
  put = put_one w.put n (λ k. w.put n k ++ put_to k v.offers);
  inputs = put_one w.inputs n (w.inputs n ++ v.inputs);
  steps = put_one w.steps n (λ k. w.steps n k ++ stepped_from k v.steps);
}

abbrev pub after_part : Network → Part → Network
after_part w (Starts n) = after_start w n
after_part w (OfLink n k part) = beside (with_part w n k part) n k part
after_part w (Serves n item offers) = after_serving w n (served_at w n item offers)
after_part w (Asks n now what) = with_item w n (length (neighbours_at w n)) now what

abbrev pub after_parts : List Part → Network → Network
after_parts [] w = w
after_parts (part ∷ parts) w = after_parts parts (after_part w part)

-- ---- the conditions under which parts may be made

-- this item is the first of the queue
abbrev pub IsFront : {A : Type 0} → A → List A → Type 0
IsFront x [] = ⊥
IsFront x (y ∷ ys) = x ≡ y

-- the end refused the frame: it is foreign, of another session, or was not examined
abbrev pub IsRefusal : Verdict → Type 0
IsRefusal Stale = Unit {0}
IsRefusal Foreign = Unit {0}
IsRefusal Busy = Unit {0}
IsRefusal Accepted = ⊥
IsRefusal Repeated = ⊥
IsRefusal Ahead = ⊥

-- a receive returns a frame that the peer's end passed to a send, or one that this end refuses, or no frame
abbrev pub IsNotForged : Network → ℕ → ℕ → ℕ → Reading → Type 0
IsNotForged w n k now (Ok frame) = IsIn frame (w.frames k n) ⊎ IsRefusal
    (verdict_of (settings_at w n k) (w.ends n k) frame now)
IsNotForged w n k now (Err error) = Unit {0}

-- numbers rise over all starts of a node, queues keep their order, and no wire delivers a forged datagram that the end
-- accepts
abbrev pub IsGiven : Network → ℕ → ℕ → LinkPart → Type 0
IsGiven w n k (Opens number now) = (w.numbers n k < number) × (number ≤ GREATEST_NUMBER)
IsGiven w n k (Takes cargo) = IsFront cargo (w.cargoes n k)
IsGiven w n k (Hears now reading) = IsNotForged w n k now reading
IsGiven w n k (Ticks now) = Unit {0}
IsGiven w n k (Sends now frame sending) = Unit {0}
IsGiven w n k (Tells now event) = Unit {0}
IsGiven w n k (Beats now) = Unit {0}
IsGiven w n k Breaks = Unit {0}

-- the network allows the part
abbrev pub MayBe : Network → Part → Type 0
MayBe w (Starts n) = IsTrue (is_node w.topology n)
MayBe w (OfLink n k part) = IsTrue (is_link w.topology n k) × IsPossible (settings_at w n k) (w.ends n k) part
    × IsGiven w n k part
MayBe w (Serves n item offers) = IsTrue (is_node w.topology n) × IsFront item (w.items n)
    × ((served_at w n item offers).offers ≡ offers)
MayBe w (Asks n now what) = IsTrue (is_node w.topology n) × TellsNoLife what

-- each part is allowed when it is made
abbrev pub IsRun : Network → List Part → Type 0
IsRun w [] = Unit {0}
IsRun w (part ∷ parts) = MayBe w part × IsRun (after_part w part) parts
