-- The histories of threads, for all starts of their nodes, and the conditions on an order of all their parts.
use Rattle.std.specs.Prelude.{ℕ, ◌==◌, ◌&&◌, IsTrue, if◌then◌else◌, List, [], ◌∷◌}
use Rattle.tora_arq.specs.Settings.{Settings}
use Rattle.tora_arq.specs.LinkEnd.{EndState, first_end}
use Rattle.tora_seat.specs.Serving.{SeatState}
use Rattle.tora_world.specs.Topology.{is_node, is_link}
use Rattle.tora_world.specs.World.{first_seat}
use Rattle.tora_world.specs.FreeWorld.{TellsNoLife}
use Rattle.tora_node.specs.CoreRuns.{ServedItem, AreServed}
use Rattle.tora_running.specs.Parts.{LinkPart, AreLinkParts}
use Rattle.tora_running.specs.Network.{Network, Part, settings_at, neighbours_at, IsFront, IsGiven, after_part}
use Rattle.tora_running.specs.Network.Part.{Starts, OfLink, Serves, Asks}

-- ---- the actions of one thread, for all starts of its node

-- the actions before the next start, and then those after each start up to the one after it
pub record Lives (A : Type 0) : Type 0 where
  pub present : List A
  pub later : List (List A)

abbrev pub no_lives : {A : Type 0} → Lives A
no_lives = record { present = []; later = [] }

abbrev pub with_start : {A : Type 0} → Lives A → Lives A
with_start l = record { present = []; later = l.present ∷ l.later }

abbrev pub with_first : {A : Type 0} → A → Lives A → Lives A
with_first x l = record { present = x ∷ l.present; later = l.later }

-- the parts of the thread of n's link to k
abbrev pub link_lives : ℕ → ℕ → List Part → Lives LinkPart
link_lives n k [] = no_lives
link_lives n k (Starts m ∷ parts) = if n == m then with_start (link_lives n k parts) else link_lives n k parts
link_lives n k (OfLink m j part ∷ parts) = if (n == m) && (k == j) then with_first part (link_lives n k parts)
    else link_lives n k parts
link_lives n k (Serves m item offers ∷ parts) = link_lives n k parts
link_lives n k (Asks m now what ∷ parts) = link_lives n k parts

-- the items of the core's thread of n
abbrev pub core_lives : ℕ → List Part → Lives ServedItem
core_lives n [] = no_lives
core_lives n (Starts m ∷ parts) = if n == m then with_start (core_lives n parts) else core_lives n parts
core_lives n (OfLink m j part ∷ parts) = core_lives n parts
core_lives n (Serves m item offers ∷ parts) = if n == m then with_first (record { item = item; offers = offers })
    (core_lives n parts) else core_lives n parts
core_lives n (Asks m now what ∷ parts) = core_lives n parts

-- ---- the contracts of the threads: parts of an end, or served items, one after another

abbrev pub WereMade : Settings → EndState → List LinkPart → Type 0
WereMade s e parts = (after : EndState) × AreLinkParts s e parts after

abbrev pub WereServed : List ℕ → SeatState → List ServedItem → Type 0
WereServed neighbours s xs = (after : SeatState) × AreServed neighbours s xs after

-- the contract holds from a new end or a new seat on, after each start
abbrev pub AllWere : {A : Type 0} → (List A → Type 0) → List (List A) → Type 0
AllWere Was [] = Unit {0}
AllWere Was (one ∷ more) = Was one × AllWere Was more

pub record AreHistories (w : Network) (parts : List Part) : Type 0 where
  pub links : (n k : ℕ) → WereMade (settings_at w n k) (w.ends n k) (link_lives n k parts).present
      × AllWere (WereMade (settings_at w n k) first_end) (link_lives n k parts).later
  pub cores : (n : ℕ) → WereServed (neighbours_at w n) (w.seats n) (core_lives n parts).present
      × AllWere (WereServed (neighbours_at w n) (first_seat w.topology n)) (core_lives n parts).later

-- ---- their order: the nodes and links are those of the network, queues are first-in, first-out, no datagram is forged
-- that its end would accept, numbers rise, and users put no items about sessions

abbrev pub MayCome : Network → Part → Type 0
MayCome w (Starts n) = IsTrue (is_node w.topology n)
MayCome w (OfLink n k part) = IsTrue (is_link w.topology n k) × IsGiven w n k part
MayCome w (Serves n item offers) = IsTrue (is_node w.topology n) × IsFront item (w.items n)
MayCome w (Asks n now what) = IsTrue (is_node w.topology n) × TellsNoLife what

abbrev pub IsOrder : Network → List Part → Type 0
IsOrder w [] = Unit {0}
IsOrder w (part ∷ parts) = MayCome w part × IsOrder (after_part w part) parts
