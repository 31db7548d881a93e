-- The invariants of every view and every core.
use Rattle.std.specs.Prelude.{◌≡◌, ◌≢◌, ◌⊎◌, ℕ, ◌<◌, ◌≤◌, ◌^◌, true, List, [], ◌∷◌, length, map, Option, None, Some}
use Rattle.std.specs.Prelude.{IfSome, IsSome}
use Rattle.std.specs.List.{AllByRecursion}
use Rattle.tora_height.specs.Height.{IsHeightOf, destination_height}
use Rattle.tora_packet.specs.declared.Packet.{Packet}
use Rattle.tora_packet.specs.declared.Packet.TheVariants.{Qry, Upd, Clr}
use Rattle.tora_packet.specs.PacketParts.{IsId, IsUpdate, IsClear, update_of, clear_of}
use Rattle.tora_packet.specs.AnyPacket.{IsPacket}
use Rattle.tora_core.specs.declared.Input.{Input}
use Rattle.tora_core.specs.declared.Input.TheVariants as In
use Rattle.tora_core.specs.declared.rows.Row.{Row}
use Rattle.tora_core.specs.declared.destination.Broadcast.{Broadcast}
use Rattle.tora_core.specs.declared.destination.Broadcast.TheVariants as Tell
use Rattle.tora_core.specs.declared.TheConstants.{GREATEST_NEIGHBOURS, MOST_DESTINATIONS}
use Rattle.tora_core.specs.Numbers.{IsAscending, has_number}
use Rattle.tora_core.specs.View.{View, up_neighbours, known_heights, has_downstream}
use Rattle.tora_core.specs.Rules.{Outcome}
use Rattle.tora_core.specs.CoreRun.{CoreView, concerns}

-- ---- one view

-- a row of a node's view: the entry is a height of the neighbour; the destination's entry is always its zero height
pub record IsRow (me destination : ℕ) (row : Row) : Type 0 where
  pub other : row.neighbour ≢ me
  pub entry : IfSome row.entry (IsHeightOf row.neighbour destination)
  pub zero : me ≢ destination → row.neighbour ≡ destination → row.entry ≡ Some (destination_height destination)
  pub at_destination : me ≡ destination → row.entry ≡ None

-- the rows are in ascending order of their neighbours, with one row for each neighbour
abbrev pub AreAscending : List Row → Type 0
AreAscending [] = Unit {0}
AreAscending (row ∷ rows) = AllByRecursion (λ (other : Row). row.neighbour < other.neighbour) rows × AreAscending rows

pub record IsKept (v : View) : Type 0 where
  pub me : IsId v.me
  pub destination : IsId v.destination
  pub rows : AllByRecursion (IsRow v.me v.destination) v.rows
  pub ascending : AreAscending v.rows
  pub height : IfSome v.height (IsHeightOf v.me v.destination)
  pub at_destination : v.me ≡ v.destination → v.height ≡ Some (destination_height v.destination)
  pub last : v.last ≤ 2 ^ 62
  -- the quiet flag law: a route is required only if the height and every entry are NULL
  pub flag : v.flag ≡ true → (v.height ≡ None) × (known_heights v ≡ [])
  -- the lower neighbour law: a node other than the destination that has a height has a lower neighbour
  pub lower : v.me ≢ v.destination → IsSome v.height → has_downstream v ≡ true

-- ---- the inputs of a view, and its broadcasts

-- a packet about this destination, in which an update has the height of neighbour k
abbrev pub IsPacketOf : ℕ → ℕ → Packet → Type 0
IsPacketOf k destination (Qry d) = Unit {0}
IsPacketOf k destination (Upd u) = IsHeightOf k destination u.height × (k ≢ destination)
IsPacketOf k destination (Clr c) = IsClear c

abbrev pub MayCome : View → Input → Type 0
MayCome v (In.Need d) = Unit {0}
MayCome v (In.LinkUp k) = IsId k × (k ≢ v.me) × AllByRecursion (λ (row : Row). row.neighbour ≢ k) v.rows
MayCome v (In.LinkDown k) = Unit {0}
MayCome v (In.Packet k packet) = IsPacketOf k v.destination packet

-- if a link comes up, there is room for one more row
abbrev pub HasRoom : View → Input → Type 0
HasRoom v (In.Need d) = Unit {0}
HasRoom v (In.LinkUp k) = IsId k × (length v.rows < GREATEST_NEIGHBOURS)
HasRoom v (In.LinkDown k) = Unit {0}
HasRoom v (In.Packet k packet) = Unit {0}

-- an update has the view's height, and a clear has a reflected level in range
abbrev pub IsBroadcastOf : View → Option Broadcast → Type 0
IsBroadcastOf v None = Unit {0}
IsBroadcastOf v (Some Tell.Query) = Unit {0}
IsBroadcastOf v (Some (Tell.Update height)) = (v.me ≢ v.destination) × (v.height ≡ Some height)
IsBroadcastOf v (Some (Tell.Clear tau oid)) = IsClear (clear_of v.destination tau oid)

-- the view after an input keeps the invariants, and the broadcast agrees with it
pub record IsKeptOutcome (o : Outcome) : Type 0 where
  pub view : IsKept o.view
  pub broadcast : IsBroadcastOf o.view o.broadcast

-- the packet that is made of a broadcast is in range
abbrev pub MakesPacket : ℕ → Broadcast → Type 0
MakesPacket destination Tell.Query = IsId destination
MakesPacket destination (Tell.Update height) = IsUpdate (update_of destination height)
MakesPacket destination (Tell.Clear tau oid) = IsClear (clear_of destination tau oid)

-- a view that keeps the invariants, and an input that may come to it if it concerns the view
pub record CanTake (input : Input) (v : View) : Type 0 where
  pub kept : IsKept v
  pub may : concerns input v.destination ≡ true → MayCome v input × HasRoom v input

-- a link that goes down, or over which a packet comes, is up
abbrev pub IsLinked : Input → List ℕ → Type 0
IsLinked (In.Need d) up = Unit {0}
IsLinked (In.LinkUp k) up = Unit {0}
IsLinked (In.LinkDown k) up = has_number k up ≡ true
IsLinked (In.Packet k packet) up = has_number k up ≡ true

-- the link of an input is to one of these neighbours
abbrev pub IsOfOne : Input → List ℕ → Type 0
IsOfOne (In.Need d) neighbours = Unit {0}
IsOfOne (In.LinkUp k) neighbours = has_number k neighbours ≡ true
IsOfOne (In.LinkDown k) neighbours = has_number k neighbours ≡ true
IsOfOne (In.Packet k packet) neighbours = has_number k neighbours ≡ true

-- ---- one core

-- a neighbour is another node
abbrev pub IsNeighbour : ℕ → ℕ → Type 0
IsNeighbour me k = IsId k × (k ≢ me)

-- the first list is a subsequence of the second
abbrev pub IsPart : List ℕ → List ℕ → Type 0
IsPart [] numbers = Unit {0}
IsPart (m ∷ part) [] = ⊥
IsPart (m ∷ part) (n ∷ numbers) = ((m ≡ n) × IsPart part numbers) ⊎ IsPart (m ∷ part) numbers

-- a view of this node, whose rows are those of these neighbours
pub record IsViewOf (me : ℕ) (up : List ℕ) (v : View) : Type 0 where
  pub owner : v.me ≡ me
  pub neighbours : up_neighbours v ≡ up
  pub kept : IsKept v

abbrev pub destinations_of : List View → List ℕ
destinations_of views = map (λ v. v.destination) views

pub record IsCore (c : CoreView) : Type 0 where
  pub me : IsId c.me
  pub neighbours : AllByRecursion (IsNeighbour c.me) c.neighbours
  pub few_neighbours : length c.neighbours ≤ GREATEST_NEIGHBOURS
  pub ascending_neighbours : IsAscending c.neighbours
  pub up : IsPart c.up c.neighbours
  pub views : AllByRecursion (IsViewOf c.me c.up) c.views
  pub few_views : length c.views ≤ MOST_DESTINATIONS
  pub ascending_destinations : IsAscending (destinations_of c.views)

-- ---- inputs

-- the parts of an input are in the ranges of their types
abbrev pub IsInput : Input → Type 0
IsInput (In.Need d) = Unit {0}
IsInput (In.LinkUp k) = Unit {0}
IsInput (In.LinkDown k) = Unit {0}
IsInput (In.Packet k packet) = IsPacket packet

abbrev pub AreInputs : List (Input × ℕ) → Type 0
AreInputs [] = Unit {0}
AreInputs ((input, now) ∷ inputs) = IsInput input × AreInputs inputs
