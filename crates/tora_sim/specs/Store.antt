-- The data that the simulator stores, and the world that it represents.
use Rattle.std.specs.Prelude.{◌≡◌, ℕ, zero, suc, ◌≤◌, ◌+◌, true, false, is_some, List, [], length, slice_get}
use Rattle.std.specs.Prelude.{slice_index, map, Option, Some, None, find}
use Rattle.tora_frame.specs.FrameParts.{FrameParts}
use Rattle.tora_arq.specs.declared.times.Times.{Times}
use Rattle.tora_arq.specs.Settings.{settings_of}
use Rattle.tora_arq.specs.LinkEnd.{EndState, first_end}
use Rattle.tora_life.specs.State.{fresh_state}
use Rattle.tora_life.specs.LifeRun.{LifeDisk, opened}
use Rattle.tora_life.specs.declared.state.DiskCall.{DiskCall}
use Rattle.tora_life.specs.declared.state.DiskCall.TheVariants as Disk
use Rattle.tora_world.specs.declared.call.Call.{Call}
use Rattle.tora_world.specs.declared.call.Call.TheVariants as Fails
use Rattle.tora_seat.specs.declared.item.Item.{Item}
use Rattle.tora_seat.specs.declared.cargo.Cargo.{Cargo}
use Rattle.tora_core.specs.declared.Input.{Input}
use Rattle.tora_core.specs.Numbers.{ascending}
use Rattle.tora_core.specs.Kept.{destinations_of}
use Rattle.tora_seat.specs.Serving.{SeatState, Parcel}
use Rattle.tora_seat.specs.Rows as Rows
use Rattle.tora_world.specs.Topology.{Topology, erasure_at, version_at, is_node, is_link, neighbours_of}
use Rattle.tora_world.specs.World.{World, Arms, first_seat, owner_of}
use Rattle.tora_seat.specs.Offers.{place_of}
use Rattle.tora_world.specs.World.Sending.{Goes}
use Rattle.tora_sim.specs.Links.{LinkView, is_at, key_of, waiting}
use Rattle.tora_sim.specs.Nodes.{NodeView, is_of, sending_of}
use Rattle.tora_sim.specs.Links as Links
use Rattle.tora_sim.specs.Nodes as Nodes
use Rattle.tora_sim.specs.Readers.{ends_in}

pub record SimState : Type 0 where
  pub topology : Topology
  pub times : Times
  pub clock : ℕ
  pub nodes : List NodeView  -- in ascending order
  pub links : List LinkView  -- in ascending order of node and then peer
  pub datagrams : List FrameParts

abbrev pub state_of : Topology → Times → ℕ → List NodeView → List LinkView → List FrameParts → SimState
state_of topology times clock nodes links datagrams = record {
  topology = topology;
  times = times;
  clock = clock;
  nodes = nodes;
  links = links;
  datagrams = datagrams;
}

-- ---- the parts of the world, from what is stored of a node or link, or from the first world if nothing is

abbrev pub seat_in : Topology → ℕ → Option NodeView → SeatState
seat_in t n None = first_seat t n
seat_in t n (Some node) = Rows.state_of node.seat

abbrev pub inputs_in : Option NodeView → List (Input × ℕ)
inputs_in None = []
inputs_in (Some node) = node.inputs

abbrev pub items_in : Option NodeView → List Item
items_in None = []
items_in (Some node) = node.items

abbrev pub counts_in : Option NodeView → ℕ → ℕ
counts_in None = λ seat. 0
counts_in (Some node) = λ seat. slice_index node.counts seat

abbrev pub arms_in : Option NodeView → Arms
arms_in None = record { sending = Goes; receive = false }
arms_in (Some node) = record { sending = sending_of node.sending; receive = node.receive }

abbrev pub end_in : Option LinkView → EndState
end_in None = first_end
end_in (Some link) = link.state

abbrev pub file_in : ℕ → ℕ → Option LinkView → LifeDisk
file_in n k None = opened (owner_of n k) (fresh_state [])
file_in n k (Some link) = link.file

abbrev pub lane_in : Option LinkView → List Cargo
lane_in None = []
lane_in (Some link) = waiting link

abbrev pub put_in : Option LinkView → List Cargo
put_in None = []
put_in (Some link) = link.put

abbrev pub steps_in : Option LinkView → List Parcel
steps_in None = []
steps_in (Some link) = link.steps

abbrev pub node_at : List NodeView → ℕ → Option NodeView
node_at nodes n = find (is_of n) nodes

abbrev pub link_at : List LinkView → ℕ → ℕ → Option LinkView
link_at links n k = find (is_at n k) links

-- the world that the stored data represents
abbrev pub world_of : SimState → World
world_of s = record {
  topology = s.topology;
  times = s.times;
  clock = s.clock;
  seats = λ n. seat_in s.topology n (node_at s.nodes n);
  ends = λ n k. end_in (link_at s.links n k);
  files = λ n k. file_in n k (link_at s.links n k);
  items = λ n. items_in (node_at s.nodes n);
  counts = λ n. counts_in (node_at s.nodes n);
  cargoes = λ n k. lane_in (link_at s.links n k);
  arms = λ n. arms_in (node_at s.nodes n);
  datagrams = s.datagrams;
  put = λ n k. put_in (link_at s.links n k);
  inputs = λ n. inputs_in (node_at s.nodes n);
  steps = λ n k. steps_in (link_at s.links n k);
}

-- ---- what every simulator keeps

pub record IsLinkOf (t : Topology) (times : Times) (link : LinkView) : Type 0 where
  pub settings : link.settings ≡ settings_of (version_at t link.node) link.node link.peer times
  pub seat : link.seat ≡ place_of link.peer (neighbours_of t link.node)
  pub home : is_node t link.node ≡ true
  pub back : is_link t link.peer link.node ≡ true
  pub pulled : link.pulled ≤ length link.put

-- a property holds for each item
abbrev pub EachOf : {A : Type 0} → (A → Type 0) → List A → Type 0
EachOf {A} P xs = (i : ℕ) (x : A) → slice_get xs i ≡ Some x → P x

pub record IsNodeOf (t : Topology) (node : NodeView) : Type 0 where
  pub count : node.count ≡ length (neighbours_of t node.node)
  pub seats : length node.counts ≡ suc node.count  -- one for each neighbour, and one for the commands
  pub me : node.seat.core.me ≡ node.node
  pub erasure : node.seat.core.erasure ≡ erasure_at t node.node
  pub neighbours : node.seat.core.neighbours ≡ neighbours_of t node.node
  pub destinations : destinations_of node.seat.core.views ≡ ascending t.destinations

-- the link ends of a node are adjacent, in the order of its neighbours
pub record AreEndsOf (t : Topology) (links : List LinkView) (node : NodeView) : Type 0 where
  pub within : node.first + node.count ≤ length links
  pub at : (place k : ℕ) (link : LinkView) → slice_get (neighbours_of t node.node) place ≡ Some k
      → slice_get links (node.first + place) ≡ Some link → (link.node ≡ node.node) × (link.peer ≡ k)

-- a datagram was sent over a link of the topology, from its sender to its receiver
abbrev pub IsOfLink : Topology → FrameParts → Type 0
IsOfLink t f = is_link t f.header.receiver f.header.sender ≡ true

pub record IsStore (s : SimState) : Type 0 where
  pub nodes : (n : ℕ) → is_node s.topology n ≡ is_some (node_at s.nodes n)
  pub links : (n k : ℕ) → is_link s.topology n k ≡ is_some (link_at s.links n k)
  pub keys : map key_of s.links ≡ ends_in s.topology
  pub rising_nodes : Nodes.AreRising s.nodes
  pub rising_links : Links.AreRising s.links
  pub each_node : EachOf (IsNodeOf s.topology) s.nodes
  pub each_link : EachOf (IsLinkOf s.topology s.times) s.links
  pub each_ends : EachOf (AreEndsOf s.topology s.links) s.nodes
  pub each_datagram : EachOf (IsOfLink s.topology) s.datagrams

-- the datagram with a number, counted from 1
abbrev pub numbered : ℕ → List FrameParts → Option FrameParts
numbered zero datagrams = None
numbered (suc place) datagrams = slice_get datagrams place

-- a failing call of the disk, as an arm
abbrev pub call_of : DiskCall → Call
call_of Disk.Read = Fails.Read
call_of Disk.Write = Fails.Write
call_of Disk.Sync = Fails.Sync
