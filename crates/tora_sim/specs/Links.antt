-- A stored link end.
use Rattle.std.specs.Prelude.{ℕ, ◌==◌, ◌&&◌, ◌<◌, ◌+◌, ◌≡◌, ◌⊎◌, suc, Bool, List, Option, None, Some, drop, length}
use Rattle.std.specs.Prelude.{slice_get, if◌then◌else◌}
use Rattle.tora_sim.specs.Keyed.{IsOrdered}
use Rattle.std.specs.Ordering.{nat_cmp, ordering_then}
use Rattle.std.specs.declared.cmp.Ordering.{Ordering}
use Rattle.tora_arq.specs.Settings.{Settings}
use Rattle.tora_arq.specs.LinkEnd.{EndState, after_tick}
use Rattle.tora_arq.specs.EndRange.{LinkEndView}
use Rattle.tora_life.specs.LifeRun.{LifeDisk, after_event, drawn_by}
use Rattle.tora_life.specs.LifeRun.LifeEvent.{Draw as DrawsNumber, Arm as ArmsDisk}
use Rattle.tora_life.specs.declared.state.DiskCall.{DiskCall}
use Rattle.tora_seat.specs.declared.cargo.Cargo.{Cargo}
use Rattle.tora_seat.specs.Serving.{Parcel}
use Rattle.tora_seat.specs.Between.{after_cargo}
use Rattle.tora_world.specs.Lists.{parcels_in}
use Rattle.tora_world.specs.World.{open_with}

pub record LinkView : Type 0 where
  pub node : ℕ
  pub peer : ℕ
  pub seat : ℕ  -- the index of the peer among the node's neighbours
  pub settings : Settings
  pub state : EndState
  pub file : LifeDisk
  pub put : List Cargo  -- all cargoes that were ever put into the lane to the peer
  pub pulled : ℕ  -- how many of them have left the lane
  pub room : ℕ  -- for how many cargoes that were ever put there is memory; 0 if the lane has no list
  pub steps : List Parcel  -- the packets of the peer that the node's core ever stepped
  pub step_room : ℕ  -- for how many of these packets there is memory

abbrev pub link_of : ℕ → ℕ → ℕ → LinkEndView → LifeDisk → List Cargo → ℕ → ℕ → List Cargo → ℕ → LinkView
link_of node peer seat end file put pulled room steps step_room = record {
  node = node;
  peer = peer;
  seat = seat;
  settings = end.settings;
  state = end.state;
  file = file;
  put = put;
  pulled = pulled;
  room = room;
  steps = parcels_in steps;
  step_room = step_room;
}

-- the end of node n towards k
abbrev pub is_at : ℕ → ℕ → LinkView → Bool
is_at n k link = (link.node == n) && (link.peer == k)

-- the node and the peer of a link end
abbrev pub key_of : LinkView → ℕ × ℕ
key_of link = (link.node, link.peer)

-- whether a key is that of the end of node n towards k
abbrev pub is_key : ℕ → ℕ → ℕ × ℕ → Bool
is_key n k key = (key.0 == n) && (key.1 == k)

-- the cargoes that wait in the lane
abbrev pub waiting : LinkView → List Cargo
waiting link = drop link.pulled link.put

abbrev pub with_state : LinkView → EndState → LinkView
with_state link e = record link { state = e }

abbrev pub after_open_at : LinkView → ℕ → LinkView
after_open_at link now = record link {
  state = open_with link.state now (drawn_by DrawsNumber link.file);
  file = after_event DrawsNumber link.file;
}

abbrev pub after_arm : LinkView → DiskCall → LinkView
after_arm link call = record link { file = after_event (ArmsDisk call) link.file }

-- the state after a cargo of the lane was submitted, or cut its session
abbrev pub after_pull_at : LinkView → Option Cargo → LinkView
after_pull_at link None = link
after_pull_at link (Some cargo) = record link { state = after_cargo link.state cargo; pulled = suc link.pulled }

-- the order of ends: by ascending node and then peer
abbrev pub ComesBefore : LinkView → LinkView → Type 0
ComesBefore x y = (x.node < y.node) ⊎ ((x.node ≡ y.node) × (x.peer < y.peer))

abbrev pub AreRising : List LinkView → Type 0
AreRising links = IsOrdered ComesBefore links

-- the order of keys: by ascending node and then peer
abbrev pub HasKeyBefore : ℕ × ℕ → ℕ × ℕ → Type 0
HasKeyBefore x y = (x.0 < y.0) ⊎ ((x.0 ≡ y.0) × (x.1 < y.1))

abbrev pub AreRisingKeys : List (ℕ × ℕ) → Type 0
AreRisingKeys keys = IsOrdered HasKeyBefore keys

abbrev pub compared : ℕ → ℕ → LinkView → Ordering
compared n k link = ordering_then (nat_cmp link.node n) (nat_cmp link.peer k)

abbrev pub ticked : ℕ → LinkView → LinkView
ticked now link = with_state link (after_tick link.settings link.state now)

-- a change of the ends of one node
abbrev pub at_node : ℕ → (LinkView → LinkView) → LinkView → LinkView
at_node n change link = if link.node == n then change link else link

-- the `count` link ends from the index `first` on changed in this way, and the others are unchanged
pub record AreChanged (change : LinkView → LinkView) (before links : List LinkView) (first count : ℕ) : Type 0 where
  pub as_many : length links ≡ length before
  pub done : (place : ℕ) (link : LinkView) → place < count → slice_get before (first + place) ≡ Some link
      → slice_get links (first + place) ≡ Some (change link)
  pub rest : (i : ℕ) (link : LinkView) → ((place : ℕ) → place < count → i ≡ first + place → ⊥)
      → slice_get before i ≡ Some link → slice_get links i ≡ Some link
