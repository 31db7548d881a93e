-- A node and its link ends after a restart.
use Rattle.std.specs.Prelude.{◌≡◌, ℕ, ◌+◌, ◌<◌, List, [], length, replicate, slice_get, Option, Some}
use Rattle.tora_arq.specs.LinkEnd.{first_end}
use Rattle.tora_arq.specs.EndRange.{LinkEndView, link_end_of}
use Rattle.tora_core.specs.CoreRun.{CoreView, first_core_of}
use Rattle.tora_core.specs.Kept.{destinations_of}
use Rattle.tora_seat.specs.Rows.{SeatView}
use Rattle.tora_world.specs.World.{reopened}
use Rattle.tora_sim.specs.Links.{LinkView}
use Rattle.tora_sim.specs.Nodes.{NodeView}

-- a link end: fresh, with an empty lane, and with its life file opened
abbrev pub restarted : Option (List ℕ) → LinkView → LinkView
restarted torn link = record link { state = first_end; file = reopened torn link.file; pulled = length link.put }

-- a core of the same node, choice of erasure, neighbours and destinations, before any input
abbrev pub core_again : CoreView → CoreView
core_again core = first_core_of core.erasure core.me core.neighbours (destinations_of core.views)

-- a node after a restart: its queue is empty, and its core has accepted nothing
abbrev pub restarted_node : SeatView → NodeView → NodeView
restarted_node seat node = record node {
  seat = seat;
  inputs = [];
  items = [];
  counts = replicate (length node.counts) 0;
}

-- there is a fresh end for each of the `count` link ends from the index `first` on
abbrev pub AreFresh : List LinkView → ℕ → ℕ → List LinkEndView → Type 0
AreFresh links first count ends =
    (place : ℕ) (link : LinkView) → place < count → slice_get links (first + place) ≡ Some link
    → slice_get ends place ≡ Some (link_end_of link.settings first_end)
