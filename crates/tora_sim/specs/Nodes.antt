-- A stored node.
use Rattle.std.specs.Prelude.{ℕ, suc, ◌==◌, ◌<◌, Bool, List, [], ◌∷◌, ◌++◌, set, slice_index}
use Rattle.tora_core.specs.declared.Input.{Input}
use Rattle.tora_seat.specs.Rows.{SeatView}
use Rattle.tora_seat.specs.declared.what.What.{What}
use Rattle.tora_seat.specs.declared.item.Item.{Item}
use Rattle.tora_world.specs.World.{Sending as SendingOfWorld}
use Rattle.tora_world.specs.World.Sending.{Goes, IsLost, IsGone}
use Rattle.tora_sim.specs.declared.nodes.Sending.{Sending}
use Rattle.tora_sim.specs.declared.nodes.Sending.TheVariants as Sends
use Rattle.tora_sim.specs.Keyed.{IsOrdered}

-- items in order
pub record ItemList (A : Type 0) : Type 0 where
  pub items : List A

pub record NodeView : Type 0 where
  pub node : ℕ
  pub first : ℕ  -- the index of its first link end among all link ends
  pub count : ℕ  -- the number of its neighbours
  pub seat : SeatView  -- the seat of its core
  pub inputs : List (Input × ℕ)  -- the inputs that its core accepted since the node's last restart, with their ticks
  pub items : List Item  -- the queue into the core
  pub counts : List ℕ  -- how many items each seat has put: first the neighbours' seats, then that of the commands
  pub sending : Sending
  pub receive : Bool

abbrev pub node_of : ℕ → ℕ → ℕ → SeatView → List (Input × ℕ) → List Item → List ℕ → Sending → Bool → NodeView
node_of node first count seat inputs items counts sending receive = record {
  node = node;
  first = first;
  count = count;
  seat = seat;
  inputs = inputs;
  items = items;
  counts = counts;
  sending = sending;
  receive = receive;
}

abbrev pub sending_of : Sending → SendingOfWorld
sending_of Sends.Goes = Goes
sending_of Sends.IsLost = IsLost
sending_of Sends.IsGone = IsGone

abbrev pub is_of : ℕ → NodeView → Bool
is_of n node = node.node == n

abbrev pub ComesBefore : NodeView → NodeView → Type 0
ComesBefore x y = x.node < y.node

abbrev pub AreRising : List NodeView → Type 0
AreRising nodes = IsOrdered ComesBefore nodes

-- one more item in the queue of the core
abbrev pub after_item : NodeView → ℕ → ℕ → What → NodeView
after_item node seat now what = record node {
  items = node.items ++ record {
    seat = seat;
    number = suc (slice_index node.counts seat);
    now = now;
    what = what;
  } ∷ [];
  counts = set node.counts seat (suc (slice_index node.counts seat));
}
