-- What contracts see of the ports of the queue into the core.
use Rattle.std.specs.Prelude.{◌≡◌, ℕ, List, [], Bool, false}
use Rattle.atomic_table.specs.Seated.{TableId}
use Rattle.atomic_table.specs.declared.badge.Badge.{Badge}
use Rattle.crossbeam_channel.specs.declared.flavors.array.Key.{Key}
use Rattle.crossbeam_channel.specs.declared.flavors.array.Doing.{Doing}
use Rattle.crossbeam_channel.specs.declared.flavors.array.Rows.{Rows}
use Rattle.crossbeam_channel.specs.Claims.{Pass, IsKeyed}
use Rattle.tora_seat.specs.declared.item.Item.{Item}
use Rattle.tora_seat.specs.declared.what.What.{What}
use Rattle.tora_lane.specs.declared.rule.LaneView.{LaneView}
use Rattle.tora_lane.specs.declared.rule.LaneView.TheVariants.{Seat, Core, Spent}

-- the identity of a queue into the core
pub record Lane : Type 0 where
  pub table : TableId
  pub key : Badge (Key Item)

-- the port of a seat: its queue, its seat, what it has put, and whether it has returned Gone
pub record InEnd : Type 0 where
  pub lane : Lane
  pub seat : ℕ
  pub put : List Item
  pub gone : Bool

-- the core's port: its queue, the count of seats, what was taken, and whether it has returned Gone
pub record CoreEnd : Type 0 where
  pub lane : Lane
  pub seats : ℕ
  pub taken : List Item
  pub gone : Bool

-- a port of the same queue as the core's port
abbrev pub IsPortOf : CoreEnd → InEnd → Type 0
IsPortOf c p = p.lane ≡ c.lane

abbrev pub lane_of : Pass Item LaneView → Lane
lane_of p = record { table = p.table_id; key = p.me.0.of }

-- the channel belongs to the queue
abbrev pub IsChannelOf : {Q M L A : Type 0} → Lane → Rows (Badge (Key Item)) (Doing Item LaneView) Q M (Key Item) L A
    → Type 0
IsChannelOf lane c = (c.stamps.shared.table_id ≡ lane.table) × (c.stamps.shared.key ≡ lane.key) × IsKeyed c

abbrev pub new_item : ℕ → ℕ → ℕ → What → Item
new_item seat number now what = record { seat = seat; number = number; now = now; what = what }

-- a port that has put nothing
abbrev pub new_port : Lane → ℕ → InEnd
new_port lane seat = record { lane = lane; seat = seat; put = []; gone = false }

abbrev pub new_core : Lane → ℕ → CoreEnd
new_core lane seats = record { lane = lane; seats = seats; taken = []; gone = false }

-- the items that a seat has put, in the view of its pass
abbrev pub own_of : LaneView → List Item
own_of (Seat s own) = own
own_of (Core made took known) = []
own_of Spent = []

-- the items that the core has taken, in the view of its pass
abbrev pub took_of : LaneView → List Item
took_of (Core made took known) = took
took_of (Seat s own) = []
took_of Spent = []

abbrev pub known_of : LaneView → List (ℕ × List Item)
known_of (Core made took known) = known
known_of (Seat s own) = []
known_of Spent = []

-- what the holder of this pass knows
abbrev pub lane_view : Pass Item LaneView → LaneView
lane_view p = p.me.0.client
