-- What two worlds have in common, and how a part of a world may change.
use Rattle.std.specs.Prelude.{◌≡◌, ◌≢◌, ℕ, suc, ◌==◌, ◌||◌, Bool, true, false, List, [], ◌∷◌, ◌++◌}
use Rattle.tora_life.specs.LifeRun.{LifeDisk}
use Rattle.tora_seat.specs.declared.what.What.{What}
use Rattle.tora_seat.specs.Serving.{Serving, put_to, stepped_from}
use Rattle.tora_seat.specs.declared.item.Item.{Item}
use Rattle.tora_world.specs.Topology.{is_link}
use Rattle.tora_world.specs.World.{World}

-- the parts of a world that events change
pub data Part : Type 0 where
  Clock : Part
  Seats : Part
  Ends : Part
  Files : Part
  Items : Part
  Counts : Part
  Cargoes : Part
  Armed : Part
  Datagrams : Part
  Put : Part
  Inputs : Part
  Steps : Part

-- the number of a part, in the order of that list
abbrev pub part_number : Part → ℕ
part_number Clock = 0
part_number Seats = 1
part_number Ends = 2
part_number Files = 3
part_number Items = 4
part_number Counts = 5
part_number Cargoes = 6
part_number Armed = 7
part_number Datagrams = 8
part_number Put = 9
part_number Inputs = 10
part_number Steps = 11

abbrev pub is_among : Part → List Part → Bool
is_among part [] = false
is_among part (other ∷ parts) = (part_number part == part_number other) || is_among part parts

-- a statement that holds unless the flag is true
abbrev pub Unless : Bool → Type 0 → Type 0
Unless true P = Unit {0}
Unless false P = P

-- all parts other than these are unchanged; no event changes the nodes, the links and the times of the link ends
pub record AllElse (changed : List Part) (w after : World) : Type 0 where
  pub topology : after.topology ≡ w.topology
  pub times : after.times ≡ w.times
  pub clock : Unless (is_among Clock changed) (after.clock ≡ w.clock)
  pub seats : Unless (is_among Seats changed) (after.seats ≡ w.seats)
  pub ends : Unless (is_among Ends changed) (after.ends ≡ w.ends)
  pub files : Unless (is_among Files changed) (after.files ≡ w.files)
  pub items : Unless (is_among Items changed) (after.items ≡ w.items)
  pub counts : Unless (is_among Counts changed) (after.counts ≡ w.counts)
  pub cargoes : Unless (is_among Cargoes changed) (after.cargoes ≡ w.cargoes)
  pub arms : Unless (is_among Armed changed) (after.arms ≡ w.arms)
  pub datagrams : Unless (is_among Datagrams changed) (after.datagrams ≡ w.datagrams)
  pub put : Unless (is_among Put changed) (after.put ≡ w.put)
  pub inputs : Unless (is_among Inputs changed) (after.inputs ≡ w.inputs)
  pub steps : Unless (is_among Steps changed) (after.steps ≡ w.steps)

-- the value for node n becomes this, and the values for all other nodes are unchanged
pub record ChangesAt {A : Type 0} (n : ℕ) (value : A) (old new : ℕ → A) : Type 0 where
  pub here : new n ≡ value
  pub elsewhere : (a : ℕ) → a ≢ n → new a ≡ old a

-- the value for the end of n towards k becomes this, and the values for all other ends are unchanged
pub record ChangesAtEnd {A : Type 0} (n k : ℕ) (value : A) (old new : ℕ → ℕ → A) : Type 0 where
  pub here : new n k ≡ value
  pub elsewhere : (a b : ℕ) → ¬ ((a ≡ n) × (b ≡ k)) → new a b ≡ old a b

-- each life file of a node changes by this function, and all others are unchanged
pub record ChangesFiles (n : ℕ) (next : LifeDisk → LifeDisk) (w after : World) : Type 0 where
  pub own : (k : ℕ) → is_link w.topology n k ≡ true → after.files n k ≡ next (w.files n k)
  pub others : (a b : ℕ) → ¬ ((a ≡ n) × (is_link w.topology n b ≡ true)) → after.files a b ≡ w.files a b

-- an item is at the end of a node's queue, with the next number of its seat
pub record PutsItem (w : World) (n seat now : ℕ) (what : What) (after : World) : Type 0 where
  pub item : ChangesAt n (w.items n ++ record {
    seat = seat;
    number = suc (w.counts n seat);
    now = now;
    what = what;
  } ∷ []) w.items after.items
  pub count : ChangesAtEnd n seat (suc (w.counts n seat)) w.counts after.counts

-- the results of serving an item: the seat, the rest of the queue, the outbound messages put, the inputs that the core
-- accepted, and the packets that it took
pub record LeavesServed (w : World) (n : ℕ) (rest : List Item) (served : Serving) (after : World) : Type 0 where
  pub seat : ChangesAt n served.seat w.seats after.seats
  pub items : ChangesAt n rest w.items after.items
  pub cargoes : ChangesAt n (λ k. w.cargoes n k ++ put_to k served.offers) w.cargoes after.cargoes
  pub put : ChangesAt n (λ k. w.put n k ++ put_to k served.offers) w.put after.put
  pub inputs : ChangesAt n (w.inputs n ++ served.inputs) w.inputs after.inputs
  pub steps : ChangesAt n (λ k. w.steps n k ++ stepped_from k served.steps) w.steps after.steps
