-- The rule of the queue into the core: for each seat, the items that the core has taken, followed by those in the
-- queue, are the items that the seat has put.
use Rattle.std.specs.Prelude.{◌≡◌, ℕ, suc, ◌+◌, ◌<◌, ◌≤◌, ◌==◌, List, [], ◌∷◌, ◌++◌, length, Option, Some, None}
use Rattle.std.specs.Prelude.{slice_get}
use Rattle.std.specs.List.{filter}
use mathlib.Core.Option.{some}
use lib.ListN.{get_elem?}
use Rattle.tora_seat.specs.declared.item.Item.{Item}
use Rattle.tora_lane.specs.declared.rule.LaneView.{LaneView}
use Rattle.tora_lane.specs.declared.rule.LaneView.TheVariants.{Seat, Core, Spent}

-- the items of a seat, in their order
abbrev pub items_of : ℕ → List Item → List Item
items_of s items = filter (λ x. x.seat == s) items

-- the items are numbered from n on, without gaps
abbrev pub IsNumbered : ℕ → List Item → Type 0
IsNumbered n [] = Unit {0}
IsNumbered n (x ∷ xs) = (x.number ≡ n) × IsNumbered (suc n) xs

-- seats that don't exist yet have no port and have put nothing
abbrev pub AreUnmade : ℕ → (ℕ → Option ℕ) → (ℕ → List Item) → Type 0
AreUnmade made port put = (s : ℕ) → made ≤ s → (port s ≡ None) × (put s ≡ [])

-- a closed seat has no port, and what it has put is known
abbrev pub AreSettled : ℕ → (ℕ → Option ℕ) → (ℕ → List Item) → List (ℕ × List Item) → Type 0
AreSettled made port put known =
    (k s : ℕ) (own : List Item) → slice_get known k ≡ Some (s, own) → (s < made) × (port s ≡ None) × (own ≡ put s)

-- what the holder of a pass knows is true
abbrev pub Fits : ℕ → (ℕ → Option ℕ) → (ℕ → List Item) → List Item → ℕ → LaneView → Type 0
Fits core port put taken pass (Seat s own) = (port s ≡ Some pass) × (own ≡ put s)
Fits core port put taken pass (Core made took known) = (pass ≡ core) × (took ≡ taken) × AreUnmade made port put
    × AreSettled made port put known
Fits core port put taken pass Spent = Unit {0}

-- each seat's items are in order and numbered without gaps, and what each holder of a pass knows is true
pub record KeepsLanes (items : List Item) (views : List LaneView) : Type 0 where
  pub core : ℕ
  pub port : ℕ → Option ℕ
  pub put : ℕ → List Item
  pub taken : List Item
  pub in_order : (s : ℕ) → items_of s (taken ++ items) ≡ put s
  pub numbered : (s : ℕ) → IsNumbered 1 (put s)
  pub fits : (pass : ℕ) (v : LaneView) → get_elem? views pass ≡ some v → Fits core port put taken pass v

abbrev pub after_put : LaneView → Item → LaneView
after_put (Seat s own) x = Seat s (own ++ x ∷ [])
after_put (Core made took known) x = Core made took known
after_put Spent x = Spent

abbrev pub after_take : LaneView → Item → LaneView
after_take (Seat s own) x = Seat s own
after_take (Core made took known) x = Core made (took ++ x ∷ []) known
after_take Spent x = Spent

-- the item is of a seat that exists, and has the next number of its seat
abbrev pub IsNext : LaneView → Item → Type 0
IsNext (Seat s own) x = Unit {0}
IsNext (Core made took known) x = (x.seat < made) × (x.number ≡ length (items_of x.seat took) + 1)
IsNext Spent x = Unit {0}

abbrev pub with_new_seat : LaneView → LaneView
with_new_seat (Seat s own) = Seat s own
with_new_seat (Core made took known) = Core (made + 1) took known
with_new_seat Spent = Spent

abbrev pub new_seat : LaneView → LaneView
new_seat (Seat s own) = Spent
new_seat (Core made took known) = Seat made []
new_seat Spent = Spent

abbrev pub with_settled : LaneView → LaneView → LaneView
with_settled (Core made took known) (Seat s own) = Core made took ((s, own) ∷ known)
with_settled v w = v

-- for the seat that was closed last, the items taken, followed by those in the queue, are the items put
abbrev pub LastSettled : LaneView → List Item → Type 0
LastSettled (Core made took ((s, own) ∷ known)) items = (s < made) × (items_of s (took ++ items) ≡ own)
LastSettled (Core made took []) items = Unit {0}
LastSettled (Seat s own) items = Unit {0}
LastSettled Spent items = Unit {0}
