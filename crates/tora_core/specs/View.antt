-- The view that a node has of one destination, and the terms of TORA's rules about it.
use Rattle.std.specs.Prelude.{ℕ, ◌==◌, Bool, true, false, not, ◌&&◌, nat_lt, if◌then◌else◌, List, [], ◌∷◌, length, map}
use Rattle.std.specs.Prelude.{filter, filter_map, fold, Option, None, Some, is_some, is_none, option_map, ℤ, int_lt}
use Rattle.std.specs.List.{list_any, list_all}
use Rattle.std.specs.Ordering.{is_lt, is_eq}
use Rattle.tora_height.specs.declared.level.Level.{Level}
use Rattle.tora_height.specs.Height.{Quintuple, destination_height, level_of}
use Rattle.tora_height.specs.HeightOrder.{level_cmp, height_cmp}
use Rattle.tora_core.specs.declared.erasure.Erasure.{Erasure}
use Rattle.tora_core.specs.declared.erasure.Erasure.TheVariants.{Plain}
use Rattle.tora_core.specs.declared.rows.Row.{Row}

-- a node's view of one destination
pub record View : Type 0 where
  pub me : ℕ  -- the node
  pub destination : ℕ
  pub height : Option Quintuple  -- the own height, None for NULL
  pub flag : Bool  -- a route is required
  pub rows : List Row  -- a row for each neighbour whose link is up, by ascending number
  pub last : ℕ  -- the last time tag that the node generated
  pub erasure : Erasure  -- how the node treats erased levels
  pub erased : Option Level  -- the reflected level that was erased last, if the node remembers it

-- at first no link is up, and only the destination has a height
abbrev pub first_view_of : Erasure → ℕ → ℕ → View
first_view_of erasure me destination = record {
  me = me;
  destination = destination;
  height = if me == destination then Some (destination_height destination) else None;
  flag = false;
  rows = [];
  last = 0;
  erasure = erasure;
  erased = None;
}

-- a new view of a node with Erasure::Plain
abbrev pub first_view : ℕ → ℕ → View
first_view me destination = first_view_of Plain me destination

-- ---- neighbours and their entries

-- the neighbours whose links are up
abbrev pub neighbours_of : List Row → List ℕ
neighbours_of rows = map (λ row. row.neighbour) rows

abbrev pub up_neighbours : View → List ℕ
up_neighbours v = neighbours_of v.rows

-- the entries that are not NULL
abbrev pub heights_of : List Row → List Quintuple
heights_of rows = filter_map (λ row. row.entry) rows

abbrev pub known_heights : View → List Quintuple
known_heights v = heights_of v.rows

-- every entry is NULL
abbrev pub are_null : List Row → Bool
are_null rows = list_all (λ row. is_none row.entry) rows

-- ---- downstream neighbours

-- a neighbour with this entry is downstream: the entry is lower than the own height, or the own height is NULL
abbrev pub is_downstream : Option Quintuple → Option Quintuple → Bool
is_downstream own None = false
is_downstream None (Some entry) = true
is_downstream (Some own) (Some entry) = is_lt (height_cmp entry own)

abbrev pub downstream_rows : View → List Row
downstream_rows v = filter (λ row. is_downstream v.height row.entry) v.rows

abbrev pub downstream_neighbours : View → List ℕ
downstream_neighbours v = neighbours_of (downstream_rows v)

abbrev pub downstream_count : View → ℕ
downstream_count v = length (downstream_neighbours v)

abbrev pub has_downstream : View → Bool
has_downstream v = list_any (λ row. is_downstream v.height row.entry) v.rows

-- there is a height, and no neighbour is downstream
abbrev pub lacks_downstream : View → Bool
lacks_downstream v = is_some v.height && not (has_downstream v)

-- the next hop: the downstream neighbour with the lowest entry
abbrev pub lower_row_of : Option Row → Row → Option Row
lower_row_of None row = Some row
lower_row_of (Some best) row = if is_downstream best.entry row.entry then Some row else Some best

abbrev pub next_hop_of : View → Option ℕ
next_hop_of v = option_map (λ row. row.neighbour) (fold lower_row_of None (downstream_rows v))

-- ---- the least height, the greatest level, and the least delta at a level

abbrev pub lower_of : Option Quintuple → Quintuple → Option Quintuple
lower_of None height = Some height
lower_of (Some best) height = if is_lt (height_cmp height best) then Some height else Some best

abbrev pub least_height : List Quintuple → Option Quintuple
least_height heights = fold lower_of None heights

abbrev pub higher_level_of : Option Level → Quintuple → Option Level
higher_level_of None height = Some (level_of height)
higher_level_of (Some best) height = if is_lt (level_cmp best (level_of height)) then Some (level_of height)
    else Some best

abbrev pub greatest_level : List Quintuple → Option Level
greatest_level heights = fold higher_level_of None heights

-- the height is at this reference level
abbrev pub is_at : Level → Quintuple → Bool
is_at level height = is_eq (level_cmp (level_of height) level)

abbrev pub lower_delta_of : Option ℤ → ℤ → Option ℤ
lower_delta_of None delta = Some delta
lower_delta_of (Some best) delta = if int_lt delta best then Some delta else Some best

abbrev pub least_delta : Level → List Quintuple → Option ℤ
least_delta level heights =
    fold (λ best height. if is_at level height then lower_delta_of best height.delta else best) None heights

-- ---- rows after a change

-- the rows after a new one was inserted by its number
abbrev pub with_row : Row → List Row → List Row
with_row new [] = new ∷ []
with_row new (row ∷ rows) = if nat_lt new.neighbour row.neighbour then new ∷ row ∷ rows else row ∷ with_row new rows

-- the rows without that of a neighbour
abbrev pub without_row : ℕ → List Row → List Row
without_row k rows = filter (λ row. not (row.neighbour == k)) rows

-- the row after its entry was set, if it is that of neighbour k
abbrev pub row_with_entry : ℕ → Quintuple → Row → Row
row_with_entry k height row = if row.neighbour == k then record row { entry = Some height } else row

abbrev pub with_entry : ℕ → Quintuple → List Row → List Row
with_entry k height rows = map (row_with_entry k height) rows

-- the row, marked: an update was broadcast to its neighbour
abbrev pub told_row : Row → Row
told_row row = record row { told = true }

abbrev pub all_told : List Row → List Row
all_told rows = map told_row rows

abbrev pub is_told : ℕ → List Row → Bool
is_told k rows = list_any (λ row. (row.neighbour == k) && row.told) rows

-- the row without its entry, unless the neighbour is the destination
abbrev pub erased_row : ℕ → Row → Row
erased_row destination row = if row.neighbour == destination then row else record row { entry = None }

abbrev pub all_erased : ℕ → List Row → List Row
all_erased destination rows = map (erased_row destination) rows

-- the row without its entry, if it is that of neighbour k and k is not the destination
abbrev pub withdrawn_row : ℕ → ℕ → Row → Row
withdrawn_row destination k row =
    if (row.neighbour == k) && not (row.neighbour == destination) then record row { entry = None } else row

abbrev pub without_entry : ℕ → ℕ → List Row → List Row
without_entry destination k rows = map (withdrawn_row destination k) rows

-- the row without its mark, if it is that of neighbour k
abbrev pub untold_row : ℕ → Row → Row
untold_row k row = if row.neighbour == k then record row { told = false } else row

abbrev pub without_told : ℕ → List Row → List Row
without_told k rows = map (untold_row k) rows

-- the entry is a height at this level
abbrev pub is_entry_at : Level → Option Quintuple → Bool
is_entry_at level None = false
is_entry_at level (Some height) = is_at level height

-- the entry is at this level, and the neighbour is not the destination
abbrev pub is_cleared : ℕ → Level → Row → Bool
is_cleared destination level row = not (row.neighbour == destination) && is_entry_at level row.entry

abbrev pub cleared_row : ℕ → Level → Row → Row
cleared_row destination level row =
    if not (row.neighbour == destination) && is_entry_at level row.entry then record row { entry = None } else row

abbrev pub all_cleared : ℕ → Level → List Row → List Row
all_cleared destination level rows = map (cleared_row destination level) rows
