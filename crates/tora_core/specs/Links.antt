-- The values that are stored for the rows of one destination: a place for each neighbour, the directions of the links,
-- the count of downstream links, and the row with the least height.
use Rattle.std.specs.Prelude.{◌≡◌, ◌≢◌, ℕ, zero, suc, Bool, true, false, List, [], ◌∷◌, length, map, filter, Option}
use Rattle.std.specs.Prelude.{None, Some}
use Rattle.std.specs.List.{AllByRecursion, items_where_true}
use Rattle.std.specs.Ordering.{is_lt}
use Rattle.tora_height.specs.declared.direction.Direction.{Direction}
use Rattle.tora_height.specs.declared.direction.Direction.TheVariants.{Down, Up, Undirected}
use Rattle.tora_height.specs.Height.{Quintuple}
use Rattle.tora_height.specs.HeightOrder.{height_cmp, link_status}
use Rattle.tora_core.specs.declared.rows.Row.{Row}
use Rattle.tora_core.specs.View.{is_downstream}

-- the own height, the rows of the up neighbours, and all neighbours of the node
pub record LinkTable : Type 0 where
  pub own : Option Quintuple
  pub rows : List Row
  pub neighbours : List ℕ

-- ---- places

-- the place of a neighbour whose link is not up
abbrev pub empty_place : ℕ → Row
empty_place k = record { neighbour = k; entry = None; told = false }

-- the rows of the places whose link is up
abbrev pub rows_up : List Bool → List Row → List Row
rows_up up places = items_where_true up places

-- there is a mark for each place, and a place whose link is not up has no entry
abbrev pub AreMarked : List Bool → List Row → Type 0
AreMarked [] [] = Unit {0}
AreMarked [] (row ∷ places) = ⊥
AreMarked (mark ∷ up) [] = ⊥
AreMarked (mark ∷ up) (row ∷ places) = (mark ≡ false → row.entry ≡ None) × AreMarked up places

-- ---- directions

abbrev pub is_down : Direction → Bool
is_down Up = false
is_down Down = true
is_down Undirected = false

-- the direction of each link
abbrev pub directions_of : Option Quintuple → List Row → List Direction
directions_of own rows = map (λ row. link_status own row.entry) rows

-- how many links are downstream
abbrev pub downstream_in : Option Quintuple → List Row → ℕ
downstream_in own rows = length (filter (λ row. is_downstream own row.entry) rows)

-- ---- the row with the least height

-- the entry is NULL, or above h
abbrev pub is_above : Quintuple → Option Quintuple → Bool
is_above h None = true
is_above h (Some entry) = is_lt (height_cmp h entry)

-- the entry is NULL, or not below h
abbrev pub IsNotBelow : Quintuple → Row → Type 0
IsNotBelow h row = is_downstream (Some h) row.entry ≡ false

-- the first row with the least height is at this place, and that height is h
abbrev pub IsLeastAt : ℕ → Quintuple → List Row → Type 0
IsLeastAt place h [] = ⊥
IsLeastAt zero h (row ∷ rows) = (row.entry ≡ Some h) × AllByRecursion (IsNotBelow h) rows
IsLeastAt (suc place) h (row ∷ rows) = (is_above h row.entry ≡ true) × IsLeastAt place h rows

abbrev pub IsNull : Row → Type 0
IsNull row = row.entry ≡ None

-- the place of the first row with the least height; None if every entry is NULL
abbrev pub IsLeastPlace : Option ℕ → List Row → Type 0
IsLeastPlace None rows = AllByRecursion IsNull rows
IsLeastPlace (Some place) rows = (h : Quintuple) × IsLeastAt place h rows

-- the entry at this place
abbrev pub entry_at : ℕ → List Row → Option Quintuple
entry_at place [] = None
entry_at zero (row ∷ rows) = row.entry
entry_at (suc place) (row ∷ rows) = entry_at place rows

-- the entry at the place of the least row, if there is one
abbrev pub low_of : Option ℕ → List Row → Option Quintuple
low_of None rows = None
low_of (Some place) rows = entry_at place rows

-- the rows after the entry at this place was set
abbrev pub with_entry_at : ℕ → Quintuple → List Row → List Row
with_entry_at place h [] = []
with_entry_at zero h (row ∷ rows) = record row { entry = Some h } ∷ rows
with_entry_at (suc place) h (row ∷ rows) = row ∷ with_entry_at place h rows

-- the stored values are those computed from the own height and the rows
pub record AreKept (own : Option Quintuple) (rows : List Row) (directions : List Direction) (downstream : ℕ)
    (least : Option ℕ) : Type 0 where
  pub directions_are : directions ≡ directions_of own rows
  pub downstream_is : downstream ≡ downstream_in own rows
  pub least_is : IsLeastPlace least rows

-- ---- the place of a neighbour

-- k is at this place of the list, and nowhere else
abbrev pub IsOnlyPlace : ℕ → ℕ → List ℕ → Type 0
IsOnlyPlace k place [] = ⊥
IsOnlyPlace k zero (n ∷ numbers) = (n ≡ k) × AllByRecursion (λ (m : ℕ). m ≢ k) numbers
IsOnlyPlace k (suc place) (n ∷ numbers) = (n ≢ k) × IsOnlyPlace k place numbers
