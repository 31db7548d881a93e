-- The text that shows a core: for each destination a line, and then one for each neighbour whose link is up.
use Rattle.std.specs.Prelude.{ℕ, Bool, true, false, codes, List, [], ◌∷◌, ◌++◌, Option, None, Some}
use Rattle.std.specs.List.{flat_map}
use Rattle.std.specs.Fmt.{decimal}
use Rattle.tora_height.specs.declared.direction.Direction.{Direction}
use Rattle.tora_height.specs.declared.direction.Direction.TheVariants.{Up, Down, Undirected}
use Rattle.tora_height.specs.Height.{Quintuple}
use Rattle.tora_height.specs.HeightText.{written_height}
use Rattle.tora_height.specs.HeightOrder.{link_status}
use Rattle.tora_core.specs.declared.rows.Row.{Row}
use Rattle.tora_core.specs.View.{View, next_hop_of}
use Rattle.tora_core.specs.CoreRun.{CoreView}

-- a height as (tau,oid,r,delta,id), and NULL as -
abbrev pub height_text : Option Quintuple → List ℕ
height_text None = codes "-"
height_text (Some h) = written_height h

abbrev pub flag_text : Bool → List ℕ
flag_text true = codes "1"
flag_text false = codes "0"

-- a node's number, and - for none
abbrev pub hop_text : Option ℕ → List ℕ
hop_text None = codes "-"
hop_text (Some k) = decimal k

abbrev pub direction_text : Direction → List ℕ
direction_text Up = codes "up"
direction_text Down = codes "down"
direction_text Undirected = codes "none"

abbrev pub line_end : List ℕ
line_end = 10 ∷ []

-- the line of a destination
unfoldable pub to_line : View → List ℕ
to_line v =
    codes "to " ++ decimal v.destination ++ codes " height " ++ height_text v.height ++ codes " flag "
    ++ flag_text v.flag ++ codes " hop " ++ hop_text (next_hop_of v) ++ line_end

-- the line of a neighbour whose link is up, for this own height
unfoldable pub via_line : Option Quintuple → Row → List ℕ
via_line own row =
    codes "via " ++ decimal row.neighbour ++ codes " " ++ height_text row.entry ++ codes " "
    ++ direction_text (link_status own row.entry) ++ line_end

abbrev pub view_text : View → List ℕ
view_text v = to_line v ++ flat_map (via_line v.height) v.rows

abbrev pub show_text : CoreView → List ℕ
show_text c = flat_map view_text c.views
