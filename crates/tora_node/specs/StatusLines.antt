-- The output of `watch`: a line for each height and each next hop, and later one for each that has changed.
use Rattle.std.specs.Prelude.{ℕ, ◌==◌, Bool, true, false, codes, if◌then◌else◌, List, [], ◌∷◌, ◌++◌, map, Option, None}
use Rattle.std.specs.Prelude.{Some, option_map}
use Rattle.std.specs.List.{flat_map}
use Rattle.std.specs.Ordering.{is_eq}
use Rattle.std.specs.declared.vec.Vec.{Vec}
use Rattle.std.specs.Fmt.{decimal}
use Rattle.tora_height.specs.Height.{Quintuple}
use Rattle.tora_height.specs.HeightOrder.{height_cmp}
use Rattle.tora_core.specs.ShowText.{height_text, hop_text, line_end}
use Rattle.tora_core.specs.CoreRun.{CoreView, hop_of}
use Rattle.tora_core.specs.Kept.{destinations_of}
use Rattle.tora_node.specs.declared.watch.Told.{Told}
use Rattle.tora_node.specs.StatusJson.{own_height}

-- the printed state of a destination: the node's height and the next hop
abbrev pub told_of : CoreView → ℕ → Told
told_of core d = record { to = d; height = own_height core d; hop = hop_of core d }

-- the printed state of each destination, in ascending order
abbrev pub all_told : CoreView → List Told
all_told core = map (told_of core) (destinations_of core.views)

-- `height D H`
unfoldable pub height_line : Told → List ℕ
height_line t = codes "height " ++ decimal t.to ++ codes " " ++ height_text t.height ++ line_end

-- `hop D K`
unfoldable pub hop_line : Told → List ℕ
hop_line t = codes "hop " ++ decimal t.to ++ codes " " ++ hop_text t.hop ++ line_end

abbrev pub told_lines : Told → List ℕ
told_lines t = height_line t ++ hop_line t

-- the lines for all destinations of a core
abbrev pub state_text : CoreView → List ℕ
state_text core = flat_map told_lines (all_told core)

abbrev pub is_same_height : Option Quintuple → Option Quintuple → Bool
is_same_height None None = true
is_same_height None (Some b) = false
is_same_height (Some a) None = false
is_same_height (Some a) (Some b) = is_eq (height_cmp a b)

abbrev pub is_same_hop : Option ℕ → Option ℕ → Bool
is_same_hop None None = true
is_same_hop None (Some b) = false
is_same_hop (Some a) None = false
is_same_hop (Some a) (Some b) = a == b

-- the lines for what has changed for a destination between two states
abbrev pub change_text : Told → Told → List ℕ
change_text old new =
    (if is_same_height old.height new.height then [] else height_line new) ++ (if is_same_hop old.hop new.hop then []
    else hop_line new)

abbrev pub news_of : CoreView → Told → List ℕ
news_of core old = change_text old (told_of core old.to)

-- the lines for what has changed for each destination since the last printed state
abbrev pub changes_text : List Told → CoreView → List ℕ
changes_text told core = flat_map (news_of core) told

-- the last printed state, if a program watches
abbrev pub told_in : {A : Type 0} → Option (Vec Told A) → Option (List Told)
told_in watch = option_map (λ told. told.items) watch
