-- The state of a node for a program: one line of JSON (RFC 8259), without a space, with whole numbers.
use Rattle.std.specs.Prelude.{ℕ, Bool, true, false, codes, List, [], ◌∷◌, ◌++◌, Option, None, Some}
use Rattle.std.specs.List.{flat_map}
use Rattle.std.specs.Fmt.{decimal, signed_decimal}
use Rattle.tora_height.specs.Height.{Quintuple}
use Rattle.tora_height.specs.HeightOrder.{link_status}
use Rattle.tora_arq.specs.declared.life.Life.{Life}
use Rattle.tora_core.specs.declared.erasure.Erasure.{Erasure}
use Rattle.tora_core.specs.declared.erasure.Erasure.TheVariants.{Plain, Remembered}
use Rattle.tora_core.specs.ShowText.{direction_text}
use Rattle.tora_core.specs.CoreRun.{CoreView, height_of, entry_of, flag_of, hop_of}
use Rattle.tora_core.specs.Kept.{destinations_of}
use Rattle.tora_seat.specs.Serving.{SeatState}

-- the values of a list between brackets, with commas between them
abbrev pub array_json : {A : Type 0} → (A → List ℕ) → List A → List ℕ
array_json value [] = codes "[]"
array_json value (x ∷ xs) = codes "[" ++ value x ++ flat_map (λ y. codes "," ++ value y) xs ++ codes "]"

abbrev pub number_json : Option ℕ → List ℕ
number_json None = codes "null"
number_json (Some n) = decimal n

abbrev pub truth_json : Bool → List ℕ
truth_json true = codes "true"
truth_json false = codes "false"

-- a height by its five parts
abbrev pub height_json : Option Quintuple → List ℕ
height_json None = codes "null"
height_json (Some h) =
    codes "[" ++ decimal h.tau ++ codes "," ++ decimal h.oid ++ codes "," ++ decimal h.r ++ codes ","
    ++ signed_decimal h.delta ++ codes "," ++ decimal h.id ++ codes "]"

-- a session, by the number of this end and that of the peer
abbrev pub life_json : Option Life → List ℕ
life_json None = codes "null"
life_json (Some life) = codes "[" ++ decimal life.own ++ codes "," ++ decimal life.peer ++ codes "]"

-- the entry, or NULL if there is none
abbrev pub or_null : Option (Option Quintuple) → Option Quintuple
or_null None = None
or_null (Some height) = height

abbrev pub own_height : CoreView → ℕ → Option Quintuple
own_height core d = or_null (height_of core d)

abbrev pub entry_height : CoreView → ℕ → ℕ → Option Quintuple
entry_height core d k = or_null (entry_of core d k)

-- the height of a destination that a neighbour with a link that is up has sent
unfoldable pub via_json : CoreView → ℕ → ℕ → List ℕ
via_json core d k =
    codes "{\"node\":" ++ decimal k
    ++ codes ",\"height\":" ++ height_json (entry_height core d k)
    ++ codes ",\"direction\":\"" ++ direction_text (link_status (own_height core d) (entry_height core d k))
    ++ codes "\"}"

-- a destination, and the node's height
unfoldable pub own_json : CoreView → ℕ → List ℕ
own_json core d = codes "{\"to\":" ++ decimal d ++ codes ",\"height\":" ++ height_json (own_height core d)

-- whether a route is required, the next hop, and the neighbours' heights
unfoldable pub route_json : CoreView → ℕ → List ℕ
route_json core d =
    codes ",\"required\":" ++ truth_json (flag_of core d)
    ++ codes ",\"hop\":" ++ number_json (hop_of core d)
    ++ codes ",\"via\":" ++ array_json (via_json core d) core.up ++ codes "}"

unfoldable pub destination_json : CoreView → ℕ → List ℕ
destination_json core d = own_json core d ++ route_json core d

-- a link with its current session at the core, and the session whose cut still waits for room in the queue
unfoldable pub link_json : SeatState → ℕ → List ℕ
link_json s k =
    codes "{\"peer\":" ++ decimal k ++ codes ",\"life\":" ++ life_json (s.current k) ++ codes ",\"cut\":"
    ++ life_json (s.pending k) ++ codes "}"

-- the treatment of erased levels, unless it is plain
abbrev pub erasure_json : Erasure → List ℕ
erasure_json Plain = []
erasure_json Remembered = codes ",\"erasure\":\"remembered\""

-- the whole line at a tick
unfoldable pub json_text : ℕ → SeatState → List ℕ
json_text now s =
    codes "{\"node\":" ++ decimal s.core.me
    ++ codes ",\"tick\":" ++ decimal now ++ erasure_json s.core.erasure
    ++ codes ",\"destinations\":" ++ array_json (destination_json s.core) (destinations_of s.core.views)
    ++ codes ",\"links\":" ++ array_json (link_json s) s.core.neighbours ++ codes "}\n"
