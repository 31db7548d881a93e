-- The lines that report what a line changed in a world: the datagrams sent, and the next hops that changed.
use Rattle.std.specs.Prelude.{ℕ, zero, suc, ◌+◌, ◌-◌, ◌==◌, Bool, true, false, if◌then◌else◌, codes, List, [], ◌∷◌}
use Rattle.std.specs.Prelude.{◌++◌, length, map, Option, Some, None}
use Rattle.std.specs.List.{flat_map}
use Rattle.std.specs.Option.{option_map_or}
use Rattle.std.specs.Fmt.{decimal}
use Rattle.tora_frame.specs.FrameParts.{FrameParts}
use Rattle.tora_frame.specs.FrameGrammar.{frame_spelling}
use Rattle.tora_core.specs.ShowText.{hop_text}
use Rattle.tora_world.specs.World.{World, datagram}
use Rattle.tora_world.specs.Walks.{hop_at}
use Rattle.tora_drive.specs.declared.records.Route.{Route}

-- ---- datagrams

-- `sent A B ID LENGTH`
unfoldable pub sent_line : ℕ → FrameParts → List ℕ
sent_line i f = codes "sent " ++ decimal f.header.sender ++ codes " " ++ decimal f.header.receiver ++ codes " "
    ++ decimal i ++ codes " " ++ decimal (length (frame_spelling f)) ++ 10 ∷ []

-- the line of the datagram with this number
abbrev pub sent_of : World → ℕ → List ℕ
sent_of w i = option_map_or (sent_line i) (datagram w i) []

-- the lines of the `count` datagrams after number `first`, in order
unfoldable pub sent_from : World → ℕ → ℕ → List ℕ
sent_from w first zero = []
sent_from w first (suc count) = sent_from w first count ++ sent_of w (first + suc count)

-- the lines of the datagrams that the second world has in addition to those of the first
abbrev pub sent_text : World → World → List ℕ
sent_text before after = sent_from after (length before.datagrams) (length after.datagrams - length before.datagrams)

-- ---- next hops

-- the next hop of a node to each destination
abbrev pub routes_at : World → List ℕ → ℕ → List Route
routes_at w dests n = map (λ d. record { node = n; destination = d; hop = hop_at w n d }) dests

abbrev pub routes_of : World → List ℕ → List ℕ → List Route
routes_of w nodes dests = flat_map (routes_at w dests) nodes

abbrev pub is_same_hop : Option ℕ → Option ℕ → Bool
is_same_hop None None = true
is_same_hop None (Some b) = false
is_same_hop (Some a) None = false
is_same_hop (Some a) (Some b) = a == b

-- `hop N D K` if the next hop has changed
unfoldable pub hop_line : World → Route → List ℕ
hop_line w r =
    if is_same_hop r.hop (hop_at w r.node r.destination) then []
    else codes "hop " ++ decimal r.node ++ codes " " ++ decimal r.destination ++ codes " "
    ++ hop_text (hop_at w r.node r.destination) ++ 10 ∷ []

-- a line for each next hop that has changed, by ascending node, and then by the destinations in the order of the first
-- line
abbrev pub hops_text : List ℕ → List ℕ → World → World → List ℕ
hops_text nodes dests before after = flat_map (hop_line after) (routes_of before nodes dests)
