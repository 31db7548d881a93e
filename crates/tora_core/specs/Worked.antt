-- Examples of the rules, computed: the packets and the text of one core, and the packets between four cores in a line.
use Rattle.std.specs.Prelude.{◌≡◌, ℕ, zero, suc, ◌==◌, ℤ, pos, negsuc, if◌then◌else◌, codes, List, [], ◌∷◌, ◌++◌, map}
use Rattle.std.specs.Prelude.{Option, None, Some, option_map}
use Rattle.std.specs.List.{flat_map}
use Rattle.tora_height.specs.Height.{Quintuple, quintuple}
use Rattle.tora_packet.specs.declared.Packet.{Packet}
use Rattle.tora_packet.specs.declared.Packet.TheVariants.{Qry, Upd, Clr}
use Rattle.tora_packet.specs.PacketParts.{update_of, clear_of}
use Rattle.tora_core.specs.declared.Input.{Input}
use Rattle.tora_core.specs.declared.Input.TheVariants.{LinkUp, LinkDown, Packet as From, Need}
use Rattle.tora_core.specs.CoreRun.{CoreView, first_core, refusal_of, core_after, core_after_all, sends_of, height_of}
use Rattle.tora_core.specs.CoreRun.{hop_of}
use Rattle.tora_core.specs.Errors.{step_error_number}
use Rattle.tora_core.specs.ShowText.{line_end, show_text}

-- ---- runs of one core

-- inputs, each with its tick
abbrev pub Inputs : Type 0
Inputs = List (Input × ℕ)

-- the packets that each input sends
abbrev pub answers_of : CoreView → Inputs → List (List Packet)
answers_of c [] = []
answers_of c ((input, now) ∷ inputs) = sends_of c input now ∷ answers_of (core_after c input now) inputs

abbrev pub shown_after : CoreView → Inputs → List ℕ
shown_after c inputs = show_text (core_after_all c inputs)

-- lines, each with its end
abbrev pub lines_of : List (List ℕ) → List ℕ
lines_of lines = flat_map (λ line. line ++ line_end) lines

-- an update for destination 4
abbrev pub update : ℕ → ℕ → ℕ → ℤ → ℕ → Packet
update tau oid r delta id = Upd (update_of 4 (quintuple tau oid r delta id))

abbrev pub query : Packet
query = Qry 4

abbrev pub clear : ℕ → ℕ → Packet
clear tau oid = Clr (clear_of 4 tau oid)

-- no packet, and one packet
abbrev pub nothing : List Packet
nothing = []

abbrev pub only : Packet → List Packet
only packet = packet ∷ []

-- node 3 with the neighbours 2 and 4, of which 4 is the destination
abbrev pub node_3 : CoreView
node_3 = first_core 3 (2 ∷ 4 ∷ []) (4 ∷ [])

-- node 3 answers a query of 2, and then 2 sends its height
abbrev pub route_found : Inputs
route_found = (LinkUp 2, 1) ∷ (LinkUp 4, 1) ∷ (From 2 query, 2) ∷ (From 2 (update 0 0 0 (pos 2) 2), 3) ∷ []

-- the link to the destination fails
abbrev pub link_lost : Inputs
link_lost = (LinkDown 4, 7) ∷ []

-- 2 propagates the new level, and then sends the reflected one back
abbrev pub level_comes_back : Inputs
level_comes_back = (From 2 (update 7 3 0 (negsuc 0) 2), 8) ∷ (From 2 (update 7 3 1 (negsuc 0) 2), 9) ∷ []

-- node 2 with the neighbours 1 and 3
abbrev pub node_2 : CoreView
node_2 = first_core 2 (1 ∷ 3 ∷ []) (4 ∷ [])

-- node 2 has a route by 3, and then all its entries are at one reflected level, which node 9 defined
abbrev pub foreign_reflection : Inputs
foreign_reflection = (LinkUp 1, 1) ∷ (LinkUp 3, 1) ∷ (Need 4, 2) ∷ (From 3 (update 0 0 0 (pos 1) 3), 3)
    ∷ (From 1 (update 7 9 1 (pos 0) 1), 4) ∷ (From 3 (update 7 9 1 (negsuc 0) 3), 8) ∷ []

-- node 3 has a route by 4 and loses it; 2 has sent a level whose time is later than 3's clock
abbrev pub clock_behind : Inputs
clock_behind =
    (LinkUp 2, 1) ∷ (LinkUp 4, 1) ∷ (From 2 query, 2) ∷ (From 2 (update 7 9 0 (pos 0) 2), 3) ∷ (LinkDown 4, 3) ∷ []

-- 3 sends the greatest delta
abbrev pub greatest_delta : Inputs
greatest_delta = (LinkUp 3, 1) ∷ (Need 4, 2) ∷ (From 3 (update 0 0 0 (pos 1073741824) 3), 3) ∷ []

-- 2 sends a second query, and a third one after its link was down
abbrev pub asked_again : Inputs
asked_again = (From 2 query, 4) ∷ (LinkDown 2, 5) ∷ (LinkUp 2, 6) ∷ (From 2 query, 6) ∷ []

-- node 3 with two destinations
abbrev pub node_3_of_two : CoreView
node_3_of_two = first_core 3 (2 ∷ 4 ∷ []) (5 ∷ 4 ∷ [])

abbrev pub two_needs : Inputs
two_needs = (LinkUp 2, 1) ∷ (Need 5, 1) ∷ (Need 4, 1) ∷ (LinkUp 4, 2) ∷ []

-- node 2 with the neighbours 1, 3 and 5: 1 and 5 send deltas 4 and 1 at one level, and then 3 sends a height at a lower
-- level, which is above the own height
abbrev pub node_2_of_three : CoreView
node_2_of_three = first_core 2 (1 ∷ 3 ∷ 5 ∷ []) (4 ∷ [])

abbrev pub two_deltas : Inputs
two_deltas = (LinkUp 1, 1) ∷ (LinkUp 3, 1) ∷ (LinkUp 5, 1) ∷ (Need 4, 2) ∷ (From 3 (update 0 0 0 (pos 1) 3), 3)
    ∷ (From 1 (update 7 9 0 (pos 4) 1), 8) ∷ (From 5 (update 7 9 0 (pos 1) 5), 8) ∷ (From 3 (update 5 8 0 (pos 0) 3), 9)
    ∷ []

-- ---- the line 1-2-3-4

-- inputs in transit, each with the node to which it goes
abbrev pub Waiting : Type 0
Waiting = List (ℕ × Input)

-- the cores, and what they have sent so far, each packet with its sender
pub record Line : Type 0 where
  pub cores : List CoreView
  pub sent : List (ℕ × Packet)

-- one copy of each packet to each up neighbour
abbrev pub copies_of : CoreView → List Packet → Waiting
copies_of c packets = flat_map (λ packet. map (λ k. (k, From c.me packet)) c.up) packets

abbrev pub cores_after : ℕ → Input → ℕ → List CoreView → List CoreView
cores_after n input now cores = map (λ c. if c.me == n then core_after c input now else c) cores

abbrev pub copies_after : ℕ → Input → ℕ → List CoreView → Waiting
copies_after n input now cores =
    flat_map (λ c. if c.me == n then copies_of (core_after c input now) (sends_of c input now) else []) cores

abbrev pub sent_after : ℕ → Input → ℕ → List CoreView → List (ℕ × Packet)
sent_after n input now cores =
    flat_map (λ c. if c.me == n then map (λ packet. (n, packet)) (sends_of c input now) else []) cores

-- the line after inputs were taken in the order of their arrival, all at one tick, at most this many
abbrev pub line_after : ℕ → ℕ → Line → Waiting → Line
line_after zero now line waiting = line
line_after (suc most) now line [] = line
line_after (suc most) now line ((n, input) ∷ waiting) =
    line_after most now (record {
      cores = cores_after n input now line.cores;
      sent = line.sent ++ sent_after n input now line.cores;
    })
    (waiting ++ copies_after n input now line.cores)

abbrev pub first_line : Line
first_line = record {
  cores = first_core 1 (2 ∷ []) (4 ∷ []) ∷ first_core 2 (1 ∷ 3 ∷ []) (4 ∷ []) ∷ first_core 3 (2 ∷ 4 ∷ []) (4 ∷ [])
      ∷ first_core 4 (3 ∷ []) (4 ∷ []) ∷ [];
  sent = [];
}

abbrev pub links_up : Waiting
links_up = (1, LinkUp 2) ∷ (2, LinkUp 1) ∷ (2, LinkUp 3) ∷ (3, LinkUp 2) ∷ (3, LinkUp 4) ∷ (4, LinkUp 3) ∷ []

-- the line after its links came up, node 1 needed 4, and all packets were taken
abbrev pub joined_line : Line
joined_line = line_after 32 1 first_line (links_up ++ (1, Need 4) ∷ [])

-- the line after node 3 then lost its link to 4 at tick 7, and all packets were taken
abbrev pub parted_line : Line
parted_line = line_after 32 7 (record { cores = joined_line.cores; sent = [] }) ((3, LinkDown 4) ∷ (4, LinkDown 3) ∷ [])

abbrev pub heights_in : Line → List (Option (Option Quintuple))
heights_in line = map (λ c. height_of c 4) line.cores

abbrev pub hops_in : Line → List (Option ℕ)
hops_in line = map (λ c. hop_of c 4) line.cores

abbrev pub known_height : ℕ → ℕ → ℕ → ℤ → ℕ → Option (Option Quintuple)
known_height tau oid r delta id = Some (Some (quintuple tau oid r delta id))

-- a view whose height is NULL
abbrev pub null_height : Option (Option Quintuple)
null_height = Some None

-- ---- the rows

pub record WorkedRows : Type 0 where
  pub query_is_answered_by_the_destinations_neighbour :
      (answers_of node_3 route_found ≡ nothing ∷ nothing ∷ only (update 0 0 0 (pos 1) 3) ∷ nothing ∷ [])
      × (shown_after node_3 route_found
      ≡ lines_of (codes "to 4 height (0,0,0,1,3) flag 0 hop 4" ∷ codes "via 2 (0,0,0,2,2) up"
      ∷ codes "via 4 (0,0,0,0,4) down" ∷ []))
  pub partition_is_detected_by_the_reflected_level :
      (answers_of (core_after_all node_3 route_found) (link_lost ++ level_comes_back)
      ≡ only (update 7 3 0 (pos 0) 3) ∷ nothing ∷ only (clear 7 3) ∷ [])
      × (shown_after node_3 (route_found ++ link_lost) ≡ lines_of
      (codes "to 4 height (7,3,0,0,3) flag 0 hop 2" ∷ codes "via 2 (0,0,0,2,2) down" ∷ []))
      × (shown_after node_3 (route_found ++ link_lost ++ level_comes_back)
      ≡ lines_of (codes "to 4 height - flag 0 hop -" ∷ codes "via 2 - none" ∷ []))
  pub line_of_four_joins :
      (heights_in joined_line ≡ known_height 0 0 0 (pos 3) 1 ∷ known_height 0 0 0 (pos 2) 2
      ∷ known_height 0 0 0 (pos 1) 3 ∷ known_height 0 0 0 (pos 0) 4 ∷ [])
      × (hops_in joined_line ≡ Some 2 ∷ Some 3 ∷ Some 4 ∷ None ∷ [])
      × (joined_line.sent ≡ (1, query) ∷ (2, query) ∷ (3, update 0 0 0 (pos 1) 3) ∷ (2, update 0 0 0 (pos 2) 2)
      ∷ (1, update 0 0 0 (pos 3) 1) ∷ [])
  pub line_of_four_detects_a_partition :
      (parted_line.sent
      ≡ (3, update 7 3 0 (pos 0) 3) ∷ (2, update 7 3 0 (negsuc 0) 2) ∷ (1, update 7 3 1 (pos 0) 1)
      ∷ (2, update 7 3 1 (negsuc 0) 2) ∷ (3, clear 7 3) ∷ (2, clear 7 3) ∷ (1, clear 7 3) ∷ [])
      × (heights_in parted_line ≡ null_height ∷ null_height ∷ null_height ∷ known_height 0 0 0 (pos 0) 4 ∷ [])
  pub reflection_of_another_node_gives_a_new_level :
      answers_of node_2 foreign_reflection ≡ nothing ∷ nothing ∷ only query ∷ only (update 0 0 0 (pos 2) 2) ∷ nothing
      ∷ only (update 8 2 0 (pos 0) 2) ∷ []
  pub clear_of_a_foreign_level_counts_as_link_failure :
      (answers_of (core_after_all node_2 foreign_reflection) ((From 1 (update 9 1 0 (pos 0) 1), 9)
      ∷ (From 3 (clear 7 9), 9) ∷ [])
      ≡ nothing ∷ only (update 10 2 0 (pos 0) 2) ∷ [])
      × (answers_of (core_after_all node_2 foreign_reflection) ((From 3 (clear 7 9), 9) ∷ []) ≡ nothing ∷ [])
      × (height_of (core_after_all node_2 (foreign_reflection ++ (From 3 (clear 7 9), 9) ∷ [])) 4 ≡ null_height)
  pub fresh_time_passes_a_clock_that_is_behind :
      answers_of node_3 clock_behind ≡ nothing ∷ nothing ∷ only (update 0 0 0 (pos 1) 3) ∷ nothing
      ∷ only (update 8 3 0 (pos 0) 3) ∷ []
  pub delta_out_of_range_gives_no_height :
      (answers_of node_2 greatest_delta ≡ nothing ∷ only query ∷ nothing ∷ [])
      × (shown_after node_2 greatest_delta ≡ lines_of (codes "to 4 height - flag 0 hop 3"
      ∷ codes "via 3 (0,0,0,1073741824,3) down" ∷ []))
  pub told_neighbour_gets_no_second_answer :
      answers_of (core_after_all node_3 route_found) asked_again
      ≡ nothing ∷ nothing ∷ nothing ∷ only (update 0 0 0 (pos 1) 3) ∷ []
  pub refusals_change_nothing :
      (option_map step_error_number (refusal_of node_3 (LinkUp 9)) ≡ Some 1)
      × (option_map step_error_number (refusal_of (core_after node_3 (LinkUp 2) 1) (LinkUp 2)) ≡ Some 2)
      × (option_map step_error_number (refusal_of node_3 (From 2 query)) ≡ Some 3)
      × (option_map step_error_number (refusal_of (core_after node_3 (LinkUp 2) 1) (From 2 (update 0 0 0 (pos 1) 3)))
      ≡ Some 4)
      × (option_map step_error_number (refusal_of node_3 (Need 99)) ≡ Some 5)
      × (core_after node_3 (LinkUp 9) 1 ≡ node_3)
      × (core_after node_3 (From 2 query) 1 ≡ node_3)
      × (core_after node_3 (Need 99) 1 ≡ node_3)
  pub sends_are_listed_by_destination :
      answers_of node_3_of_two two_needs ≡ nothing ∷ only (Qry 5) ∷ only query ∷ (update 0 0 0 (pos 1) 3 ∷ Qry 5 ∷ [])
      ∷ []
  -- the greatest delta at that level would give (7,9,0,3,2)
  pub propagation_takes_the_least_delta :
      answers_of node_2_of_three two_deltas
      ≡ nothing ∷ nothing ∷ nothing ∷ only query ∷ only (update 0 0 0 (pos 2) 2) ∷ nothing ∷ nothing
      ∷ only (update 7 9 0 (pos 0) 2) ∷ []
