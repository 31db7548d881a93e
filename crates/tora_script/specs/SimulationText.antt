-- The output of a simulation for an input, and how the input ends.
use Rattle.std.specs.Prelude.{ℕ, ◌-◌, min, nat_le, false, ◌==◌, ◌&&◌, ◌||◌, Bool, not, if◌then◌else◌, codes, List, []}
use Rattle.std.specs.Prelude.{◌∷◌, ◌++◌, length, filter, Option, Some, None, option_map, unwrap_or}
use Rattle.std.specs.List.{flat_map, list_any}
use Rattle.std.specs.Option.{option_and_then}
use Rattle.std.specs.Fmt.{decimal}
use Rattle.tora_height.specs.Height.{Quintuple}
use Rattle.tora_arq.specs.declared.times.Times.{Times}
use Rattle.tora_core.specs.Numbers.{has_number}
use Rattle.tora_core.specs.ShowText.{height_text, hop_text}
use Rattle.tora_world.specs.declared.event.Event.{Event}
use Rattle.tora_world.specs.declared.sim_error.SimError.{SimError}
use Rattle.tora_world.specs.Errors.{sim_error_number}
use Rattle.tora_world.specs.World.{World, refusal_of, world_after, sent_packets, taken_packets}
use Rattle.tora_lines.specs.LineText.{Rules, numbered, whole_text, fault_of, IsFirstFaultBy}
use Rattle.tora_lines.specs.Engine.{IsWholeText, IsFrontOfText}
use Rattle.tora_script.specs.SimulationLines.{dests_of, link_of, mark_of, simulation_line_of}
use Rattle.tora_script.specs.Rounds.{Sky, is_same_pair, is_parted, rounds}
use Rattle.tora_script.specs.InFlight.{InFlightView, first_in_flight}
use Rattle.tora_script.specs.declared.channel.channel.Channel.{Channel}
use Rattle.tora_script.specs.declared.channel.line.ChannelLine.{ChannelLine}
use Rattle.tora_script.specs.Table.{Channels, alone}
use Rattle.tora_world.specs.declared.limits.Limits.{Limits}
use Rattle.tora_script.specs.declared.setup.Setup.{Setup}
use Rattle.tora_script.specs.Setup.{plain}
use Rattle.tora_world.specs.Walks.{height_at, hop_at, exact_in, walk_of}
use Rattle.tora_world.specs.Rest.{rests}
use Rattle.tora_sim.specs.Cuts.{after_cut_at}
use Rattle.tora_sim.specs.Readers.{ends_in}
use Rattle.tora_script.specs.declared.node_marks.Mark.{Mark}
use Rattle.tora_script.specs.Marks.{marked}
use Rattle.tora_script.specs.Simulator.{has_topology, started, nodes_of}
use Rattle.tora_lines.specs.declared.ended.Ended.{Ended}
use Rattle.tora_script.specs.declared.script_line.SimulationLine.{SimulationLine}
use Rattle.tora_script.specs.declared.script_line.SimulationLine.TheVariants.{Happens, Rounds, Part, Mend, Heights}
use Rattle.tora_script.specs.declared.script_line.SimulationLine.TheVariants.{Sent, Taken, Exact, Walk, Rest}

-- ---- the state between two lines

-- a simulation after its links
pub record RunningView : Type 0 where
  pub dests : List ℕ  -- the destinations
  pub nodes : List ℕ  -- the nodes, ascending
  pub ends : List (ℕ × ℕ)  -- the link ends, by ascending node and then neighbour
  pub parted : List (ℕ × ℕ)  -- the pairs of nodes between which rounds deliver nothing
  pub channel : Channel  -- the channel of the rounds
  pub in_flight : InFlightView  -- the number of rounds so far, and the delayed copies
  pub has_notice : Bool  -- whether both ends of a parted link cut its session at once
  pub world : World

pub data Progress : Type 0 where
  First : Progress  -- before the first line
  -- the destinations, and the lines so far about links and about single nodes
  Links : (dests : List ℕ) (links : List (ℕ × ℕ)) (marks : List Mark) → Progress
  Runs : RunningView → Progress

-- a simulation with these destinations and settings that begins in a world
abbrev pub begun_in : List ℕ → Setup → World → RunningView
begun_in dests setup w = record {
  dests = dests;
  nodes = nodes_of w;
  ends = ends_in w.topology;
  parted = [];
  channel = setup.channel;
  in_flight = first_in_flight;
  has_notice = setup.has_notice;
  world = w;
}

-- ---- a line after the links

abbrev pub Reply : Type 0
Reply = RunningView × List ℕ

abbrev pub refusal_text : Option SimError → List ℕ
refusal_text None = []
refusal_text (Some error) = numbered (codes "refused ") (sim_error_number error)

-- the reply to an event: no text, or `refused N` if it changes nothing
abbrev pub event_reply : RunningView → Event → Reply
event_reply s event = (record s { world = world_after s.world event }, refusal_text (refusal_of s.world event))

abbrev pub with_sky : RunningView → Sky → RunningView
with_sky s sky = record s { world = sky.world; in_flight = sky.in_flight }

-- the simulation after this many rounds over a channel
abbrev pub after_rounds_on : Channels → ℕ → RunningView → RunningView
after_rounds_on channel r s =
    with_sky s (rounds r s.nodes s.ends s.parted channel (record { world = s.world; in_flight = s.in_flight }))

abbrev pub after_rounds : ℕ → RunningView → RunningView
after_rounds r s = after_rounds_on (alone s.channel) r s

-- there is a link between the nodes
abbrev pub has_end : ℕ → ℕ → List (ℕ × ℕ) → Bool
has_end a b ends = list_any (λ e. (e.0 == a) && (e.1 == b)) ends

abbrev pub with_parted : ℕ → ℕ → List (ℕ × ℕ) → List (ℕ × ℕ)
with_parted a b parted = if is_parted parted a b then parted else parted ++ (a, b) ∷ []

abbrev pub without_parted : ℕ → ℕ → List (ℕ × ℕ) → List (ℕ × ℕ)
without_parted a b parted = filter (λ p. not (is_same_pair (a, b) p)) parted

-- both ends of a link cut the session that they are bound to
abbrev pub cut_both : ℕ → ℕ → World → World
cut_both a b w = after_cut_at (after_cut_at w a b) b a

-- the simulation after two nodes are parted
abbrev pub part_of : RunningView → ℕ → ℕ → RunningView
part_of s a b = record s {
  parted = with_parted a b s.parted;
  world = if s.has_notice then cut_both a b s.world
      else s.world;
}

-- the height for a destination; NULL if the table does not have the destination
abbrev pub known_height : Option (Option Quintuple) → Option Quintuple
known_height None = None
known_height (Some entry) = entry

-- `node N H hop K`
unfoldable pub node_line : World → ℕ → ℕ → List ℕ
node_line w d n = codes "node " ++ decimal n ++ codes " " ++ height_text (known_height (height_at w n d))
    ++ codes " hop " ++ hop_text (hop_at w n d) ++ 10 ∷ []

-- the line `node N H hop K` of each node
abbrev pub heights_text : World → ℕ → List ℕ → List ℕ
heights_text w d nodes = flat_map (node_line w d) nodes

-- the reply to `heights D`; None if D is not a destination of the simulation
abbrev pub heights_reply : RunningView → ℕ → Option Reply
heights_reply s d = if has_number d s.dests then Some (s, heights_text s.world d s.nodes) else None

-- `count C`
abbrev pub count_text : ℕ → List ℕ
count_text n = numbered (codes "count ") n

-- a reply, or None if there is no link between the two nodes
abbrev pub where_linked : RunningView → ℕ → ℕ → Reply → Option Reply
where_linked s a b reply = if has_end a b s.ends then Some reply else None

-- `exact 1` if the entries for a destination are exact, otherwise `exact 0`
abbrev pub exact_text : Bool → List ℕ
exact_text is_exact = numbered (codes "exact ") (if is_exact then 1 else 0)

abbrev pub exact_reply : RunningView → ℕ → Option Reply
exact_reply s d = if has_number d s.dests then Some (s, exact_text (exact_in s.world d)) else None

-- a comma and the number of a node
abbrev pub next_text : ℕ → List ℕ
next_text n = 44 ∷ decimal n

-- the nodes of a walk after the first, each after a comma
abbrev pub rest_text : List ℕ → List ℕ
rest_text nodes = flat_map next_text nodes

-- `walk LIST`, or `walk -` if there is no walk
abbrev pub nodes_text : List ℕ → List ℕ
nodes_text [] = codes "walk -" ++ 10 ∷ []
nodes_text (n ∷ nodes) = codes "walk " ++ decimal n ++ rest_text nodes ++ 10 ∷ []

unfoldable pub walk_text : Option (List ℕ) → List ℕ
walk_text walk = nodes_text (unwrap_or walk [])

-- the reply to `walk N D`; None if there is no node N, or if D is not a destination of the simulation
abbrev pub walk_reply : RunningView → ℕ → ℕ → Option Reply
walk_reply s n d =
    if has_number n s.nodes && has_number d s.dests then Some (s, walk_text (walk_of s.world n d)) else None

-- `rest yes` if the world is at rest, otherwise `rest no`
abbrev pub at_rest_text : Bool → List ℕ
at_rest_text is_at_rest = (if is_at_rest then codes "rest yes" else codes "rest no") ++ 10 ∷ []

abbrev pub at_rest_reply : RunningView → Reply
at_rest_reply s = (s, at_rest_text (rests s.world))

unfoldable pub running_reply : RunningView → SimulationLine → Option Reply
running_reply s (Happens event) = Some (event_reply s event)
running_reply s (Rounds r) = Some (after_rounds r s, [])
running_reply s (Part a b) = where_linked s a b (part_of s a b, [])
running_reply s (Mend a b) = where_linked s a b (record s { parted = without_parted a b s.parted }, [])
running_reply s (Heights d) = heights_reply s d
running_reply s (Sent a b life) = where_linked s a b (s, count_text (length (sent_packets s.world a b life)))
running_reply s (Taken b a life) = where_linked s b a (s, count_text (length (taken_packets s.world b a life)))
running_reply s (Exact d) = exact_reply s d
running_reply s (Walk n d) = walk_reply s n d
running_reply s Rest = Some (at_rest_reply s)

-- ---- a line of a simulation with a last round, over a channel that a table changes by round

-- the last round is done, so later lines do nothing
abbrev pub is_done : Option ℕ → ℕ → Bool
is_done None round = false
is_done (Some until) round = nat_le until round

-- how many of some rounds `--until` still allows
abbrev pub rounds_left : Option ℕ → ℕ → ℕ → ℕ
rounds_left None round r = r
rounds_left (Some until) round r = min r (until - round)

-- the reply to a line: rounds run over the channel that the table changes, up to the last round; every other line has
-- the reply that it has without a table
unfoldable pub script_reply : Option ℕ → List ChannelLine → RunningView → SimulationLine → Option Reply
script_reply until table s (Rounds r) = Some (
  after_rounds_on (record { base = s.channel; lines = table })
      (rounds_left until s.in_flight.round r) s,
  [],
)
script_reply until table s (Happens event) = running_reply s (Happens event)
script_reply until table s (Part a b) = running_reply s (Part a b)
script_reply until table s (Mend a b) = running_reply s (Mend a b)
script_reply until table s (Heights d) = running_reply s (Heights d)
script_reply until table s (Sent a b life) = running_reply s (Sent a b life)
script_reply until table s (Taken b a life) = running_reply s (Taken b a life)
script_reply until table s (Exact d) = running_reply s (Exact d)
script_reply until table s (Walk n d) = running_reply s (Walk n d)
script_reply until table s Rest = running_reply s Rest

-- the reply to a line; after the last round every line is accepted, whatever it says, and prints nothing
abbrev pub script_line_reply : Option ℕ → List ChannelLine → RunningView → List ℕ → Option Reply
script_line_reply until table s line = if is_done until s.in_flight.round then Some (s, [])
    else option_and_then (script_reply until table s) (simulation_line_of line)

-- ---- a line before the simulation runs

-- the stage with one more link; None after a line about a node
abbrev pub with_link : List ℕ → List (ℕ × ℕ) → List Mark → ℕ × ℕ → Option Progress
with_link dests links [] link = Some (Links dests (links ++ link ∷ []) [])
with_link dests links (mark ∷ marks) link = None

-- a link names the node
abbrev pub is_linked : ℕ → List (ℕ × ℕ) → Bool
is_linked n links = list_any (λ p. (p.0 == n) || (p.1 == n)) links

-- the stage with one more line about a node; None unless a link names the node and there is a topology of the links
-- within the limits
abbrev pub with_mark_line : Limits → List ℕ → List (ℕ × ℕ) → List Mark → Mark → Option Progress
with_mark_line limits dests links marks mark = if is_linked (marked mark) links && has_topology limits links dests
    then Some (Links dests links (marks ++ mark ∷ [])) else None

-- ---- any line

abbrev pub left_by : Reply → Progress × List ℕ
left_by r = (Runs r.0, r.1)

-- a stage, with no output
abbrev pub silent : Progress → Progress × List ℕ
silent progress = (progress, [])

-- the reply to the first line after the links: the world is made, and the line is carried out
abbrev pub first_run : Setup → List ChannelLine → List ℕ → List (ℕ × ℕ) → List Mark → List ℕ → Option Reply
first_run setup table dests links marks line = option_and_then (λ w.
    script_line_reply setup.until table (begun_in dests setup w) line)
    (started setup.options links dests marks setup.times)

-- the first line after the links and the lines about nodes: at least one link is required
abbrev pub behind_links : Setup → List ChannelLine → List ℕ → List (ℕ × ℕ) → List Mark → List ℕ
    → Option (Progress × List ℕ)
behind_links setup table dests [] marks line = None
behind_links setup table dests (link ∷ links) marks line = option_map left_by
    (first_run setup table dests (link ∷ links) marks line)

-- `behind_links` at any stage; None unless the stage is `Links`
abbrev pub run_begun : Setup → List ChannelLine → Progress → List ℕ → Option (Progress × List ℕ)
run_begun setup table First line = None
run_begun setup table (Links dests links marks) line = behind_links setup table dests links marks line
run_begun setup table (Runs s) line = None

-- a line after the first line: a link, a line about a node, or the first line of the running simulation
abbrev pub link_reply : Setup → List ChannelLine → List ℕ → List (ℕ × ℕ) → List Mark → List ℕ → Option (ℕ × ℕ)
    → Option Mark → Option (Progress × List ℕ)
link_reply setup table dests links marks line (Some link) mark = option_map silent (with_link dests links marks link)
link_reply setup table dests links marks line None (Some mark) =
    option_map silent (with_mark_line setup.options.limits dests links marks mark)
link_reply setup table dests links marks line None None = behind_links setup table dests links marks line

-- the stage after the first line
abbrev pub first_progress : List ℕ → Option Progress
first_progress line = option_map (λ dests. Links dests [] []) (dests_of line)

unfoldable pub simulation_reply : Setup → List ChannelLine → Progress → List ℕ → Option (Progress × List ℕ)
simulation_reply setup table First line = option_map silent (first_progress line)
simulation_reply setup table (Links dests links marks) line = link_reply setup table dests links marks line
    (link_of line) (mark_of line)
simulation_reply setup table (Runs s) line = option_map left_by (script_line_reply setup.until table s line)

-- ---- the end

-- the line that is a fault if the input ends after the first line: the next line if there is no link, the last line if
-- there is no such topology
abbrev pub end_of_links : Limits → ℕ → List ℕ → List (ℕ × ℕ) → Option ℕ
end_of_links limits n dests [] = Some n
end_of_links limits n dests (link ∷ links) = if has_topology limits (link ∷ links) dests then None else Some (n - 1)

unfoldable pub simulation_at_end : Setup → Progress → ℕ → Option ℕ
simulation_at_end setup First n = Some n
simulation_at_end setup (Links dests links marks) n = end_of_links setup.options.limits n dests links
simulation_at_end setup (Runs s) n = None

-- the rules of a simulation with these settings, over a channel that the lines of a table change
abbrev pub rules_with : Setup → List ChannelLine → Rules Progress
rules_with setup table = record {
  start = First;
  reply = simulation_reply setup table;
  at_end = simulation_at_end setup;
}

-- the rules without a table
abbrev pub rules_over : Setup → Rules Progress
rules_over setup = rules_with setup []

-- ---- all lines

-- the output for an input
abbrev pub text_over : Setup → List ℕ → List ℕ
text_over setup bytes = (whole_text (rules_over setup) bytes).0

-- how an input ends
abbrev pub end_over : Setup → List ℕ → Ended
end_over setup bytes = (whole_text (rules_over setup) bytes).1

-- the number of the first line that is a fault, if one is
abbrev pub first_fault_over : Setup → List ℕ → Option ℕ
first_fault_over setup bytes = fault_of (end_over setup bytes)

-- of the lines from line n on, line m is the first fault
abbrev pub IsFirstFaultOver : Setup → Progress → ℕ → List (List ℕ) → ℕ → Type 0
IsFirstFaultOver setup progress n lines m = IsFirstFaultBy (rules_over setup) progress n lines m

-- ---- what `simulate` promises

-- The known bytes grew by the output for the input, and the input ends as the result says.
abbrev pub SimulatesOver : Setup → List ℕ → Option (List ℕ) → Option (List ℕ) → Ended → Type 0
SimulatesOver setup input old new ended = IsWholeText (whole_text (rules_over setup)) input old new ended

-- The reader returned some bytes, and the writer got a prefix of the output for them.
abbrev pub IsBegunOver : Setup → Option (List ℕ) → Option (List ℕ) → Option (List ℕ) → Option (List ℕ) → Type 0
IsBegunOver setup old_reader new_reader old_writer new_writer =
    IsFrontOfText (whole_text (rules_over setup)) old_reader new_reader old_writer new_writer

-- ---- the same over a channel that the lines of a table change

-- the output for an input
abbrev pub text_with : Setup → List ChannelLine → List ℕ → List ℕ
text_with setup table bytes = (whole_text (rules_with setup table) bytes).0

-- how an input ends
abbrev pub end_with : Setup → List ChannelLine → List ℕ → Ended
end_with setup table bytes = (whole_text (rules_with setup table) bytes).1

-- the number of the first line that is a fault, if one is
abbrev pub first_fault_with : Setup → List ChannelLine → List ℕ → Option ℕ
first_fault_with setup table bytes = fault_of (end_with setup table bytes)

-- of the lines from line n on, line m is the first fault
abbrev pub IsFirstFaultWith : Setup → List ChannelLine → Progress → ℕ → List (List ℕ) → ℕ → Type 0
IsFirstFaultWith setup table progress n lines m = IsFirstFaultBy (rules_with setup table) progress n lines m

-- The known bytes grew by the output for the input, and the input ends as the result says.
abbrev pub SimulatesWith : Setup → List ChannelLine → List ℕ → Option (List ℕ) → Option (List ℕ) → Ended → Type 0
SimulatesWith setup table input old new ended = IsWholeText (whole_text (rules_with setup table)) input old new ended

-- The reader returned some bytes, and the writer got a prefix of the output for them.
abbrev pub IsBegunWith : Setup → List ChannelLine → Option (List ℕ) → Option (List ℕ) → Option (List ℕ)
    → Option (List ℕ) → Type 0
IsBegunWith setup table old_reader new_reader old_writer new_writer =
    IsFrontOfText (whole_text (rules_with setup table)) old_reader new_reader old_writer new_writer

-- ---- the same for a simulation whose link ends have these times, over a channel that delivers every datagram at once
-- and once

abbrev pub simulation_rules : Times → Rules Progress
simulation_rules times = rules_over (plain times)

abbrev pub simulation_text : Times → List ℕ → List ℕ
simulation_text times bytes = text_over (plain times) bytes

abbrev pub simulation_end : Times → List ℕ → Ended
simulation_end times bytes = end_over (plain times) bytes

abbrev pub first_simulation_fault : Times → List ℕ → Option ℕ
first_simulation_fault times bytes = first_fault_over (plain times) bytes

abbrev pub IsFirstSimulationFault : Times → Progress → ℕ → List (List ℕ) → ℕ → Type 0
IsFirstSimulationFault times progress n lines m = IsFirstFaultOver (plain times) progress n lines m

abbrev pub Simulates : Times → List ℕ → Option (List ℕ) → Option (List ℕ) → Ended → Type 0
Simulates times input old new ended = SimulatesOver (plain times) input old new ended

abbrev pub IsSimulationBegun : Times → Option (List ℕ) → Option (List ℕ) → Option (List ℕ) → Option (List ℕ) → Type 0
IsSimulationBegun times old_reader new_reader old_writer new_writer =
    IsBegunOver (plain times) old_reader new_reader old_writer new_writer
