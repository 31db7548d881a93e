-- A node's core: its links, its views of all destinations, and its run over inputs.
use Rattle.std.specs.Prelude.{ℕ, ◌==◌, ◌||◌, Bool, true, false, not, nat_lt, is_some, if◌then◌else◌, List, [], ◌∷◌}
use Rattle.std.specs.Prelude.{length, map, filter_map, find, Option, None, Some, option_map, option_and_then}
use Rattle.std.specs.Option.{option_map_or}
use Rattle.std.specs.List.{list_any}
use Rattle.tora_height.specs.Height.{Quintuple}
use Rattle.tora_packet.specs.declared.Packet.{Packet}
use Rattle.tora_packet.specs.declared.Packet.TheVariants.{Qry, Upd, Clr}
use Rattle.tora_packet.specs.AnyPacket.{destination_of}
use Rattle.tora_core.specs.declared.erasure.Erasure.{Erasure}
use Rattle.tora_core.specs.declared.erasure.Erasure.TheVariants.{Plain}
use Rattle.tora_core.specs.declared.Input.{Input}
use Rattle.tora_core.specs.declared.Input.TheVariants as In
use Rattle.tora_core.specs.declared.errors.StepError.{StepError}
use Rattle.tora_core.specs.declared.errors.StepError.TheVariants as Fault
use Rattle.tora_core.specs.declared.errors.CoreError.{CoreError}
use Rattle.tora_core.specs.declared.errors.CoreError.TheVariants as Refusal
use Rattle.tora_core.specs.declared.TheConstants.{MOST_DESTINATIONS, MOST_NEIGHBOURS}
use Rattle.tora_core.specs.Numbers.{has_number, with_number, without_number, ascending, has_repeat}
use Rattle.tora_core.specs.View.{View, downstream_count, first_view_of, next_hop_of}
use Rattle.tora_core.specs.Rules.{view_after, packet_sent}

pub record CoreView : Type 0 where
  pub me : ℕ  -- the node
  pub erasure : Erasure  -- how it treats erased levels
  pub neighbours : List ℕ  -- the configured neighbours, ascending
  pub up : List ℕ  -- the neighbours whose link is up, ascending
  pub views : List View  -- one for each destination, ascending

-- ---- a new core

-- why a core is refused within limits on neighbours and destinations: the first cause that applies
abbrev pub core_refusal_within : ℕ → ℕ → ℕ → List ℕ → List ℕ → Option CoreError
core_refusal_within most_neighbours most_destinations me neighbours destinations =
    if nat_lt most_neighbours (length neighbours) || nat_lt most_destinations (length destinations) then Some
    Refusal.TooMany
    else if has_repeat neighbours || has_repeat destinations then Some Refusal.Repeated
    else if has_number me neighbours then Some Refusal.OwnId
    else None

-- why a core is refused within the standard limits
abbrev pub core_refusal : ℕ → List ℕ → List ℕ → Option CoreError
core_refusal me neighbours destinations =
    core_refusal_within MOST_NEIGHBOURS MOST_DESTINATIONS me neighbours destinations

abbrev pub first_core_of : Erasure → ℕ → List ℕ → List ℕ → CoreView
first_core_of erasure me neighbours destinations = record {
  me = me;
  erasure = erasure;
  neighbours = ascending neighbours;
  up = [];
  views = map (first_view_of erasure me) (ascending destinations);
}

-- a new core of a node with Erasure::Plain
abbrev pub first_core : ℕ → List ℕ → List ℕ → CoreView
first_core me neighbours destinations = first_core_of Plain me neighbours destinations

-- ---- refused inputs

-- the view has this destination
abbrev pub is_of : ℕ → View → Bool
is_of d v = v.destination == d

abbrev pub has_destination : ℕ → List View → Bool
has_destination d views = list_any (is_of d) views

-- the sender of an update is the node whose height it carries
abbrev pub is_from : ℕ → Packet → Bool
is_from k (Qry d) = true
is_from k (Upd u) = u.height.id == k
is_from k (Clr c) = true

-- why an input over the link to k is refused; the flag says whether the link must be up
abbrev pub link_fault : CoreView → ℕ → Bool → Option StepError
link_fault c k is_up =
    if not (has_number k c.neighbours) then Some Fault.UnknownNeighbour
    else if is_up then (if not (has_number k c.up) then Some Fault.NotUp else None)
    else (if has_number k c.up then Some Fault.AlreadyUp else None)

-- why an input is refused: the first cause that applies
abbrev pub refusal_of : CoreView → Input → Option StepError
refusal_of c (In.LinkUp k) =
    if not (has_number k c.neighbours) then Some Fault.UnknownNeighbour
    else if has_number k c.up then Some Fault.AlreadyUp
    else None
refusal_of c (In.LinkDown k) =
    if not (has_number k c.neighbours) then Some Fault.UnknownNeighbour
    else if not (has_number k c.up) then Some Fault.NotUp
    else None
refusal_of c (In.Packet k packet) =
    if not (has_number k c.neighbours) then Some Fault.UnknownNeighbour
    else if not (has_number k c.up) then Some Fault.NotUp
    else if not (is_from k packet) then Some Fault.WrongSender
    else None
refusal_of c (In.Need d) = if has_destination d c.views then None else Some Fault.UnknownDestination

-- ---- one input

-- the destination of a need or a packet; None for an input about a link
abbrev pub own_destination : Input → Option ℕ
own_destination (In.Need d) = Some d
own_destination (In.LinkUp k) = None
own_destination (In.LinkDown k) = None
own_destination (In.Packet k packet) = Some (destination_of packet)

-- a need and a packet concern their own destination, and an input about a link concerns every destination
abbrev pub concerns : Input → ℕ → Bool
concerns input destination = option_map_or (λ d. destination == d) (own_destination input) true

abbrev pub next_view : Input → ℕ → View → View
next_view input now v = if concerns input v.destination then view_after v input now else v

abbrev pub next_packet : Input → ℕ → View → Option Packet
next_packet input now v = if concerns input v.destination then packet_sent v input now else None

-- the up neighbours after an input
abbrev pub up_after : List ℕ → Input → List ℕ
up_after up (In.Need d) = up
up_after up (In.LinkUp k) = with_number k up
up_after up (In.LinkDown k) = without_number k up
up_after up (In.Packet k packet) = up

-- the core after an accepted input
abbrev pub core_taking : CoreView → Input → ℕ → CoreView
core_taking c input now = record c { up = up_after c.up input; views = map (next_view input now) c.views }

-- the core after any input; a refused one changes nothing
abbrev pub core_after : CoreView → Input → ℕ → CoreView
core_after c input now = if is_some (refusal_of c input) then c else core_taking c input now

-- the packets to broadcast, by ascending destination; a refused input sends none
abbrev pub sends_of : CoreView → Input → ℕ → List Packet
sends_of c input now = if is_some (refusal_of c input) then [] else filter_map (next_packet input now) c.views

-- the core after inputs, each with its tick
abbrev pub core_after_all : CoreView → List (Input × ℕ) → CoreView
core_after_all c [] = c
core_after_all c ((input, now) ∷ inputs) = core_after_all (core_after c input now) inputs

-- ---- questions about a core

-- the view of a destination, if the table has it
abbrev pub view_of : CoreView → ℕ → Option View
view_of c d = find (is_of d) c.views

abbrev pub height_of : CoreView → ℕ → Option (Option Quintuple)
height_of c d = option_map (λ v. v.height) (view_of c d)

-- the entry of a neighbour in a view, if its link is up
abbrev pub entry_in : ℕ → View → Option (Option Quintuple)
entry_in k v = option_map (λ row. row.entry) (find (λ row. row.neighbour == k) v.rows)

abbrev pub entry_of : CoreView → ℕ → ℕ → Option (Option Quintuple)
entry_of c d k = option_and_then (entry_in k) (view_of c d)

abbrev pub flag_of : CoreView → ℕ → Bool
flag_of c d = option_map_or (λ v. v.flag) (view_of c d) false

-- how many neighbours are downstream, if the table has the destination
abbrev pub downstream_of : CoreView → ℕ → Option ℕ
downstream_of c d = option_map downstream_count (view_of c d)

abbrev pub hop_of : CoreView → ℕ → Option ℕ
hop_of c d = option_and_then next_hop_of (view_of c d)
