-- A router, and the effect of each call.
use Rattle.std.specs.Prelude.{◌≡◌, ℕ, zero, suc, ◌+◌, ◌*◌, ◌==◌, ◌^◌, not, Bool, true, false, nat_lt, nat_le, ◌<◌}
use Rattle.std.specs.Prelude.{if◌then◌else◌, List, [], ◌∷◌, map, length, slice_get, Option, Some, None, option_map}
use Rattle.std.specs.Prelude.{Result, Ok, Err}
use Rattle.std.specs.List.{list_any}
use Rattle.tora_frame.specs.declared.FrameError.{FrameError}
use Rattle.tora_frame.specs.FrameGrammar.{frame_spelling}
use Rattle.tora_frame.specs.FrameParts.{FrameParts}
use Rattle.tora_frame.specs.declared.parts.Version.TheVariants.{Two}
use Rattle.tora_arq.specs.declared.link_event.LinkEvent.{LinkEvent}
use Rattle.tora_arq.specs.declared.times.Times.{Times}
use Rattle.tora_arq.specs.EndRange.{link_end_of}
use Rattle.tora_arq.specs.LinkEnd.{first_end}
use Rattle.tora_arq.specs.Settings.{settings_of}
use Rattle.tora_arq.specs.Still.{last_tick}
use Rattle.tora_core.specs.declared.errors.StepError.{StepError}
use Rattle.tora_core.specs.CoreRun.{CoreView, first_core_of, hop_of}
use Rattle.tora_core.specs.Kept.{destinations_of}
use Rattle.tora_seat.specs.declared.answer.Answer.{Answer}
use Rattle.tora_seat.specs.declared.answer.Answer.TheVariants as Says
use Rattle.tora_seat.specs.declared.cargo.Cargo.{Cargo}
use Rattle.tora_seat.specs.declared.item.Item.{Item}
use Rattle.tora_seat.specs.declared.what.What.{What}
use Rattle.tora_seat.specs.declared.what.What.TheVariants as Tells
use Rattle.tora_seat.specs.Between.{what_of}
use Rattle.tora_seat.specs.Offers.{place_of}
use Rattle.tora_seat.specs.Rows.{SeatView, state_of}
use Rattle.tora_seat.specs.Serving.{SeatState, Offer, Answers, Serving, serving_of}
use Rattle.tora_router.specs.declared.change.Change.{Change}
use Rattle.tora_router.specs.declared.change.Change.TheVariants as Changes
use Rattle.tora_router.specs.declared.change.News.{News}
use Rattle.tora_router.specs.declared.change.News.TheVariants as Became
use Rattle.tora_router.specs.declared.config.Config.{Config}
use Rattle.tora_router.specs.declared.hop.Hop.{Hop}
use Rattle.tora_router.specs.declared.intake.Intake.{Intake}
use Rattle.tora_router.specs.declared.intake.Intake.TheVariants.{NoNeighbour}
use Rattle.tora_router.specs.declared.link.Link.{Link}
use Rattle.tora_router.specs.Links.{first_tally, given, polled, ticked, intake_at, heard, frame_of_link, sent, cut}
use Rattle.tora_router.specs.Links.{told, at_place, first_in, to_peer, event_of, link_change, is_link_due, opens_at}
use Rattle.tora_router.specs.Links.{peer_at, waiting}

-- a router as its calls see it
pub record RouterView : Type 0 where
  pub seat : SeatView
  pub links : List Link  -- by ascending neighbour
  pub hops : List Hop  -- by ascending destination, the next hop that was polled last
  pub next_life : ℕ  -- the number for the end that is opened next

-- a router in the definitions
pub record RouterState : Type 0 where
  pub seat : SeatState
  pub links : List Link
  pub hops : List Hop
  pub next_life : ℕ

abbrev pub router_of : RouterView → RouterState
router_of r = record { seat = state_of r.seat; links = r.links; hops = r.hops; next_life = r.next_life }

-- there is a link for each neighbour
abbrev pub IsRouter : SeatView → List Link → Type 0
IsRouter seat links = length links ≡ length seat.core.neighbours

-- ---- a new router

abbrev pub new_link : ℕ → Times → ℕ → Link
new_link me times k = record {
  end = link_end_of (settings_of Two me k times) first_end;
  tally = first_tally;
  news = None;
}

abbrev pub new_hop : ℕ → Hop
new_hop d = record { destination = d; told = None }

abbrev pub router_with : CoreView → Times → ℕ → RouterState
router_with core times first_life = record {
  seat = record { core = core; current = λ k. None; pending = λ k. None };
  links = map (new_link core.me times) core.neighbours;
  hops = map new_hop (destinations_of core.views);
  next_life = first_life;
}

abbrev pub first_router : Config → List ℕ → List ℕ → ℕ → RouterState
first_router config neighbours destinations first_life =
    router_with (first_core_of config.erasure config.me neighbours destinations) config.times first_life

-- ---- an item is served

-- every cargo is put, and its link end takes it at once
abbrev pub all_put : Answers
all_put offers k = true

abbrev pub TakesCargo : List Link → ℕ → Cargo → Bool → List Link → Type 0
TakesCargo links place cargo put after = (put ≡ true) × (after ≡ at_place (given cargo) place links)

abbrev pub after_offers : List ℕ → List Offer → List Link → List Link
after_offers neighbours [] links = links
after_offers neighbours (o ∷ offers) links = after_offers neighbours offers
    (at_place (given o.cargo) (place_of o.to neighbours) links)

abbrev pub serving : RouterState → Item → Serving
serving r item = serving_of all_put r.seat.core.neighbours r.seat item

unfoldable pub after_item : RouterState → Item → RouterState
after_item r item = record r {
  seat = (serving r item).seat;
  links =
      after_offers r.seat.core.neighbours (serving r item).offers r.links;
}

-- ---- events are served until none waits

abbrev pub item_at : ℕ → ℕ → What → Item
item_at seat now what = record { seat = seat; number = 0; now = now; what = what }

abbrev pub after_event : ℕ → RouterState → Option (ℕ × LinkEvent) → RouterState
after_event now r None = r
after_event now r (Some found) = after_item (record r { links = at_place (polled found.1) found.0 r.links })
    (item_at found.0 now (what_of found.1))

-- the first event of the first link that has one
unfoldable pub after_first_event : ℕ → RouterState → RouterState
after_first_event now r = after_event now r (first_in event_of r.links)

abbrev pub after_events : ℕ → ℕ → RouterState → RouterState
after_events zero now r = r
after_events (suc count) now r = after_first_event now (after_events count now r)

-- the router after events are served until none waits: each served event reduces what waits, and only the ends of
-- sessions are added meanwhile
abbrev pub settled : ℕ → RouterState → RouterState
settled now r = after_events (waiting r.links) now r

-- ---- calls

abbrev pub next_number : Bool → ℕ → ℕ
next_number is_opened number = if is_opened then suc number else number

abbrev pub ticked_at : ℕ → ℕ → RouterState → RouterState
ticked_at place now r = record r {
  links = at_place (ticked r.next_life now) place r.links;
  next_life = next_number (opens_at r.next_life place r.links) r.next_life;
}

-- the router after the tick was passed to the links before a place, one after another
abbrev pub ticked_before : ℕ → ℕ → RouterState → RouterState
ticked_before zero now r = r
ticked_before (suc place) now r = ticked_at place now (ticked_before place now r)

abbrev pub after_tick : ℕ → RouterState → RouterState
after_tick now r = settled now (ticked_before (length r.links) now r)

abbrev pub at_link : {A : Type 0} → A → (ℕ → A) → Option (ℕ × Unit {0}) → A
at_link none some None = none
at_link none some (Some found) = some found.0

-- the outcome of a datagram; `NoNeighbour` if the node is not a neighbour
abbrev pub intake_from : ℕ → ℕ → Result FrameParts FrameError → RouterState → Intake
intake_from k now reading r =
    at_link NoNeighbour (λ place. intake_at now reading place r.links) (first_in (to_peer k) r.links)

abbrev pub after_datagram : ℕ → ℕ → Result FrameParts FrameError → RouterState → RouterState
after_datagram k now reading r = at_link r (λ place. settled now
    (record r { links = at_place (heard now reading) place r.links })) (first_in (to_peer k) r.links)

-- the item of a need; the seat of the commands comes after those of the links
abbrev pub need_item : RouterState → ℕ → ℕ → Item
need_item r d now = item_at (length r.links) now (Tells.Need d)

abbrev pub result_of : Answer → Result (Unit {0}) StepError
result_of Says.Nothing = Ok tt
result_of (Says.Refused error) = Err error
result_of Says.Show = Ok tt
result_of Says.Quit = Ok tt

abbrev pub need_result : RouterState → ℕ → ℕ → Result (Unit {0}) StepError
need_result r d now = result_of (serving r (need_item r d now)).answer

abbrev pub after_need : ℕ → ℕ → RouterState → RouterState
after_need d now r = settled now (after_item r (need_item r d now))

abbrev pub after_cut : ℕ → ℕ → RouterState → RouterState
after_cut k now r =
    at_link r (λ place. settled now (record r { links = at_place cut place r.links })) (first_in (to_peer k) r.links)

-- the place of the first link with a frame due, and the frame
abbrev pub frame_in : ℕ → RouterState → Option (ℕ × FrameParts)
frame_in now r = first_in (frame_of_link now) r.links

-- the receiver of a datagram, and its length in bytes
abbrev pub datagram_of : RouterState → ℕ × FrameParts → ℕ × ℕ
datagram_of r found = (peer_at found.0 r.links, length (frame_spelling found.1))

abbrev pub after_frame : ℕ → RouterState → Option (ℕ × FrameParts) → RouterState
after_frame now r None = r
after_frame now r (Some found) = record r { links = at_place (sent now) found.0 r.links }

abbrev pub after_poll_datagram : ℕ → RouterState → RouterState
after_poll_datagram now r = after_frame now r (frame_in now r)

-- ---- changes

abbrev pub is_same_hop : Option ℕ → Option ℕ → Bool
is_same_hop None None = true
is_same_hop None (Some k) = false
is_same_hop (Some j) None = false
is_same_hop (Some j) (Some k) = j == k

-- the next hop to a destination, if it differs from the one polled last
abbrev pub hop_change : CoreView → Hop → Option Change
hop_change core hop =
    if is_same_hop hop.told (hop_of core hop.destination) then None
    else Some (Changes.NextHop hop.destination (hop_of core hop.destination))

abbrev pub hop_told : CoreView → Hop → Hop
hop_told core hop = record hop { told = hop_of core hop.destination }

-- changes of links first, and then changes of next hops
abbrev pub found_change : Option (ℕ × Change) → Option (ℕ × Change) → Option Change
found_change (Some link) hop = Some link.1
found_change None (Some hop) = Some hop.1
found_change None None = None

abbrev pub change_in : RouterState → Option Change
change_in r = found_change (first_in link_change r.links) (first_in (hop_change r.seat.core) r.hops)

abbrev pub after_change : RouterState → Option (ℕ × Change) → Option (ℕ × Change) → RouterState
after_change r (Some link) hop = record r { links = at_place told link.0 r.links }
after_change r None (Some hop) = record r { hops = at_place (hop_told r.seat.core) hop.0 r.hops }
after_change r None None = r

abbrev pub after_poll_change : RouterState → RouterState
after_poll_change r = after_change r (first_in link_change r.links) (first_in (hop_change r.seat.core) r.hops)

-- ---- when something is due

-- the tick from which on a frame is due or a tick changes something; the last tick if that never happens
abbrev pub IsNextDue : RouterState → ℕ → Type 0
IsNextDue r next = (tick : ℕ) → tick < last_tick → nat_le next tick ≡ list_any (is_link_due r.next_life tick) r.links
