-- The links of a router, and the effect of each call on one.
use Rattle.std.specs.Prelude.{ℕ, zero, suc, ◌+◌, ◌-◌, ◌^◌, ◌==◌, ◌&&◌, ◌||◌, min, nat_lt, nat_le, Bool, false}
use Rattle.std.specs.Prelude.{if◌then◌else◌, List, [], ◌∷◌, length, slice_get, Option, Some, None, option_map, Result}
use Rattle.std.specs.Prelude.{Ok, Err}
use Rattle.std.specs.Option.{option_map_or}
use Rattle.tora_frame.specs.declared.FrameError.{FrameError}
use Rattle.tora_frame.specs.FrameParts.{FrameParts}
use Rattle.tora_arq.specs.declared.link_event.LinkEvent.{LinkEvent}
use Rattle.tora_arq.specs.declared.link_event.LinkEvent.TheVariants as Event
use Rattle.tora_arq.specs.declared.phase.Phase.{Phase}
use Rattle.tora_arq.specs.declared.phase.Phase.TheVariants.{Closed, Unbound, Bound}
use Rattle.tora_arq.specs.declared.verdict.Verdict.TheVariants.{Accepted, Repeated, Ahead, Stale, Foreign, Busy}
use Rattle.tora_arq.specs.EndRange.{LinkEndView}
use Rattle.tora_arq.specs.LinkEnd.{EndState, is_closed, bound_life, after_open, after_tick, after_frame, verdict_of}
use Rattle.tora_arq.specs.LinkEnd.{first_event, after_poll_event, frame_due, after_transmit}
use Rattle.tora_arq.specs.NextDue.{is_any_due}
use Rattle.tora_seat.specs.declared.cargo.Cargo.{Cargo}
use Rattle.tora_seat.specs.Between.{after_cargo, after_cut_of_bound}
use Rattle.tora_router.specs.declared.TheConstants.{GREATEST_LIFE}
use Rattle.tora_router.specs.declared.change.Change.{Change}
use Rattle.tora_router.specs.declared.change.Change.TheVariants as Changes
use Rattle.tora_router.specs.declared.change.News.{News}
use Rattle.tora_router.specs.declared.change.News.TheVariants as Tells
use Rattle.tora_router.specs.declared.intake.Intake.{Intake}
use Rattle.tora_router.specs.declared.intake.Intake.TheVariants.{NoNeighbour, Bad, Seen}
use Rattle.tora_router.specs.declared.link.Link.{Link}
use Rattle.tora_router.specs.declared.tally.Tally.{Tally}

-- ---- tallies

abbrev pub first_tally : Tally
first_tally = record { accepted = 0; repeated = 0; ahead = 0; stale = 0; foreign = 0; busy = 0; bad = 0 }

-- one more; the count stops at 2^64 - 1
abbrev pub one_more : ℕ → ℕ
one_more n = min (n + 1) (2 ^ 64 - 1)

abbrev pub counted : Intake → Tally → Tally
counted NoNeighbour t = t
counted (Bad error) t = record t { bad = one_more t.bad }
counted (Seen Accepted) t = record t { accepted = one_more t.accepted }
counted (Seen Repeated) t = record t { repeated = one_more t.repeated }
counted (Seen Ahead) t = record t { ahead = one_more t.ahead }
counted (Seen Stale) t = record t { stale = one_more t.stale }
counted (Seen Foreign) t = record t { foreign = one_more t.foreign }
counted (Seen Busy) t = record t { busy = one_more t.busy }

-- ---- one link

abbrev pub with_state : Link → EndState → Link
with_state link state = record link { end = record link.end { state = state } }

-- a cargo of the core is passed to the end
abbrev pub given : Cargo → Link → Link
given cargo link = with_state link (after_cargo link.end.state cargo)

-- the change of a link that an event reports
abbrev pub news_after : LinkEvent → Option News → Option News
news_after (Event.Up life) news = Some Tells.Up
news_after (Event.Deliver life packet) news = news
news_after (Event.Down life reason) news = Some (Tells.Down reason)

-- the first event of the end is removed
abbrev pub polled : LinkEvent → Link → Link
polled event link = record (with_state link (after_poll_event link.end.state)) { news = news_after event link.news }

-- the end is closed, and may be opened with the number
abbrev pub may_open : ℕ → Link → Bool
may_open number link =
    is_closed link.end.state && (nat_lt link.end.state.last_life number && nat_le number GREATEST_LIFE)

abbrev pub opened : ℕ → ℕ → Link → Link
opened number now link = if may_open number link then with_state link (after_open link.end.state number now) else link

-- a closed end is opened, and gets the tick
abbrev pub ticked : ℕ → ℕ → Link → Link
ticked number now link = with_state link (after_tick link.end.settings (opened number now link).end.state now)

abbrev pub intake_of : Link → ℕ → Result FrameParts FrameError → Intake
intake_of link now (Ok frame) = Seen (verdict_of link.end.settings link.end.state frame now)
intake_of link now (Err error) = Bad error

abbrev pub state_after : Link → ℕ → Result FrameParts FrameError → EndState
state_after link now (Ok frame) = after_frame link.end.settings link.end.state frame now
state_after link now (Err error) = link.end.state

-- a datagram was decoded with this result: a frame is passed to the end, and other bytes are not
abbrev pub heard : ℕ → Result FrameParts FrameError → Link → Link
heard now reading link = record (with_state link (state_after link now reading)) {
  tally =
      counted (intake_of link now reading) link.tally;
}

abbrev pub frame_of_link : ℕ → Link → Option FrameParts
frame_of_link now link = frame_due link.end.settings link.end.state now

-- the first frame due is sent
abbrev pub sent : ℕ → Link → Link
sent now link = with_state link (after_transmit link.end.settings link.end.state now)

-- the bound session is cut, if there is one
abbrev pub cut : Link → Link
cut link = with_state link (after_cut_of_bound link.end.state (bound_life link.end.state))

-- the change was polled
abbrev pub told : Link → Link
told link = record link { news = None }

-- ---- all links

-- changes the item at a place
abbrev pub at_place : {L : Type 0} → (L → L) → ℕ → List L → List L
at_place f place [] = []
at_place f zero (x ∷ xs) = f x ∷ xs
at_place f (suc place) (x ∷ xs) = x ∷ at_place f place xs

-- the place and the value of the first item that has a value
abbrev pub one_further : {A : Type 0} → Option (ℕ × A) → Option (ℕ × A)
one_further None = None
one_further (Some found) = Some (suc found.0, found.1)

abbrev pub found_at : {A : Type 0} → Option A → Option (ℕ × A) → Option (ℕ × A)
found_at (Some value) others = Some (0, value)
found_at None others = one_further others

abbrev pub first_in : {L A : Type 0} → (L → Option A) → List L → Option (ℕ × A)
first_in value [] = None
first_in value (x ∷ xs) = found_at (value x) (first_in value xs)

-- the link to this neighbour
abbrev pub to_peer : ℕ → Link → Option (Unit {0})
to_peer k link = if link.end.settings.peer == k then Some tt else None

abbrev pub event_of : Link → Option LinkEvent
event_of link = first_event link.end.state

abbrev pub change_of : ℕ → Option News → Option Change
change_of k None = None
change_of k (Some Tells.Up) = Some (Changes.LinkUp k)
change_of k (Some (Tells.Down reason)) = Some (Changes.LinkDown k reason)

abbrev pub link_change : Link → Option Change
link_change link = change_of link.end.settings.peer link.news

-- at this tick a frame of the link is due, its end is to be opened, or a tick ends its session
abbrev pub is_link_due : ℕ → ℕ → Link → Bool
is_link_due number tick link = may_open number link || is_any_due link.end.settings link.end.state tick

abbrev pub intake_in : ℕ → Result FrameParts FrameError → Option Link → Intake
intake_in now reading None = NoNeighbour
intake_in now reading (Some link) = intake_of link now reading

-- the outcome of a datagram at the end at a place
abbrev pub intake_at : ℕ → Result FrameParts FrameError → ℕ → List Link → Intake
intake_at now reading place links = intake_in now reading (slice_get links place)

-- whether the link at a place may be opened with a number
abbrev pub opens_at : ℕ → ℕ → List Link → Bool
opens_at number place links = option_map_or (may_open number) (slice_get links place) false

-- the neighbour of the link at a place
abbrev pub peer_at : ℕ → List Link → ℕ
peer_at place links = option_map_or (λ (link : Link). link.end.settings.peer) (slice_get links place) 0

abbrev pub tally_at : List Link → Option (ℕ × Unit {0}) → Option Tally
tally_at links None = None
tally_at links (Some found) = option_map (λ (link : Link). link.tally) (slice_get links found.0)

abbrev pub tally_of : ℕ → List Link → Option Tally
tally_of k links = tally_at links (first_in (to_peer k) links)

-- ---- what waits

abbrev pub may_end : Phase → ℕ
may_end Closed = 0
may_end (Unbound own) = 0
may_end (Bound life) = 1

-- the events of an end that wait, and one more if its session may end
abbrev pub waits : EndState → ℕ
waits e = length e.events + may_end e.phase

-- a bound on the events that are served if nothing else comes in
abbrev pub waiting : List Link → ℕ
waiting [] = 0
waiting (link ∷ links) = waits link.end.state + waiting links
