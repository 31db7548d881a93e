-- Programs that embed routers: the calls of their hosts at the routers of all nodes, in one order.
use Rattle.std.specs.Prelude.{◌≡◌, ◌⊎◌, ℕ, zero, suc, ◌≤◌, IsTrue, List, [], ◌∷◌, ◌++◌, length, Option, Some, None}
use Rattle.std.specs.Prelude.{Result, Ok, Err}
use Rattle.tora_frame.specs.declared.FrameError.{FrameError}
use Rattle.tora_frame.specs.FrameParts.{FrameParts}
use Rattle.tora_arq.specs.declared.link_event.LinkEvent.{LinkEvent}
use Rattle.tora_arq.specs.declared.times.Times.{Times}
use Rattle.tora_core.specs.declared.Input.{Input}
use Rattle.tora_core.specs.CoreRun.{first_core_of}
use Rattle.tora_seat.specs.declared.cargo.Cargo.{Cargo}
use Rattle.tora_seat.specs.Between.{what_of}
use Rattle.tora_seat.specs.Serving.{Parcel, Serving, put_one, put_to, stepped_from}
use Rattle.tora_router.specs.declared.config.Config.{Config}
use Rattle.tora_router.specs.declared.intake.Intake.{Intake}
use Rattle.tora_router.specs.declared.intake.Intake.TheVariants.{NoNeighbour, Bad, Seen}
use Rattle.tora_router.specs.Links.{at_place, cut, event_of, first_in, heard, peer_at, polled, to_peer, waiting}
use Rattle.tora_router.specs.Router.{RouterState, first_router, router_with, serving, item_at, after_item, after_events}
use Rattle.tora_router.specs.Router.{ticked_before, after_tick, at_link, intake_from, after_datagram, need_item}
use Rattle.tora_router.specs.Router.{after_need, after_cut, frame_in, after_poll_datagram, after_poll_change}
use Rattle.tora_world.specs.Topology.{Topology, new_core, is_node}
use Rattle.tora_world.specs.Lists.{IsIn}
use Rattle.tora_running.specs.Network.{IsRefusal}

-- ---- the calls

-- a call that a host makes at the router of a node
pub data RouterCall : Type 0 where
  -- a new router is made, with the first number for its link ends
  New : (config : Config) (neighbours destinations : List ℕ) (first_life : ℕ) → RouterCall
  OnTick : (now : ℕ) → RouterCall
  -- a datagram that the host received from this neighbour, decoded
  OnDatagram : (peer : ℕ) (reading : Result FrameParts FrameError) (now : ℕ) → RouterCall
  Need : (destination now : ℕ) → RouterCall
  Cut : (peer now : ℕ) → RouterCall
  PollDatagram : (now : ℕ) → RouterCall
  PollChange : RouterCall

-- the router after the call, as the contracts of `Router` say
abbrev pub router_after : RouterCall → RouterState → RouterState
router_after (New config neighbours destinations first_life) r = first_router config neighbours destinations first_life
router_after (OnTick now) r = after_tick now r
router_after (OnDatagram k reading now) r = after_datagram k now reading r
router_after (Need d now) r = after_need d now r
router_after (Cut k now) r = after_cut k now r
router_after (PollDatagram now) r = after_poll_datagram now r
router_after PollChange r = after_poll_change r

-- ---- the items that the core serves in a call

abbrev pub served_event : ℕ → RouterState → Option (ℕ × LinkEvent) → List Serving
served_event now r None = []
served_event now r (Some found) =
    serving (record r { links = at_place (polled found.1) found.0 r.links }) (item_at found.0 now (what_of found.1))
    ∷ []

abbrev pub served_events : ℕ → ℕ → RouterState → List Serving
served_events zero now r = []
served_events (suc count) now r =
    served_events count now r ++ served_event now (after_events count now r)
    (first_in event_of (after_events count now r).links)

-- the events served until none waits
abbrev pub served_settling : ℕ → RouterState → List Serving
served_settling now r = served_events (waiting r.links) now r

abbrev pub served_in : RouterCall → RouterState → List Serving
served_in (New config neighbours destinations first_life) r = []
served_in (OnTick now) r = served_settling now (ticked_before (length r.links) now r)
served_in (OnDatagram k reading now) r =
    at_link [] (λ place. served_settling now (record r { links = at_place (heard now reading) place r.links }))
    (first_in (to_peer k) r.links)
served_in (Need d now) r = serving r (need_item r d now) ∷ served_settling now (after_item r (need_item r d now))
served_in (Cut k now) r =
    at_link [] (λ place. served_settling now (record r { links = at_place cut place r.links }))
    (first_in (to_peer k) r.links)
served_in (PollDatagram now) r = []
served_in PollChange r = []

-- ---- the record of a node

-- the record of a node over all its routers, except the inputs, which are those of the last router
pub record History : Type 0 where
  pub frames : ℕ → List FrameParts  -- for each neighbour, all frames that `poll_datagram` returned
  pub put : ℕ → List Cargo  -- for each neighbour, all outbound messages that the core passed to the link end
  pub inputs : List (Input × ℕ)  -- the inputs that the core accepted
  pub steps : ℕ → List Parcel  -- for each neighbour, its packets that the core took

abbrev pub first_history : History
first_history = record { frames = λ k. []; put = λ k. []; inputs = []; steps = λ k. [] }

abbrev pub with_serving : History → Serving → History
with_serving h v = record h {
  put = λ k. h.put k ++ put_to k v.offers;
  inputs = h.inputs ++ v.inputs;
  steps = λ k. h.steps k ++ stepped_from k v.steps;
}

abbrev pub with_servings : History → List Serving → History
with_servings h [] = h
with_servings h (v ∷ servings) = with_servings (with_serving h v) servings

abbrev pub with_frame : RouterState → History → Option (ℕ × FrameParts) → History
with_frame r h None = h
with_frame r h (Some found) =
    record h {
      frames = put_one h.frames (peer_at found.0 r.links) (h.frames (peer_at found.0 r.links) ++ found.1 ∷ []);
    }

-- what a call adds to the record, apart from the items served
abbrev pub beside : RouterCall → RouterState → History → History
beside (New config neighbours destinations first_life) r h = record h { inputs = [] }
beside (OnTick now) r h = h
beside (OnDatagram k reading now) r h = h
beside (Need d now) r h = h
beside (Cut k now) r h = h
beside (PollDatagram now) r h = with_frame r h (frame_in now r)
beside PollChange r h = h

-- ---- all nodes

-- the router of a node, and the node's record
pub record Host : Type 0 where
  pub router : RouterState
  pub history : History

abbrev pub host_after : RouterCall → Host → Host
host_after call host = record {
  router = router_after call host.router;
  history = with_servings (beside call host.router host.history) (served_in call host.router);
}

abbrev pub Hosts : Type 0
Hosts = ℕ → Host

-- the router of each node was just made
abbrev pub first_hosts : Topology → Times → Hosts
first_hosts t times n = record { router = router_with (new_core t n) times 1; history = first_history }

pub record HostedCall : Type 0 where
  pub node : ℕ
  pub call : RouterCall

abbrev pub after_call : Hosts → HostedCall → Hosts
after_call hosts c = put_one hosts c.node (host_after c.call (hosts c.node))

abbrev pub after_calls : List HostedCall → Hosts → Hosts
after_calls [] hosts = hosts
after_calls (c ∷ calls) hosts = after_calls calls (after_call hosts c)

-- ---- the conditions on a host

-- the reading is one of these frames
abbrev pub IsOneOf : List FrameParts → Result FrameParts FrameError → Type 0
IsOneOf frames (Ok frame) = IsIn frame frames
IsOneOf frames (Err error) = ⊥

-- `on_datagram` refused the datagram
abbrev pub IsRefused : Intake → Type 0
IsRefused NoNeighbour = Unit {0}
IsRefused (Bad error) = Unit {0}
IsRefused (Seen verdict) = IsRefusal verdict

-- Session numbers rise over all routers of a node, and no forged datagram is accepted: a datagram of a neighbour is a
-- frame that a router of that neighbour returned for this node at any time before, however often it arrives. Ticks,
-- needs, cuts and polls are arbitrary.
abbrev pub MayCall : Topology → Times → Hosts → ℕ → RouterCall → Type 0
MayCall t times hosts n (New config neighbours destinations first_life) =
    (first_core_of config.erasure config.me neighbours destinations ≡ new_core t n) × (config.times ≡ times)
    × ((hosts n).router.next_life ≤ first_life)
MayCall t times hosts n (OnDatagram k reading now) =
    IsOneOf ((hosts k).history.frames n) reading ⊎ IsRefused (intake_from k now reading (hosts n).router)
MayCall t times hosts n (OnTick now) = Unit {0}
MayCall t times hosts n (Need d now) = Unit {0}
MayCall t times hosts n (Cut k now) = Unit {0}
MayCall t times hosts n (PollDatagram now) = Unit {0}
MayCall t times hosts n PollChange = Unit {0}

-- each call is allowed when it is made, and is made at a node of the topology
abbrev pub IsHosted : Topology → Times → Hosts → List HostedCall → Type 0
IsHosted t times hosts [] = Unit {0}
IsHosted t times hosts (c ∷ calls) =
    IsTrue (is_node t c.node) × MayCall t times hosts c.node c.call × IsHosted t times (after_call hosts c) calls
