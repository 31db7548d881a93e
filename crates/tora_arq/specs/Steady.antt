-- An idle link end, which only sends and receives HELLOs.
use Rattle.std.specs.Prelude.{◌≡◌, ℕ, ◌+◌, min, Bool, true, false, not, nat_le, ◌==◌, ◌||◌, ◌&&◌, [], length, Option}
use Rattle.std.specs.Prelude.{Some, None, if◌then◌else◌}
use Rattle.tora_frame.specs.declared.parts.Header.{Header}
use Rattle.tora_frame.specs.declared.parts.Version.{Version}
use Rattle.tora_frame.specs.declared.parts.Version.TheVariants.{One}
use Rattle.tora_frame.specs.declared.parts.Body.TheVariants.{Hello}
use Rattle.tora_frame.specs.FrameParts.{FrameParts, frame_of}
use Rattle.tora_arq.specs.declared.phase.Phase.{Phase}
use Rattle.tora_arq.specs.declared.phase.Phase.TheVariants.{Closed, Unbound, Bound}
use Rattle.tora_arq.specs.declared.steady.Steady.{Steady}
use Rattle.tora_arq.specs.Settings.{Settings, ticks_passed}
use Rattle.tora_arq.specs.Lives.{life_of}
use Rattle.tora_arq.specs.LinkEnd.{EndState, is_two}
use Rattle.tora_arq.specs.EndRange.{IsEndState}
use Rattle.tora_arq.specs.Still.{last_tick}

-- bound to a session, or open and unbound
abbrev pub phase_in : Bool → ℕ → ℕ → Phase
phase_in true own peer = Bound (life_of own peer)
phase_in false own peer = Unbound own

abbrev pub steady_phase : Steady → Phase
steady_phase h = phase_in h.is_bound h.own h.peer_life

-- a state with the fields of an idle end written back
abbrev pub resumed : Steady → EndState → EndState
resumed h e = record e { last_hello = Some h.said; last_hearing = h.heard; owes_old_hello = h.owes_old_hello }

-- the fields of an idle end: it is open, owes neither a HELLO at once nor an ACK, and has no unacknowledged packet and
-- no event. The ticks of its last HELLO and of the peer's last frame are in these fields only.
pub record IsSteady (h : Steady) (s : Settings) (e : EndState) : Type 0 where
  pub version : s.version ≡ h.version
  pub me : s.me ≡ h.me
  pub peer : s.peer ≡ h.peer
  pub hello : s.times.hello ≡ h.hello
  pub silent : s.times.silent ≡ h.silent
  pub phase : e.phase ≡ steady_phase h
  pub noted : e.heard ≡ h.peer_life
  pub mark : e.speaks_two ≡ h.speaks_two
  pub marked : is_two h.version ≡ false → h.speaks_two ≡ false
  pub queue : e.queue ≡ []
  pub events : e.events ≡ []
  pub owes_hello : e.owes_hello ≡ false
  pub owes_ack : e.owes_ack ≡ false
  pub kept : IsEndState s e

-- the end owes no frame except the regular HELLOs, has no unacknowledged packet and has no event
abbrev pub is_at_ease : Settings → EndState → Bool
is_at_ease s e =
    not e.owes_hello && (not e.owes_ack && ((length e.queue == 0) &&
    ((length e.events == 0) && (is_two s.version || not e.speaks_two))))

-- the fields of an end that sent its last HELLO at a tick
abbrev pub kept_of : Settings → EndState → ℕ → ℕ → Bool → Steady
kept_of s e said own is_bound = record {
  said = said;
  heard = e.last_hearing;
  own = own;
  peer_life = e.heard;
  hello = s.times.hello;
  silent = s.times.silent;
  me = s.me;
  peer = s.peer;
  version = s.version;
  is_bound = is_bound;
  speaks_two = e.speaks_two;
  owes_old_hello = e.owes_old_hello;
}

abbrev pub kept_in : Settings → EndState → ℕ → Phase → Option Steady
kept_in s e said Closed = None
kept_in s e said (Unbound own) = Some (kept_of s e said own false)
kept_in s e said (Bound life) = Some (kept_of s e said life.own true)

abbrev pub steady_since : Settings → EndState → Option ℕ → Option Steady
steady_since s e None = None
steady_since s e (Some said) = if is_at_ease s e then kept_in s e said e.phase else None

-- the fields of an end that is idle and has sent a HELLO in this session; None for any other end
abbrev pub steady_of : Settings → EndState → Option Steady
steady_of s e = steady_since s e e.last_hello

-- the header of a HELLO of an idle end
abbrev pub header_of : Steady → Version → Header
header_of h version = record { version = version; sender = h.me; receiver = h.peer; life = h.own; heard = h.peer_life }

-- a HELLO of version 1 is due after one of version 2
abbrev pub owes_old : Steady → Bool
owes_old h = h.owes_old_hello && not h.speaks_two

-- `hello` ticks have passed since the last HELLO
abbrev pub has_hello : Steady → ℕ → Bool
has_hello h now = nat_le h.hello (ticks_passed h.said now)

-- no frame of the peer of a bound session came for `silent` ticks
abbrev pub is_over : Steady → ℕ → Bool
is_over h now = h.is_bound && nat_le h.silent (ticks_passed h.heard now)

-- the header of the frame that an idle end sends at a tick, and its fields after that
abbrev pub on_send : Steady → ℕ → Option Header × Steady
on_send h now =
    if owes_old h then (Some (header_of h One), record h { owes_old_hello = false })
    else if has_hello h now then (
      Some (header_of h h.version),
      record h {
        said = now;
        owes_old_hello = is_two h.version;
      },
    )
    else (None, h)

-- the HELLO with this header, if there is one
abbrev pub told_by : Option Header → Option FrameParts
told_by None = None
told_by (Some header) = Some (frame_of header Hello)

-- a HELLO of the bound session that changes only the tick of the peer's last frame
abbrev pub is_told : Steady → Header → Bool
is_told h header =
    h.is_bound && ((header.sender == h.peer) && ((header.receiver == h.me) &&
    ((header.life == h.peer_life) && ((header.heard == h.own) && (h.speaks_two || not (is_two header.version))))))

-- the tick that is `ticks` ticks after another one, at most 2^64 - 1
abbrev pub behind : ℕ → ℕ → ℕ
behind earlier ticks = min (earlier + ticks) last_tick

-- the first tick at which a HELLO is due at an idle end, or its session times out
abbrev pub until_of : Steady → ℕ
until_of h =
    if owes_old h then 0
    else if h.is_bound then min (behind h.said h.hello) (behind h.heard h.silent)
    else behind h.said h.hello
