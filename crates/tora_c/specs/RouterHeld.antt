-- A router that a handle holds: its state after each call, and what the call returns and writes.
use Rattle.std.specs.Prelude.{ℕ, ◌++◌, drop, length, nat_lt, is_some, Bool, if◌then◌else◌, List, Option, Some, is_none}
use Rattle.std.specs.Prelude.{option_map, Result, Ok, Err}
use Rattle.std.specs.Option.{option_map_or}
use Rattle.tora_frame.specs.declared.encoding.TheConstants.{LONGEST_FRAME}
use Rattle.tora_frame.specs.FrameGrammar.{frame_reading, frame_spelling}
use Rattle.tora_frame.specs.FrameParts.{FrameParts}
use Rattle.tora_core.specs.declared.erasure.Erasure.{Erasure}
use Rattle.tora_core.specs.declared.errors.StepError.{StepError}
use Rattle.tora_core.specs.Limits.{greatest_core_limits}
use Rattle.tora_router.specs.declared.config.Config.{Config}
use Rattle.tora_router.specs.Links.{first_in, peer_at, tally_of, to_peer}
use Rattle.tora_router.specs.Refusals.{router_refusal}
use Rattle.tora_router.specs.Router.{RouterState, RouterView, after_poll_datagram, change_in, frame_in, intake_from}
use Rattle.tora_router.specs.Router.{need_result, router_of}
use Rattle.tora_c.specs.declared.codes.TheConstants.{OK, ABSENT, CHOICE, ROOM, UNKNOWN_NEIGHBOUR}
use Rattle.tora_c.specs.declared.router_parts.ChangeParts.{ChangeParts}
use Rattle.tora_c.specs.declared.router_parts.TallyParts.{TallyParts}
use Rattle.tora_c.specs.declared.router_parts.TimesParts.{TimesParts}
use Rattle.tora_c.specs.Codes.{intake_code, refused_code, router_code}
use Rattle.tora_c.specs.CoreNode.{erasure_of}
use Rattle.tora_c.specs.RouterParts.{change_parts, tally_parts, times_of}

-- the state of the router that a handle holds
abbrev pub held_router : Option RouterView → Option RouterState
held_router held = option_map router_of held

-- a value of the router in a handle, or the old value if the handle is null
abbrev pub of_held : {A : Type 0} → (RouterState → A) → Option RouterView → A → A
of_held value held old = option_map_or (λ r. value (router_of r)) held old

-- ---- a new router

abbrev pub config_of : ℕ → TimesParts → Erasure → Config
config_of me times erasure = record {
  me = me;
  times = times_of times;
  erasure = erasure;
  limits = greatest_core_limits;
}

-- the configuration for these arguments of a call; None if there is no such choice of erasure
abbrev pub configured : ℕ → ℕ → TimesParts → Option Config
configured me choice times = option_map (config_of me times) (erasure_of choice)

-- the code of the first cause for which a new router is refused, apart from memory
abbrev pub new_router_refusal : ℕ → List ℕ → List ℕ → ℕ → TimesParts → ℕ → Option ℕ
new_router_refusal me neighbours destinations choice times first_life =
    option_map_or (λ config. option_map router_code (router_refusal config neighbours destinations first_life))
    (configured me choice times) (Some CHOICE)

-- ---- inputs

abbrev pub datagram_intake : ℕ → List ℕ → ℕ → RouterState → ℕ
datagram_intake peer bytes now r = intake_code (intake_from peer now (frame_reading bytes) r)

abbrev pub code_of_need : Result (Unit {0}) StepError → ℕ
code_of_need (Ok done) = OK
code_of_need (Err error) = refused_code error

abbrev pub need_code : ℕ → ℕ → RouterState → ℕ
need_code d now r = code_of_need (need_result r d now)

abbrev pub cut_code : ℕ → RouterState → ℕ
cut_code peer r = if is_some (first_in (to_peer peer) r.links) then OK else UNKNOWN_NEIGHBOUR

-- ---- polls

-- the buffer is shorter than the longest datagram, so the poll is refused
abbrev pub is_short : List ℕ → Bool
is_short buffer = nat_lt (length buffer) LONGEST_FRAME

abbrev pub code_of_some : {A : Type 0} → Option A → ℕ
code_of_some value = option_map_or (λ _. OK) value ABSENT

abbrev pub poll_code : ℕ → List ℕ → RouterState → ℕ
poll_code now buffer r = if is_short buffer then ROOM else code_of_some (frame_in now r)

abbrev pub after_poll : ℕ → List ℕ → RouterState → RouterState
after_poll now buffer r = if is_short buffer then r else after_poll_datagram now r

abbrev pub polled_peer : ℕ → List ℕ → ℕ → RouterState → ℕ
polled_peer now buffer old r =
    if is_short buffer then old else option_map_or (λ (found : ℕ × FrameParts).
    peer_at found.0 r.links) (frame_in now r) old

abbrev pub polled_length : ℕ → List ℕ → ℕ → RouterState → ℕ
polled_length now buffer old r =
    if is_short buffer then LONGEST_FRAME else option_map_or (λ (found : ℕ × FrameParts).
    length (frame_spelling found.1)) (frame_in now r) old

abbrev pub over : List ℕ → List ℕ → List ℕ
over bytes buffer = bytes ++ drop (length bytes) buffer

abbrev pub polled_bytes : ℕ → List ℕ → RouterState → List ℕ
polled_bytes now buffer r =
    if is_short buffer then buffer else option_map_or (λ (found : ℕ × FrameParts). over (frame_spelling found.1) buffer)
    (frame_in now r) buffer

abbrev pub polled_change : ChangeParts → RouterState → ChangeParts
polled_change old r = option_map_or change_parts (change_in r) old

-- ---- a tally

abbrev pub tally_code : ℕ → RouterState → ℕ
tally_code k r = option_map_or (λ _. OK) (tally_of k r.links) UNKNOWN_NEIGHBOUR

abbrev pub tally_after : ℕ → TallyParts → RouterState → TallyParts
tally_after k old r = option_map_or tally_parts (tally_of k r.links) old
