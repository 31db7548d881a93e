-- An example with two routers, computed, so that the laws are not vacuous. A datagram is lost and one is repeated, a
-- route is found, and both routers are replaced by new ones.
use Rattle.std.specs.Prelude.{◌≡◌, ℕ, List, [], ◌∷◌, slice_get, Option, Some, None, Ok}
use Rattle.tora_frame.specs.FrameParts.{FrameParts}
use Rattle.tora_arq.specs.declared.life.Life.{Life}
use Rattle.tora_arq.specs.Lives.{reversed}
use Rattle.tora_core.specs.declared.erasure.Erasure.TheVariants.{Plain}
use Rattle.tora_core.specs.CoreRun.{hop_of}
use Rattle.tora_core.specs.Limits.{greatest_core_limits}
use Rattle.tora_router.specs.declared.config.Config.{Config}
use Rattle.tora_world.specs.Worked.{pair, times, life, update}
use Rattle.tora_running.specs.Hosts.{Hosts, HostedCall, RouterCall, first_hosts, after_call, after_calls}
use Rattle.tora_running.specs.Hosts.RouterCall.{New, OnTick, OnDatagram, Need, Cut, PollDatagram, PollChange}
use Rattle.tora_running.specs.RouterLaws.{packets_sent, packets_taken}

-- ---- calls that depend on the hosts before them; a call without its subject is replaced by a poll for a change

abbrev pub Reads : Type 0
Reads = Hosts → HostedCall

abbrev pub at_node : ℕ → RouterCall → HostedCall
at_node n call = record { node = n; call = call }

abbrev pub needs : ℕ → ℕ → Reads
needs n d hosts = at_node n (Need d 0)

abbrev pub ticks : ℕ → ℕ → Reads
ticks n now hosts = at_node n (OnTick now)

abbrev pub polls : ℕ → Reads
polls n hosts = at_node n (PollDatagram 0)

abbrev pub cuts : ℕ → ℕ → Reads
cuts n k hosts = at_node n (Cut k 0)

abbrev pub heard : ℕ → ℕ → Option FrameParts → HostedCall
heard n k None = at_node n PollChange
heard n k (Some frame) = at_node n (OnDatagram k (Ok frame) 0)

-- the datagram at this place among all that routers of k returned for n
abbrev pub hears : ℕ → ℕ → ℕ → Reads
hears n k place hosts = heard n k (slice_get ((hosts k).history.frames n) place)

abbrev pub config_of : ℕ → Config
config_of n = record { me = n; times = times; erasure = Plain; limits = greatest_core_limits }

abbrev pub makes : ℕ → ℕ → ℕ → Reads
makes n k first_life hosts = at_node n (New (config_of n) (k ∷ []) (2 ∷ []) first_life)

abbrev pub read_from : Hosts → List Reads → List HostedCall
read_from hosts [] = []
read_from hosts (next ∷ more) = next hosts ∷ read_from (after_call hosts (next hosts)) more

abbrev pub start : Hosts
start = first_hosts pair times

-- ---- two sessions

-- the first HELLO of node 1 is lost, the next one and two more bind both ends; node 1's update arrives twice
abbrev pub first_life : List Reads
first_life =
    needs 1 2 ∷ ticks 1 0 ∷ ticks 2 0 ∷ polls 1 ∷ polls 1 ∷ hears 2 1 1 ∷ polls 2 ∷ hears 1 2 0 ∷ polls 1 ∷ hears 2 1 2
    ∷ polls 1 ∷ hears 2 1 3 ∷ hears 2 1 3 ∷ []

abbrev pub first_calls : List HostedCall
first_calls = read_from start first_life

abbrev pub met : Hosts
met = after_calls first_calls start

-- both routers are new; the number of node 1's router skips some numbers. An old datagram arrives first; the update
-- arrives twice again
abbrev pub second_life : List Reads
second_life =
    makes 1 2 5 ∷ makes 2 1 2 ∷ needs 1 2 ∷ ticks 1 0 ∷ ticks 2 0 ∷ hears 2 1 1 ∷ polls 1 ∷ hears 2 1 4 ∷ polls 2
    ∷ hears 1 2 1
    ∷ polls 1 ∷ hears 2 1 5 ∷ polls 1 ∷ hears 2 1 6 ∷ hears 2 1 6 ∷ []

abbrev pub second_calls : List HostedCall
second_calls = read_from met second_life

abbrev pub met_again : Hosts
met_again = after_calls second_calls met

abbrev pub new_life : Life
new_life = record { own = 5; peer = 2 }

-- in this session the update was sent and taken once, and node 1 has a route
pub record HasMet (life : Life) (hosts : Hosts) : Type 0 where
  pub sent : packets_sent hosts 1 2 life ≡ update ∷ []
  pub taken : packets_taken hosts 2 1 (reversed life) ≡ update ∷ []
  pub hop : hop_of (hosts 1).router.seat.core 2 ≡ Some 2

-- ---- the end of the second session

-- the host of node 1 reports that the radio lost its neighbour, and node 2 receives nothing for 60 ticks
abbrev pub last_turns : List Reads
last_turns = cuts 1 2 ∷ ticks 2 60 ∷ []

abbrev pub last_calls : List HostedCall
last_calls = read_from met_again last_turns

abbrev pub left : Hosts
left = after_calls last_calls met_again

-- the session is over at both cores, and node 1 has lost its route
pub record HasLeft (hosts : Hosts) : Type 0 where
  pub over : (hosts 1).router.seat.current 2 ≡ None
  pub other_over : (hosts 2).router.seat.current 1 ≡ None
  pub hop : hop_of (hosts 1).router.seat.core 2 ≡ None

-- ---- a host that breaks the rules: a session number is used again

-- both routers are new, with the numbers of the first session, and its old datagram arrives
abbrev pub numbers_again : List Reads
numbers_again =
    makes 1 2 1 ∷ makes 2 1 1 ∷ ticks 1 0 ∷ ticks 2 0 ∷ polls 1 ∷ hears 2 1 4 ∷ polls 2 ∷ hears 1 2 1 ∷ polls 1
    ∷ hears 2 1 5 ∷ hears 2 1 3 ∷ []

abbrev pub given_again : Hosts
given_again = after_calls (read_from met numbers_again) met

-- the update was sent once, and taken twice
pub record TakesTwice (hosts : Hosts) : Type 0 where
  pub sent : packets_sent hosts 1 2 life ≡ update ∷ []
  pub taken : packets_taken hosts 2 1 (reversed life) ≡ update ∷ update ∷ []
