-- A copy of a node's core, which is stepped with the inputs that the core accepted, and the records of them.
use Rattle.std.specs.Prelude.{◌≡◌, ℕ, nat_lt, ◌==◌, ◌&&◌, Bool, true, false, not, if◌then◌else◌, List, [], ◌∷◌, ◌++◌}
use Rattle.std.specs.Prelude.{length, map, filter, find, fold, Option, Some, None, option_map}
use Rattle.std.specs.List.{flat_map, list_all}
use Rattle.std.specs.declared.cmp.Ordering.{Ordering}
use Rattle.std.specs.declared.cmp.Ordering.TheVariants.{Less, Equal, Greater}
use Rattle.tora_height.specs.Height.{Quintuple}
use Rattle.tora_height.specs.HeightOrder.{height_cmp}
use Rattle.tora_arq.specs.declared.life.Life.{Life}
use Rattle.tora_core.specs.declared.erasure.Erasure.{Erasure}
use Rattle.tora_core.specs.declared.Input.{Input}
use Rattle.tora_core.specs.declared.Input.TheVariants as In
use Rattle.tora_core.specs.Kept.{destinations_of}
use Rattle.tora_core.specs.declared.TheConstants.{GREATEST_NEIGHBOURS, MOST_DESTINATIONS}
use Rattle.tora_core.specs.declared.errors.CoreError.{CoreError}
use Rattle.tora_core.specs.declared.errors.CoreError.TheVariants.{OwnId}
use Rattle.tora_core.specs.CoreRun.{CoreView, core_refusal_within, first_core_of, core_after, sends_of, height_of}
use Rattle.tora_core.specs.CoreRun.{hop_of}
use Rattle.tora_script.specs.declared.trace.route.Route.{Route}
use Rattle.tora_script.specs.TraceRecords.{up_record, down_record, packet_record, route_record}

-- the copy of a core, the last session of each link, and the last recorded route to each destination
pub record CopyState : Type 0 where
  pub core : CoreView
  pub lives : List (ℕ × Life)
  pub routes : List Route

-- ---- routes

-- NULL if the table does not have the destination
abbrev pub known_height : Option (Option Quintuple) → Option Quintuple
known_height None = None
known_height (Some entry) = entry

abbrev pub route_of : CoreView → ℕ → Route
route_of c d = record { destination = d; height = known_height (height_of c d); hop = hop_of c d }

abbrev pub is_equal : Ordering → Bool
is_equal Less = false
is_equal Equal = true
is_equal Greater = false

abbrev pub is_same_height : Option Quintuple → Option Quintuple → Bool
is_same_height None None = true
is_same_height None (Some b) = false
is_same_height (Some a) None = false
is_same_height (Some a) (Some b) = is_equal (height_cmp a b)

abbrev pub is_same_hop : Option ℕ → Option ℕ → Bool
is_same_hop None None = true
is_same_hop None (Some b) = false
is_same_hop (Some a) None = false
is_same_hop (Some a) (Some b) = a == b

-- the height or the next hop of a destination differs from the last recorded one
abbrev pub is_changed : CoreView → Route → Bool
is_changed c told = not (is_same_height told.height (known_height (height_of c told.destination)) && is_same_hop
    told.hop (hop_of c told.destination))

-- the record of a core's route to a destination
abbrev pub core_record : ℕ → CoreView → ℕ → List ℕ
core_record t c d = route_record t c.me d (known_height (height_of c d)) (hop_of c d)

unfoldable pub route_change : ℕ → CoreView → Route → List ℕ
route_change t c told = if is_changed c told then core_record t c told.destination else []

abbrev pub route_changes : ℕ → CoreView → List Route → List ℕ
route_changes t c routes = flat_map (route_change t c) routes

-- the last recorded route, once its changes are recorded
unfoldable pub route_told : CoreView → Route → Route
route_told c told = route_of c told.destination

abbrev pub routes_told : CoreView → List Route → List Route
routes_told c routes = map (route_told c) routes

-- ---- sessions

abbrev pub is_at : ℕ → ℕ × Life → Bool
is_at k row = row.0 == k

abbrev pub is_elsewhere : ℕ → ℕ × Life → Bool
is_elsewhere k row = not (is_at k row)

-- the last session in which the link to a neighbour came up
abbrev pub life_at : List (ℕ × Life) → ℕ → Option Life
life_at lives k = option_map (λ row. row.1) (find (is_at k) lives)

abbrev pub with_life : List (ℕ × Life) → ℕ → Option Life → List (ℕ × Life)
with_life lives k None = lives
with_life lives k (Some life) = filter (is_elsewhere k) lives ++ (k, life) ∷ []

-- a link comes up in the session that the item reports, if it reports one
abbrev pub lives_after : Option Life → List (ℕ × Life) → Input → List (ℕ × Life)
lives_after life lives (In.LinkUp k) = with_life lives k life
lives_after life lives (In.LinkDown k) = lives
lives_after life lives (In.Packet k packet) = lives
lives_after life lives (In.Need d) = lives

-- ---- one input

-- a link that no item reported as up has no record
abbrev pub up_of : ℕ → ℕ → ℕ → Option Life → List ℕ
up_of t n k None = []
up_of t n k (Some life) = up_record t n k life

abbrev pub down_of : ℕ → ℕ → ℕ → Option Life → List ℕ
down_of t n k None = []
down_of t n k (Some life) = down_record t n k life

abbrev pub link_record : ℕ → ℕ → List (ℕ × Life) → Input → List ℕ
link_record t n lives (In.LinkUp k) = up_of t n k (life_at lives k)
link_record t n lives (In.LinkDown k) = down_of t n k (life_at lives k)
link_record t n lives (In.Packet k packet) = []
link_record t n lives (In.Need d) = []

-- the copy after an input whose item reports this session
unfoldable pub copy_after : Option Life → CopyState → Input → ℕ → CopyState
copy_after life c input t = record {
  core = core_after c.core input t;
  lives = lives_after life c.lives input;
  routes = routes_told (core_after c.core input t) c.routes;
}

-- the records of an input: of its link, of each packet that is broadcast, and of each route that changed
unfoldable pub input_records : Option Life → CopyState → Input → ℕ → List ℕ
input_records life c input t =
    link_record t (core_after c.core input t).me (lives_after life c.lives input) input
    ++ flat_map (packet_record t (core_after c.core input t).me (length (core_after c.core input t).up))
    (sends_of c.core input t)
    ++ route_changes t (core_after c.core input t) c.routes

-- An input was taken, and its records were appended to the text.
pub record TakesInput (life : Option Life) (old : CopyState) (input : Input) (t : ℕ) (new : CopyState)
    (before after : List ℕ) : Type 0 where
  pub copy_is : new ≡ copy_after life old input t
  pub text_is : after ≡ before ++ input_records life old input t

-- ---- the inputs of an item

-- the copy, and the text so far
abbrev pub Told : Type 0
Told = CopyState × List ℕ

abbrev pub after_input : Option Life → Told → Input × ℕ → Told
after_input life told input =
    (copy_after life told.0 input.0 input.1, told.1 ++ input_records life told.0 input.0 input.1)

-- one input after another
abbrev pub after_inputs : Option Life → List (Input × ℕ) → Told → Told
after_inputs life inputs told = fold (after_input life) told inputs

-- Inputs were taken, and their records were appended to the text.
abbrev pub TakesInputs : Option Life → CopyState → List (Input × ℕ) → CopyState → List ℕ → List ℕ → Type 0
TakesInputs life old inputs new before after = (new, after) ≡ after_inputs life inputs (old, before)

-- ---- the first copy, and the copy after a restart

-- no number is 0
abbrev pub are_ids : List ℕ → Bool
are_ids numbers = list_all (λ n. nat_lt 0 n) numbers

-- why a core has no copy: a number is 0, or a new core is refused within the greatest limits
abbrev pub copy_refusal : ℕ → List ℕ → List ℕ → Option CoreError
copy_refusal me neighbours destinations = if nat_lt 0 me && are_ids neighbours && are_ids destinations
    then core_refusal_within GREATEST_NEIGHBOURS MOST_DESTINATIONS me neighbours destinations else Some OwnId

abbrev pub first_copy : Erasure → ℕ → List ℕ → List ℕ → CopyState
first_copy erasure me neighbours destinations = record {
  core = first_core_of erasure me neighbours destinations;
  lives = [];
  routes = map (route_of (first_core_of erasure me neighbours destinations))
      (destinations_of (first_core_of erasure me neighbours destinations).views);
}

-- the core is new, with the same choice; recorded routes are kept, and recorded again if they changed
unfoldable pub copy_restarted : CopyState → CopyState
copy_restarted c = record {
  core = first_core_of c.core.erasure c.core.me c.core.neighbours (destinations_of c.core.views);
  lives = [];
  routes = routes_told (first_core_of c.core.erasure c.core.me c.core.neighbours (destinations_of c.core.views))
      c.routes;
}

unfoldable pub restart_records : ℕ → CopyState → List ℕ
restart_records t c =
    route_changes t (first_core_of c.core.erasure c.core.me c.core.neighbours (destinations_of c.core.views)) c.routes

-- The core is new, and the records of its routes were appended to the text.
pub record Restarts (t : ℕ) (old new : CopyState) (before after : List ℕ) : Type 0 where
  pub copy_is : new ≡ copy_restarted old
  pub text_is : after ≡ before ++ restart_records t old
