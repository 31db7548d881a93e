-- The state of a seat: the core, a row for each neighbour, and the results of the last item.
use Rattle.std.specs.Prelude.{ℕ, ◌==◌, ◌+◌, Bool, false, if◌then◌else◌, List, [], ◌∷◌, map, find, option_map, is_some}
use Rattle.std.specs.Prelude.{is_none, ◌&&◌, ◌||◌, Option, None, Some}
use Rattle.tora_arq.specs.declared.life.Life.{Life}
use Rattle.tora_core.specs.declared.Input.{Input}
use Rattle.tora_core.specs.CoreRun.{CoreView}
use Rattle.tora_core.specs.Numbers.{has_number}
use Rattle.tora_seat.specs.declared.answer.Answer.{Answer}
use Rattle.tora_seat.specs.declared.answer.Answer.TheVariants as Says
use Rattle.tora_seat.specs.declared.rows.LinkRow.{LinkRow}
use Rattle.tora_seat.specs.declared.stepped.Stepped.{Stepped}
use Rattle.tora_seat.specs.Serving.{SeatState, Serving, Step, Offer}

-- what contracts see of a seat
pub record SeatView : Type 0 where
  pub core : CoreView
  pub rows : List LinkRow  -- one for each neighbour, in ascending order
  pub inputs : List Input  -- the inputs that the core accepted for the last item
  pub stepped : Option Stepped  -- the packet that was passed to the core for it
  pub answer : Answer  -- the result of the item

abbrev pub neighbours_of : List LinkRow → List ℕ
neighbours_of rows = map (λ row. row.neighbour) rows

abbrev pub current_of : List LinkRow → ℕ → Option Life
current_of [] k = None
current_of (row ∷ rows) k = if k == row.neighbour then row.current else current_of rows k

abbrev pub pending_of : List LinkRow → ℕ → Option Life
pending_of [] k = None
pending_of (row ∷ rows) k = if k == row.neighbour then row.pending else pending_of rows k

-- some cut is not in its queue yet
abbrev pub any_pending : List LinkRow → Bool
any_pending [] = false
any_pending (row ∷ rows) = is_some row.pending || any_pending rows

-- how many sessions are current
abbrev pub lives : List LinkRow → ℕ
lives [] = 0
lives (row ∷ rows) = (if is_some row.current then 1 else 0) + lives rows

-- the state of a seat in the definition of serving
abbrev pub state_of : SeatView → SeatState
state_of s = record { core = s.core; current = current_of s.rows; pending = pending_of s.rows }

abbrev pub step_of : Stepped → Step
step_of p = record { from = p.from; parcel = record { life = p.life; packet = p.packet } }

abbrev pub steps_of : Option Stepped → List Step
steps_of None = []
steps_of (Some p) = step_of p ∷ []

-- an item of this tick that is being served, with the state of the seat and these offers
abbrev pub serving_at : ℕ → SeatView → List Offer → Serving
serving_at now s offers = record {
  seat = state_of s;
  offers = offers;
  inputs = map (λ input. (input, now)) s.inputs;
  steps = steps_of s.stepped;
  answer = s.answer;
}

-- a row of a new seat
abbrev pub new_row : ℕ → LinkRow
new_row k = record { neighbour = k; current = None; pending = None }

-- the seat of a core without any session
abbrev pub first_seat : CoreView → SeatView
first_seat core = record {
  core = core;
  rows = map new_row core.neighbours;
  inputs = [];
  stepped = None;
  answer = Says.Nothing;
}

-- the link is up at the core, and there is no current session
abbrev pub is_cut : CoreView → LinkRow → Bool
is_cut core row = has_number row.neighbour core.up && is_none row.current

abbrev pub first_cut_of : CoreView → List LinkRow → Option ℕ
first_cut_of core rows = option_map (λ row. row.neighbour) (find (is_cut core) rows)
