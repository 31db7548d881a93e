-- The effect of the parts of serving an item, for any results of the offers.
use Rattle.std.specs.Prelude.{◌≡◌, ◌+◌, ◌*◌, ◌<◌, ◌≤◌, ◌⊎◌, ℕ, Bool, true, false, if◌then◌else◌, List, ◌++◌, length}
use Rattle.std.specs.Prelude.{is_some, Option, None, Some}
use Rattle.tora_packet.specs.declared.Packet.{Packet}
use Rattle.tora_arq.specs.declared.life.Life.{Life}
use Rattle.tora_core.specs.declared.Input.{Input}
use Rattle.tora_core.specs.CoreRun.{CoreView, refusal_of, up_after}
use Rattle.tora_core.specs.Numbers.{has_repeat}
use Rattle.tora_seat.specs.declared.cargo.Cargo.{Cargo}
use Rattle.tora_seat.specs.declared.cargo.Cargo.TheVariants as Gives
use Rattle.tora_seat.specs.declared.rows.LinkRow.{LinkRow}
use Rattle.tora_seat.specs.Serving.{Offer, Answers, Serving, first_cut}
use Rattle.tora_seat.specs.Offers.{AreOffered, Follows}
use Rattle.tora_seat.specs.Rows.{SeatView, neighbours_of, current_of, pending_of, any_pending, lives, serving_at}

-- if these links are up at the core, each of them has a current session
abbrev pub IsSettled : CoreView → List ℕ → List LinkRow → Type 0
IsSettled core up rows = first_cut (record {
  core = record core { up = up };
  current = current_of rows;
  pending = pending_of rows;
}) core.neighbours ≡ None

-- the invariant of a seat: a row for each of its different neighbours, room for the inputs of an item, and marks that
-- are false only if no cut is pending (`has_pending`) and no link is up without a current session (`has_cut`)
pub record IsSeat (core : CoreView) (rows : List LinkRow) (room : ℕ) (has_pending has_cut : Bool) : Type 0 where
  pub neighbours : neighbours_of rows ≡ core.neighbours
  pub different : has_repeat core.neighbours ≡ false
  pub has_room : 2 * (length core.neighbours + 1) ≤ room
  pub none_pending : has_pending ≡ false → any_pending rows ≡ false
  pub none_cut : has_cut ≡ false → IsSettled core core.up rows

-- ---- one row

-- a pending cut is offered to the queue at this place; if it is put, it is no longer pending
abbrev pub TriesCut : {O : Type 0} → (O → ℕ → Cargo → Bool → O → Type 0) → ℕ → LinkRow → Option Life → O → LinkRow → O
    → Type 0
TriesCut did_offer place row None outs new after = (new ≡ row) × (after ≡ outs)
TriesCut did_offer place row (Some life) outs new after =
    (put : Bool) × did_offer outs place (Gives.Cut life) put after
    × (new ≡ (if put then record row { pending = None } else row))

-- a packet is offered to the queue at this place in the current session; if the queue returns it, the session is over
abbrev pub SendsTo : {O : Type 0} → (O → ℕ → Cargo → Bool → O → Type 0) → ℕ → Packet → LinkRow → Option Life → O
    → LinkRow → O → Type 0
SendsTo did_offer place packet row None outs new after = (new ≡ row) × (after ≡ outs)
SendsTo did_offer place packet row (Some life) outs new after =
    (put : Bool) × did_offer outs place (Gives.Packet life packet) put after
    × (new ≡ (if put then row else record row { current = None; pending = Some life }))

-- the flag says whether the current session of a row is over; if not, the row is unchanged
abbrev pub EndsLife : Bool → LinkRow → LinkRow → Type 0
EndsLife false row new = new ≡ row
EndsLife true row new = (is_some row.current ≡ true) × (is_some new.current ≡ false)

-- ---- all rows

-- the flag says whether the current session of some row is over; if not, the rows are unchanged
abbrev pub EndsLives : Bool → List LinkRow → List LinkRow → Type 0
EndsLives false rows new = new ≡ rows
EndsLives true rows new = lives new < lives rows

-- an item that is being served, with these rows and these offers
abbrev pub on_rows : Serving → List LinkRow → List Offer → Serving
on_rows v rows offers = record v {
  seat = record v.seat { current = current_of rows; pending = pending_of rows };
  offers = offers;
}

-- outbound messages are offered, and with the results of these offers the definition leads from the old rows to the new
pub record RowsGo {O : Type 0} (did_offer : O → ℕ → Cargo → Bool → O → Type 0) (next : Answers → List ℕ → Serving
    → Serving) (rows : List LinkRow) (outs : O) (new : List LinkRow) (after : O) : Type 0 where
  pub made : List Offer
  pub offered : AreOffered did_offer (neighbours_of rows) outs made after
  pub same : neighbours_of new ≡ neighbours_of rows
  pub leads : (answers : Answers) (v : Serving) (before : List Offer) → Follows answers before made
      → next answers (neighbours_of rows) (on_rows v rows before) ≡ on_rows v new (before ++ made)

-- ---- the whole seat

-- messages are offered, and with the results of these offers the definition leads from the old seat to the new
pub record SeatGoes {O : Type 0} (did_offer : O → ℕ → Cargo → Bool → O → Type 0) (next : Answers → List ℕ → Serving
    → Serving) (now : ℕ) (seat : SeatView) (outs : O) (new : SeatView) (after : O) : Type 0 where
  pub made : List Offer
  pub offered : AreOffered did_offer seat.core.neighbours outs made after
  pub same : new.core.neighbours ≡ seat.core.neighbours
  pub leads : (answers : Answers) (before : List Offer) → Follows answers before made
      → next answers seat.core.neighbours (serving_at now seat before) ≡ serving_at now new (before ++ made)

-- the flag says whether the core accepted an input and no session ended by it
abbrev pub StepsQuietly : Bool → Input → SeatView → SeatView → Type 0
StepsQuietly true input seat new = (new.core.up ≡ up_after seat.core.up input) × (new.rows ≡ seat.rows)
StepsQuietly false input seat new = (is_some (refusal_of seat.core input) ≡ true) ⊎ (lives new.rows < lives seat.rows)
