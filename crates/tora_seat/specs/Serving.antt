-- Serving an item: its effect on the core's seat, and the outbound messages offered to the queues to the neighbours.
use Rattle.std.specs.Prelude.{ℕ, zero, suc, ◌==◌, ◌&&◌, Bool, true, false, is_none, if◌then◌else◌, List, [], ◌∷◌, ◌++◌}
use Rattle.std.specs.Prelude.{length, slice_get, Option, None, Some}
use Rattle.tora_packet.specs.declared.Packet.{Packet}
use Rattle.tora_arq.specs.declared.life.Life.{Life}
use Rattle.tora_arq.specs.Lives.{is_same_life}
use Rattle.tora_core.specs.declared.Input.{Input}
use Rattle.tora_core.specs.declared.Input.TheVariants as In
use Rattle.tora_core.specs.declared.errors.StepError.{StepError}
use Rattle.tora_core.specs.Numbers.{has_number}
use Rattle.tora_core.specs.CoreRun.{CoreView, refusal_of, core_after, sends_of}
use Rattle.tora_seat.specs.declared.what.What.{What}
use Rattle.tora_seat.specs.declared.what.What.TheVariants as Tells
use Rattle.tora_seat.specs.declared.item.Item.{Item}
use Rattle.tora_seat.specs.declared.cargo.Cargo.{Cargo}
use Rattle.tora_seat.specs.declared.cargo.Cargo.TheVariants as Gives
use Rattle.tora_seat.specs.declared.answer.Answer.{Answer}
use Rattle.tora_seat.specs.declared.answer.Answer.TheVariants as Says

-- a function on neighbours, changed at one of them
abbrev pub put_one : {A : Type 0} → (ℕ → A) → ℕ → A → ℕ → A
put_one f k v j = if j == k then v else f j

-- the core, and for each neighbour the current session and the session whose cut is not in the queue yet
pub record SeatState : Type 0 where
  pub core : CoreView
  pub current : ℕ → Option Life
  pub pending : ℕ → Option Life

-- an outbound message that was offered to the queue to a neighbour, and whether it was put there
pub record Offer : Type 0 where
  pub to : ℕ
  pub cargo : Cargo
  pub put : Bool

-- a packet of a session
pub record Parcel : Type 0 where
  pub life : Life
  pub packet : Packet

-- a packet that was passed to the core, with its neighbour and its session
pub record Step : Type 0 where
  pub from : ℕ
  pub parcel : Parcel

-- an item that is being served: the seat, the offers, the inputs that the core accepted, the packets passed to it, and
-- the result
pub record Serving : Type 0 where
  pub seat : SeatState
  pub offers : List Offer
  pub inputs : List (Input × ℕ)
  pub steps : List Step
  pub answer : Answer

-- whether the queue to a neighbour takes the next outbound message, as a function of the earlier offers
abbrev pub Answers : Type 0
Answers = List Offer → ℕ → Bool

-- ---- outbound messages are offered

abbrev pub offered : Serving → ℕ → Cargo → Bool → Serving
offered v k cargo put = record v { offers = v.offers ++ record { to = k; cargo = cargo; put = put } ∷ [] }

abbrev pub with_current : Serving → ℕ → Option Life → Serving
with_current v k life = record v { seat = record v.seat { current = put_one v.seat.current k life } }

abbrev pub with_pending : Serving → ℕ → Option Life → Serving
with_pending v k life = record v { seat = record v.seat { pending = put_one v.seat.pending k life } }

-- a pending cut is offered once
abbrev pub after_cut_tried : Answers → Serving → ℕ → Option Life → Serving
after_cut_tried answers v k None = v
after_cut_tried answers v k (Some life) =
    if answers v.offers k
    then with_pending (offered v k (Gives.Cut life) true) k None
    else offered v k (Gives.Cut life) false

unfoldable pub after_cuts_tried : Answers → List ℕ → Serving → Serving
after_cuts_tried answers [] v = v
after_cuts_tried answers (k ∷ ks) v = after_cuts_tried answers ks (after_cut_tried answers v k (v.seat.pending k))

-- a packet is offered to a neighbour in its current session; if the queue returns it, the session is over and its cut
-- is pending
abbrev pub after_sent : Answers → Packet → Serving → ℕ → Option Life → Serving
after_sent answers packet v k None = v
after_sent answers packet v k (Some life) =
    if answers v.offers k
    then offered v k (Gives.Packet life packet) true
    else with_pending (with_current (offered v k (Gives.Packet life packet) false) k None) k (Some life)

-- a packet is offered to each neighbour, in ascending order
unfoldable pub after_broadcast : Answers → Packet → List ℕ → Serving → Serving
after_broadcast answers packet [] v = v
after_broadcast answers packet (k ∷ ks) v = after_broadcast answers packet ks
    (after_sent answers packet v k (v.seat.current k))

-- packets are broadcast one after another, by ascending destination
unfoldable pub after_broadcasts : Answers → List ℕ → List Packet → Serving → Serving
after_broadcasts answers ks [] v = v
after_broadcasts answers ks (packet ∷ packets) v = after_broadcasts answers ks packets
    (after_broadcast answers packet ks v)

-- ---- inputs are stepped

-- an input that the core accepts
abbrev pub accepting : Serving → Input → ℕ → Serving
accepting v input now = record v {
  seat = record v.seat { core = core_after v.seat.core input now };
  inputs = v.inputs ++ (input, now) ∷ [];
}

-- a refused input changes nothing, and the refusal is the result
abbrev pub after_answer : Answers → List ℕ → Input → ℕ → Serving → Option StepError → Serving
after_answer answers ks input now v None =
    after_broadcasts answers ks (sends_of v.seat.core input now) (accepting v input now)
after_answer answers ks input now v (Some error) = record v { answer = Says.Refused error }

unfoldable pub after_step : Answers → List ℕ → Input → ℕ → Serving → Serving
after_step answers ks input now v = after_answer answers ks input now v (refusal_of v.seat.core input)

-- the least neighbour whose link is up at the core without a current session, because its session was cut
abbrev pub first_cut : SeatState → List ℕ → Option ℕ
first_cut s [] = None
first_cut s (k ∷ ks) = if has_number k s.core.up && is_none (s.current k) then Some k else first_cut s ks

-- the links of neighbours whose session was cut go down, the least first, until none is left; the number is an upper
-- bound of their count
unfoldable pub after_settling : ℕ → Answers → List ℕ → ℕ → Serving → Serving
after_settling zero answers ks now v = v
after_settling (suc most) answers ks now v =
    elim (first_cut v.seat ks) [
      | None ↦ v
      | Some k ↦ after_settling most answers ks now (after_step answers ks (In.LinkDown k) now v)
    ]

-- one input, with its packets and all its consequences
unfoldable pub after_input : Answers → List ℕ → Input → ℕ → Serving → Serving
after_input answers ks input now v = after_settling (length ks) answers ks now (after_step answers ks input now v)

-- ---- an item

abbrev pub is_current : Life → Option Life → Bool
is_current life None = false
is_current life (Some other) = is_same_life life other

-- the current session of a neighbour is over
abbrev pub after_down : Answers → List ℕ → ℕ → ℕ → Serving → Serving
after_down answers ks k now v = after_input answers ks (In.LinkDown k) now (with_current v k None)

abbrev pub after_old_down : Answers → List ℕ → ℕ → ℕ → Serving → Option Life → Serving
after_old_down answers ks k now v None = v
after_old_down answers ks k now v (Some life) = after_down answers ks k now v

-- the cut of a neighbour's current session is pending, and is offered once
abbrev pub after_cut_asked : Answers → Serving → ℕ → Life → Serving
after_cut_asked answers v k life = after_cut_tried answers (with_pending v k (Some life)) k (Some life)

-- the current session of a neighbour is cut, and is over; if it has none, nothing happens
abbrev pub after_life_cut : Answers → List ℕ → ℕ → ℕ → Serving → Option Life → Serving
after_life_cut answers ks k now v None = v
after_life_cut answers ks k now v (Some life) = after_down answers ks k now (after_cut_asked answers v k life)

abbrev pub after_up : Answers → List ℕ → ℕ → Life → ℕ → Serving → Serving
after_up answers ks k life now v = after_input answers ks (In.LinkUp k) now (with_current v k (Some life))

abbrev pub after_packet : Answers → List ℕ → ℕ → Life → Packet → ℕ → Serving → Serving
after_packet answers ks k life packet now v =
    after_input answers ks (In.Packet k packet) now (record v {
      steps = v.steps ++ record {
        from = k;
        parcel = record { life = life; packet = packet };
      } ∷ [];
    })

-- an item of the link to a neighbour
unfoldable pub after_link_item : Answers → List ℕ → ℕ → ℕ → What → Serving → Serving
after_link_item answers ks k now (Tells.Up life) v = after_up answers ks k life now
    (after_old_down answers ks k now v (v.seat.current k))
after_link_item answers ks k now (Tells.Packet life packet) v = if is_current life (v.seat.current k) then after_packet
    answers ks k life packet now v else v
after_link_item answers ks k now (Tells.Down life reason) v =
    if is_current life (v.seat.current k) then after_down answers ks k now v
    else if is_current life (v.seat.pending k) then with_pending v k None
    else v
after_link_item answers ks k now (Tells.Need d) v = after_input answers ks (In.Need d) now v
after_link_item answers ks k now (Tells.Cut j) v = v
after_link_item answers ks k now Tells.Beat v = v
after_link_item answers ks k now Tells.Show v = record v { answer = Says.Show }
after_link_item answers ks k now (Tells.Status status) v = record v { answer = Says.Show }
after_link_item answers ks k now Tells.Quit v = record v { answer = Says.Quit }

-- an item of a seat that is not a link
unfoldable pub after_other_item : Answers → List ℕ → ℕ → What → Serving → Serving
after_other_item answers ks now (Tells.Up life) v = v
after_other_item answers ks now (Tells.Packet life packet) v = v
after_other_item answers ks now (Tells.Down life reason) v = v
after_other_item answers ks now (Tells.Need d) v = after_input answers ks (In.Need d) now v
after_other_item answers ks now (Tells.Cut k) v = if has_number k ks then after_life_cut answers ks k now v
    (v.seat.current k) else v
after_other_item answers ks now Tells.Beat v = v
after_other_item answers ks now Tells.Show v = record v { answer = Says.Show }
after_other_item answers ks now (Tells.Status status) v = record v { answer = Says.Show }
after_other_item answers ks now Tells.Quit v = record v { answer = Says.Quit }

abbrev pub after_item_of : Answers → List ℕ → Option ℕ → ℕ → What → Serving → Serving
after_item_of answers ks None now what v = after_other_item answers ks now what v
after_item_of answers ks (Some k) now what v = after_link_item answers ks k now what v

-- the state before an item is served
abbrev pub begin_serving : SeatState → Serving
begin_serving seat = record { seat = seat; offers = []; inputs = []; steps = []; answer = Says.Nothing }

-- an item is served: each pending cut is offered once, and then the item is handled for the neighbour at its seat
unfoldable pub serving_of : Answers → List ℕ → SeatState → Item → Serving
serving_of answers ks seat item = after_item_of answers ks (slice_get ks item.seat) item.now item.what
    (after_cuts_tried answers ks (begin_serving seat))

-- ---- results of serving

-- the outbound messages that were put into the queue to a neighbour, in order
abbrev pub put_to : ℕ → List Offer → List Cargo
put_to k [] = []
put_to k (o ∷ offers) = (if (o.to == k) && o.put then o.cargo ∷ [] else []) ++ put_to k offers

-- the packets of a neighbour that were passed to the core
abbrev pub stepped_from : ℕ → List Step → List Parcel
stepped_from k [] = []
stepped_from k (s ∷ steps) = (if s.from == k then s.parcel ∷ [] else []) ++ stepped_from k steps
