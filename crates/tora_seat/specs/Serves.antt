-- Serving an item as a relation: one case for each kind of item and each situation. The relation does not determine
-- whether a queue takes an outbound message; each offer has its result.
use Rattle.std.specs.Prelude.{◌≡◌, ◌≢◌, ℕ, ◌≤◌, true, false, List, [], ◌∷◌, ◌++◌, slice_get, Option, None, Some}
use Rattle.tora_packet.specs.declared.Packet.{Packet}
use Rattle.tora_arq.specs.declared.life.Life.{Life}
use Rattle.tora_arq.specs.declared.reason.Reason.{Reason}
use Rattle.tora_core.specs.declared.Input.{Input}
use Rattle.tora_core.specs.declared.Input.TheVariants as In
use Rattle.tora_core.specs.declared.errors.StepError.{StepError}
use Rattle.tora_core.specs.Numbers.{has_number}
use Rattle.tora_core.specs.CoreRun.{refusal_of, sends_of}
use Rattle.tora_seat.specs.declared.status.Status.{Status}
use Rattle.tora_seat.specs.declared.what.What.{What}
use Rattle.tora_seat.specs.declared.what.What.TheVariants as Tells
use Rattle.tora_seat.specs.declared.item.Item.{Item}
use Rattle.tora_seat.specs.declared.cargo.Cargo.TheVariants as Gives
use Rattle.tora_seat.specs.declared.answer.Answer.TheVariants as Says
use Rattle.tora_seat.specs.Serving.{SeatState, Serving, offered, with_current, with_pending, accepting, begin_serving}

-- a relation holds for each element of a list, one after another
abbrev pub ForEach : {A : Type 0} → (Serving → A → Serving → Type 0) → List A → Serving → Serving → Type 0
ForEach Does [] v w = w ≡ v
ForEach Does (x ∷ xs) v w = (between : Serving) × Does v x between × ForEach Does xs between w

-- ---- one outbound message

-- if the cut of a session is pending at a neighbour, it is offered once, and stays pending if the queue returns it
pub data TriesCut (v : Serving) (k : ℕ) : Serving → Type 0 where
  no_cut : v.seat.pending k ≡ None → TriesCut v k v
  cut_put : (life : Life) → v.seat.pending k ≡ Some life → TriesCut v k
      (with_pending (offered v k (Gives.Cut life) true) k None)
  cut_back : (life : Life) → v.seat.pending k ≡ Some life → TriesCut v k (offered v k (Gives.Cut life) false)

-- if a session is current at a neighbour, a packet is offered in it; if the queue returns the packet, the session is
-- over and its cut is pending
pub data Sends (packet : Packet) (v : Serving) (k : ℕ) : Serving → Type 0 where
  no_life : v.seat.current k ≡ None → Sends packet v k v
  packet_put : (life : Life) → v.seat.current k ≡ Some life → Sends packet v k
      (offered v k (Gives.Packet life packet) true)
  packet_back : (life : Life) → v.seat.current k ≡ Some life
      → Sends packet v k (with_pending (with_current (offered v k (Gives.Packet life packet) false) k None) k
      (Some life))

-- a packet is offered to each neighbour, in ascending order
abbrev pub SendsToEach : List ℕ → Serving → Packet → Serving → Type 0
SendsToEach ks v packet w = ForEach (Sends packet) ks v w

-- ---- one input

-- the core refuses an input, and the refusal is the result; or it accepts the input, and each packet of the step goes
-- to each neighbour, by ascending destination
pub data Steps (ks : List ℕ) (now : ℕ) (v : Serving) (input : Input) : Serving → Type 0 where
  refused : (error : StepError) → refusal_of v.seat.core input ≡ Some error
      → Steps ks now v input (record v { answer = Says.Refused error })
  accepted : {w : Serving} → refusal_of v.seat.core input ≡ None
      → ForEach (SendsToEach ks) (sends_of v.seat.core input now) (accepting v input now) w → Steps ks now v input w

-- the link to this neighbour is up at the core without a current session: its session was cut
pub record IsCut (ks : List ℕ) (s : SeatState) (k : ℕ) : Type 0 where
  pub neighbour : has_number k ks ≡ true
  pub up : has_number k s.core.up ≡ true
  pub none : s.current k ≡ None

-- the least neighbour whose session was cut
pub record IsLeastCut (ks : List ℕ) (s : SeatState) (k : ℕ) : Type 0 where
  pub cut : IsCut ks s k
  pub least : (j : ℕ) → IsCut ks s j → k ≤ j

-- the links to these neighbours go down one after another, each the least whose session was cut when it goes down
abbrev pub GoDown : List ℕ → ℕ → List ℕ → Serving → Serving → Type 0
GoDown ks now [] v w = w ≡ v
GoDown ks now (k ∷ downs) v w = (between : Serving) × IsLeastCut ks v.seat k × Steps ks now v (In.LinkDown k) between
    × GoDown ks now downs between w

-- the core takes an input, and then the links whose sessions were cut go down, until none is left
pub record Settles (ks : List ℕ) (now : ℕ) (v : Serving) (input : Input) (w : Serving) : Type 0 where
  pub between : Serving
  pub downs : List ℕ
  pub steps : Steps ks now v input between
  pub go_down : GoDown ks now downs between w
  pub none_left : (k : ℕ) → ¬ IsCut ks w.seat k

-- ---- one item

-- a packet is recorded as passed to the core
abbrev pub noting : Serving → ℕ → Life → Packet → Serving
noting v k life packet = record v {
  steps = v.steps ++ record {
    from = k;
    parcel = record { life = life; packet = packet };
  } ∷ [];
}

-- The effect of an item from the link to a neighbour, or from a seat that is not a link (None).
pub data Does (ks : List ℕ) (now : ℕ) (v : Serving) : Option ℕ → What → Serving → Type 0 where
  -- a session comes up and none is current
  first_life : {k : ℕ} {life : Life} {w : Serving} → v.seat.current k ≡ None
      → Settles ks now (with_current v k (Some life)) (In.LinkUp k) w → Does ks now v (Some k) (Tells.Up life) w
  -- a session comes up while another one is current: the link goes down first
  next_life : {k : ℕ} {life : Life} {between w : Serving} (old : Life) → v.seat.current k ≡ Some old
      → Settles ks now (with_current v k None) (In.LinkDown k) between
      → Settles ks now (with_current between k (Some life)) (In.LinkUp k) w → Does ks now v (Some k) (Tells.Up life) w
  -- a packet of the current session, or of another session
  packet_stepped : {k : ℕ} {life : Life} {packet : Packet} {w : Serving} → v.seat.current k ≡ Some life
      → Settles ks now (noting v k life packet) (In.Packet k packet) w
      → Does ks now v (Some k) (Tells.Packet life packet) w
  packet_passed_over : {k : ℕ} {life : Life} {packet : Packet} → v.seat.current k ≢ Some life
      → Does ks now v (Some k) (Tells.Packet life packet) v
  -- the end of the current session, of one whose cut is pending, or of another one
  life_ended : {k : ℕ} {life : Life} {reason : Reason} {w : Serving} → v.seat.current k ≡ Some life
      → Settles ks now (with_current v k None) (In.LinkDown k) w → Does ks now v (Some k) (Tells.Down life reason) w
  cut_forgotten : {k : ℕ} {life : Life} {reason : Reason} → v.seat.current k ≢ Some life → v.seat.pending k ≡ Some life
      → Does ks now v (Some k) (Tells.Down life reason) (with_pending v k None)
  end_passed_over : {k : ℕ} {life : Life} {reason : Reason} → v.seat.current k ≢ Some life
      → v.seat.pending k ≢ Some life
      → Does ks now v (Some k) (Tells.Down life reason) v
  -- a seat that is not a link reports no session
  no_link_up : {life : Life} → Does ks now v None (Tells.Up life) v
  no_link_packet : {life : Life} {packet : Packet} → Does ks now v None (Tells.Packet life packet) v
  no_link_down : {life : Life} {reason : Reason} → Does ks now v None (Tells.Down life reason) v
  -- a seat that is not a link requests a cut at a neighbour: a current session is over, and its cut is pending and
  -- offered once
  life_cut : {k : ℕ} {life : Life} {tried w : Serving} → has_number k ks ≡ true → v.seat.current k ≡ Some life
      → TriesCut (with_pending v k (Some life)) k tried
      → Settles ks now (with_current tried k None) (In.LinkDown k) w → Does ks now v None (Tells.Cut k) w
  no_life_cut : {k : ℕ} → v.seat.current k ≡ None → Does ks now v None (Tells.Cut k) v
  no_neighbour_cut : {k : ℕ} → has_number k ks ≡ false → Does ks now v None (Tells.Cut k) v
  -- an item of a link that requests a cut has no effect: a link reports the end of its own session instead
  link_cuts_none : {j k : ℕ} → Does ks now v (Some j) (Tells.Cut k) v
  -- items of any seat
  need : {seat : Option ℕ} {d : ℕ} {w : Serving} → Settles ks now v (In.Need d) w → Does ks now v seat (Tells.Need d) w
  beat : {seat : Option ℕ} → Does ks now v seat Tells.Beat v
  show : {seat : Option ℕ} → Does ks now v seat Tells.Show (record v { answer = Says.Show })
  status : {seat : Option ℕ} {asked : Status} → Does ks now v seat (Tells.Status asked)
      (record v { answer = Says.Show })
  quit : {seat : Option ℕ} → Does ks now v seat Tells.Quit (record v { answer = Says.Quit })

-- an item is served at this seat: each pending cut is offered once, in ascending order, and then the item takes effect
pub record Serves (ks : List ℕ) (s : SeatState) (item : Item) (w : Serving) : Type 0 where
  pub tried : Serving
  pub cuts : ForEach TriesCut ks (begin_serving s) tried
  pub does : Does ks item.now tried (slice_get ks item.seat) item.what w
