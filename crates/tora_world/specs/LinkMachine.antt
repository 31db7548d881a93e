-- The link machine, an abstract link without frames, windows, timers, retries or files.
use Rattle.std.specs.Prelude.{◌≡◌, ◌≢◌, ℕ, ◌<◌, ◌==◌, ◌&&◌, List, [], ◌∷◌, ◌++◌, length, slice_get, Some, if◌then◌else◌}
use Rattle.tora_packet.specs.declared.Packet.{Packet}
use Rattle.tora_arq.specs.declared.life.Life.{Life}
use Rattle.tora_arq.specs.Lives.{life_of, reversed}
use Rattle.tora_seat.specs.Serving.{Parcel}
use Rattle.tora_world.specs.Lists.{parcel_of, packets_of, IsIn, Each}

-- the state of one end of a link
pub record MachineEnd : Type 0 where
  pub drawn : List ℕ  -- the numbers that it has drawn, last one first
  pub bound : List Life  -- the sessions that it has bound, last one first
  pub closed : List Life
  pub sent : List Parcel  -- to the other end, in order
  pub taken : List Parcel  -- from the other end, in order

-- a state for each node and each of its neighbours
abbrev pub Machine : Type 0
Machine = ℕ → ℕ → MachineEnd

pub data MachineStep : Type 0 where
  Draw : (n k number : ℕ) → MachineStep
  Bind : (n k own peer : ℕ) → MachineStep
  Send : (n k : ℕ) (life : Life) (packet : Packet) → MachineStep
  Take : (n k : ℕ) (life : Life) (packet : Packet) → MachineStep
  Close : (n k : ℕ) (life : Life) → MachineStep

-- a function on pairs of nodes, changed at one pair
abbrev pub put_at : {A : Type 0} → (ℕ → ℕ → A) → ℕ → ℕ → A → ℕ → ℕ → A
put_at f n k v a b = if (a == n) && (b == k) then v else f a b

abbrev pub IsLast : ℕ → List ℕ → Type 0
IsLast x [] = ⊥
IsLast x (y ∷ ys) = x ≡ y

-- the machine may make this step
abbrev pub MayStep : Machine → MachineStep → Type 0
-- the number is above all earlier ones of this end
MayStep m (Draw n k number) = Each (λ earlier. earlier < number) (m n k).drawn
-- the end's last number, with which it has not bound before, and a number that the other end has drawn
MayStep m (Bind n k own peer) = IsLast own (m n k).drawn × Each (λ life. life.own ≢ own) (m n k).bound
    × IsIn peer (m k n).drawn
-- the session is bound and not closed
MayStep m (Send n k life packet) = IsIn life (m n k).bound × Each (λ closed. closed ≢ life) (m n k).closed
-- the packet is the next one that the other end has sent in that session
MayStep m (Take n k life packet) =
    IsIn life (m n k).bound × Each (λ closed. closed ≢ life) (m n k).closed
    × (slice_get (packets_of (reversed life) (m k n).sent) (length (packets_of life (m n k).taken)) ≡ Some packet)
MayStep m (Close n k life) = Unit {0}

abbrev pub drawing : MachineEnd → ℕ → MachineEnd
drawing p number = record p { drawn = number ∷ p.drawn }

abbrev pub binding : MachineEnd → Life → MachineEnd
binding p life = record p { bound = life ∷ p.bound }

abbrev pub sending : MachineEnd → Parcel → MachineEnd
sending p x = record p { sent = p.sent ++ x ∷ [] }

abbrev pub taking : MachineEnd → Parcel → MachineEnd
taking p x = record p { taken = p.taken ++ x ∷ [] }

abbrev pub closing : MachineEnd → Life → MachineEnd
closing p life = record p { closed = life ∷ p.closed }

abbrev pub after_machine_step : Machine → MachineStep → Machine
after_machine_step m (Draw n k number) = put_at m n k (drawing (m n k) number)
after_machine_step m (Bind n k own peer) = put_at m n k (binding (m n k) (life_of own peer))
after_machine_step m (Send n k life packet) = put_at m n k (sending (m n k) (parcel_of life packet))
after_machine_step m (Take n k life packet) = put_at m n k (taking (m n k) (parcel_of life packet))
after_machine_step m (Close n k life) = put_at m n k (closing (m n k) life)

abbrev pub empty_machine : Machine
empty_machine n k = record { drawn = []; bound = []; closed = []; sent = []; taken = [] }

-- the machine after these steps, last one first
abbrev pub machine_after : List MachineStep → Machine
machine_after [] = empty_machine
machine_after (s ∷ steps) = after_machine_step (machine_after steps) s

-- a list of steps, last one first, after these steps were added in their order
abbrev pub made : List MachineStep → List MachineStep → List MachineStep
made [] before = before
made (s ∷ steps) before = made steps (s ∷ before)

-- each step was allowed when it was made
abbrev pub IsMachineRun : List MachineStep → Type 0
IsMachineRun [] = Unit {0}
IsMachineRun (s ∷ steps) = MayStep (machine_after steps) s × IsMachineRun steps
