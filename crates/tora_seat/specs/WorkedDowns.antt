-- The end of a current session, of a session whose cut is pending, and of another session.
use Rattle.std.specs.Prelude.{◌≡◌, false, [], ◌∷◌, Some, None}
use Rattle.tora_arq.specs.declared.life.Life.{Life}
use Rattle.tora_arq.specs.declared.reason.Reason.TheVariants as Because
use Rattle.tora_core.specs.declared.Input.TheVariants as In
use Rattle.tora_core.specs.CoreRun.{CoreView, first_core, core_after}
use Rattle.tora_seat.specs.declared.what.What.TheVariants as Tells
use Rattle.tora_seat.specs.Serving.{SeatState, Serving, serving_of}

abbrev pub uneven : Life
uneven = record { own = 3; peer = 7 }

abbrev pub turned : Life
turned = record { own = 7; peer = 3 }

-- the core of node 1, whose neighbour is node 2
abbrev pub worked_core : CoreView
worked_core = first_core 1 (2 ∷ []) (2 ∷ [])

-- the link is up in this session
abbrev pub current_seat : SeatState
current_seat = record { core = core_after worked_core (In.LinkUp 2) 0; current = λ k. Some uneven; pending = λ k. None }

-- the session was cut, and the cut is pending
abbrev pub cut_seat : SeatState
cut_seat = record { core = worked_core; current = λ k. None; pending = λ k. Some uneven }

-- the end of a session is served at tick 4, and the queue returns every outbound message
abbrev pub served : SeatState → Life → Serving
served s life = serving_of (λ offers k. false) (2 ∷ []) s (record {
  seat = 0;
  number = 1;
  now = 4;
  what = Tells.Down life Because.Silent;
})

pub record Downs : Type 0 where
  -- the current session is over, and its link goes down
  pub ended : (served current_seat uneven).seat.current 2 ≡ None
  pub stepped : (served current_seat uneven).inputs ≡ (In.LinkDown 2, 4) ∷ []
  -- the end of another session changes nothing
  pub passed_over : (served current_seat turned).seat.current 2 ≡ Some uneven
  pub not_stepped : (served current_seat turned).inputs ≡ []
  -- the cut of the ended session is no longer pending, and that of another session still is
  pub forgotten : (served cut_seat uneven).seat.pending 2 ≡ None
  pub stays_pending : (served cut_seat turned).seat.pending 2 ≡ Some uneven
  pub none_stepped : (served cut_seat uneven).inputs ≡ []
