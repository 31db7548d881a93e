-- Sessions of a link.
use Rattle.std.specs.Prelude.{ℕ, Bool, ◌==◌, ◌&&◌}
use Rattle.tora_arq.specs.declared.life.Life.{Life}
use Rattle.tora_arq.specs.declared.link_event.LinkEvent.{LinkEvent}
use Rattle.tora_arq.specs.declared.link_event.LinkEvent.TheVariants.{Up, Deliver, Down}
use Rattle.tora_arq.specs.declared.reason.Reason.{Reason}
use Rattle.tora_arq.specs.declared.reason.Reason.TheVariants.{Silent, NewPeer, Full, Cut, Spent}
use Rattle.tora_arq.specs.declared.submit_error.SubmitError.{SubmitError}
use Rattle.tora_arq.specs.declared.submit_error.SubmitError.TheVariants as Refusal

abbrev pub life_of : ℕ → ℕ → Life
life_of own peer = record { own = own; peer = peer }

abbrev pub is_same_life : Life → Life → Bool
is_same_life a b = (a.own == b.own) && (a.peer == b.peer)

-- the session as the other end writes it
abbrev pub reversed : Life → Life
reversed life = record { own = life.peer; peer = life.own }

-- the session of an event
abbrev pub event_life : LinkEvent → Life
event_life (Up life) = life
event_life (Deliver life packet) = life
event_life (Down life reason) = life

-- the number of a reason, as texts print it
abbrev pub reason_number : Reason → ℕ
reason_number Silent = 1
reason_number NewPeer = 2
reason_number Full = 3
reason_number Cut = 4
reason_number Spent = 5

-- the number of a refusal, as texts print it
abbrev pub submit_error_number : SubmitError → ℕ
submit_error_number (Refusal.WrongLife packet) = 1
submit_error_number Refusal.Full = 2
submit_error_number Refusal.Spent = 3
