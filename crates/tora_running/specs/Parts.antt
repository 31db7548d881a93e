-- The parts of a link's thread (its atomic actions), when its end allows each, and the end after it.
use Rattle.std.specs.Prelude.{◌≡◌, ℕ, ◌<◌, IsTrue, List, [], ◌∷◌, Some}
use Rattle.tora_frame.specs.FrameParts.{FrameParts}
use Rattle.tora_arq.specs.declared.link_event.LinkEvent.{LinkEvent}
use Rattle.tora_arq.specs.Settings.{Settings}
use Rattle.tora_arq.specs.LinkEnd.{EndState, is_closed, bound_life, after_open, after_tick, frame_due, after_transmit}
use Rattle.tora_arq.specs.LinkEnd.{first_event, after_poll_event}
use Rattle.tora_seat.specs.declared.cargo.Cargo.{Cargo}
use Rattle.tora_seat.specs.Between.{after_cargo}
use Rattle.tora_world.specs.World.{Sending}
use Rattle.tora_neighbour.specs.Intake.{Reading, after_reading}
use Rattle.tora_seat.specs.Between.{after_cut_of_bound}

-- each part has the tick that its thread has read
pub data LinkPart : Type 0 where
  -- a closed end is opened with a number that was drawn for it
  Opens : (number now : ℕ) → LinkPart
  Ticks : (now : ℕ) → LinkPart
  -- an outbound message is taken from the queue out of the core
  Takes : (cargo : Cargo) → LinkPart
  -- the first frame due is passed to a send, with this outcome
  Sends : (now : ℕ) (frame : FrameParts) (sending : Sending) → LinkPart
  -- a receive of the wire returns a datagram: its frame, or why it is not one
  Hears : (now : ℕ) (reading : Reading) → LinkPart
  -- the first event of the end is put into the queue into the core
  Tells : (now : ℕ) (event : LinkEvent) → LinkPart
  -- a beat is put into that queue
  Beats : (now : ℕ) → LinkPart
  -- the wire has failed: the bound session is cut, if there is one
  Breaks : LinkPart

-- the end after the part
abbrev pub end_after : Settings → EndState → LinkPart → EndState
end_after s e (Opens number now) = after_open e number now
end_after s e (Ticks now) = after_tick s e now
end_after s e (Takes cargo) = after_cargo e cargo
end_after s e (Sends now frame sending) = after_transmit s e now
end_after s e (Hears now reading) = after_reading s e now reading
end_after s e (Tells now event) = after_poll_event e
end_after s e (Beats now) = e
end_after s e Breaks = after_cut_of_bound e (bound_life e)

-- whether the end allows the part
abbrev pub IsPossible : Settings → EndState → LinkPart → Type 0
IsPossible s e (Opens number now) = IsTrue (is_closed e) × (e.last_life < number)
IsPossible s e (Sends now frame sending) = frame_due s e now ≡ Some frame
IsPossible s e (Tells now event) = first_event e ≡ Some event
IsPossible s e (Ticks now) = Unit {0}
IsPossible s e (Takes cargo) = Unit {0}
IsPossible s e (Hears now reading) = Unit {0}
IsPossible s e (Beats now) = Unit {0}
IsPossible s e Breaks = Unit {0}

-- these parts of one thread are made one after another
abbrev pub AreLinkParts : Settings → EndState → List LinkPart → EndState → Type 0
AreLinkParts s e [] after = after ≡ e
AreLinkParts s e (part ∷ parts) after = IsPossible s e part × AreLinkParts s (end_after s e part) parts after
