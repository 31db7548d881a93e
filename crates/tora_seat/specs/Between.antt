-- What a link end and the seat of a core pass to each other: events become items, and outbound messages become calls.
use Rattle.std.specs.Prelude.{Option, Some, None}
use Rattle.tora_arq.specs.declared.life.Life.{Life}
use Rattle.tora_arq.specs.declared.link_event.LinkEvent.{LinkEvent}
use Rattle.tora_arq.specs.declared.link_event.LinkEvent.TheVariants as Link
use Rattle.tora_arq.specs.LinkEnd.{EndState, after_submit, after_cut}
use Rattle.tora_seat.specs.declared.what.What.{What}
use Rattle.tora_seat.specs.declared.what.What.TheVariants as Tells
use Rattle.tora_seat.specs.declared.cargo.Cargo.{Cargo}
use Rattle.tora_seat.specs.declared.cargo.Cargo.TheVariants as Gives

-- the content of the item that reports an event of a link end
abbrev pub what_of : LinkEvent → What
what_of (Link.Up life) = Tells.Up life
what_of (Link.Deliver life packet) = Tells.Packet life packet
what_of (Link.Down life reason) = Tells.Down life reason

-- a packet is submitted in its session, or a session is cut
abbrev pub after_cargo : EndState → Cargo → EndState
after_cargo e (Gives.Packet life packet) = after_submit e life packet
after_cargo e (Gives.Cut life) = after_cut e life

-- the bound session is cut, if there is one
abbrev pub after_cut_of_bound : EndState → Option Life → EndState
after_cut_of_bound e None = e
after_cut_of_bound e (Some life) = after_cut e life
