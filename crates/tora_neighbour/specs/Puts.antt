-- The items that a neighbour's thread puts, without seat and number.
use Rattle.std.specs.Prelude.{ℕ}
use Rattle.tora_seat.specs.declared.what.What.{What}
use Rattle.tora_seat.specs.declared.item.Item.{Item}
use Rattle.tora_neighbour.specs.declared.hub.Put.{Put}

abbrev pub put_of : ℕ → What → Put
put_of now what = record { now = now; what = what }

-- the tick and the content of an item
abbrev pub put_in : Item → Put
put_in x = put_of x.now x.what
