-- What the parts of a link's thread exchange with its file, its queues and its wire.
use Rattle.std.specs.Prelude.{◌≡◌, ℕ, List, [], ◌∷◌}
use Rattle.std.specs.List.{flat_map}
use Rattle.tora_frame.specs.FrameParts.{FrameParts}
use Rattle.tora_seat.specs.declared.cargo.Cargo.{Cargo}
use Rattle.tora_seat.specs.declared.what.What.TheVariants as Told
use Rattle.tora_neighbour.specs.declared.hub.Put.{Put}
use Rattle.tora_neighbour.specs.Puts.{put_of}
use Rattle.tora_neighbour.specs.Intake.{Reading}
use Rattle.tora_neighbour.specs.Traffic.{entry_of, numbers_opened, cargoes_taken, frames_sent, readings_come}
use Rattle.tora_neighbour.specs.Traffic.{entries_put}
use Rattle.tora_neighbour.specs.Turns.{Turn}
use Rattle.tora_running.specs.Parts.{LinkPart}
use Rattle.tora_running.specs.Parts.LinkPart.{Opens, Ticks, Takes, Sends, Hears, Tells, Beats, Breaks}

-- the number with which the end is opened
abbrev pub number_in : LinkPart → List ℕ
number_in (Opens number now) = number ∷ []
number_in (Ticks now) = []
number_in (Takes cargo) = []
number_in (Sends now frame sending) = []
number_in (Hears now reading) = []
number_in (Tells now event) = []
number_in (Beats now) = []
number_in Breaks = []

-- the outbound message that is taken
abbrev pub cargo_in : LinkPart → List Cargo
cargo_in (Takes cargo) = cargo ∷ []
cargo_in (Opens number now) = []
cargo_in (Ticks now) = []
cargo_in (Sends now frame sending) = []
cargo_in (Hears now reading) = []
cargo_in (Tells now event) = []
cargo_in (Beats now) = []
cargo_in Breaks = []

-- the frame that is passed to a send
abbrev pub sent_in : LinkPart → List FrameParts
sent_in (Sends now frame sending) = frame ∷ []
sent_in (Opens number now) = []
sent_in (Ticks now) = []
sent_in (Takes cargo) = []
sent_in (Hears now reading) = []
sent_in (Tells now event) = []
sent_in (Beats now) = []
sent_in Breaks = []

-- the decoded datagram that a receive returned
abbrev pub heard_in : LinkPart → List Reading
heard_in (Hears now reading) = reading ∷ []
heard_in (Opens number now) = []
heard_in (Ticks now) = []
heard_in (Takes cargo) = []
heard_in (Sends now frame sending) = []
heard_in (Tells now event) = []
heard_in (Beats now) = []
heard_in Breaks = []

-- the item that is put into the queue into the core
abbrev pub put_in : LinkPart → List Put
put_in (Tells now event) = entry_of now event ∷ []
put_in (Beats now) = put_of now Told.Beat ∷ []
put_in (Opens number now) = []
put_in (Ticks now) = []
put_in (Takes cargo) = []
put_in (Sends now frame sending) = []
put_in (Hears now reading) = []
put_in Breaks = []

-- the parts exchange the same as the turns, in the same order
pub record ExchangeTheSame (parts : List LinkPart) (turns : List Turn) : Type 0 where
  pub numbers : flat_map number_in parts ≡ numbers_opened turns
  pub cargoes : flat_map cargo_in parts ≡ cargoes_taken turns
  pub sent : flat_map sent_in parts ≡ frames_sent turns
  pub heard : flat_map heard_in parts ≡ readings_come turns
  pub put : flat_map put_in parts ≡ entries_put turns
