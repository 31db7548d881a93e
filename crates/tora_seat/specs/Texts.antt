-- Items, outbound messages and results as text.
use Rattle.std.specs.Prelude.{ℕ, codes, List, ◌++◌}
use Rattle.std.specs.Fmt.{decimal}
use Rattle.tora_packet.specs.PacketText.{written_packet}
use Rattle.tora_arq.specs.Texts.{written_life, written_reason}
use Rattle.tora_core.specs.Errors.{written_step_error}
use Rattle.tora_seat.specs.declared.status.Status.TheVariants as Asked
use Rattle.tora_seat.specs.declared.what.What.{What}
use Rattle.tora_seat.specs.declared.what.What.TheVariants as Tells
use Rattle.tora_seat.specs.declared.item.Item.{Item}
use Rattle.tora_seat.specs.declared.cargo.Cargo.{Cargo}
use Rattle.tora_seat.specs.declared.cargo.Cargo.TheVariants as Gives
use Rattle.tora_seat.specs.declared.answer.Answer.{Answer}
use Rattle.tora_seat.specs.declared.answer.Answer.TheVariants as Says

-- a word, followed by the session, the packet, the reason, the destination or the neighbour
abbrev pub written_what : What → List ℕ
written_what (Tells.Up life) = codes "up " ++ written_life life
written_what (Tells.Packet life packet) = codes "packet " ++ written_life life ++ codes " " ++ written_packet packet
written_what (Tells.Down life reason) = codes "down " ++ written_life life ++ codes " " ++ written_reason reason
written_what (Tells.Need d) = codes "need " ++ decimal d
written_what (Tells.Cut k) = codes "cut " ++ decimal k
written_what Tells.Beat = codes "beat"
written_what Tells.Show = codes "show"
written_what (Tells.Status Asked.Json) = codes "json"
written_what (Tells.Status Asked.Watch) = codes "watch"
written_what Tells.Quit = codes "quit"

-- the seat, the number, the tick, and the content
abbrev pub written_item : Item → List ℕ
written_item item = decimal item.seat ++ codes " " ++ decimal item.number ++ codes " " ++ decimal item.now ++ codes " "
    ++ written_what item.what

abbrev pub written_cargo : Cargo → List ℕ
written_cargo (Gives.Packet life packet) = codes "packet " ++ written_life life ++ codes " " ++ written_packet packet
written_cargo (Gives.Cut life) = codes "cut " ++ written_life life

-- a word; for a refusal, followed by its cause
abbrev pub written_answer : Answer → List ℕ
written_answer Says.Nothing = codes "nothing"
written_answer (Says.Refused error) = codes "refused: " ++ written_step_error error
written_answer Says.Show = codes "show"
written_answer Says.Quit = codes "quit"
