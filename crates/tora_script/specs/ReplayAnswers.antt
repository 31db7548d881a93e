-- The output for each line after the first, and the core after the line.
use Rattle.std.specs.Prelude.{ℕ, codes, List, [], ◌∷◌, ◌++◌, Option, Some, None, Ok, Err}
use Rattle.std.specs.List.{flat_map}
use Rattle.hex.specs.Hex.{encode_lower}
use Rattle.tora_packet.specs.declared.Packet.{Packet as AnyPacket}
use Rattle.tora_packet.specs.PacketGrammar.{packet_spelling, packet_error_number}
use Rattle.tora_core.specs.declared.errors.StepError.{StepError}
use Rattle.tora_core.specs.declared.Input.{Input}
use Rattle.tora_core.specs.declared.Input.TheVariants as input
use Rattle.tora_core.specs.Errors.{step_error_number}
use Rattle.tora_core.specs.CoreRun.{CoreView, refusal_of, core_after, sends_of}
use Rattle.tora_core.specs.ShowText.{show_text}
use Rattle.tora_lines.specs.LineText.{numbered}
use Rattle.tora_script.specs.declared.replays.line.Line.{Line}
use Rattle.tora_script.specs.declared.replays.line.Order.{Order}
use Rattle.tora_script.specs.declared.replays.line.Order.TheVariants.{Up, Down, Need, From, Show}

-- `send HEX`
abbrev pub send_line : AnyPacket → List ℕ
send_line packet = codes "send " ++ encode_lower (packet_spelling packet) ++ 10 ∷ []

-- a line for each packet, in order
abbrev pub send_lines : List AnyPacket → List ℕ
send_lines packets = flat_map send_line packets

-- a core, and the output so far
abbrev pub Reply : Type 0
Reply = CoreView × List ℕ

abbrev pub replied : CoreView → List ℕ → Reply
replied core text = (core, text)

-- the reply to an input, or its refusal with this cause, if there is one
abbrev pub step_or : Option StepError → CoreView → Input → ℕ → Reply
step_or (Some error) core input now = replied core (numbered (codes "refused ") (step_error_number error))
step_or None core input now = replied (core_after core input now) (send_lines (sends_of core input now))

-- a step: the sends, or `refused N`
unfoldable pub step_reply : CoreView → Input → ℕ → Reply
step_reply core input now = step_or (refusal_of core input) core input now

-- the output for a line: a step, `bad N` for bytes that are not a packet, or the lines of `show`
abbrev pub order_reply : CoreView → Order → ℕ → Reply
order_reply core (Up k) now = step_reply core (input.LinkUp k) now
order_reply core (Down k) now = step_reply core (input.LinkDown k) now
order_reply core (Need d) now = step_reply core (input.Need d) now
order_reply core (From k (Ok packet)) now = step_reply core (input.Packet k packet) now
order_reply core (From k (Err error)) now = replied core (numbered (codes "bad ") (packet_error_number error))
order_reply core Show now = replied core (show_text core)

unfoldable pub answer : CoreView → Line → Reply
answer core line = order_reply core line.order line.now
