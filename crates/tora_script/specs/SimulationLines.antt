-- The lines of a simulation file, parsed.
use Rattle.std.specs.Prelude.{ℕ, Bool, ◌==◌, ◌&&◌, nat_lt, nat_le, if◌then◌else◌, codes, is_some, List, length, Option}
use Rattle.std.specs.Prelude.{Some, None, option_map}
use Rattle.std.specs.Result.{result_ok}
use Rattle.hex.specs.Hex.{decode_of}
use Rattle.tora_frame.specs.declared.parts.TheConstants.{GREATEST_NUMBER}
use Rattle.tora_arq.specs.declared.life.Life.{Life}
use Rattle.tora_world.specs.declared.event.Event.{Event}
use Rattle.tora_world.specs.declared.event.Event.TheVariants.{Need, Tick, Open, Pull, Transmit, Deliver, Pump, CoreTurn}
use Rattle.tora_world.specs.declared.event.Event.TheVariants.{Arm, Restart}
use Rattle.tora_world.specs.declared.call.Call.{Call}
use Rattle.tora_world.specs.declared.call.Call.TheVariants as Fails
use Rattle.tora_core.specs.declared.erasure.Erasure.{Erasure}
use Rattle.tora_core.specs.declared.erasure.Erasure.TheVariants.{Plain, Remembered}
use Rattle.tora_script.specs.declared.parse.TheConstants.{MOST_ROUNDS}
use Rattle.tora_script.specs.declared.node_marks.Mark.{Mark}
use Rattle.tora_script.specs.declared.node_marks.Mark.TheVariants.{Old, Erases}
use Rattle.tora_script.specs.declared.script_line.SimulationLine.{SimulationLine}
use Rattle.tora_script.specs.declared.script_line.SimulationLine.TheVariants.{Happens, Rounds, Part, Mend, Heights}
use Rattle.tora_script.specs.declared.script_line.SimulationLine.TheVariants.{Sent, Taken, Exact, Walk, Rest}
use Rattle.tora_lines.specs.Words.{cut, number_of, id_of, list_of, is_dash}
use Rattle.tora_lines.specs.Fronts.{after, or_else, ◌>>=◌}

-- ---- words

-- the text is this word
unfoldable pub is_word : List ℕ → List ℕ → Bool
is_word word text = (length text == length word) && is_some (after word text)

-- the ids of two nodes
unfoldable pub pair_of : List ℕ → Option (ℕ × ℕ)
pair_of text = do
  a ← cut 32 text
  n ← id_of a.0
  k ← id_of a.1
  Some (n, k)

-- a session number, from 1 to 2^62
abbrev pub life_number_from : ℕ → Option ℕ
life_number_from n = if nat_lt 0 n && nat_le n GREATEST_NUMBER then Some n else None

unfoldable pub life_number_of : List ℕ → Option ℕ
life_number_of text = number_of text >>= life_number_from

-- the two numbers of a session
unfoldable pub life_of : List ℕ → Option Life
life_of text = do
  a ← cut 32 text
  own ← life_number_of a.0
  peer ← life_number_of a.1
  Some (record { own = own; peer = peer })

-- two nodes and a session
unfoldable pub lane_of : List ℕ → Option (ℕ × ℕ × Life)
lane_of text = do
  a ← cut 32 text
  n ← id_of a.0
  b ← cut 32 a.1
  k ← id_of b.0
  life ← life_of b.1
  Some (n, k, life)

-- the word CALL of `arm N CALL`: the call that is to fail
unfoldable pub call_of : List ℕ → Option Call
call_of text =
    if is_word (codes "send-lost") text then Some Fails.SendLost
    else if is_word (codes "send-gone") text then Some Fails.SendGone
    else if is_word (codes "receive") text then Some Fails.Receive
    else if is_word (codes "read") text then Some Fails.Read
    else if is_word (codes "write") text then Some Fails.Write
    else if is_word (codes "sync") text then Some Fails.Sync
    else None

-- the word T of `restart N T`: `-` for no bytes, or 16 bytes in hexadecimal digits
unfoldable pub torn_of : List ℕ → Option (Option (List ℕ))
torn_of text = if is_dash text then Some None else if length text == 32 then option_map (λ bytes.
    Some bytes) (result_ok (decode_of text)) else None

-- a count of rounds, 10,000 at most
abbrev pub rounds_from : ℕ → Option SimulationLine
rounds_from r = if nat_le r MOST_ROUNDS then Some (Rounds r) else None

-- ---- events

unfoldable pub for_pair : {A : Type 0} → (ℕ → ℕ → A) → List ℕ → Option A
for_pair make text = do
  p ← pair_of text
  Some (make p.0 p.1)

unfoldable pub for_lane : {A : Type 0} → (ℕ → ℕ → Life → A) → List ℕ → Option A
for_lane make text = do
  p ← lane_of text
  Some (make p.0 p.1 p.2)

unfoldable pub for_id : {A : Type 0} → (ℕ → A) → List ℕ → Option A
for_id make text = do
  n ← id_of text
  Some (make n)

unfoldable pub deliver_of : List ℕ → Option Event
deliver_of text = do
  i ← number_of text
  Some (Deliver i)

unfoldable pub arm_of : List ℕ → Option Event
arm_of text = do
  a ← cut 32 text
  n ← id_of a.0
  call ← call_of a.1
  Some (Arm n call)

unfoldable pub restart_of : List ℕ → Option Event
restart_of text = do
  a ← cut 32 text
  n ← id_of a.0
  torn ← torn_of a.1
  Some (Restart n torn)

-- `open N K`, `pull N K`, `transmit N K` or `pump N K`
unfoldable pub end_event_of : List ℕ → Option Event
end_event_of text =
    or_else (after (codes "open ") text) (for_pair Open)
    (or_else (after (codes "pull ") text) (for_pair Pull)
    (or_else (after (codes "transmit ") text) (for_pair Transmit)
    (or_else (after (codes "pump ") text) (for_pair Pump) None)))

-- `need N D`, `deliver I`, `turn N`, `arm N CALL`, `restart N T` or `tick`
unfoldable pub node_event_of : List ℕ → Option Event
node_event_of text =
    or_else (after (codes "need ") text) (for_pair Need)
    (or_else (after (codes "deliver ") text) deliver_of
    (or_else (after (codes "turn ") text) (for_id CoreTurn)
    (or_else (after (codes "arm ") text) arm_of
    (or_else (after (codes "restart ") text) restart_of
    (if is_word (codes "tick") text then Some Tick else None)))))

-- ---- lines

unfoldable pub rounds_of : List ℕ → Option SimulationLine
rounds_of text = number_of text >>= rounds_from

-- `exact D`, `walk N D` or `rest`
unfoldable pub walk_line_of : List ℕ → Option SimulationLine
walk_line_of text =
    or_else (after (codes "exact ") text) (for_id Exact)
    (or_else (after (codes "walk ") text) (for_pair Walk)
    (if is_word (codes "rest") text then Some Rest else None))

-- `rounds R`, `part A B`, `mend A B`, `heights D`, `sent A B X Y`, `taken B A Y X`, or a line of walks
unfoldable pub order_line_of : List ℕ → Option SimulationLine
order_line_of text =
    or_else (after (codes "rounds ") text) rounds_of
    (or_else (after (codes "part ") text) (for_pair Part)
    (or_else (after (codes "mend ") text) (for_pair Mend)
    (or_else (after (codes "heights ") text) (for_id Heights)
    (or_else (after (codes "sent ") text) (for_lane Sent)
    (or_else (after (codes "taken ") text) (for_lane Taken) (walk_line_of text))))))

-- the first of two options, or the other if the first has no value
abbrev pub first_of_two : {A : Type 0} → Option A → Option A → Option A
first_of_two (Some x) other = Some x
first_of_two None other = other

-- a line after the links
unfoldable pub simulation_line_of : List ℕ → Option SimulationLine
simulation_line_of text =
    first_of_two (option_map (λ event. Happens event) (end_event_of text))
    (first_of_two (option_map (λ event. Happens event) (node_event_of text)) (order_line_of text))

-- the first line: `dests LIST`
unfoldable pub dests_of : List ℕ → Option (List ℕ)
dests_of text = after (codes "dests ") text >>= list_of

-- `link A B`
unfoldable pub link_of : List ℕ → Option (ℕ × ℕ)
link_of text = after (codes "link ") text >>= pair_of

-- `plain` or `remembered`
unfoldable pub erasure_of : List ℕ → Option Erasure
erasure_of text =
    if is_word (codes "plain") text then Some Plain
    else if is_word (codes "remembered") text then Some Remembered
    else None

unfoldable pub erases_of : List ℕ → Option Mark
erases_of text = do
  a ← cut 32 text
  n ← id_of a.0
  erasure ← erasure_of a.1
  Some (Erases n erasure)

-- `old N` or `erasure N WORD`
unfoldable pub mark_of : List ℕ → Option Mark
mark_of text = or_else (after (codes "old ") text) (for_id Old) (or_else (after (codes "erasure ") text) erases_of None)
