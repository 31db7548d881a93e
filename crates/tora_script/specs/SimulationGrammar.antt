-- The written form of each line of a simulation file.
use Rattle.std.specs.Prelude.{◌≡◌, ℕ, ◌<◌, ◌≤◌, ◌^◌, codes, List, ◌∷◌, ◌++◌, length, All, Option, None, Some, Ok}
use Rattle.std.specs.Fmt.{decimal}
use Rattle.hex.specs.Hex.{decode_of}
use Rattle.tora_packet.specs.PacketParts.{IsId}
use Rattle.tora_frame.specs.declared.parts.TheConstants.{GREATEST_NUMBER}
use Rattle.tora_arq.specs.declared.life.Life.{Life}
use Rattle.tora_world.specs.declared.event.Event.{Event}
use Rattle.tora_world.specs.declared.event.Event.TheVariants.{Need, Tick, Open, Pull, Transmit, Deliver, Pump, CoreTurn}
use Rattle.tora_world.specs.declared.event.Event.TheVariants.{Arm, Restart}
use Rattle.tora_world.specs.declared.call.Call.{Call}
use Rattle.tora_world.specs.declared.call.Call.TheVariants as Fails
use Rattle.tora_core.specs.declared.erasure.Erasure.{Erasure}
use Rattle.tora_core.specs.declared.erasure.Erasure.TheVariants.{Plain, Remembered}
use Rattle.tora_script.specs.declared.parse.TheConstants.{MOST_ROUNDS}
use Rattle.tora_script.specs.declared.node_marks.Mark.{Mark}
use Rattle.tora_script.specs.declared.node_marks.Mark.TheVariants.{Old, Erases}
use Rattle.tora_script.specs.declared.script_line.SimulationLine.{SimulationLine}
use Rattle.tora_script.specs.declared.script_line.SimulationLine.TheVariants.{Happens, Rounds, Part, Mend, Heights}
use Rattle.tora_script.specs.declared.script_line.SimulationLine.TheVariants.{Sent, Taken, Exact, Walk, Rest}
use Rattle.tora_lines.specs.WordGrammar.{SpellsId, list_text}

-- a word and the numbers of two nodes
pub record SpellsPair (word text : List ℕ) (n k : ℕ) : Type 0 where
  pub first : IsId n
  pub second : IsId k
  pub text_is : text ≡ word ++ (decimal n ++ 32 ∷ decimal k)

-- a session number, from 1 to 2^62
abbrev pub IsLifeNumber : ℕ → Type 0
IsLifeNumber n = (0 < n) × (n ≤ GREATEST_NUMBER)

-- a word, the numbers of two nodes, and the two numbers of a session
pub record SpellsLane (word text : List ℕ) (n k : ℕ) (life : Life) : Type 0 where
  pub first : IsId n
  pub second : IsId k
  pub own : IsLifeNumber life.own
  pub peer : IsLifeNumber life.peer
  pub text_is : text ≡ word ++ (decimal n ++ 32 ∷ (decimal k ++ 32 ∷ (decimal life.own ++ 32 ∷ decimal life.peer)))

abbrev pub call_text : Call → List ℕ
call_text Fails.SendLost = codes "send-lost"
call_text Fails.SendGone = codes "send-gone"
call_text Fails.Receive = codes "receive"
call_text Fails.Read = codes "read"
call_text Fails.Write = codes "write"
call_text Fails.Sync = codes "sync"

pub record SpellsArm (text : List ℕ) (n : ℕ) (call : Call) : Type 0 where
  pub id : IsId n
  pub text_is : text ≡ codes "arm " ++ (decimal n ++ 32 ∷ call_text call)

-- the word T of `restart N T`: `-` for no bytes, or 32 hexadecimal digits of either case
abbrev pub SpellsTorn : List ℕ → Option (List ℕ) → Type 0
SpellsTorn word None = word ≡ codes "-"
SpellsTorn word (Some bytes) = (length word ≡ 32) × (decode_of word ≡ Ok bytes)

pub record SpellsRestart (text : List ℕ) (n : ℕ) (torn : Option (List ℕ)) : Type 0 where
  pub id : IsId n
  pub word : List ℕ
  pub spelled : SpellsTorn word torn
  pub text_is : text ≡ codes "restart " ++ (decimal n ++ 32 ∷ word)

-- a word and a number
pub record SpellsNumber (word text : List ℕ) (n : ℕ) : Type 0 where
  pub below : n < 2 ^ 64
  pub text_is : text ≡ word ++ decimal n

abbrev pub SpellsEvent : List ℕ → Event → Type 0
SpellsEvent text (Need n d) = SpellsPair (codes "need ") text n d
SpellsEvent text Tick = text ≡ codes "tick"
SpellsEvent text (Open n k) = SpellsPair (codes "open ") text n k
SpellsEvent text (Pull n k) = SpellsPair (codes "pull ") text n k
SpellsEvent text (Transmit n k) = SpellsPair (codes "transmit ") text n k
SpellsEvent text (Deliver i) = SpellsNumber (codes "deliver ") text i
SpellsEvent text (Pump n k) = SpellsPair (codes "pump ") text n k
SpellsEvent text (CoreTurn n) = SpellsId (codes "turn ") text n
SpellsEvent text (Arm n call) = SpellsArm text n call
SpellsEvent text (Restart n torn) = SpellsRestart text n torn

-- a line after the links
abbrev pub SpellsSimulationLine : List ℕ → SimulationLine → Type 0
SpellsSimulationLine text (Happens event) = SpellsEvent text event
SpellsSimulationLine text (Rounds r) = (r ≤ MOST_ROUNDS) × SpellsNumber (codes "rounds ") text r
SpellsSimulationLine text (Part a b) = SpellsPair (codes "part ") text a b
SpellsSimulationLine text (Mend a b) = SpellsPair (codes "mend ") text a b
SpellsSimulationLine text (Heights d) = SpellsId (codes "heights ") text d
SpellsSimulationLine text (Sent a b life) = SpellsLane (codes "sent ") text a b life
SpellsSimulationLine text (Taken b a life) = SpellsLane (codes "taken ") text b a life
SpellsSimulationLine text (Exact d) = SpellsId (codes "exact ") text d
SpellsSimulationLine text (Walk n d) = SpellsPair (codes "walk ") text n d
SpellsSimulationLine text Rest = text ≡ codes "rest"

-- `dests LIST`
pub record SpellsDests (text dests : List ℕ) : Type 0 where
  pub ids : All IsId dests
  pub text_is : text ≡ codes "dests " ++ list_text dests

-- `link A B`
abbrev pub SpellsLink : List ℕ → ℕ × ℕ → Type 0
SpellsLink text p = SpellsPair (codes "link ") text p.0 p.1

abbrev pub erasure_text : Erasure → List ℕ
erasure_text Plain = codes "plain"
erasure_text Remembered = codes "remembered"

-- `erasure N WORD`
pub record SpellsErasure (text : List ℕ) (n : ℕ) (erasure : Erasure) : Type 0 where
  pub id : IsId n
  pub text_is : text ≡ codes "erasure " ++ (decimal n ++ 32 ∷ erasure_text erasure)

-- `old N` or `erasure N WORD`
abbrev pub SpellsMark : List ℕ → Mark → Type 0
SpellsMark text (Old n) = SpellsId (codes "old ") text n
SpellsMark text (Erases n erasure) = SpellsErasure text n erasure
