-- The output of a replay, and how it ends.
use Rattle.std.specs.Prelude.{ℕ, List, [], Option, Some, None}
use Rattle.std.specs.Option.{option_map, option_and_then}
use Rattle.tora_core.specs.declared.erasure.Erasure.{Erasure}
use Rattle.tora_core.specs.declared.erasure.Erasure.TheVariants.{Plain}
use Rattle.tora_core.specs.declared.errors.CoreError.{CoreError}
use Rattle.tora_core.specs.CoreRun.{CoreView, core_refusal, first_core_of}
use Rattle.tora_script.specs.ReplayLines.{HeaderParts, header_of, line_of}
use Rattle.tora_lines.specs.LineText.{Rules, whole_text, fault_of, IsFirstFaultBy}
use Rattle.tora_lines.specs.Engine.{IsWholeText, IsFrontOfText}
use Rattle.tora_script.specs.ReplayAnswers.{Reply, answer}
use Rattle.tora_lines.specs.declared.ended.Ended.{Ended}

-- ---- one line: the core is None before the first

-- the core of a first line, with this treatment of erased levels, unless it is refused
abbrev pub core_unless : Erasure → Option CoreError → HeaderParts → Option CoreView
core_unless erasure None h = Some (first_core_of erasure h.node h.links h.dests)
core_unless erasure (Some error) h = None

unfoldable pub core_of : Erasure → HeaderParts → Option CoreView
core_of erasure h = core_unless erasure (core_refusal h.node h.links h.dests) h

abbrev pub left_by : Reply → Option CoreView × List ℕ
left_by r = (Some r.0, r.1)

abbrev pub first_reply : Erasure → List ℕ → Option Reply
first_reply erasure line = option_map (λ core. (core, [])) (option_and_then (core_of erasure) (header_of line))

abbrev pub next_reply : CoreView → List ℕ → Option Reply
next_reply core line = option_map (answer core) (line_of line)

unfoldable pub replay_reply : Erasure → Option CoreView → List ℕ → Option (Option CoreView × List ℕ)
replay_reply erasure None line = option_map left_by (first_reply erasure line)
replay_reply erasure (Some core) line = option_map left_by (next_reply core line)

-- the end of the input is a fault if the first line is missing
abbrev pub missing : Option CoreView → ℕ → Option ℕ
missing None n = Some n
missing (Some core) n = None

-- the rules of a replay whose node has this treatment of erased levels
abbrev pub replay_rules_of : Erasure → Rules (Option CoreView)
replay_rules_of erasure = record { start = None; reply = replay_reply erasure; at_end = missing }

-- ---- all lines

-- the output for an input
abbrev pub text_with : Erasure → List ℕ → List ℕ
text_with erasure bytes = (whole_text (replay_rules_of erasure) bytes).0

-- how an input ends
abbrev pub end_with : Erasure → List ℕ → Ended
end_with erasure bytes = (whole_text (replay_rules_of erasure) bytes).1

-- the number of the first line that is a fault, if one is
abbrev pub first_fault_with : Erasure → List ℕ → Option ℕ
first_fault_with erasure bytes = fault_of (end_with erasure bytes)

-- of lines from line n on, line m is the first fault
abbrev pub IsFirstFaultWith : Erasure → Option CoreView → ℕ → List (List ℕ) → ℕ → Type 0
IsFirstFaultWith erasure core n lines m = IsFirstFaultBy (replay_rules_of erasure) core n lines m

-- ---- what replay promises

-- The known bytes grew by the output for the input, and the input ends as the result says.
abbrev pub ReplaysWith : Erasure → List ℕ → Option (List ℕ) → Option (List ℕ) → Ended → Type 0
ReplaysWith erasure input old new ended = IsWholeText (whole_text (replay_rules_of erasure)) input old new ended

-- The reader returned some bytes, and the writer got a prefix of the output for them.
abbrev pub IsBegunWith : Erasure → Option (List ℕ) → Option (List ℕ) → Option (List ℕ) → Option (List ℕ) → Type 0
IsBegunWith erasure old_reader new_reader old_writer new_writer =
    IsFrontOfText (whole_text (replay_rules_of erasure)) old_reader new_reader old_writer new_writer

-- ---- the same for a node with `Erasure::Plain`

abbrev pub replay_rules : Rules (Option CoreView)
replay_rules = replay_rules_of Plain

abbrev pub replay_text : List ℕ → List ℕ
replay_text bytes = text_with Plain bytes

abbrev pub replay_end : List ℕ → Ended
replay_end bytes = end_with Plain bytes

abbrev pub first_fault : List ℕ → Option ℕ
first_fault bytes = first_fault_with Plain bytes

abbrev pub IsFirstFault : Option CoreView → ℕ → List (List ℕ) → ℕ → Type 0
IsFirstFault core n lines m = IsFirstFaultWith Plain core n lines m

abbrev pub Replays : List ℕ → Option (List ℕ) → Option (List ℕ) → Ended → Type 0
Replays input old new ended = ReplaysWith Plain input old new ended

abbrev pub IsBegun : Option (List ℕ) → Option (List ℕ) → Option (List ℕ) → Option (List ℕ) → Type 0
IsBegun old_reader new_reader old_writer new_writer = IsBegunWith Plain old_reader new_reader old_writer new_writer
