-- The lines of a drive, parsed.
use Rattle.std.specs.Prelude.{ℕ, if◌then◌else◌, codes, List, Option, Some, None, option_map}
use Rattle.tora_lines.specs.Words.{number_of}
use Rattle.tora_lines.specs.Fronts.{after, or_else, ◌>>=◌}
use Rattle.tora_script.specs.SimulationLines.{is_word, for_pair, simulation_line_of}
use Rattle.tora_drive.specs.declared.line.DriveLine.{DriveLine}
use Rattle.tora_drive.specs.declared.line.DriveLine.TheVariants.{Script, Step, Needs, Near, Far, Notice, Bytes, Forget}

-- the line that `make` makes of the number of a datagram
unfoldable pub for_number : (ℕ → DriveLine) → List ℕ → Option DriveLine
for_number make text = do
  i ← number_of text
  Some (make i)

-- `near N K`, `far N K`, `notice N K`, `bytes ID` or `forget ID`
unfoldable pub own_line_of : List ℕ → Option DriveLine
own_line_of text =
    or_else (after (codes "near ") text) (for_pair Near)
    (or_else (after (codes "far ") text) (for_pair Far)
    (or_else (after (codes "notice ") text) (for_pair Notice)
    (or_else (after (codes "bytes ") text) (for_number Bytes)
    (or_else (after (codes "forget ") text) (for_number Forget) None))))

-- the given line, or else a line that only a drive has
abbrev pub or_own : Option DriveLine → List ℕ → Option DriveLine
or_own (Some line) text = Some line
or_own None text = own_line_of text

unfoldable pub drive_line_of : List ℕ → Option DriveLine
drive_line_of text =
    if is_word (codes "step") text then Some Step
    else if is_word (codes "needs") text then Some Needs
    else or_own (option_map (λ line. Script line) (simulation_line_of text)) text
