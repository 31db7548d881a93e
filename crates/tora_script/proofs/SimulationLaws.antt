-- The reply to a line of a simulation, as a continuation of the text.
use Rattle.std.proofs.Common.{◌≡◌, ℕ, ◌≤◌, List, length, Result, Ok, Err}
use Rattle.tora_world.specs.World.{World}
use Rattle.tora_lines.specs.declared.session.TheConstants.{LONGEST_LINE}
use Rattle.tora_lines.specs.declared.words.LineError.{LineError}
use Rattle.tora_lines.specs.declared.words.LineError.TheVariants.{Memory, Fault}
use Rattle.tora_script.specs.declared.simulation.Simulation.{Simulation}
use Rattle.tora_script.specs.Table.{lines_of}
use Rattle.tora_lines.specs.Gives.{Gives}
use Rattle.tora_lines.specs.Session.{TakesLine}
use Rattle.tora_script.specs.SimulationText.{simulation_reply, rules_with}
use Rattle.tora_script.specs.SimulationView.{progress_of, simulation_kind}
use Rattle.tora_lines.proofs.KindLaws.{goes_on, is_fault}

pub takes : {S : Type 0} (world : S → World) (old new : Simulation S) (line out : List ℕ) (r : Result (Unit {0}) LineError) → length line ≤ LONGEST_LINE → new.setup ≡ old.setup → new.table ≡ old.table
    → Gives (λ x. (progress_of world new.stage, out)) r (simulation_reply old.setup (lines_of old.table) (progress_of world old.stage) line) → TakesLine (simulation_kind world) old line new out r
takes world old new line out (Ok x) short same kept h = rw (same, kept) (goes_on (rules_with old.setup (lines_of old.table)) (progress_of world old.stage) line (progress_of world new.stage) out short h)
takes world old new line out (Err Memory) short same kept h = tt
takes world old new line out (Err Fault) short same kept h = is_fault (rules_with old.setup (lines_of old.table)) (progress_of world old.stage) line short h
