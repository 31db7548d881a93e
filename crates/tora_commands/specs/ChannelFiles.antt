-- The content of a channel file, and how a simulation over it ends.
use Rattle.std.specs.Prelude.{◌≡◌, ◌⊎◌, ℕ, Bool, List, Option, Some, Result, Ok, Err}
use Rattle.std.specs.declared.io.Error.{Error}
use Rattle.tora_script.specs.declared.channel.line.ChannelLine.{ChannelLine}
use Rattle.tora_script.specs.TableOrder.{IsTableOf}
use Rattle.tora_script.specs.TableText.{channel_lines_of}
use Rattle.tora_script.specs.declared.setup.Setup.{Setup}
use Rattle.tora_script.specs.SimulationText.{rules_with}
use Rattle.tora_lines.specs.Reads.{Given}
use Rattle.tora_simulate.specs.Endings.{EndsSimulated}
use Rattle.tora_simulate.specs.Paths.{IsRead, IsUnread, IsFailed}

-- These bytes are the lines of a table.
pub record IsTableText (bytes : List ℕ) (table : List ChannelLine) : Type 0 where
  pub lines : List ChannelLine
  pub read : channel_lines_of bytes ≡ Ok lines
  pub ordered : IsTableOf lines table

-- The bytes that were read from the file are the lines of a table.
abbrev pub IsTableFile : {R : Type 0} → (Result R Error → Type 0) → (R → Result (List ℕ) Error → Type 0)
    → (R → Option (List ℕ)) → List ChannelLine → Type 0
IsTableFile opened did_read remaining table =
    (bytes : List ℕ) × IsRead opened did_read remaining bytes × IsTableText bytes table

-- A line of the bytes that were read from the file is invalid.
pub record IsNoTableText {R : Type 0} (opened : Result R Error → Type 0) (did_read : R → Result (List ℕ) Error
    → Type 0) (remaining : R → Option (List ℕ)) (status : ℕ) : Type 0 where
  pub bytes : List ℕ
  pub file : IsRead opened did_read remaining bytes
  pub line : ℕ
  pub first : channel_lines_of bytes ≡ Err line
  pub status_is : status ≡ 1

-- Opening or reading the file gave an error, a line is at fault, or memory ran out.
abbrev pub IsNoTable : {R : Type 0} → (Result R Error → Type 0) → (R → Result (List ℕ) Error → Type 0)
    → (R → Option (List ℕ)) → ℕ → Type 0
IsNoTable opened did_read remaining status =
    IsFailed (IsUnread opened did_read) status ⊎ (IsNoTableText opened did_read remaining status ⊎ (status ≡ 5))

-- The trace would replace the channel file.
pub record IsTracePlace (path : List ℕ) (trace : Option (List ℕ)) (status : ℕ) : Type 0 where
  pub same : trace ≡ Some path
  pub status_is : status ≡ 1

-- The channel file at a path was read, and the simulation over its table ended; or there was no table, and nothing was
-- written.
abbrev pub EndsFiled : {R W : Type 0} → (List ℕ → Result R Error → Type 0) → (List ℕ → Result R Error → Type 0)
    → (R → Result (List ℕ) Error → Type 0) → (R → Option (List ℕ)) → (R → Given → R → Type 0)
    → Setup → (W → Option (List ℕ)) → (W → List ℕ → Bool → W → Type 0) → (W → Bool → W → Type 0)
    → List ℕ → List ℕ → Option (List ℕ) → W → W → ℕ → Type 0
EndsFiled did_open did_create did_read remaining did_get setup contents did_write did_flush channel_path path trace
    old new status =
    ((table : List ChannelLine) × IsTableFile (did_open channel_path) did_read remaining table
    × EndsSimulated did_open did_create remaining did_get (rules_with setup table) contents did_write did_flush path
    trace old new status)
    ⊎ ((IsNoTable (did_open channel_path) did_read remaining status ⊎ IsTracePlace channel_path trace status)
    × (new ≡ old))
