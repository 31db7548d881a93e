-- New links of a node.
use Rattle.std.specs.Prelude.{◌≡◌, ℕ, List, Result, Ok, Err}
use Rattle.tora_arq.specs.EndRange.{LinkEndView, link_end_of}
use Rattle.tora_arq.specs.LinkEnd.{first_end}
use Rattle.tora_arq.specs.Settings.{settings_of}
use Rattle.tora_arq.specs.declared.times.TheConstants.Times.{STANDARD}
use Rattle.tora_frame.specs.declared.parts.Version.TheVariants.{Two}
use Rattle.tora_life.specs.Calls.{OpensBy}
use Rattle.tora_life.specs.declared.disk.DiskError.{DiskError}
use Rattle.tora_life.specs.declared.numbers.LifeError.{LifeError}
use Rattle.tora_life.specs.declared.numbers.Numbers.{Numbers}
use Rattle.tora_life.specs.declared.tags.Owner.{Owner}

-- the new end of a node's link to this peer: of version 2, with the standard times
abbrev pub new_end : ℕ → ℕ → LinkEndView
new_end me peer = link_end_of (settings_of Two me peer STANDARD) first_end

-- the owner of the life file of this node for its link to this peer
abbrev pub owner_of : ℕ → ℕ → Owner
owner_of me peer = record { node = me; peer = peer }

-- Opening the life file of this node and peer on this disk had this result, by these calls of the disk: the last number
-- drawn, or why the file did not open
abbrev pub IsOpened : {D : Type 0} → (D → Result (Unit {0}) DiskError → D → Type 0)
    → (D → ℕ → List ℕ → Result ℕ DiskError → List ℕ → D → Type 0)
    → (D → ℕ → List ℕ → Result (Unit {0}) DiskError → D → Type 0) → ℕ → ℕ → D → Result ℕ LifeError → Type 0
IsOpened {D = D} syncs reads writes me peer disk (Ok drawn) = (numbers : Numbers) × (after : D)
    × OpensBy syncs reads writes (owner_of me peer) disk (Ok numbers) after × (numbers.drawn ≡ drawn)
IsOpened {D = D} syncs reads writes me peer disk (Err error) = (after : D)
    × OpensBy syncs reads writes (owner_of me peer) disk (Err error) after
