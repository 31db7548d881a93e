-- A driven world that a handle holds, with the answer to its last line, and the effect of each call.
use Rattle.std.specs.Prelude.{ℕ, ◌==◌, if◌then◌else◌, List, []}
use Rattle.std.specs.Prelude.{Option, None, Some, option_map, string_bytes}
use Rattle.tora_core.specs.declared.erasure.Erasure.{Erasure}
use Rattle.tora_lines.specs.Shortened.{shortened}
use Rattle.tora_world.specs.declared.limits.Limits.{Limits}
use Rattle.tora_world.specs.Topology.{greatest_limits, standard_limits}
use Rattle.tora_script.specs.declared.setup.WorldOptions.{WorldOptions}
use Rattle.tora_sim.specs.Store.{world_of}
use Rattle.tora_drive.specs.declared.setup.DriveSetup.{DriveSetup}
use Rattle.tora_drive.specs.DriveText.{DriveView, drive_reply, drive_rules}
use Rattle.tora_drive.specs.DriveView.{view_of}
use Rattle.tora_c.specs.CoreNode.{erasure_of}
use Rattle.tora_c.specs.declared.world_node.WorldNode.{WorldNode}

pub record WorldView : Type 0 where
  pub setup : DriveSetup
  pub drive : DriveView
  pub answer : List ℕ  -- the answer to the last line; empty before the first one

-- the view of a driven world, which is a function of the lists that the simulator stores
abbrev pub world_view : WorldNode → WorldView
world_view n = record {
  setup = n.drive.setup;
  drive = view_of world_of n.drive;
  answer = string_bytes n.answer;
}

abbrev pub held_world : Option WorldNode → Option WorldView
held_world held = option_map world_view held

-- ---- a new world

abbrev pub limits_of : ℕ → Option Limits
limits_of choice = if choice == 0 then Some standard_limits else if choice == 1 then Some greatest_limits else None

abbrev pub options_with : Option Limits → Option Erasure → Option WorldOptions
options_with None erasure = None
options_with (Some limits) None = None
options_with (Some limits) (Some erasure) = Some (record { limits = limits; erasure = erasure })

-- the options for the numbers of two choices; None if there is no such choice
abbrev pub options_of : ℕ → ℕ → Option WorldOptions
options_of limits erasure = options_with (limits_of limits) (erasure_of erasure)

abbrev pub first_world : DriveSetup → WorldView
first_world setup = record {
  setup = setup;
  drive = (drive_rules setup).start;
  answer = [];
}

-- ---- a line

-- the world after a line, with the answer to it
abbrev pub after_line : List ℕ → WorldView → WorldView
after_line line w = record w {
  drive = (drive_reply w.setup w.drive (shortened line)).0;
  answer = (drive_reply w.setup w.drive (shortened line)).1;
}

-- the world as it was made
abbrev pub anew : WorldView → WorldView
anew w = first_world w.setup
