-- The settings of a simulation.
use Rattle.std.specs.Prelude.{false, None}
use Rattle.tora_arq.specs.declared.times.Times.{Times}
use Rattle.tora_script.specs.Channel.{clear}
use Rattle.tora_core.specs.declared.erasure.Erasure.TheVariants.{Plain}
use Rattle.tora_world.specs.declared.limits.Limits.{Limits}
use Rattle.tora_world.specs.Topology.{standard_limits}
use Rattle.tora_script.specs.declared.setup.Setup.{Setup}
use Rattle.tora_script.specs.declared.setup.WorldOptions.{WorldOptions}

-- the options of a world within these limits, with nodes that do not remember erased levels
abbrev pub options_within : Limits → WorldOptions
options_within limits = record { limits = limits; erasure = Plain }

-- the settings without options: these times of each link end, a channel that delivers every datagram at once and once,
-- the standard limits, nodes that do not remember erased levels, no notice of parted links, and no last round
abbrev pub plain : Times → Setup
plain times = record {
  times = times;
  channel = clear;
  has_notice = false;
  options = options_within standard_limits;
  until = None;
}
