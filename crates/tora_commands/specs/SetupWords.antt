-- The settings of a simulation, as words of the command line.
use Rattle.std.specs.Prelude.{ℕ, Bool, if◌then◌else◌, is_some, option_map, List, Option, Some, None}
use Rattle.tora_script.specs.declared.channel.channel.Channel.{Channel}
use Rattle.tora_script.specs.Channel.{clear}
use Rattle.tora_script.specs.Parts.{parts_of, no_parts, channel_by}
use Rattle.tora_lines.specs.Words.{number_of}
use Rattle.tora_lines.specs.Fronts.{◌>>=◌}
use Rattle.tora_core.specs.declared.erasure.Erasure.{Erasure}
use Rattle.tora_core.specs.declared.erasure.Erasure.TheVariants.{Plain}
use Rattle.tora_world.specs.declared.limits.Limits.{Limits}
use Rattle.tora_world.specs.Topology.{greatest_limits, standard_limits}
use Rattle.tora_script.specs.declared.setup.Setup.{Setup}
use Rattle.tora_script.specs.declared.setup.WorldOptions.{WorldOptions}
use Rattle.tora_script.specs.SimulationLines.{erasure_of}
use Rattle.tora_commands.specs.declared.setup_words.SetupWords.{SetupWords}
use Rattle.tora_commands.specs.TimesWord.{asked_times}

-- the seed in a word, a number below 2^64; 0 without a word
abbrev pub asked_seed : Option (List ℕ) → Option ℕ
asked_seed None = Some 0
asked_seed (Some text) = number_of text

unfoldable pub channel_asked : List ℕ → Option (List ℕ) → Option Channel
channel_asked text seed = do
  n ← asked_seed seed
  parts ← parts_of text
  Some (channel_by parts n)

-- the channel in a word, with a seed; without a word the clear channel, and a seed is then allowed only with a channel
-- file
abbrev pub asked_channel : Option (List ℕ) → Option (List ℕ) → Bool → Option Channel
asked_channel None None has_file = Some clear
asked_channel None (Some seed) has_file = if has_file then option_map (channel_by no_parts) (number_of seed) else None
asked_channel (Some text) seed has_file = channel_asked text seed

-- the greatest limits if a large world is requested, otherwise the standard ones
abbrev pub asked_limits : Bool → Limits
asked_limits large = if large then greatest_limits else standard_limits

-- the choice of erasure in a word, `plain` or `remembered`; plain without a word
abbrev pub asked_erasure : Option (List ℕ) → Option Erasure
asked_erasure None = Some Plain
asked_erasure (Some text) = erasure_of text

-- the options of a world
abbrev pub options_by : Bool → Erasure → WorldOptions
options_by large erasure = record { limits = asked_limits large; erasure = erasure }

abbrev pub asked_options : Bool → Option (List ℕ) → Option WorldOptions
asked_options large word = option_map (options_by large) (asked_erasure word)

-- the last round, if there is one
abbrev pub asked_until : Option (List ℕ) → Option (Option ℕ)
asked_until None = Some None
asked_until (Some text) = option_map (λ n. Some n) (number_of text)

unfoldable pub asked_setup : Option (List ℕ) → Option (List ℕ) → Option (List ℕ) → Option (List ℕ) → Option (List ℕ)
    → Bool → Bool → Bool → Option Setup
asked_setup times channel seed until erasure has_file notice large = do
  t ← asked_times times
  c ← asked_channel channel seed has_file
  u ← asked_until until
  e ← asked_erasure erasure
  Some (record { times = t; channel = c; has_notice = notice; options = options_by large e; until = u })

-- the settings that the words ask for
abbrev pub asked_by : SetupWords → Option Setup
asked_by w =
    asked_setup (option_map (λ t. t.now) w.times) (option_map (λ t. t.now) w.channel) (option_map (λ t. t.now) w.seed)
    (option_map (λ t. t.now) w.until) (option_map (λ t. t.now) w.erasure) (is_some w.channel_file) w.has_notice
    w.is_large
