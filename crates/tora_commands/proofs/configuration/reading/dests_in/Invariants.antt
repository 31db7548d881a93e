use Rattle.std.proofs.Common.{◌≡◌, ◌<◌, pos, map, take, [], Some, All}
use Rattle.toml.specs.Data.{as_integer}
use Rattle.toml.specs.View.{view}
use Rattle.tora_commands.specs.ConfigReading.{dest_in}
use Rattle.tora_commands.proofs.ConfigLoops.{rest_of}
use Rattle.tora_commands.proofs.configuration.reading.dests_in.Given as goal

abbrev pub invariant-loop-value : goal.invariant-loop-value
invariant-loop-value l = record {
  above : All (λ d. 0 < d) l.dests.items;
  exact : map (λ v. as_integer (view v)) (take l.value-index l.values) ≡ map (λ d. Some (pos d)) l.dests.items;
  gives : rest_of dest_in l.dests.items l.value-index l.values ≡ rest_of dest_in [] 0 l.values;
}
