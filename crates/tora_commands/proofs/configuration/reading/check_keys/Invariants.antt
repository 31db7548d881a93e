use Rattle.std.proofs.Common.{◌≡◌, map, string_bytes}
use Rattle.toml.specs.View.{table_view}
use Rattle.tora_commands.specs.ConfigRefusal.{unknown_key}
use Rattle.tora_commands.specs.ConfigReading.{keys_in, only_known, keys_of_configuration}
use Rattle.tora_commands.proofs.configuration.reading.check_keys.Given as goal

abbrev pub invariant-loop-key : goal.invariant-loop-key
invariant-loop-key l = only_known keys_of_configuration unknown_key (map string_bytes l.key-iterator) ≡ only_known keys_of_configuration unknown_key (keys_in (table_view l.table))
