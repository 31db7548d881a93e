use Rattle.std.proofs.Common.{◌≡◌, map, string_bytes}
use Rattle.toml.specs.View.{table_view}
use Rattle.tora_commands.specs.ConfigRefusal.{unknown_link_key}
use Rattle.tora_commands.specs.ConfigReading.{keys_in, only_known, keys_of_link}
use Rattle.tora_commands.proofs.configuration.reading.check_link_keys.Given as goal

abbrev pub invariant-loop-key : goal.invariant-loop-key
invariant-loop-key l = only_known keys_of_link (unknown_link_key l.n) (map string_bytes l.key-iterator) ≡ only_known keys_of_link (unknown_link_key l.n) (keys_in (table_view l.table))
