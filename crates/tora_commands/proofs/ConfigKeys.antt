-- The keys of a table, in the order of a loop over the table.
use Rattle.std.proofs.Common.{◌≡◌, refl, ap, List, [], ◌∷◌, map, ℕ, String, Global, string_bytes}
use Rattle.std.specs.Map.{keys_of}
use Rattle.toml.specs.declared.value.Value.{Value}
use Rattle.toml.specs.View.{members_view}
use Rattle.tora_commands.specs.ConfigReading.{keys_in}

pub keys_in_view : (entries : List (String Global × Value)) → map string_bytes (keys_of entries) ≡ keys_in (members_view entries)
keys_in_view [] = refl
keys_in_view (e ∷ entries) = ap (λ (keys : List (List ℕ)). string_bytes e.0 ∷ keys) (keys_in_view entries)
