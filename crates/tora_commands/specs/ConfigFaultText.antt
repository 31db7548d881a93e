-- The words for the faults of a configuration.
use Rattle.std.specs.Prelude.{codes, List, [], ℕ, ◌++◌, Option, Some, None}
use Rattle.std.specs.Fmt.{decimal}
use Rattle.tora_commands.specs.declared.configuration.fault.Place.{Place}
use Rattle.tora_commands.specs.declared.configuration.fault.Place.TheVariants as At

abbrev pub place_text : Place → List ℕ
place_text At.Node = codes "`node`"
place_text At.Dests = codes "`dests`"
place_text (At.Dest n) = codes "`dests`, number " ++ decimal n
place_text At.LifeDir = codes "`life_dir`"
place_text At.Erasure = codes "`erasure`"
place_text At.Links = codes "`link`"
place_text (At.Link n) = codes "`link`, number " ++ decimal n
place_text (At.Peer n) = codes "`peer` of link " ++ decimal n
place_text (At.Local n) = codes "`local` of link " ++ decimal n
place_text (At.Remote n) = codes "`remote` of link " ++ decimal n
place_text (At.KeyFile n) = codes "`key_file` of link " ++ decimal n

-- the number after the words for a key, if it has one
abbrev pub number_text : Option ℕ → List ℕ
number_text None = []
number_text (Some n) = decimal n
