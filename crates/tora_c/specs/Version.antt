-- The version of the library.
use Rattle.std.specs.Prelude.{ℕ, codes, List}

abbrev pub version_text : List ℕ
version_text = codes "1.0.0-dev"
