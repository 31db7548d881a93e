-- Heights and reference levels as text.
use Rattle.std.specs.Prelude.{ℕ, codes, List, ◌++◌}
use Rattle.std.specs.Fmt.{decimal, signed_decimal}
use Rattle.tora_height.specs.declared.level.Level.{Level}
use Rattle.tora_height.specs.Height.{Quintuple, level_of}

-- a reference level as tau,oid,r
abbrev pub written_level : Level → List ℕ
written_level l = decimal l.tau ++ codes "," ++ decimal l.oid ++ codes "," ++ decimal l.r

-- a height as (tau,oid,r,delta,id)
abbrev pub written_height : Quintuple → List ℕ
written_height h = codes "(" ++ written_level (level_of h) ++ codes "," ++ signed_decimal h.delta ++ codes ","
    ++ decimal h.id ++ codes ")"
