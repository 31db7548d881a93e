-- Life files of both versions, and the migration of a file without a tag.
use Rattle.std.specs.Prelude.{ℕ, ◌-◌, min, List, ◌++◌, length, take, drop, replicate, if◌then◌else◌, nat_lt, Result, Ok}
use Rattle.std.specs.Prelude.{Err}
use Rattle.std.specs.Str.{bytes_eq}
use Rattle.tora_life.specs.declared.lengths.TheConstants.{SLOT_LENGTH, SLOTS_LENGTH, FILE_LENGTH}
use Rattle.tora_life.specs.declared.numbers.LifeError.{LifeError}
use Rattle.tora_life.specs.declared.numbers.LifeError.TheVariants.{Damaged, Foreign}
use Rattle.tora_life.specs.declared.migration.Version.{Version}
use Rattle.tora_life.specs.declared.migration.Version.TheVariants.{Untagged, Tagged}
use Rattle.tora_life.specs.declared.tags.Owner.{Owner}
use Rattle.tora_life.specs.declared.tags.Tag.{Tag}
use Rattle.tora_life.specs.declared.tags.Tag.TheVariants.{Absent, Strange, Of}
use Rattle.tora_life.specs.Tags.{tag_of, tag_read}

-- a file without a tag (of version 1, or torn while it was migrated) has to be migrated; a file with a tag of another
-- kind or of another owner is refused
abbrev pub version_by : Tag → Result Version LifeError
version_by Absent = Ok Untagged
version_by Strange = Err Damaged
version_by (Of other) = Err Foreign

-- the version of a file with these bytes, opened for an owner: two slots, and then the tag
abbrev pub version_of : Owner → List ℕ → Result Version LifeError
version_of owner file = if nat_lt FILE_LENGTH (length file) then Err Damaged
    else if bytes_eq (drop SLOTS_LENGTH file) (tag_of owner) then Ok Tagged
    else version_by (tag_read (drop SLOTS_LENGTH file))

-- a slot filled up to sixteen bytes: zeros in its first half, and the bytes of the first half in its second. So it is
-- not complementary, and counts as 0. A complete slot is unchanged
unfoldable pub slot_filled : List ℕ → List ℕ
slot_filled slot =
    let first = take 8 slot ++ replicate (8 - length slot) 0 in first ++ drop 8 slot ++ drop (length slot - 8) first

-- the file of an owner after the migration: the first 32 bytes, filled up, and the tag
abbrev pub migrated : Owner → List ℕ → List ℕ
migrated owner file = slot_filled (take SLOT_LENGTH file) ++ slot_filled (take SLOT_LENGTH (drop SLOT_LENGTH file))
    ++ tag_of owner

-- the offset from which a migration writes: 32, or the end of the file if that is lower
abbrev pub migration_place : List ℕ → ℕ
migration_place file = min (length file) SLOTS_LENGTH

abbrev pub migration_bytes : Owner → List ℕ → List ℕ
migration_bytes owner file = drop (migration_place file) (migrated owner file)
