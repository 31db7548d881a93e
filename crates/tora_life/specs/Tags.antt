-- The tag of a life file: the node and the peer to which the file belongs.
use Rattle.std.specs.Prelude.{ℕ, ◌-◌, ◌^◌, List, ◌++◌, length, take, drop, Bool, if◌then◌else◌, ◌&&◌, ◌==◌, nat_lt}
use Rattle.std.specs.Int.{w32, w64, from_be_bytes, to_be_bytes}
use Rattle.tora_life.specs.declared.tags.Owner.{Owner}
use Rattle.tora_life.specs.declared.tags.Tag.{Tag}
use Rattle.tora_life.specs.declared.tags.Tag.TheVariants.{Absent, Strange, Of}

-- the bytes 54 4f 52 41 4c 49 46 32 (the text "TORALIF2"), as a number
abbrev pub tag_beginning : ℕ
tag_beginning = 6075164862752310834

-- the number in four bytes, highest byte first
unfoldable pub word_of : List ℕ → ℕ
word_of bytes = from_be_bytes w32 bytes

-- the number in eight bytes
unfoldable pub long_of : List ℕ → ℕ
long_of bytes = from_be_bytes w64 bytes

-- the second half of a tag is the complement of the first: the beginning, the node and the peer each add up to all ones
abbrev pub is_complementary : List ℕ → Bool
is_complementary tag =
    (long_of (take 8 (drop 16 tag)) == 2 ^ 64 - 1 - long_of (take 8 tag)) &&
    (word_of (take 4 (drop 24 tag)) == 2 ^ 32 - 1 - word_of (take 4 (drop 8 tag)))
    && (word_of (take 4 (drop 28 tag)) == 2 ^ 32 - 1 - word_of (take 4 (drop 12 tag)))

-- the owner named by the tag in 32 bytes; absent if there are fewer bytes, or the halves are not complementary
unfoldable pub tag_read : List ℕ → Tag
tag_read tag =
    if nat_lt (length tag) 32 then Absent
    else if is_complementary tag then
    (if long_of (take 8 tag) == tag_beginning then Of (record {
      node = word_of (take 4 (drop 8 tag));
      peer = word_of (take 4 (drop 12 tag));
    }) else Strange)
    else Absent

-- the tag of an owner
unfoldable pub tag_of : Owner → List ℕ
tag_of owner =
    to_be_bytes w64 tag_beginning ++ to_be_bytes w32 owner.node ++ to_be_bytes w32 owner.peer
    ++ to_be_bytes w64 (2 ^ 64 - 1 - tag_beginning) ++ to_be_bytes w32 (2 ^ 32 - 1 - owner.node)
    ++ to_be_bytes w32 (2 ^ 32 - 1 - owner.peer)
