-- HMAC-SHA-256 (RFC 2104, FIPS 198-1), as functions on lists of bytes.
use Rattle.std.specs.Prelude.{ℕ, ◌-◌, List, ◌++◌, length, map, take, replicate, bit_xor, nat_lt, if◌then◌else◌}
use Rattle.sha2.specs.Sha256.{sha256}
use Rattle.tora_key.specs.declared.key.TheConstants.{TAG}

-- a key of more than 64 bytes is hashed first
abbrev pub shortened : List ℕ → List ℕ
shortened key = if nat_lt 64 (length key) then sha256 key else key

-- the block of a key: the key, followed by zeros up to 64 bytes
unfoldable pub padded : List ℕ → List ℕ
padded key = shortened key ++ replicate (64 - length (shortened key)) 0

-- a byte of a block combined with the byte of a pad
abbrev pub masked_byte : ℕ → ℕ → ℕ
masked_byte pad byte = bit_xor byte pad

abbrev pub masked : ℕ → List ℕ → List ℕ
masked pad block = map (masked_byte pad) block

-- the HMAC-SHA-256 under the block of a key: the inner pad repeats the byte 0x36, the outer one the byte 0x5c
unfoldable pub hmac_under : List ℕ → List ℕ → List ℕ
hmac_under block message = sha256 (masked 0x5c block ++ sha256 (masked 0x36 block ++ message))

-- the HMAC-SHA-256 of a message under a key of any length
abbrev pub hmac_of : List ℕ → List ℕ → List ℕ
hmac_of key message = hmac_under (padded key) message

-- the first 16 bytes of the HMAC-SHA-256 of a message, under the block of a key
unfoldable pub tag_of : List ℕ → List ℕ → List ℕ
tag_of block message = take TAG (hmac_under block message)
