-- Tagged messages.
use Rattle.std.specs.Prelude.{ℕ, ◌-◌, Bool, ◌&&◌, List, [], ◌∷◌, ◌++◌, length, take, drop, Option, Some, None, nat_le}
use Rattle.std.specs.Prelude.{bytes_eq, if◌then◌else◌}
use Rattle.tora_key.specs.declared.key.TheConstants.{TAG}
use Rattle.tora_key.specs.Hmac.{tag_of}

-- a message with its tag, under the block of a key
unfoldable pub sealed : List ℕ → List ℕ → List ℕ
sealed key message = message ++ tag_of key message

-- all bytes except the last 16
abbrev pub front_of : List ℕ → List ℕ
front_of bytes = take (length bytes - TAG) bytes

abbrev pub last_of : List ℕ → List ℕ
last_of bytes = drop (length bytes - TAG) bytes

-- the last 16 bytes are the tag of the rest
unfoldable pub is_authentic : List ℕ → List ℕ → Bool
is_authentic key bytes = nat_le TAG (length bytes) && bytes_eq (last_of bytes) (tag_of key (front_of bytes))

-- the message of authentic bytes, without its tag
abbrev pub opened : List ℕ → List ℕ → Option (List ℕ)
opened key bytes = if is_authentic key bytes then Some (front_of bytes) else None

-- the first list is a subsequence of the second
pub data IsPart {A : Type 0} : List A → List A → Type 0 where
  part_end : IsPart [] []
  part_kept : {x : A} {xs ys : List A} → IsPart xs ys → IsPart (x ∷ xs) (x ∷ ys)
  part_left_out : {y : A} {xs ys : List A} → IsPart xs ys → IsPart xs (y ∷ ys)
