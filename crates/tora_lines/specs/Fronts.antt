-- Prefixes of texts, and what is read after a prefix.
use Rattle.std.specs.Prelude.{ℕ, nat_eq, if◌then◌else◌, List, length, drop, Option, Some, None}
use Rattle.std.specs.List.{starts_with}

infixl 10 ◌>>=◌
abbrev pub ◌>>=◌ : {A B : Type 0} → Option A → (A → Option B) → Option B
(Some x) >>= f = f x
None >>= f = None

-- the text after a prefix, if the text begins with it
unfoldable pub after : List ℕ → List ℕ → Option (List ℕ)
after front text = if starts_with nat_eq text front then Some (drop (length front) text) else None

-- what is read after a word, or another result if the text does not begin with the word
abbrev pub or_else : {A : Type 0} → Option (List ℕ) → (List ℕ → Option A) → Option A → Option A
or_else (Some rest) read other = read rest
or_else None read other = other
