-- The words of a line: numbers, ids and lists of ids.
use Rattle.std.specs.Prelude.{ℕ, ◌+◌, ◌-◌, ◌*◌, ◌^◌, Bool, nat_lt, ◌==◌, ◌&&◌, ◌||◌, if◌then◌else◌, not, List, [], ◌∷◌}
use Rattle.std.specs.Prelude.{length, take, drop, slice_index, Option, Some, None}
use Rattle.std.specs.Option.{option_map, option_and_then}
use Rattle.std.specs.List.{position, list_all, slice_split}
use Rattle.std.specs.Char.{is_ascii_digit}

-- the parts before and after the first separator
abbrev pub halves : List ℕ → Option ℕ → Option (List ℕ × List ℕ)
halves text place = option_map (λ i. (take i text, drop (i + 1) text)) place

unfoldable pub cut : ℕ → List ℕ → Option (List ℕ × List ℕ)
cut separator text = halves text (position (λ x. x == separator) text)

-- decimal digits, without a leading zero
abbrev pub is_numeral : List ℕ → Bool
is_numeral text =
    nat_lt 0 (length text) && list_all is_ascii_digit text && (not (slice_index text 0 == 48) || (length text == 1))

-- the value of decimal digits that follow digits with the value n
unfoldable pub value_from : ℕ → List ℕ → ℕ
value_from n [] = n
value_from n (c ∷ cs) = value_from (n * 10 + (c - 48)) cs

-- a number below 2^64
unfoldable pub number_of : List ℕ → Option ℕ
number_of text = if is_numeral text && nat_lt (value_from 0 text) (2 ^ 64) then Some (value_from 0 text) else None

-- the number of a node, from 1 to 2^32 - 1
abbrev pub id_from : ℕ → Option ℕ
id_from n = if nat_lt 0 n && nat_lt n (2 ^ 32) then Some n else None

unfoldable pub id_of : List ℕ → Option ℕ
id_of text = option_and_then id_from (number_of text)

-- the pieces of a text between separators; there is always at least one
abbrev pub split : ℕ → List ℕ → List (List ℕ)
split separator text = slice_split (λ x. x == separator) text

-- the ids, or None if a piece is not an id
unfoldable pub ids_of : List (List ℕ) → Option (List ℕ)
ids_of [] = Some []
ids_of (piece ∷ pieces) = option_and_then (λ n. option_map (λ ns. n ∷ ns) (ids_of pieces)) (id_of piece)

-- the one byte `-`
abbrev pub is_dash : List ℕ → Bool
is_dash text = (length text == 1) && (slice_index text 0 == 45)

-- ids separated by commas, or `-` for the empty list
unfoldable pub list_of : List ℕ → Option (List ℕ)
list_of text = if is_dash text then Some [] else ids_of (split 44 text)
