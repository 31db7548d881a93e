-- The lines of an input.
use Rattle.std.specs.Prelude.{ℕ, List, [], ◌∷◌}
use Rattle.tora_lines.specs.Words.{split}

abbrev pub without_last_empty : List (List ℕ) → List (List ℕ)
without_last_empty [] = []
without_last_empty ([] ∷ []) = []
without_last_empty ((x ∷ xs) ∷ []) = (x ∷ xs) ∷ []
without_last_empty (piece ∷ next ∷ pieces) = piece ∷ without_last_empty (next ∷ pieces)

-- an input split at LF, without an empty piece at the end
unfoldable pub pieces_of : List ℕ → List (List ℕ)
pieces_of bytes = without_last_empty (split 10 bytes)
