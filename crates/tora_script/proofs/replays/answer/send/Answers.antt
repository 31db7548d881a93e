use Rattle.std.proofs.Common.{◌≡◌, ℕ, ◌<◌, true, ltb, List, [], ◌∷◌, All, refl}
use Rattle.std.specs.List.{list_all}
use Rattle.std.specs.Str.{IsAscii}
use Rattle.std.proofs.lemmas.Bool.{and_parts, ltb-true}
use Rattle.std.proofs.lemmas.List.Elements.{All-cons, All-nil}
use Rattle.std.proofs.lemmas.Str.{IsUtf8-from_ascii}
use Rattle.std.proofs.lemmas.Str.Ascii.{IsAscii-from_all}
use Rattle.hex.specs.Hex.{lower_digits}
use Rattle.hex.proofs.HexLemmas.{IsAscii-encode_with}
use Rattle.tora_script.proofs.replays.answer.send.Goals as goal

all_below : (xs : List ℕ) → list_all (λ b. ltb b 128) xs ≡ true → All (λ b. b < 128) xs
all_below [] h = All-nil _
all_below (x ∷ xs) h = let p = and_parts (ltb x 128) (list_all (λ b. ltb b 128) xs) h in All-cons (λ b. b < 128) x xs (ltb-true x 128 p.0) (all_below xs p.1)

pub unreachable-requires-in_default-from_utf8 : goal.unreachable-requires-in_default-from_utf8
unreachable-requires-in_default-from_utf8 c =
    let ascii : IsAscii lower_digits = IsAscii-from_all lower_digits (all_below lower_digits refl) in
    c.in_default-from_utf8.ensures.cases.0 (rw c.in-Ok.ensures.written (IsUtf8-from_ascii _ (IsAscii-encode_with lower_digits c.as_slice.result.now ascii)))
