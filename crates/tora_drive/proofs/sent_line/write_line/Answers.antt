use Rattle.std.proofs.Common.{◌≡◌, ◌++◌, ◌∷◌, [], ◌∙◌, ℕ, List, refl, ap, ap₂, append_assoc, string_bytes}
use Rattle.std.specs.Fmt.{decimal}
use Rattle.tora_drive.proofs.sent_line.write_line.Goals as goal

-- words with spaces between them, from the last to the first
joined : (old a b i n : List ℕ) → (old ++ (115 ∷ 101 ∷ 110 ∷ 116 ∷ [])) ++ (32 ∷ a ++ (32 ∷ b ++ (32 ∷ i ++ (32 ∷ n ++ 10 ∷ []))))
    ≡ old ++ (115 ∷ 101 ∷ 110 ∷ 116 ∷ 32 ∷ []) ++ a ++ (32 ∷ []) ++ b ++ (32 ∷ []) ++ i ++ (32 ∷ []) ++ n ++ (10 ∷ [])
joined old a b i n = simp append_assoc refl

pub returns : goal.returns
returns c =
    let one = c.put_number-at.ensures.written in
    let two = c.put_number-at-2.ensures.written ∙ ap (λ (xs : List ℕ). 32 ∷ decimal c.args.i ++ xs) one in
    let three = rw c.from.ensures at c.put_number-at-3.ensures.written ∙ ap (λ (xs : List ℕ). 32 ∷ decimal c.args.receiver ++ xs) two in
    let four = rw c.from-2.ensures at c.put_number-at-4.ensures.written ∙ ap (λ (xs : List ℕ). 32 ∷ decimal c.args.sender ++ xs) three in
    c.in_ok-push_str-2.ensures.bytes ∙ ap₂ (λ (xs ys : List ℕ). xs ++ ys) c.in_ok-push_str.ensures.bytes (c.text_from.ensures ∙ four)
    ∙ joined (string_bytes c.args.out.now) (decimal c.args.sender) (decimal c.args.receiver) (decimal c.args.i) (decimal c.args.length)
