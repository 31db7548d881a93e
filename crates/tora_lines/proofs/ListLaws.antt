-- A text is read as a list of ids exactly if it is the written form of that list.
use Rattle.std.proofs.Common.{◌≡◌, ℕ, ◌<◌, Bool, true, false, cond, ◌==◌, ◌&&◌, List, [], ◌∷◌, ◌++◌, length, get_or, map, All, None, Some, refl, sym, ap, ◌∙◌, arith}
use Rattle.std.specs.List.{join_with_byte}
use Rattle.std.specs.Option.{option_and_then, option_map}
use Rattle.std.specs.Fmt.{decimal}
use Rattle.std.specs.Char.{is_ascii_digit}
use Rattle.std.proofs.lemmas.Bool.{eq-eqb}
use Rattle.std.proofs.lemmas.Bool.Decides.{nat_tests}
use Rattle.std.proofs.lemmas.List.{append-nil}
use Rattle.std.proofs.lemmas.List.Elements.{All-nil, All-cons, All-head, All-tail, All-weaker, All-append, All-get_or}
use Rattle.std.proofs.lemmas.List.Sums.{AllPass-from_list_all}
use Rattle.std.proofs.lemmas.List.Splits.{slice_split_none, slice_split_at, join_with_byte-slice_split, length-slice_split}
use Rattle.std.proofs.lemmas.Fmt.{digits_decimal, decimal_nonempty}
use Rattle.tora_packet.specs.PacketParts.{IsId}
use Rattle.tora_lines.specs.Words.{split, id_of, ids_of, is_dash, list_of}
use Rattle.tora_lines.specs.WordGrammar.{list_text}
use Rattle.tora_lines.proofs.Splits.{Lacks}
use Rattle.tora_lines.proofs.Grammar.{own}
use Rattle.tora_lines.proofs.WordLaws.{some_is, id_found, id_here, no_blank, dash_found}

-- every byte is a digit
digits : (n : ℕ) → IsId n → All (λ c. is_ascii_digit c ≡ true) (decimal n)
digits n h = AllPass-from_list_all is_ascii_digit (decimal n) (digits_decimal own n (omega (arith, h.1)))

no_comma : (n : ℕ) → IsId n → Lacks 44 (decimal n)
no_comma n h = All-weaker (λ c. is_ascii_digit c ≡ true) (λ c. (c == 44) ≡ false) (λ c d. grind (arith, nat_tests)) (decimal n) (digits n h)

-- the ids that were read from pieces
pub record IsRead (pieces : List (List ℕ)) (ns : List ℕ) : Type 0 where
  pub pieces_are : pieces ≡ map decimal ns
  pub ids : All IsId ns

pieces_found : (pieces : List (List ℕ)) (ns : List ℕ) → ids_of pieces ≡ Some ns → IsRead pieces ns
unfolding ids_of
pieces_found [] ns h = let e : [] ≡ ns = some_is [] ns h in rw (← e) (record { pieces_are = refl; ids = All-nil IsId })
pieces_found (piece ∷ pieces) ns h =
    elim (id_of piece) as (λ o. id_of piece ≡ o → option_and_then (λ n. option_map (λ ns. n ∷ ns) (ids_of pieces)) o ≡ Some ns → IsRead (piece ∷ pieces) ns) [
      | None ↦ λ e g. absurd cc
      | Some n ↦ λ e g.
          elim (ids_of pieces) as (λ p. ids_of pieces ≡ p → option_map (λ ms. n ∷ ms) p ≡ Some ns → IsRead (piece ∷ pieces) ns) [
            | None ↦ λ d k. absurd cc
            | Some ms ↦ λ d k.
                let head = id_found piece n e in
                let tail = pieces_found pieces ms d in
                let whole : n ∷ ms ≡ ns = some_is (n ∷ ms) ns k in
                rw (← whole) (record {
                  pieces_are = ap (λ (t : List ℕ). t ∷ pieces) head.0 ∙ ap (λ (t : List (List ℕ)). decimal n ∷ t) tail.pieces_are;
                  ids = All-cons IsId n ms head.1 tail.ids;
                })
          ] refl g
    ] refl h

pieces_here : (ns : List ℕ) → All IsId ns → ids_of (map decimal ns) ≡ Some ns
unfolding ids_of
pieces_here [] h = refl
pieces_here (n ∷ ns) h = rw (id_here n (All-head IsId n ns h), pieces_here ns (All-tail IsId n ns h)) refl

-- pieces of digits, joined by commas and split again
split_again : (n : ℕ) (ns : List ℕ) → All IsId (n ∷ ns) → split 44 (join_with_byte 44 (map decimal (n ∷ ns))) ≡ map decimal (n ∷ ns)
split_again n [] h = slice_split_none (λ x. x == 44) (decimal n) (no_comma n (All-head IsId n [] h))
split_again n (m ∷ ns) h =
    slice_split_at (λ x. x == 44) (decimal n) 44 (join_with_byte 44 (map decimal (m ∷ ns))) (no_comma n (All-head IsId n (m ∷ ns) h)) (eq-eqb 44 44 refl)
    ∙ ap (λ (t : List (List ℕ)). decimal n ∷ t) (split_again m ns (All-tail IsId n (m ∷ ns) h))

-- a text that begins with digits is not a dash
not_dash : (n : ℕ) (rest : List ℕ) → IsId n → is_dash (decimal n ++ rest) ≡ false
not_dash n rest h =
    let some = decimal_nonempty n (omega (arith, h.1)) in
    first (decimal n) some (All-get_or (λ c. is_ascii_digit c ≡ true) (decimal n) 0 0 some (digits n h))
  where
    and_false : (b : Bool) → (b && false) ≡ false
    and_false true = refl
    and_false false = refl

    first : (ds : List ℕ) → 0 < length ds → is_ascii_digit (get_or ds 0 0) ≡ true → is_dash (ds ++ rest) ≡ false
    first [] some d = absurd (omega arith)
    first (c ∷ cs) some d = let e : (c == 45) ≡ false = grind (arith, nat_tests) in rw e (and_false (length ((c ∷ cs) ++ rest) == 1))

-- there is at least one piece, so the list is not empty
listed : (text ns : List ℕ) → split 44 text ≡ map decimal ns → text ≡ list_text ns
listed text [] e = let one = length-slice_split (λ x. x == 44) text in absurd (omega (arith, ap length e))
listed text (n ∷ ns) e = sym (join_with_byte-slice_split 44 text) ∙ ap (join_with_byte 44) e

pub list_found : (text ns : List ℕ) → list_of text ≡ Some ns → (text ≡ list_text ns) × All IsId ns
unfolding list_of
list_found text ns h =
    elim (is_dash text) as (λ b. is_dash text ≡ b → cond b (Some []) (ids_of (split 44 text)) ≡ Some ns → (text ≡ list_text ns) × All IsId ns) [
      | true ↦ λ e g. let none : [] ≡ ns = some_is [] ns g in rw (← none) (dash_found text e, All-nil IsId)
      | false ↦ λ e g. let r = pieces_found (split 44 text) ns g in (listed text ns r.pieces_are, r.ids)
    ] refl h

pub list_here : (ns : List ℕ) → All IsId ns → list_of (list_text ns) ≡ Some ns
unfolding list_of
list_here [] h = refl
list_here (n ∷ []) h =
    let plain : is_dash (decimal n) ≡ false = rw (append-nil (decimal n)) at (not_dash n [] (All-head IsId n [] h)) in
    rw (plain, split_again n [] h, pieces_here (n ∷ []) h) refl
list_here (n ∷ m ∷ ns) h =
    let plain = not_dash n (44 ∷ join_with_byte 44 (map decimal (m ∷ ns))) (All-head IsId n (m ∷ ns) h) in
    rw (plain, split_again n (m ∷ ns) h, pieces_here (n ∷ m ∷ ns) h) refl

-- a list has no blank
pub list_no_blank : (ns : List ℕ) → All IsId ns → Lacks 32 (list_text ns)
list_no_blank [] h = All-cons (λ c. (c == 32) ≡ false) 45 [] refl (All-nil (λ c. (c == 32) ≡ false))
list_no_blank (n ∷ []) h = let id = All-head IsId n [] h in no_blank n (omega (arith, id.1))
list_no_blank (n ∷ m ∷ ns) h =
    let id = All-head IsId n (m ∷ ns) h in
    let rest = list_no_blank (m ∷ ns) (All-tail IsId n (m ∷ ns) h) in
    All-append (λ c. (c == 32) ≡ false) (decimal n) (44 ∷ list_text (m ∷ ns)) (no_blank n (omega (arith, id.1)))
    (All-cons (λ c. (c == 32) ≡ false) 44 (list_text (m ∷ ns)) refl rest)
