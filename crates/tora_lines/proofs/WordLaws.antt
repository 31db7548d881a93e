-- A text is read as a word exactly if it is the written form of that word.
use Rattle.std.proofs.Common.{◌≡◌, ℕ, ◌+◌, ◌<◌, ◌^◌, ◌⊎◌, inl, inr, true, false, cond, nat_eq, ltb, ◌==◌, codes, List, [], ◌∷◌, ◌++◌, length, get_or, take, drop, Option, None, Some, refl, sym, ap, ◌∙◌, arith}
use Rattle.std.specs.List.{starts_with, position, position_or_len}
use Rattle.std.specs.Option.{option_and_then}
use Rattle.std.specs.Fmt.{decimal}
use Rattle.std.specs.Char.{is_ascii_digit}
use Rattle.std.proofs.Math.Seq.{take-append_seam, drop-append_seam, drop-append-add, get_or-append_seam}
use Rattle.std.proofs.Math.ListN.{get_or-append}
use Rattle.std.proofs.lemmas.Bool.{lt-ltb, and_parts, eqb-true}
use Rattle.std.proofs.lemmas.Bool.Decides.{nat_tests}
use Rattle.std.proofs.lemmas.List.{take-append-drop, length-append}
use Rattle.std.proofs.lemmas.List.Elements.{All-weaker}
use Rattle.std.proofs.lemmas.List.Sums.{AllPass-from_list_all, position_or_len_is}
use Rattle.std.proofs.lemmas.Slice.Eq.{bytes_eq-Decides}
use Rattle.std.proofs.lemmas.Fmt.{digits_decimal}
use Rattle.tora_packet.specs.PacketParts.{IsId}
use Rattle.tora_lines.specs.Words.{cut, number_of, id_from, id_of, is_dash}
use Rattle.tora_lines.specs.Fronts.{after, or_else, ◌>>=◌}
use Rattle.tora_lines.proofs.Splits.{Lacks, cut_at, cut_some_place}
use Rattle.tora_lines.proofs.Grammar.{own, number_prints, number_again}

-- ---- options

pub some_is : {A : Type 0} (x y : A) → ◌≡◌ {A = Option A} (Some x) (Some y) → x ≡ y
some_is x y h = cc

-- both steps gave a value
pub bind_some : {A B : Type 0} (o : Option A) (f : A → Option B) (y : B) → (o >>= f) ≡ Some y → (x : A) × (o ≡ Some x) × (f x ≡ Some y)
bind_some (Some x) f y h = (x, refl, h)
bind_some None f y h = absurd cc

-- ---- ids

id_from_found : (m n : ℕ) → id_from m ≡ Some n → (m ≡ n) × IsId n
id_from_found m n h = grind (arith, nat_tests)

pub id_found : (text : List ℕ) (n : ℕ) → id_of text ≡ Some n → (text ≡ decimal n) × IsId n
unfolding id_of
id_found text n h =
    elim (number_of text) as (λ o. number_of text ≡ o → option_and_then id_from o ≡ Some n → (text ≡ decimal n) × IsId n) [
      | None ↦ λ e g. absurd cc
      | Some m ↦ λ e g. let p = number_prints text m e in let q = id_from_found m n g in (p.0 ∙ ap decimal q.0, q.1)
    ] refl h

pub id_here : (n : ℕ) → IsId n → id_of (decimal n) ≡ Some n
unfolding id_of
id_here n h =
    let small : n < 2 ^ 64 = omega (arith, h.1) in
    let low : ltb 0 n ≡ true = lt-ltb _ _ h.0 in
    let high : ltb n (2 ^ 32) ≡ true = lt-ltb _ _ h.1 in
    rw (number_again n small, low, high) refl

-- ---- the front of a text

pub after_found : (front text rest : List ℕ) → after front text ≡ Some rest → text ≡ front ++ rest
unfolding after
after_found front text rest h =
    elim (starts_with nat_eq text front) as (λ b. starts_with nat_eq text front ≡ b → cond b (Some (drop (length front) text)) None ≡ Some rest → text ≡ front ++ rest) [
      | true ↦ λ e g.
          let same : front ≡ take (length front) text = (bytes_eq-Decides front (take (length front) text)).0 e in
          let left : drop (length front) text ≡ rest = some_is (drop (length front) text) rest g in
          sym (take-append-drop (length front) text) ∙ ap (λ (t : List ℕ). t ++ drop (length front) text) (sym same) ∙ ap (λ (t : List ℕ). front ++ t) left
      | false ↦ λ e g. absurd cc
    ] refl h

pub after_here : (front rest : List ℕ) → after front (front ++ rest) ≡ Some rest
unfolding after
after_here front rest =
    let same : starts_with nat_eq (front ++ rest) front ≡ true = (bytes_eq-Decides front (take (length front) (front ++ rest))).1 (sym (take-append_seam front rest)) in
    rw (same, drop-append_seam front rest) refl

-- ---- the first blank

pub no_blank : (n : ℕ) → n < 2 ^ 64 → Lacks 32 (decimal n)
no_blank n small =
    All-weaker (λ c. is_ascii_digit c ≡ true) (λ c. (c == 32) ≡ false) (λ c h. grind (arith, nat_tests)) (decimal n)
    (AllPass-from_list_all is_ascii_digit (decimal n) (digits_decimal own n small))

pub cut_found : (text a b : List ℕ) → cut 32 text ≡ Some (a, b) → text ≡ a ++ 32 ∷ b
cut_found text a b h =
    let p = cut_some_place 32 text a b h in
    (cut_at 32 p.0 text p.1).parts ∙ ap (λ (t : List ℕ). t ++ 32 ∷ drop (p.0 + 1) text) (sym p.2) ∙ ap (λ (t : List ℕ). a ++ 32 ∷ t) (sym p.3)

pub cut_here : (a b : List ℕ) → Lacks 32 a → cut 32 (a ++ 32 ∷ b) ≡ Some (a, b)
unfolding cut
cut_here a b clear =
    let at : position (λ x. x == 32) (a ++ 32 ∷ b) ≡ Some (length a) = place a b clear in
    rw (at, take-append_seam a (32 ∷ b), drop-append-add a (32 ∷ b) 1) refl
  where
    place : (a b : List ℕ) → Lacks 32 a → position (λ x. x == 32) (a ++ 32 ∷ b) ≡ Some (length a)
    place a b clear =
        let at_end : get_or (a ++ 32 ∷ b) (length a) 0 ≡ 32 = get_or-append_seam a 32 b 0 in
        let e : position_or_len (λ x. x == 32) (a ++ 32 ∷ b) ≡ length a =
        position_or_len_is (λ x. x == 32) (a ++ 32 ∷ b) (length a) 0 (omega (arith, length-append a (32 ∷ b)))
        (λ k below. rw (get_or-append a (32 ∷ b) 0 k below) (clear k 0 below)) (λ below. rw at_end refl) in
        let inside : ltb (length a) (length (a ++ 32 ∷ b)) ≡ true = lt-ltb _ _ (omega (arith, length-append a (32 ∷ b))) in
        rw (e, inside) refl

-- ---- a dash

pub dash_found : (word : List ℕ) → is_dash word ≡ true → word ≡ codes "-"
dash_found [] h = absurd cc
dash_found (x ∷ []) h = let p = and_parts (length (x ∷ []) == 1) (x == 45) h in ap (λ (t : ℕ). t ∷ []) (eqb-true x 45 p.1)
dash_found (x ∷ y ∷ zs) h = let p = and_parts (length (x ∷ y ∷ zs) == 1) (x == 45) h in let e = eqb-true _ _ p.0 in absurd (omega arith)

-- ---- a choice between prefixes

pub or_else_some : {A : Type 0} (front text : List ℕ) (read : List ℕ → Option A) (other : Option A) (o : A) → or_else (after front text) read other ≡ Some o
    → ((rest : List ℕ) × (text ≡ front ++ rest) × (read rest ≡ Some o)) ⊎ (other ≡ Some o)
or_else_some front text read other o h =
    elim (after front text) as (λ r. after front text ≡ r → or_else r read other ≡ Some o → ((rest : List ℕ) × (text ≡ front ++ rest) × (read rest ≡ Some o)) ⊎ (other ≡ Some o)) [
      | Some rest ↦ λ e g. inl (rest, after_found front text rest e, g)
      | None ↦ λ e g. inr g
    ] refl h
