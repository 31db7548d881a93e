-- The first piece of a text, and the pieces after it.
use Rattle.std.proofs.Common.{◌≡◌, ℕ, ◌+◌, ◌<◌, false, ◌==◌, List, [], ◌∷◌, ◌++◌, length, get_or, take, drop, All, Option, None, Some, refl, sym, ap, ◌∙◌, arith, append_assoc, add-one, inl, inr}
use Rattle.std.specs.Option.{option_map}
use Rattle.std.specs.List.{position, position_or_len}
use Rattle.std.proofs.Math.Seq.{drop-cons}
use Rattle.std.proofs.lemmas.Bool.{cases_lt, eqb-true, eq-eqb, lt-ltb}
use Rattle.std.proofs.lemmas.List.{take-append-drop, length-take-le, length-drop, get_or-take, append-nil}
use Rattle.std.proofs.lemmas.List.Quantifiers.{position-Some}
use Rattle.std.proofs.lemmas.List.Splits.{slice_split_at, slice_split_none}
use Rattle.std.proofs.lemmas.List.Sums.{fails_before_first}
use Rattle.tora_lines.specs.Words.{split, cut, halves, id_of, ids_of}

-- the text has no such byte
abbrev pub Lacks : ℕ → List ℕ → Type 0
Lacks c text = All (λ x. (x == c) ≡ false) text

pub record IsCut (c : ℕ) (text : List ℕ) (i : ℕ) : Type 0 where
  pub parts : text ≡ take i text ++ c ∷ drop (i + 1) text
  pub clear : Lacks c (take i text)
  pub below : i < length text

pub cut_at : (c i : ℕ) (text : List ℕ) → position (λ x. x == c) text ≡ Some i → IsCut c text i
cut_at c i text h =
    let f = λ (d : ℕ). position-Some (λ x. x == c) text i d h in
    let lt = (f 0).0 in
    let byte : get_or text i 0 ≡ c = eqb-true _ _ (f 0).1 in
    record {
      parts = sym (take-append-drop i text) ∙ rw (drop-cons text i 0 lt, byte, add-one) refl;
      clear = λ k d below. let lk : k < i = omega (arith, length-take-le i text (omega arith)) in rw (get_or-take i text k d lk) ((f d).2 k lk);
      below = lt;
    }

pub cut_none : (c : ℕ) (text : List ℕ) → position (λ x. x == c) text ≡ None → Lacks c text
cut_none c text h =
    let p = λ (x : ℕ). x == c in
    elim (cases_lt (position_or_len p text) (length text)) [
      | inl lt ↦ let e : position p text ≡ Some (position_or_len p text) = rw (lt-ltb _ _ lt) refl in absurd cc
      | inr le ↦ λ k d below. fails_before_first p text k d (omega arith)
    ]

-- the bytes before the first separator are the first piece, whatever follows
pub split_first : (c i : ℕ) (text more : List ℕ) → position (λ x. x == c) text ≡ Some i → split c (text ++ more) ≡ take i text ∷ split c (drop (i + 1) text ++ more)
split_first c i text more h =
    let cut = cut_at c i text h in
    let whole : text ++ more ≡ take i text ++ c ∷ (drop (i + 1) text ++ more) = ap (λ (t : List ℕ). t ++ more) cut.parts ∙ append_assoc (take i text) (c ∷ drop (i + 1) text) more in
    ap (split c) whole ∙ slice_split_at (λ x. x == c) (take i text) c (drop (i + 1) text ++ more) cut.clear (eq-eqb c c refl)

pub split_none : (c : ℕ) (text : List ℕ) → position (λ x. x == c) text ≡ None → split c text ≡ text ∷ []
split_none c text h = slice_split_none (λ x. x == c) text (cut_none c text h)

-- the index and the parts that `cut` returns
pub cut_some_place : (c : ℕ) (text a b : List ℕ) → cut c text ≡ Some (a, b) → (i : ℕ) × (position (λ x. x == c) text ≡ Some i) × (a ≡ take i text) × (b ≡ drop (i + 1) text)
unfolding cut
cut_some_place c text a b =
    elim (position (λ x. x == c) text) as (λ o. halves text o ≡ Some (a, b) → (i : ℕ) × (o ≡ Some i) × (a ≡ take i text) × (b ≡ drop (i + 1) text)) [
      | None ↦ λ h. absurd cc
      | Some i ↦ λ h. let e : pair (take i text) (drop (i + 1) text) ≡ pair a b = cc in (i, refl, sym (ap (λ (p : List ℕ × List ℕ). p.0) e), sym (ap (λ (p : List ℕ × List ℕ). p.1) e))
    ]
  where
    pair : List ℕ → List ℕ → List ℕ × List ℕ
    pair x y = (x, y)

split_cut_at : (c i : ℕ) (text a b : List ℕ) → position (λ x. x == c) text ≡ Some i → a ≡ take i text → b ≡ drop (i + 1) text → (split c text ≡ a ∷ split c b) × (length b < length text)
split_cut_at c i text a b h ea eb =
    let below = (cut_at c i text h).below in
    rw (ea, eb) (
      ap (split c) (sym (append-nil text)) ∙ split_first c i text [] h ∙ ap (λ (t : List ℕ). take i text ∷ split c t) (append-nil (drop (i + 1) text)),
      simp length-drop (omega arith),
    )

pub split_cut : (c : ℕ) (text a b : List ℕ) → cut c text ≡ Some (a, b) → (split c text ≡ a ∷ split c b) × (length b < length text)
split_cut c text a b h = let p = cut_some_place c text a b h in split_cut_at c p.0 text a b p.1 p.2 p.3

pub split_no_cut : (c : ℕ) (text : List ℕ) → cut c text ≡ None → split c text ≡ text ∷ []
unfolding cut
split_no_cut c text h =
    elim (position (λ x. x == c) text) as (λ o. position (λ x. x == c) text ≡ o → halves text o ≡ None → split c text ≡ text ∷ []) [
      | None ↦ λ e n. split_none c text e
      | Some i ↦ λ e n. absurd cc
    ] refl h

-- the ids that were read, followed by the ids of the rest
abbrev pub with_front : List ℕ → Option (List ℕ) → Option (List ℕ)
with_front front read = option_map (λ ns. front ++ ns) read

-- a piece that is an id, and one that is not
pub ids_go_on : (text front piece after : List ℕ) (n : ℕ) (total : Option (List ℕ)) → cut 44 text ≡ Some (piece, after) → id_of piece ≡ Some n → with_front front (ids_of (split 44 text)) ≡ total → with_front (front ++ n ∷ []) (ids_of (split 44 after)) ≡ total
unfolding ids_of
ids_go_on text front piece after n total c i so_far =
    let e : ids_of (split 44 text) ≡ option_map (λ ns. n ∷ ns) (ids_of (split 44 after)) = rw ((split_cut 44 text piece after c).0, i) refl in
    regroup front n (ids_of (split 44 after)) ∙ ap (with_front front) (sym e) ∙ so_far
  where
    regroup : (front : List ℕ) (n : ℕ) (o : Option (List ℕ)) → with_front (front ++ n ∷ []) o ≡ with_front front (option_map (λ ns. n ∷ ns) o)
    regroup front n None = refl
    regroup front n (Some ns) = ap (λ (t : List ℕ). Some t) (append_assoc front (n ∷ []) ns)

pub ids_fault : (text front piece after : List ℕ) (total : Option (List ℕ)) → cut 44 text ≡ Some (piece, after) → id_of piece ≡ None → with_front front (ids_of (split 44 text)) ≡ total → total ≡ None
unfolding ids_of
ids_fault text front piece after total c i so_far =
    let e : ids_of (split 44 text) ≡ None = rw ((split_cut 44 text piece after c).0, i) refl in
    sym so_far ∙ ap (with_front front) e

pub ids_last : (text front : List ℕ) (n : ℕ) (total : Option (List ℕ)) → cut 44 text ≡ None → id_of text ≡ Some n → with_front front (ids_of (split 44 text)) ≡ total → total ≡ Some (front ++ n ∷ [])
unfolding ids_of
ids_last text front n total c i so_far =
    let e : ids_of (split 44 text) ≡ Some (n ∷ []) = rw (split_no_cut 44 text c, i) refl in
    sym so_far ∙ ap (with_front front) e

pub ids_last_fault : (text front : List ℕ) (total : Option (List ℕ)) → cut 44 text ≡ None → id_of text ≡ None → with_front front (ids_of (split 44 text)) ≡ total → total ≡ None
unfolding ids_of
ids_last_fault text front total c i so_far =
    let e : ids_of (split 44 text) ≡ None = rw (split_no_cut 44 text c, i) refl in
    sym so_far ∙ ap (with_front front) e

-- what `cut` returned, as an equation
pub cut_is_some : (c : ℕ) (text : List ℕ) (o : Option (List ℕ × List ℕ)) (a b : List ℕ) → o ≡ cut c text → o ≡ Some (a, b) → cut c text ≡ Some (a, b)
cut_is_some c text o a b e f = sym e ∙ f
