-- The lines of a channel file, one after another.
use Rattle.std.proofs.Common.{◌≡◌, ℕ, ◌+◌, ◌==◌, true, false, List, [], ◌∷◌, ◌++◌, length, Option, Some, None, Result, Ok, Err, sym, ap, refl, ◌∙◌, append_assoc, append-nil, true≢false, arith}
use Rattle.std.proofs.lemmas.Bool.Decides.{nat_tests}
use Rattle.tora_lines.specs.Words.{cut, split}
use Rattle.tora_lines.proofs.Splits.{split_cut, split_no_cut}
use Rattle.tora_lines.proofs.Flow.{split_cons}
use Rattle.tora_script.specs.declared.channel.line.ChannelLine.{ChannelLine}
use Rattle.tora_script.specs.declared.channel.table_text.TableError.{TableError}
use Rattle.tora_script.specs.declared.channel.table_text.TableError.TheVariants.{Memory, Line}
use Rattle.tora_script.specs.TableText.{Numbers, Refuses, channel_line_of, after_line, from_line, lines_from}

-- the lines that were read, followed by those of the rest
abbrev pub with_front : List ChannelLine → Result (List ChannelLine) ℕ → Result (List ChannelLine) ℕ
with_front front (Ok lines) = Ok (front ++ lines)
with_front front (Err n) = Err n

regroup : (front : List ChannelLine) (line : ChannelLine) (rest : Result (List ChannelLine) ℕ) → with_front (front ++ line ∷ []) rest ≡ with_front front (after_line line rest)
regroup front line (Ok lines) = ap (λ (t : List ChannelLine). Ok t) (append_assoc front (line ∷ []) lines)
regroup front line (Err n) = refl

-- a piece that others follow
followed : (n : ℕ) (piece next : List ℕ) (others : List (List ℕ)) → lines_from n (piece ∷ next ∷ others) ≡ from_line n (channel_line_of piece) (lines_from (n + 1) (next ∷ others))
unfolding lines_from
followed n [] next others = refl
followed n (c ∷ cs) next others = refl

-- a piece before the first LF
before_cut : (n : ℕ) (text piece after : List ℕ) → cut 10 text ≡ Some (piece, after) → lines_from n (split 10 text) ≡ from_line n (channel_line_of piece) (lines_from (n + 1) (split 10 after))
before_cut n text piece after c =
    let r = split_cons 10 after in
    ap (lines_from n) ((split_cut 10 text piece after c).0 ∙ ap (λ (t : List (List ℕ)). piece ∷ t) r.is)
    ∙ followed n piece r.first r.others
    ∙ ap (λ (t : List (List ℕ)). from_line n (channel_line_of piece) (lines_from (n + 1) t)) (sym r.is)

pub goes_on : (n : ℕ) (text piece after : List ℕ) (front : List ChannelLine) (line : ChannelLine) (total : Result (List ChannelLine) ℕ) → cut 10 text ≡ Some (piece, after) → channel_line_of piece ≡ Some line
    → with_front front (lines_from n (split 10 text)) ≡ total → with_front (front ++ line ∷ []) (lines_from (n + 1) (split 10 after)) ≡ total
goes_on n text piece after front line total c is so_far =
    let e = before_cut n text piece after c ∙ ap (λ (o : Option ChannelLine). from_line n o (lines_from (n + 1) (split 10 after))) is in
    regroup front line (lines_from (n + 1) (split 10 after)) ∙ ap (with_front front) (sym e) ∙ so_far

pub faults : (n : ℕ) (text piece after : List ℕ) (front : List ChannelLine) (total : Result (List ChannelLine) ℕ) → cut 10 text ≡ Some (piece, after) → channel_line_of piece ≡ None
    → with_front front (lines_from n (split 10 text)) ≡ total → total ≡ Err n
faults n text piece after front total c is so_far =
    let e = before_cut n text piece after c ∙ ap (λ (o : Option ChannelLine). from_line n o (lines_from (n + 1) (split 10 after))) is in
    sym so_far ∙ ap (with_front front) e

-- the text after the last LF
last_piece : (n : ℕ) (text : List ℕ) → (length text == 0) ≡ false → lines_from n (text ∷ []) ≡ from_line n (channel_line_of text) (Ok [])
unfolding lines_from
last_piece n [] h = absurd cc
last_piece n (c ∷ cs) h = refl

pub ends : (n : ℕ) (text : List ℕ) (front : List ChannelLine) (total : Result (List ChannelLine) ℕ) → cut 10 text ≡ None → (length text == 0) ≡ true → with_front front (lines_from n (split 10 text)) ≡ total → total ≡ Ok front
unfolding lines_from
ends n [] front total c is so_far = sym so_far ∙ ap (λ (t : List ChannelLine). Ok t) (append-nil front)
ends n (x ∷ xs) front total c is so_far =
    let some : (length (x ∷ xs) == 0) ≡ false = grind (arith, nat_tests) in
    absurd (true≢false (sym is ∙ some))

pub last_goes : (n : ℕ) (text : List ℕ) (front : List ChannelLine) (line : ChannelLine) (total : Result (List ChannelLine) ℕ) → cut 10 text ≡ None → (length text == 0) ≡ false → channel_line_of text ≡ Some line
    → with_front front (lines_from n (split 10 text)) ≡ total → total ≡ Ok (front ++ line ∷ [])
last_goes n text front line total c some is so_far =
    let e = ap (lines_from n) (split_no_cut 10 text c) ∙ last_piece n text some ∙ ap (λ (o : Option ChannelLine). from_line n o (Ok [])) is in
    sym so_far ∙ ap (with_front front) e

pub last_faults : (n : ℕ) (text : List ℕ) (front : List ChannelLine) (total : Result (List ChannelLine) ℕ) → cut 10 text ≡ None → (length text == 0) ≡ false → channel_line_of text ≡ None
    → with_front front (lines_from n (split 10 text)) ≡ total → total ≡ Err n
last_faults n text front total c some is so_far =
    let e = ap (lines_from n) (split_no_cut 10 text c) ∙ last_piece n text some ∙ ap (λ (o : Option ChannelLine). from_line n o (Ok [])) is in
    sym so_far ∙ ap (with_front front) e

pub starts : (text : List ℕ) → with_front [] (lines_from 1 (split 10 text)) ≡ lines_from 1 (split 10 text)
starts text = nothing_before (lines_from 1 (split 10 text))
  where
    nothing_before : (r : Result (List ChannelLine) ℕ) → with_front [] r ≡ r
    nothing_before (Ok lines) = refl
    nothing_before (Err n) = refl

-- an invalid line, and its number
pub refuses : (n : ℕ) (read : Option ChannelLine) (e : TableError) (total : Result (List ChannelLine) ℕ) → Numbers n read (Err e) → (read ≡ None → total ≡ Err n) → Refuses e total
refuses n read Memory total h f = tt
refuses n read (Line m cause) total h f = rw h.1 (f h.0)
