-- A text is read as a line exactly if it has the written form of one.
use Rattle.std.proofs.Common.{◌≡◌, subst, ℕ, ◌<◌, ◌^◌, ◌⊎◌, inl, inr, Bool, true, false, cond, ◌==◌, codes, List, [], ◌∷◌, ◌++◌, length, Option, None, Some, Result, Ok, Err, is_some, refl, sym, ap, ◌∙◌, arith}
use Rattle.std.specs.Result.{result_ok}
use Rattle.std.specs.Fmt.{decimal}
use Rattle.std.proofs.lemmas.Bool.{and_parts, eqb-true, eqb-false}
use Rattle.std.proofs.lemmas.Bool.Decides.{nat_tests}
use Rattle.std.proofs.lemmas.List.{nil_from_length}
use Rattle.hex.specs.Hex.{decode_of}
use Rattle.hex.specs.declared.error.FromHexError.{FromHexError}
use Rattle.hex.specs.declared.error.FromHexError.TheVariants.{OddLength}
use Rattle.tora_packet.specs.declared.Packet.{Packet}
use Rattle.tora_packet.specs.declared.PacketError.{PacketError}
use Rattle.tora_packet.specs.PacketParts.{IsId}
use Rattle.tora_packet.specs.PacketGrammar.{packet_reading}
use Rattle.tora_script.specs.declared.replays.line.Line.{Line}
use Rattle.tora_script.specs.declared.replays.line.Order.{Order}
use Rattle.tora_script.specs.declared.replays.line.Order.TheVariants.{Up, Down, Need, From, Show}
use Rattle.tora_lines.specs.Words.{cut, number_of, id_of, is_dash}
use Rattle.tora_script.specs.ReplayLines.{bytes_of}
use Rattle.tora_lines.specs.Fronts.{after, or_else, ◌>>=◌}
use Rattle.tora_script.specs.ReplayLines.{from_of, with_id, is_show, order_of, line_of}
use Rattle.tora_script.specs.ReplayGrammar.{SpellsBytes, SpellsFrom, SpellsOrder, SpellsLine}
use Rattle.tora_lines.specs.WordGrammar.{SpellsId}
use Rattle.tora_lines.proofs.Grammar.{number_prints, number_again}
use Rattle.tora_lines.proofs.WordLaws.{some_is, bind_some, id_found, id_here, after_found, after_here, no_blank, cut_found, cut_here, dash_found, or_else_some}

-- ---- bytes

-- the last of three choices was made, if the result is a value
chosen : (empty dash : Bool) (r : Result (List ℕ) FromHexError) (bytes : List ℕ) → cond empty None (cond dash (Some []) (result_ok r)) ≡ Some bytes
    → (empty ≡ false) × (((dash ≡ true) × (bytes ≡ [])) ⊎ (r ≡ Ok bytes))
chosen true dash r bytes h = absurd cc
chosen false true r bytes h = (refl, inl (refl, sym (some_is [] bytes h)))
chosen false false (Ok x) bytes h = (refl, inr (ap (λ (t : List ℕ). ok t) (some_is x bytes h)))
  where
    ok : List ℕ → Result (List ℕ) FromHexError
    ok t = Ok t
chosen false false (Err e) bytes h = absurd cc

bytes_found : (word bytes : List ℕ) → bytes_of word ≡ Some bytes → SpellsBytes word bytes
unfolding bytes_of
bytes_found word bytes h =
    let p = chosen (length word == 0) (is_dash word) (decode_of word) bytes h in
    let some : 0 < length word = let n = eqb-false _ _ p.0 in omega arith in
    elim p.1 as (λ x. SpellsBytes word bytes) [
      | inl d ↦ inl (dash_found word d.0, d.1)
      | inr d ↦ inr (some, d)
    ]

bytes_here : (word bytes : List ℕ) → SpellsBytes word bytes → bytes_of word ≡ Some bytes
unfolding bytes_of
bytes_here word bytes h =
    elim h as (λ x. bytes_of word ≡ Some bytes) [
      | inl d ↦ ap bytes_of d.0 ∙ ap (λ (t : List ℕ). some t) (sym d.1)
      | inr d ↦
          let full : (length word == 0) ≡ false = grind (arith, nat_tests, d.0) in
          elim (is_dash word) as (λ b. is_dash word ≡ b → bytes_of word ≡ Some bytes) [
            | true ↦ λ e. let odd : decode_of word ≡ Err OddLength = ap decode_of (dash_found word e) in absurd (clash bytes (sym d.1 ∙ odd))
            | false ↦ λ e. rw (full, e, d.1) refl
          ] refl
    ]
  where
    some : List ℕ → Option (List ℕ)
    some t = Some t

    clash : (bytes : List ℕ) → ◌≡◌ {A = Result (List ℕ) FromHexError} (Ok bytes) (Err OddLength) → ⊥
    clash bytes e = cc

-- ---- orders

with_id_found : (order : ℕ → Order) (text : List ℕ) (o : Order) → with_id order text ≡ Some o → (n : ℕ) × (text ≡ decimal n) × IsId n × (order n ≡ o)
unfolding with_id
with_id_found order text o h =
    let p = bind_some (id_of text) (λ n. Some (order n)) o h in
    let q = id_found text p.0 p.1 in
    (p.0, q.0, q.1, some_is (order p.0) o p.2)

with_id_here : (order : ℕ → Order) (n : ℕ) → IsId n → with_id order (decimal n) ≡ Some (order n)
unfolding with_id
with_id_here order n h = rw (id_here n h) refl

from_found : (text : List ℕ) (o : Order) → from_of text ≡ Some o → SpellsOrder (codes "from " ++ text) o
unfolding from_of
from_found text o h =
    let a = bind_some (cut 32 text) (λ a. id_of a.0 >>= (λ k. bytes_of a.1 >>= (λ bytes. Some (From k (packet_reading bytes))))) o h in
    let k = bind_some (id_of a.0.0) (λ k. bytes_of a.0.1 >>= (λ bytes. Some (From k (packet_reading bytes)))) o a.2 in
    let bytes = bind_some (bytes_of a.0.1) (λ bytes. Some (From k.0 (packet_reading bytes))) o k.2 in
    let id = id_found a.0.0 k.0 k.1 in
    let whole : text ≡ decimal k.0 ++ 32 ∷ a.0.1 = cut_found text a.0.0 a.0.1 a.1 ∙ ap (λ (t : List ℕ). t ++ 32 ∷ a.0.1) id.0 in
    rw (← some_is (From k.0 (packet_reading bytes.0)) o bytes.2) (record {
      id = id.1;
      word = a.0.1;
      bytes = bytes.0;
      spelled = bytes_found a.0.1 bytes.0 bytes.1;
      text_is = ap (λ (t : List ℕ). codes "from " ++ t) whole;
      read_is = refl;
    })

show_found : (text : List ℕ) → is_show text ≡ true → text ≡ codes "show"
unfolding is_show
show_found text h =
    let p = and_parts (length text == 4) (is_some (after (codes "show") text)) h in
    let len = eqb-true _ _ p.0 in
    elim (after (codes "show") text) as (λ r. after (codes "show") text ≡ r → is_some r ≡ true → text ≡ codes "show") [
      | None ↦ λ e g. absurd cc
      | Some rest ↦ λ e g.
          let whole = after_found (codes "show") text rest e in
          let none : rest ≡ [] = nil_from_length rest (omega (arith, len, ap length whole)) in
          whole ∙ ap (λ (t : List ℕ). codes "show" ++ t) none
    ] refl p.1

abbrev or_show : List ℕ → Option Order
or_show text = cond (is_show text) (Some Show) None

abbrev or_need : List ℕ → Option Order
or_need text = or_else (after (codes "need ") text) (with_id Need) (or_show text)

abbrev or_down : List ℕ → Option Order
or_down text = or_else (after (codes "down ") text) (with_id Down) (or_need text)

abbrev or_up : List ℕ → Option Order
or_up text = or_else (after (codes "up ") text) (with_id Up) (or_down text)

or_show_found : (text : List ℕ) (o : Order) → or_show text ≡ Some o → SpellsOrder text o
or_show_found text o h =
    elim (is_show text) as (λ b. is_show text ≡ b → cond b (Some Show) None ≡ Some o → SpellsOrder text o) [
      | true ↦ λ e g. rw (← some_is Show o g) (show_found text e)
      | false ↦ λ e g. absurd cc
    ] refl h

-- a word and an id were read
id_spelled : (word text rest : List ℕ) (n : ℕ) → text ≡ word ++ rest → rest ≡ decimal n → IsId n → SpellsId word text n
id_spelled word text rest n t r id = record { id = id; text_is = t ∙ ap (λ (x : List ℕ). word ++ x) r }

or_need_found : (text : List ℕ) (o : Order) → or_need text ≡ Some o → SpellsOrder text o
or_need_found text o h =
    elim (or_else_some (codes "need ") text (with_id Need) (or_show text) o h) [
      | inl p ↦ let q = with_id_found Need p.0 o p.2 in rw (← q.3) (id_spelled (codes "need ") text p.0 q.0 p.1 q.1 q.2)
      | inr g ↦ or_show_found text o g
    ]

or_down_found : (text : List ℕ) (o : Order) → or_down text ≡ Some o → SpellsOrder text o
or_down_found text o h =
    elim (or_else_some (codes "down ") text (with_id Down) (or_need text) o h) [
      | inl p ↦ let q = with_id_found Down p.0 o p.2 in rw (← q.3) (id_spelled (codes "down ") text p.0 q.0 p.1 q.1 q.2)
      | inr g ↦ or_need_found text o g
    ]

or_up_found : (text : List ℕ) (o : Order) → or_up text ≡ Some o → SpellsOrder text o
or_up_found text o h =
    elim (or_else_some (codes "up ") text (with_id Up) (or_down text) o h) [
      | inl p ↦ let q = with_id_found Up p.0 o p.2 in rw (← q.3) (id_spelled (codes "up ") text p.0 q.0 p.1 q.1 q.2)
      | inr g ↦ or_down_found text o g
    ]

order_found : (text : List ℕ) (o : Order) → order_of text ≡ Some o → SpellsOrder text o
unfolding order_of
order_found text o h =
    elim (or_else_some (codes "from ") text from_of (or_up text) o h) [
      | inl p ↦ subst (λ t. SpellsOrder t o) (sym p.1) (from_found p.0 o p.2)
      | inr g ↦ or_up_found text o g
    ]

-- texts with different first bytes are not prefixes of each other
apart : (x y : ℕ) (xs ys : List ℕ) → (x == y) ≡ false → after (x ∷ xs) (y ∷ ys) ≡ None
unfolding after
apart x y xs ys e = rw e refl

up_here : (k : ℕ) → IsId k → order_of (codes "up " ++ decimal k) ≡ Some (Up k)
unfolding order_of
up_here k h = rw (apart 102 117 _ _ refl, after_here (codes "up ") (decimal k), with_id_here Up k h) refl

down_here : (k : ℕ) → IsId k → order_of (codes "down " ++ decimal k) ≡ Some (Down k)
unfolding order_of
down_here k h = rw (apart 102 100 _ _ refl, apart 117 100 _ _ refl, after_here (codes "down ") (decimal k), with_id_here Down k h) refl

need_here : (d : ℕ) → IsId d → order_of (codes "need " ++ decimal d) ≡ Some (Need d)
unfolding order_of
need_here d h = rw (apart 102 110 _ _ refl, apart 117 110 _ _ refl, apart 100 110 _ _ refl, after_here (codes "need ") (decimal d), with_id_here Need d h) refl

show_here : order_of (codes "show") ≡ Some Show
unfolding order_of after is_show
show_here = refl

from_here : (text : List ℕ) (k : ℕ) (read : Result Packet PacketError) → SpellsFrom text k read → order_of text ≡ Some (From k read)
unfolding order_of from_of
from_here text k read s =
    let small : k < 2 ^ 64 = omega (arith, s.id.1) in
    let c = cut_here (decimal k) s.word (no_blank k small) in
    let here : order_of (codes "from " ++ (decimal k ++ 32 ∷ s.word)) ≡ Some (From k (packet_reading s.bytes)) =
    rw (after_here (codes "from ") (decimal k ++ 32 ∷ s.word), c, id_here k s.id, bytes_here s.word s.bytes s.spelled) refl in
    ap order_of s.text_is ∙ here ∙ ap (λ (r : Result Packet PacketError). some (From k r)) (sym s.read_is)
  where
    some : Order → Option Order
    some o = Some o

order_here : (text : List ℕ) (o : Order) → SpellsOrder text o → order_of text ≡ Some o
order_here text (Up k) s = ap order_of s.text_is ∙ up_here k s.id
order_here text (Down k) s = ap order_of s.text_is ∙ down_here k s.id
order_here text (Need d) s = ap order_of s.text_is ∙ need_here d s.id
order_here text (From k read) s = from_here text k read s
order_here text Show s = ap order_of s ∙ show_here

-- ---- lines

pub line_found : (text : List ℕ) (l : Line) → line_of text ≡ Some l → SpellsLine text l
unfolding line_of
line_found text l h =
    let a = bind_some (cut 32 text) (λ a. number_of a.0 >>= (λ now. order_of a.1 >>= (λ order. Some (record { now = now; order = order })))) l h in
    let now = bind_some (number_of a.0.0) (λ now. order_of a.0.1 >>= (λ order. Some (record { now = now; order = order }))) l a.2 in
    let order = bind_some (order_of a.0.1) (λ order. Some (record { now = now.0; order = order })) l now.2 in
    let n = number_prints a.0.0 now.0 now.1 in
    rw (← some_is (record { now = now.0; order = order.0 }) l order.2) (record {
      time = n.1;
      order = a.0.1;
      spelled = order_found a.0.1 order.0 order.1;
      text_is = cut_found text a.0.0 a.0.1 a.1 ∙ ap (λ (t : List ℕ). t ++ 32 ∷ a.0.1) n.0;
    })

pub line_here : (text : List ℕ) (l : Line) → SpellsLine text l → line_of text ≡ Some l
unfolding line_of
line_here text l s =
    let here : line_of (decimal l.now ++ 32 ∷ s.order) ≡ Some l = rw (cut_here (decimal l.now) s.order (no_blank l.now s.time), number_again l.now s.time, order_here s.order l.order s.spelled) refl in
    ap line_of s.text_is ∙ here
