-- A line about a node is read exactly if it has the written form of one.
use Rattle.std.proofs.Common.{◌≡◌, ℕ, Bool, true, false, cond, codes, List, ◌∷◌, ◌++◌, Option, None, Some, refl, ap, ◌∙◌, inl, inr}
use Rattle.std.specs.Fmt.{decimal}
use Rattle.tora_packet.specs.PacketParts.{IsId}
use Rattle.tora_core.specs.declared.erasure.Erasure.{Erasure}
use Rattle.tora_core.specs.declared.erasure.Erasure.TheVariants.{Plain, Remembered}
use Rattle.tora_lines.specs.Words.{cut, id_of}
use Rattle.tora_lines.specs.Fronts.{after, or_else, ◌>>=◌}
use Rattle.tora_lines.proofs.WordLaws.{some_is, bind_some, id_found, id_here, after_here, no_blank, cut_here, or_else_some}
use Rattle.tora_script.specs.declared.node_marks.Mark.{Mark}
use Rattle.tora_script.specs.declared.node_marks.Mark.TheVariants.{Old, Erases}
use Rattle.tora_script.specs.SimulationLines.{is_word, erasure_of, erases_of, mark_of, for_id}
use Rattle.tora_script.specs.SimulationGrammar.{erasure_text, SpellsErasure, SpellsMark}
use Rattle.tora_script.proofs.SimulationFound.{word_found, at_blank, id_spelled}
use Rattle.tora_script.proofs.SimulationHere.{small, for_id_here}

-- ---- a line that is read has the written form

erasure_found : (text : List ℕ) (erasure : Erasure) → erasure_of text ≡ Some erasure → text ≡ erasure_text erasure
unfolding erasure_of
erasure_found text erasure h =
    pick (is_word (codes "plain") text) Plain _ (λ e. word_found (codes "plain") text e)
    (λ h1. pick (is_word (codes "remembered") text) Remembered _ (λ e. word_found (codes "remembered") text e) (λ h2. absurd cc) h1) h
  where
    pick : (b : Bool) (c : Erasure) (other : Option Erasure) → (b ≡ true → text ≡ erasure_text c) → (other ≡ Some erasure → text ≡ erasure_text erasure) → cond b (Some c) other ≡ Some erasure → text ≡ erasure_text erasure
    pick true c other here there h = rw (← some_is c erasure h) (here refl)
    pick false c other here there h = there h

erases_found : (text rest : List ℕ) (m : Mark) → text ≡ codes "erasure " ++ rest → erases_of rest ≡ Some m → SpellsMark text m
unfolding erases_of
erases_found text rest m t h =
    let a = bind_some (cut 32 rest) (λ a. id_of a.0 >>= (λ n. erasure_of a.1 >>= (λ erasure. Some (Erases n erasure)))) m h in
    let n = bind_some (id_of a.0.0) (λ n. erasure_of a.0.1 >>= (λ erasure. Some (Erases n erasure))) m a.2 in
    let erasure = bind_some (erasure_of a.0.1) (λ erasure. Some (Erases n.0 erasure)) m n.2 in
    let first = id_found a.0.0 n.0 n.1 in
    let whole = at_blank rest a.0.0 a.0.1 (decimal n.0) (erasure_text erasure.0) a.1 first.0 (erasure_found a.0.1 erasure.0 erasure.1) in
    rw (← some_is (Erases n.0 erasure.0) m erasure.2) (record { id = first.1; text_is = t ∙ ap (λ (x : List ℕ). codes "erasure " ++ x) whole })

pub mark_found : (text : List ℕ) (m : Mark) → mark_of text ≡ Some m → SpellsMark text m
unfolding mark_of
mark_found text m h =
    elim (or_else_some (codes "old ") text (for_id Old) (or_else (after (codes "erasure ") text) erases_of None) m h) [
      | inl p ↦ let q = id_spelled Old (codes "old ") text p.0 m p.1 p.2 in rw (← q.2) q.1
      | inr g ↦ elim (or_else_some (codes "erasure ") text erases_of None m g) [
        | inl p ↦ erases_found text p.0 m p.1 p.2
        | inr e ↦ absurd cc
      ]
    ]

-- ---- a line in the written form is read

erasure_here : (erasure : Erasure) → erasure_of (erasure_text erasure) ≡ Some erasure
unfolding erasure_of is_word after
erasure_here Plain = refl
erasure_here Remembered = refl

erases_here : (n : ℕ) (erasure : Erasure) → IsId n → erases_of (decimal n ++ 32 ∷ erasure_text erasure) ≡ Some (Erases n erasure)
unfolding erases_of
erases_here n erasure h = rw (cut_here (decimal n) (erasure_text erasure) (no_blank n (small n h)), id_here n h, erasure_here erasure) refl

old_reads : (rest : List ℕ) (m : Mark) → for_id Old rest ≡ Some m → mark_of (codes "old " ++ rest) ≡ Some m
unfolding mark_of after
old_reads rest m h = rw h refl

erasure_reads : (rest : List ℕ) (m : Mark) → erases_of rest ≡ Some m → mark_of (codes "erasure " ++ rest) ≡ Some m
unfolding mark_of after
erasure_reads rest m h = rw h refl

pub mark_here : (text : List ℕ) (m : Mark) → SpellsMark text m → mark_of text ≡ Some m
mark_here text (Old n) s = ap mark_of s.text_is ∙ old_reads _ _ (for_id_here Old n s.id)
mark_here text (Erases n erasure) s = ap mark_of s.text_is ∙ erasure_reads _ _ (erases_here n erasure s.id)
