-- The printed fault is the first one.
use Rattle.std.proofs.Common.{◌≡◌, ℕ, ◌+◌, List, [], ◌∷◌, ◌++◌, length, Option, None, Some, refl, sym, ap, ◌∙◌, arith}
use Rattle.std.specs.Option.{option_and_then, option_map_or}
use Rattle.tora_lines.specs.Pieces.{pieces_of}
use Rattle.tora_lines.specs.LineText.{Rules, prepend, faulty, ending, reply, text_from, whole_text, fault_of, state_behind, IsFaultNext, IsFirstFaultBy}
use Rattle.tora_lines.proofs.WordLaws.{some_is}

ends_so : (o : Option ℕ) → fault_of (ending o).1 ≡ o
ends_so None = refl
ends_so (Some n) = refl

one_more : (n : ℕ) (line : List ℕ) (before : List (List ℕ)) → n + length (line ∷ before) ≡ n + 1 + length before
one_more n line before = omega arith

found_from : {S : Type 0} (rules : Rules S) (state : S) (n : ℕ) (lines : List (List ℕ)) (m : ℕ) → fault_of (text_from rules state n lines).1 ≡ Some m → IsFirstFaultBy rules state n lines m
unfolding text_from state_behind
found_from rules state n [] m h =
    let e : rules.at_end state n ≡ Some m = sym (ends_so (rules.at_end state n)) ∙ h in
    let k : n + length {A = List ℕ} [] ≡ n = omega arith in
    record { before = []; rest = []; last = state; lines_are = refl; taken = refl; fault = rw k e }
found_from rules state n (line ∷ lines) m h =
    elim (reply rules state line) as (λ o. reply rules state line ≡ o → fault_of (option_map_or (λ r. prepend r.1 (text_from rules r.0 (n + 1) lines)) o (faulty n)).1 ≡ Some m → IsFirstFaultBy rules state n (line ∷ lines) m) [
      | None ↦ λ e g.
          let k : n ≡ m = some_is n m g in
          record { before = []; rest = line ∷ lines; last = state; lines_are = refl; taken = refl; fault = (e, omega (arith, k)) }
      | Some r ↦ λ e g.
          let f = found_from rules r.0 (n + 1) lines m g in
          record {
            before = line ∷ f.before;
            rest = f.rest;
            last = f.last;
            lines_are = ap (λ (t : List (List ℕ)). line ∷ t) f.lines_are;
            taken = rw e f.taken;
            fault = rw (one_more n line f.before) f.fault;
          }
    ] refl h

next_fault : {S : Type 0} (rules : Rules S) (state : S) (n : ℕ) (rest : List (List ℕ)) (m : ℕ) → IsFaultNext rules state n rest m → fault_of (text_from rules state n rest).1 ≡ Some m
unfolding text_from
next_fault rules state n [] m h = ends_so (rules.at_end state n) ∙ h
next_fault rules state n (line ∷ lines) m h = rw (h.0, h.1) refl

only_from : {S : Type 0} (rules : Rules S) (state : S) (n : ℕ) (before rest : List (List ℕ)) (last : S) (m : ℕ) → state_behind rules state before ≡ Some last → IsFaultNext rules last (n + length before) rest m → fault_of (text_from rules state n (before ++ rest)).1 ≡ Some m
unfolding text_from state_behind
only_from rules state n [] rest last m t f =
    let e : state ≡ last = some_is state last t in
    let k : n + length {A = List ℕ} [] ≡ n = omega arith in
    next_fault rules state n rest m (rw (e, ← k) f)
only_from rules state n (line ∷ before) rest last m t f =
    elim (reply rules state line) as (λ o. reply rules state line ≡ o → option_and_then (λ r. state_behind rules r.0 before) o ≡ Some last
    → fault_of (option_map_or (λ r. prepend r.1 (text_from rules r.0 (n + 1) (before ++ rest))) o (faulty n)).1 ≡ Some m) [
      | None ↦ λ e g. absurd cc
      | Some r ↦ λ e g. only_from rules r.0 (n + 1) before rest last m g (rw (← one_more n line before) f)
    ] refl t

pub fault_found : {S : Type 0} (rules : Rules S) (bytes : List ℕ) (m : ℕ) → fault_of (whole_text rules bytes).1 ≡ Some m → IsFirstFaultBy rules rules.start 1 (pieces_of bytes) m
fault_found rules bytes m h = found_from rules rules.start 1 (pieces_of bytes) m h

pub fault_only : {S : Type 0} (rules : Rules S) (bytes : List ℕ) (m : ℕ) → IsFirstFaultBy rules rules.start 1 (pieces_of bytes) m → fault_of (whole_text rules bytes).1 ≡ Some m
fault_only rules bytes m f =
    ap (λ (t : List (List ℕ)). fault_of (text_from rules rules.start 1 t).1) f.lines_are ∙ only_from rules rules.start 1 f.before f.rest f.last m f.taken f.fault
