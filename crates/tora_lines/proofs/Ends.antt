-- The end of the input, and the rest of a chunk.
use Rattle.std.proofs.Common.{◌≡◌, ℕ, ◌+◌, ◌<◌, List, [], ◌++◌, length, Option, Result, Ok, Err, refl, sym, ap, ◌∙◌}
use Rattle.std.specs.Io.KnownBytes.{Appends}
use Rattle.std.proofs.lemmas.List.{append-nil}
use Rattle.tora_lines.specs.declared.session.TheConstants.{LONGEST_LINE}
use Rattle.tora_lines.specs.LineText.{Text, faulty}
use Rattle.tora_lines.specs.Engine.{Kind, IsFault, text_of, IsOpen, Prints, IsAnswered, IsDrained, Stops, Finishes, Ends}
use Rattle.tora_lines.specs.declared.ended.Ended.{Ended}
use Rattle.tora_lines.specs.declared.ended.ReplayError.{ReplayError}
use Rattle.tora_lines.specs.declared.ended.ReplayError.TheVariants.{Memory, Read, Write}
use Rattle.tora_lines.proofs.Flow.{text_too_long, text_ends, text_last, text_last_faults, Appends-nil, Appends-then, Prints-then}

pub too_long : {S : Type 0} (kind : Kind S) (state : S) (n : ℕ) (bytes : List ℕ) (old new : Option (List ℕ)) (next : S) (m : ℕ) (left : List ℕ) → IsDrained kind state n bytes old new next m left → LONGEST_LINE < length left → Prints kind state n bytes old new (λ more. faulty m)
too_long kind state n bytes old new next m left d long =
    Prints-then kind state n bytes old new new next m left (λ more. faulty m) d.prints (record { written = []; grown = Appends-nil new; goes = λ more. text_too_long kind next m left more d.is_open long })

pub out_of_memory : {S : Type 0} (kind : Kind S) (state : S) (n : ℕ) (bytes : List ℕ) (old : Option (List ℕ)) → Stops kind state n bytes old old Memory
out_of_memory kind state n bytes old = ((λ more. text_of kind state n (bytes ++ more)), record { written = []; grown = Appends-nil old; goes = λ more. refl })

-- ---- the end

-- the output for the last bytes is that of the end
pub text_is : {S : Type 0} (kind : Kind S) (state : S) (n : ℕ) (bytes : List ℕ) (text : Text) (old mid new : Option (List ℕ)) (r : Result Ended ReplayError) → text_of kind state n bytes ≡ text → Appends old mid [] → Ends text mid new r → Finishes kind state n bytes old new r
text_is kind state n bytes text old mid new (Ok ended) e kept f = record { grown = rw e (Appends-then old mid new [] text.0 kept f.0); ends = f.1 ∙ sym (ap (λ (t : Text). t.1) e) }
text_is kind state n bytes text old mid new (Err Memory) e kept f = record { written = []; grown = Appends-then old mid new [] [] kept f; begins = ((text_of kind state n bytes).0, refl) }
text_is kind state n bytes text old mid new (Err Read) e kept f = f
text_is kind state n bytes text old mid new (Err Write) e kept f = tt

pub finish_none : {S : Type 0} (kind : Kind S) (state : S) (n : ℕ) (last : List ℕ) (old new : Option (List ℕ)) (r : Result Ended ReplayError) → last ≡ [] → Ends (kind.text state n []) old new r → Finishes kind state n last old new r
finish_none kind state n last old new r e f = text_is kind state n last (kind.text state n []) old old new r (ap (text_of kind state n) e ∙ text_ends kind state n) (Appends-nil old) f

pub finish_line : {S : Type 0} (kind : Kind S) (state : S) (n : ℕ) (last : List ℕ) (old mid new : Option (List ℕ)) (next : S) (r : Result Ended ReplayError) → IsOpen last → 0 < length last → IsAnswered kind state last next old mid → Ends (kind.text next (n + 1) []) mid new r → Finishes kind state n last old new r
finish_line kind state n last old mid new next (Ok ended) h some a f =
    let t = text_last kind state n last next a.text h some a.goes_on in
    record { grown = rw t (Appends-then old mid new a.text (kind.text next (n + 1) []).0 a.grown f.0); ends = f.1 ∙ sym (ap (λ (x : Text). x.1) t) }
finish_line kind state n last old mid new next (Err Memory) h some a f =
    let t = text_last kind state n last next a.text h some a.goes_on in
    record { written = a.text; grown = rw (← append-nil a.text) (Appends-then old mid new a.text [] a.grown f); begins = ((kind.text next (n + 1) []).0, ap (λ (x : Text). x.0) t) }
finish_line kind state n last old mid new next (Err Read) h some a f = f
finish_line kind state n last old mid new next (Err Write) h some a f = tt

pub finish_fault : {S : Type 0} (kind : Kind S) (state : S) (n : ℕ) (last : List ℕ) (old mid new : Option (List ℕ)) (r : Result Ended ReplayError) → IsOpen last → 0 < length last → IsFault kind state last → Appends old mid [] → Ends (faulty n) mid new r → Finishes kind state n last old new r
finish_fault kind state n last old mid new r h some e kept f = text_is kind state n last (faulty n) old mid new r (text_last_faults kind state n last h some e) kept f
