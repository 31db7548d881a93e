-- From the start of the input to its end.
use Rattle.std.proofs.Common.{◌≡◌, ◌≢◌, ℕ, ◌+◌, ◌≤◌, List, [], ◌++◌, length, take, Option, None, Some, Result, Ok, Err, refl, sym, ap, ◌∙◌, arith, append_assoc}
use Rattle.std.specs.Prelude.{IfOk, IfErr, IfSome}
use Rattle.std.specs.Io.KnownBytes.{Appends, Consumes, Keeps, IsAtEnd}
use Rattle.std.proofs.lemmas.List.{append-nil, length-append, length-take}
use Rattle.tora_lines.specs.declared.session.TheConstants.{LONGEST_LINE}
use Rattle.tora_lines.specs.LineText.{Text, faulty, prepend}
use Rattle.tora_lines.specs.Engine.{Kind, text_of, Prints, IsDrained, Stops, IsFrontOfText, IsWholeText, IsFinished, Finishes, Ends, IsUnderway}
use Rattle.tora_lines.specs.declared.ended.Ended.{Ended}
use Rattle.tora_lines.specs.declared.ended.Ended.TheVariants.{Whole, Fault}
use Rattle.tora_lines.specs.declared.ended.ReplayError.{ReplayError}
use Rattle.tora_lines.specs.declared.ended.ReplayError.TheVariants.{Memory, Read, Write}
use Rattle.tora_lines.proofs.Flow.{Appends-nil, Appends-then, Consumes-nil, Consumes-keeps, Consumes-then, Prints-then}

-- ---- the start

pub starts : {S : Type 0} (kind : Kind S) (start : S) (r w : Option (List ℕ)) → IsUnderway kind start start 1 [] r r w w 0
starts kind start r w = record {
  given = [];
  read = Consumes-nil r;
  drained = record { prints = record { written = []; grown = Appends-nil w; goes = λ more. refl }; is_open = refl; count = omega arith };
  short = omega arith;
  few = omega arith;
}

-- a failed read returned no bytes
pub keeps_on : {S : Type 0} (kind : Kind S) (start : S) (state : S) (n : ℕ) (left : List ℕ) (r0 r r' w0 w : Option (List ℕ)) (most more : ℕ) → IsUnderway kind start state n left r0 r w0 w most → Keeps r r' → most ≤ more → IsUnderway kind start state n left r0 r' w0 w more
keeps_on kind start state n left r0 r r' w0 w most more u k h = record {
  given = u.given;
  read = rw (← append-nil u.given) (Consumes-then r0 r r' u.given [] u.read (Consumes-keeps r r' k));
  drained = u.drained;
  short = u.short;
  few = omega (arith, u.few);
}

-- the output continues after the pending bytes
onto : {S : Type 0} (kind : Kind S) (start : S) (state : S) (n : ℕ) (left chunk : List ℕ) (w0 w : Option (List ℕ)) (given : List ℕ) → Prints kind start 1 given w0 w (λ more. text_of kind state n (left ++ more)) → Prints kind start 1 (given ++ chunk) w0 w (λ more. text_of kind state n ((left ++ chunk) ++ more))
onto kind start state n left chunk w0 w given p = record {
  written = p.written;
  grown = p.grown;
  goes = λ more. ap (text_of kind start 1) (append_assoc given chunk more) ∙ p.goes (chunk ++ more) ∙ ap (λ (t : List ℕ). prepend p.written (text_of kind state n t)) (sym (append_assoc left chunk more));
}

pub chunk_prints : {S : Type 0} (kind : Kind S) (start : S) (state : S) (n : ℕ) (left chunk : List ℕ) (r0 r w0 w w' : Option (List ℕ)) (most : ℕ) (onward : List ℕ → Text) → (u : IsUnderway kind start state n left r0 r w0 w most) → Prints kind state n (left ++ chunk) w w' onward → Prints kind start 1 (u.given ++ chunk) w0 w' onward
chunk_prints kind start state n left chunk r0 r w0 w w' most onward u p =
    Prints-then kind start 1 (u.given ++ chunk) w0 w w' state n (left ++ chunk) onward (onto kind start state n left chunk w0 w u.given u.drained.prints) p

pub takes_chunk : {S : Type 0} (kind : Kind S) (start : S) (state : S) (n : ℕ) (left chunk : List ℕ) (r0 r r' w0 w w' : Option (List ℕ)) (most more : ℕ) (next : S) (m : ℕ) (rest : List ℕ)
    → IsUnderway kind start state n left r0 r w0 w most → Consumes r r' chunk → IsDrained kind state n (left ++ chunk) w w' next m rest → length rest ≤ LONGEST_LINE → most + length chunk ≤ more → IsUnderway kind start next m rest r0 r' w0 w' more
takes_chunk kind start state n left chunk r0 r r' w0 w w' most more next m rest u c d short h = record {
  given = u.given ++ chunk;
  read = Consumes-then r0 r r' u.given chunk u.read c;
  drained = record {
    prints = chunk_prints kind start state n left chunk r0 r w0 w w' most (λ x. text_of kind next m (rest ++ x)) u d.prints;
    is_open = d.is_open;
    count = omega (arith, u.drained.count, d.count, length-append left chunk, length-append u.given chunk);
  };
  short = short;
  few = omega (arith, u.few, length-append u.given chunk);
}

-- ---- a run that ends before the end of the input

pub begun : {S : Type 0} (kind : Kind S) (start : S) (bytes : List ℕ) (r0 r w0 w : Option (List ℕ)) (onward : List ℕ → Text) → Consumes r0 r bytes → Prints kind start 1 bytes w0 w onward → IsFrontOfText (text_of kind start 1) r0 r w0 w
begun kind start bytes r0 r w0 w onward c p =
    let e : text_of kind start 1 bytes ≡ prepend p.written (onward []) = ap (text_of kind start 1) (sym (append-nil bytes)) ∙ p.goes [] in
    record { given = bytes; written = p.written; read = c; grown = p.grown; begins = ((onward []).0, ap (λ (t : Text). t.0) e) }

pub underway_begun : {S : Type 0} (kind : Kind S) (start : S) (state : S) (n : ℕ) (left : List ℕ) (r0 r w0 w : Option (List ℕ)) (most : ℕ) → IsUnderway kind start state n left r0 r w0 w most → IsFrontOfText (text_of kind start 1) r0 r w0 w
underway_begun kind start state n left r0 r w0 w most u = begun kind start u.given r0 r w0 w (λ more. text_of kind state n (left ++ more)) u.read u.drained.prints

pub stops_begun : {S : Type 0} (kind : Kind S) (start : S) (state : S) (n : ℕ) (left chunk : List ℕ) (r0 r r' w0 w w' : Option (List ℕ)) (most : ℕ) (e : ReplayError)
    → IsUnderway kind start state n left r0 r w0 w most → Consumes r r' chunk → Stops kind state n (left ++ chunk) w w' e → e ≢ Write → IsFrontOfText (text_of kind start 1) r0 r' w0 w'
stops_begun kind start state n left chunk r0 r r' w0 w w' most Memory u c s h = begun kind start (u.given ++ chunk) r0 r' w0 w' s.0 (Consumes-then r0 r r' u.given chunk u.read c) (chunk_prints kind start state n left chunk r0 r w0 w w' most s.0 u s.1)
stops_begun kind start state n left chunk r0 r r' w0 w w' most Read u c s h = absurd s
stops_begun kind start state n left chunk r0 r r' w0 w w' most Write u c s h = absurd (h refl)

-- ---- a fault

-- the output up to a fault was printed, and the fault is written
fault_whole : {S : Type 0} (kind : Kind S) (start : S) (bytes : List ℕ) (r0 r w0 w w' : Option (List ℕ)) (m : ℕ) (ended : Ended) → Consumes r0 r bytes → Prints kind start 1 bytes w0 w (λ more. faulty m) → Appends w w' (faulty m).0 → ended ≡ Fault m → IfSome r0 (λ input. IsWholeText (text_of kind start 1) input w0 w' ended)
fault_whole kind start bytes None r w0 w w' m ended c p a e = tt
fault_whole kind start bytes (Some input) None w0 w w' m ended c p a e = absurd c
fault_whole kind start bytes (Some input) (Some rest) w0 w w' m ended c p a e =
    let t : text_of kind start 1 input ≡ prepend p.written (faulty m) = ap (text_of kind start 1) c ∙ p.goes rest in
    let front : (text_of kind start 1 input).0 ≡ p.written ++ (faulty m).0 = ap (λ (x : Text). x.0) t in
    record { written = rw front (Appends-then w0 w w' p.written (faulty m).0 p.grown a); ends = e ∙ sym (ap (λ (x : Text). x.1) t) }

pub fault_ok : {S : Type 0} (kind : Kind S) (start : S) (bytes : List ℕ) (r0 r w0 w w' : Option (List ℕ)) (m : ℕ) (result : Result Ended ReplayError) → Consumes r0 r bytes → Prints kind start 1 bytes w0 w (λ more. faulty m) → Ends (faulty m) w w' result → IfOk result (λ ended. IfSome r0 (λ input. IsWholeText (text_of kind start 1) input w0 w' ended))
fault_ok kind start bytes r0 r w0 w w' m (Ok ended) c p f = fault_whole kind start bytes r0 r w0 w w' m ended c p f.0 f.1
fault_ok kind start bytes r0 r w0 w w' m (Err e) c p f = tt

whole_end : Result Ended ReplayError
whole_end = Ok Whole

pub fault_end : (w w' : Option (List ℕ)) (m : ℕ) (result : Result Ended ReplayError) (P : Type 0) → Ends (faulty m) w w' result → result ≡ Ok Whole → P
fault_end w w' m (Ok ended) P f e = let d : Fault m ≡ Whole = sym f.1 ∙ inner ended e in absurd cc
  where
    inner : (x : Ended) → ◌≡◌ {A = Result Ended ReplayError} (Ok x) (Ok Whole) → x ≡ Whole
    inner x h = cc
fault_end w w' m (Err d) P f e = absurd cc

pub fault_begun : {S : Type 0} (kind : Kind S) (start : S) (bytes : List ℕ) (r0 r w0 w w' : Option (List ℕ)) (m : ℕ) (result : Result Ended ReplayError) → Consumes r0 r bytes → Prints kind start 1 bytes w0 w (λ more. faulty m) → Ends (faulty m) w w' result → IfErr result (λ e. e ≢ Write → IsFrontOfText (text_of kind start 1) r0 r w0 w')
fault_begun kind start bytes r0 r w0 w w' m (Ok ended) c p f = tt
fault_begun kind start bytes r0 r w0 w w' m (Err Memory) c p f = λ h. begun kind start bytes r0 r w0 w' (λ more. faulty m) c (record { written = p.written; grown = rw (← append-nil p.written) (Appends-then w0 w w' p.written [] p.grown f); goes = p.goes })
fault_begun kind start bytes r0 r w0 w w' m (Err Read) c p f = λ h. absurd f
fault_begun kind start bytes r0 r w0 w w' m (Err Write) c p f = λ h. absurd (h refl)

-- ---- the end of the input

end_whole : {S : Type 0} (kind : Kind S) (start : S) (bytes left : List ℕ) (state : S) (n : ℕ) (r0 r w0 w w' : Option (List ℕ)) (ended : Ended) → Consumes r0 r bytes → IsAtEnd r → Prints kind start 1 bytes w0 w (λ more. text_of kind state n (left ++ more)) → IsFinished kind state n left w w' ended → IfSome r0 (λ input. IsWholeText (text_of kind start 1) input w0 w' ended)
end_whole kind start bytes left state n None r w0 w w' ended c a p f = tt
end_whole kind start bytes left state n (Some input) None w0 w w' ended c a p f = absurd c
end_whole kind start bytes left state n (Some input) (Some rest) w0 w w' ended c a p f =
    let t : text_of kind start 1 input ≡ prepend p.written (text_of kind state n left) = ap (text_of kind start 1) c ∙ p.goes rest ∙ ap (λ (x : List ℕ). prepend p.written (text_of kind state n (left ++ x))) a ∙ ap (λ (x : List ℕ). prepend p.written (text_of kind state n x)) (append-nil left) in
    let front : (text_of kind start 1 input).0 ≡ p.written ++ (text_of kind state n left).0 = ap (λ (x : Text). x.0) t in
    record { written = rw front (Appends-then w0 w w' p.written (text_of kind state n left).0 p.grown f.grown); ends = f.ends ∙ sym (ap (λ (x : Text). x.1) t) }

pub end_ok : {S : Type 0} (kind : Kind S) (start : S) (left : List ℕ) (state : S) (n : ℕ) (r0 r w0 w w' : Option (List ℕ)) (most : ℕ) (result : Result Ended ReplayError) → IsUnderway kind start state n left r0 r w0 w most → IsAtEnd r → Finishes kind state n left w w' result → IfOk result (λ ended. IfSome r0 (λ input. IsWholeText (text_of kind start 1) input w0 w' ended))
end_ok kind start left state n r0 r w0 w w' most (Ok ended) u a f = end_whole kind start u.given left state n r0 r w0 w w' ended u.read a u.drained.prints f
end_ok kind start left state n r0 r w0 w w' most (Err e) u a f = tt

pub end_begun : {S : Type 0} (kind : Kind S) (start : S) (left : List ℕ) (state : S) (n : ℕ) (r0 r w0 w w' : Option (List ℕ)) (most : ℕ) (result : Result Ended ReplayError) → IsUnderway kind start state n left r0 r w0 w most → Finishes kind state n left w w' result → IfErr result (λ e. e ≢ Write → IsFrontOfText (text_of kind start 1) r0 r w0 w')
end_begun kind start left state n r0 r w0 w w' most (Ok ended) u f = tt
end_begun kind start left state n r0 r w0 w w' most (Err Memory) u f = λ h.
    let p = u.drained.prints in
    let t : text_of kind start 1 u.given ≡ prepend p.written (text_of kind state n left) = ap (text_of kind start 1) (sym (append-nil u.given)) ∙ p.goes [] ∙ ap (λ (x : List ℕ). prepend p.written (text_of kind state n x)) (append-nil left) in
    record {
      given = u.given;
      written = p.written ++ f.written;
      read = u.read;
      grown = Appends-then w0 w w' p.written f.written p.grown f.grown;
      begins = (f.begins.0, ap (λ (x : Text). x.0) t ∙ ap (λ (x : List ℕ). p.written ++ x) f.begins.1 ∙ sym (append_assoc p.written f.written f.begins.0));
    }
end_begun kind start left state n r0 r w0 w w' most (Err Read) u f = λ h. absurd f
end_begun kind start left state n r0 r w0 w w' most (Err Write) u f = λ h. absurd (h refl)

-- ---- one read

pub gives_none : {S : Type 0} (kind : Kind S) (start : S) (state : S) (n : ℕ) (left : List ℕ) (r0 r r' w0 w : Option (List ℕ)) (most k : ℕ) (buf : List ℕ) → IsUnderway kind start state n left r0 r w0 w most → Consumes r r' (take k buf) → k ≡ 0 → IsUnderway kind start state n left r0 r' w0 w most
gives_none kind start state n left r0 r r' w0 w most k buf u c e = record {
  given = u.given;
  read = rw (← append-nil u.given) (Consumes-then r0 r r' u.given [] u.read (rw e at c));
  drained = u.drained;
  short = u.short;
  few = u.few;
}

pub chunk_is : (k : ℕ) (buf slice : List ℕ) → slice ≡ buf → k ≤ length buf → (take k slice ≡ take k buf) × (length (take k buf) ≡ k)
chunk_is k buf slice e h = (ap (take k) e, omega (arith, length-take k buf))
