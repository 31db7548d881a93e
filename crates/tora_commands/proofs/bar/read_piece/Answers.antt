use Rattle.std.proofs.Common.{◌≡◌, ℕ, ◌<◌, ◌≤◌, List, ◌++◌, Option, rules, length, take, sym, subst}
use Rattle.std.proofs.lemmas.List.{take-append-le}
use Rattle.std.specs.Io.KnownBytes.{Consumes, IsAtEnd}
use Rattle.tora_commands.proofs.bar.read_piece.Goals as goal

-- a read into the front of a buffer is a read into the buffer
into_front : (a b : Option (List ℕ)) (part rest : List ℕ) (n : ℕ) → n ≤ length part → (0 < length (part ++ rest) → 0 < length part) → Consumes a b (take n part) → (n ≡ 0 → 0 < length part → IsAtEnd b)
    → Consumes a b (take n (part ++ rest)) × (n ≡ 0 → 0 < length (part ++ rest) → IsAtEnd b)
into_front a b part rest n fits room read end = (subst (λ (l : List ℕ). Consumes a b l) (sym (take-append-le n part rest fits)) read, λ zero some. end zero (room some))

pub returns-clause-bytes : goal.returns-clause-bytes
returns-clause-bytes g c =
    let read = c.in_ok-n.ensures in
    into_front _ _ _ _ _ read.bound.0 (λ some. search rules) read.bytes.0 read.bytes.1
