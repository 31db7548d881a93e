-- Out-of-order packets, by place.
use Rattle.std.proofs.Common.{◌≡◌, ℕ, zero, suc, ◌<◌, ◌≤◌, max, List, [], ◌∷◌, ◌++◌, length, drop, Option, Some, None, slice_get, slice_set, refl, sym, ap, ◌∙◌, arith}
use Rattle.tora_packet.specs.declared.Packet.{Packet}
use Rattle.tora_arq.specs.declared.life.Life.{Life}
use Rattle.tora_arq.specs.Held.{hold_at, padded, first_held}
use Rattle.tora_arq.specs.LinkEnd.{EndState, after_delivery, after_release}

pub padded_more : (places : ℕ) (held : List (Option Packet)) → length held < places → padded places (held ++ None ∷ []) ≡ padded places held
padded_more zero held h = absurd (omega arith)
padded_more (suc places) [] h = refl
padded_more (suc places) (slot ∷ held) h = ap (λ xs. slot ∷ xs) (padded_more places held (omega arith))

pub padded_all : (places : ℕ) (held : List (Option Packet)) → places ≤ length held → padded places held ≡ held
padded_all zero held h = refl
padded_all (suc places) [] h = absurd (omega arith)
padded_all (suc places) (slot ∷ held) h = ap (λ xs. slot ∷ xs) (padded_all places held (omega arith))

pub padded_within : (places : ℕ) (held : List (Option Packet)) → places ≤ length (padded places held)
padded_within zero held = omega arith
padded_within (suc places) [] = omega (arith, padded_within places [])
padded_within (suc places) (slot ∷ held) = omega (arith, padded_within places held)

pub hold_empty : (place : ℕ) (packet : Packet) (held : List (Option Packet)) → slice_get (padded (suc place) held) place ≡ Some None →
    slice_set (padded (suc place) held) place (Some packet) ≡ hold_at place packet held
hold_empty zero packet [] e = refl
hold_empty zero packet (None ∷ held) e = refl
hold_empty zero packet (Some first ∷ held) e = absurd (cc)
hold_empty (suc place) packet [] e = ap (λ xs. None ∷ xs) (hold_empty place packet [] e)
hold_empty (suc place) packet (slot ∷ held) e = ap (λ xs. slot ∷ xs) (hold_empty place packet held e)

pub hold_taken : (place : ℕ) (packet first : Packet) (held : List (Option Packet)) → slice_get (padded (suc place) held) place ≡ Some (Some first) →
    padded (suc place) held ≡ hold_at place packet held
hold_taken zero packet first [] e = absurd (cc)
hold_taken zero packet first (None ∷ held) e = absurd (cc)
hold_taken zero packet first (Some other ∷ held) e = refl
hold_taken (suc place) packet first [] e = ap (λ xs. None ∷ xs) (hold_taken place packet first [] e)
hold_taken (suc place) packet first (slot ∷ held) e = ap (λ xs. slot ∷ xs) (hold_taken place packet first held e)

-- ---- packets taken from the first place, one after another

pub first_and_rest : (packet : Packet) (held rest : List (Option Packet)) → first_held held ≡ Some packet → rest ≡ drop 1 held → held ≡ Some packet ∷ rest
first_and_rest packet [] rest e r = absurd (cc)
first_and_rest packet (slot ∷ held) rest e r = let first : slot ≡ Some packet = e in rw (first, r) refl

pub length_rest : (packet : Packet) (held rest : List (Option Packet)) → first_held held ≡ Some packet → rest ≡ drop 1 held → length held ≡ suc (length rest)
length_rest packet held rest e r = ap length (first_and_rest packet held rest e r)

pub released_once : (life : Life) (packet : Packet) (e after : EndState) (rest : List (Option Packet)) → first_held e.held ≡ Some packet → rest ≡ drop 1 e.held →
    after ≡ after_delivery (record e { held = rest }) life packet rest → after_release life after after.held ≡ after_release life e e.held
unfolding after_release
released_once life packet e after rest f r q =
    ap (λ (x : EndState). after_release life x x.held) q ∙ sym (ap (after_release life e) (first_and_rest packet e.held rest f r))

pub released_all : (life : Life) (e : EndState) (held : List (Option Packet)) → first_held e.held ≡ None → held ≡ e.held → record e { held = held } ≡ after_release life e e.held
unfolding after_release
released_all life e held f q = ap (λ h. record e { held = h }) q ∙ sym (go e.held f)
  where
    go : (held : List (Option Packet)) → first_held held ≡ None → after_release life e held ≡ e
    go [] f = refl
    go (None ∷ held) f = refl
    go (Some packet ∷ held) f = absurd (cc)

-- an index without an element is at or beyond the end of the list
pub none_past : {A : Type 0} (xs : List A) (i : ℕ) → slice_get xs i ≡ None → length xs ≤ i
none_past [] i e = omega arith
none_past (x ∷ xs) zero e = absurd (cc)
none_past (x ∷ xs) (suc i) e = omega (arith, none_past xs i e)

pub length-hold_at : (place : ℕ) (packet : Packet) (held : List (Option Packet)) → length (hold_at place packet held) ≤ max (suc place) (length held)
length-hold_at zero packet [] = omega arith
length-hold_at zero packet (None ∷ held) = omega arith
length-hold_at zero packet (Some first ∷ held) = omega arith
length-hold_at (suc place) packet [] = omega (arith, length-hold_at place packet [])
length-hold_at (suc place) packet (slot ∷ held) = omega (arith, length-hold_at place packet held)
