-- One more call of the hub or the wire.
use Rattle.std.proofs.Common.{◌≡◌, ℕ, ◌<◌, Bool, List, [], ◌∷◌, ◌++◌, Option, Some, Result, Ok, refl, sym, subst}
use Rattle.std.proofs.lemmas.List.{append-nil, map-append}
use Rattle.std.proofs.lemmas.Grind.{flat_map-append}
use Rattle.std.specs.Prelude.{map, is_err}
use Rattle.tora_frame.specs.FrameParts.{FrameParts}
use Rattle.tora_frame.specs.FrameGrammar.{frame_spelling}
use Rattle.tora_arq.specs.declared.link_event.LinkEvent.{LinkEvent}
use Rattle.tora_seat.specs.declared.cargo.Cargo.{Cargo}
use Rattle.tora_seat.specs.declared.what.What.{What}
use Rattle.tora_lane.specs.declared.ports.Gone.{Gone}
use Rattle.tora_neighbour.specs.declared.wire.WireError.{WireError}
use Rattle.tora_neighbour.specs.Turns.{Turn, failed_calls, calls_failed, row_after, IsRow}
use Rattle.tora_seat.specs.Between.{what_of}
use Rattle.tora_neighbour.specs.Calls.{TakesSome, SendsSome, PutsSome, TurnCalls, AreCalls}

pub takes_more : {H : Type 0} (take : H → Option Cargo → H → Type 0) (h : H) (cargoes : List Cargo) (mid : H) (cargo : Cargo) (after : H) → TakesSome take h cargoes mid → take mid (Some cargo) after → TakesSome take h (cargoes ++ cargo ∷ []) after
takes_more {H = H} take h [] mid cargo after so one = (after, subst (λ (x : H). take x (Some cargo) after) so one, refl)
takes_more take h (first ∷ cargoes) mid cargo after so one = (so.0, so.1, takes_more take so.0 cargoes mid cargo after so.2 one)

pub sends_more : {W : Type 0} (send : W → List ℕ → Result (Unit {0}) WireError → W → Type 0) (w : W) (frames : List FrameParts) (answers : List (Result (Unit {0}) WireError)) (mid : W) (frame : FrameParts) (answer : Result (Unit {0}) WireError) (after : W)
    → SendsSome send w frames answers mid → send mid (frame_spelling frame) answer after → SendsSome send w (frames ++ frame ∷ []) (answers ++ answer ∷ []) after
sends_more {W = W} send w [] [] mid frame answer after so one = (after, subst (λ (x : W). send x (frame_spelling frame) answer after) so one, refl)
sends_more send w [] (other ∷ answers) mid frame answer after so one = absurd so
sends_more send w (first ∷ frames) [] mid frame answer after so one = absurd so
sends_more send w (first ∷ frames) (other ∷ answers) mid frame answer after so one = (so.0, so.1, sends_more send so.0 frames answers mid frame answer after so.2 one)

-- ---- failures in a row

pub row_then : (a b c : ℕ) (xs ys : List Bool) → IsRow a xs b → IsRow b ys c → IsRow a (xs ++ ys) c
row_then a b c [] ys first second = subst (λ (n : ℕ). IsRow n ys c) first second
row_then a b c (x ∷ xs) ys first second = (first.0, row_then (row_after x a) b c xs ys first.1 second)

-- one more call
pub row_more : (a b c : ℕ) (xs : List Bool) (x : Bool) → IsRow a xs b → b < 100 → c ≡ row_after x b → IsRow a (xs ++ x ∷ []) c
row_more a b c xs x first few is = row_then a b c xs (x ∷ []) first (few, is)

pub row_sends : (a b c : ℕ) (answers : List (Result (Unit {0}) WireError)) (answer : Result (Unit {0}) WireError) → IsRow a (map is_err answers) b → b < 100 → c ≡ row_after (is_err answer) b → IsRow a (map is_err (answers ++ answer ∷ [])) c
row_sends a b c answers answer first few is = subst (λ (xs : List Bool). IsRow a xs c) (sym (map-append is_err answers (answer ∷ []))) (row_more a b c (map is_err answers) (is_err answer) first few is)

-- one more turn
pub row_turns : (a b c : ℕ) (ts : List Turn) (t : Turn) → IsRow a (calls_failed ts) b → IsRow b (failed_calls t.answers t.answer) c → IsRow a (calls_failed (ts ++ t ∷ [])) c
row_turns a b c ts t first second =
    subst (λ (xs : List Bool). IsRow a xs c) (sym (flat_map-append (λ u. failed_calls u.answers u.answer) ts (t ∷ [])))
    (row_then a b c (calls_failed ts) (calls_failed (t ∷ [])) first (subst (λ (xs : List Bool). IsRow b xs c) (sym (append-nil (failed_calls t.answers t.answer))) second))

pub puts_more : {H : Type 0} (put : H → ℕ → What → Result (Unit {0}) Gone → H → Type 0) (now : ℕ) (h : H) (events : List LinkEvent) (mid : H) (event : LinkEvent) (after : H)
    → PutsSome put now h events mid → put mid now (what_of event) (Ok tt) after → PutsSome put now h (events ++ event ∷ []) after
puts_more {H = H} put now h [] mid event after so one = (after, subst (λ (x : H). put x now (what_of event) (Ok tt) after) so one, refl)
puts_more put now h (first ∷ events) mid event after so one = (so.0, so.1, puts_more put now so.0 events mid event after so.2 one)

pub calls_more : {H W : Type 0} (take : H → Option Cargo → H → Type 0) (put : H → ℕ → What → Result (Unit {0}) Gone → H → Type 0) (send : W → List ℕ → Result (Unit {0}) WireError → W → Type 0) (receive : W → Result (Option ℕ) WireError → List ℕ → W → Type 0)
    (h : H) (w : W) (ts : List Turn) (h_mid : H) (w_mid : W) (t : Turn) (h_after : H) (w_after : W)
    → AreCalls take put send receive h w ts h_mid w_mid → TurnCalls take put send receive h_mid w_mid t h_after w_after → AreCalls take put send receive h w (ts ++ t ∷ []) h_after w_after
calls_more {H = H} {W = W} take put send receive h w [] h_mid w_mid t h_after w_after so one =
    (h_after, w_after, subst (λ (x : H). TurnCalls take put send receive x w t h_after w_after) so.0 (subst (λ (y : W). TurnCalls take put send receive h_mid y t h_after w_after) so.1 one), (refl, refl))
calls_more take put send receive h w (u ∷ ts) h_mid w_mid t h_after w_after so one = (so.0, so.1, so.2, calls_more take put send receive so.0 so.1 ts h_mid w_mid t h_after w_after so.3 one)
