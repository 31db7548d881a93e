-- A frame with the verdict `Foreign`, `Stale` or `Busy` changes nothing.
use Rattle.std.proofs.Common.{◌≡◌, ℕ, suc, ◌+◌, true, false, nat_lt, nat_le, ◌==◌, ◌||◌, ◌-◌, List, length, refl, Bool}
use Rattle.std.proofs.lemmas.Bool.{cond_both}
use Rattle.tora_packet.specs.declared.Packet.{Packet}
use Rattle.tora_frame.specs.declared.parts.Version.{Version}
use Rattle.tora_frame.specs.declared.parts.Body.{Body}
use Rattle.tora_frame.specs.declared.parts.Body.TheVariants.{Hello, Data, Ack}
use Rattle.tora_frame.specs.FrameParts.{FrameParts}
use Rattle.tora_arq.specs.declared.life.Life.{Life}
use Rattle.tora_arq.specs.declared.verdict.Verdict.{Verdict}
use Rattle.tora_arq.specs.declared.verdict.Verdict.TheVariants.{Accepted, Repeated, Ahead, Stale, Foreign, Busy}
use Rattle.tora_arq.specs.declared.phase.Phase.{Phase}
use Rattle.tora_arq.specs.declared.phase.Phase.TheVariants.{Closed, Unbound, Bound}
use Rattle.tora_arq.specs.Lives.{life_of}
use Rattle.tora_arq.specs.Settings.{Settings}
use Rattle.tora_arq.specs.LinkEnd.{EndState, passed, after_bind, count_of, is_foreign, is_busy, on_life_told, after_acknowledgement, on_data, on_matched, on_frame_in, on_frame}

abbrev is_refusal : Verdict → Bool
is_refusal Accepted = false
is_refusal Repeated = false
is_refusal Ahead = false
is_refusal Stale = true
is_refusal Foreign = true
is_refusal Busy = true

abbrev Keeps : EndState → Verdict × EndState → Type 0
Keeps e r = is_refusal r.0 ≡ true → r.1 ≡ e

-- the verdict is not a refusal
abbrev Goes : Verdict × EndState → Type 0
Goes r = is_refusal r.0 ≡ false

data_goes : (window : ℕ) (e : EndState) (life : Life) (number : ℕ) (packets : List Packet) → Goes (on_data window e life number packets)
unfolding on_data
data_goes window e life number packets =
    cond_both (nat_le (number + length packets - 1) e.accepted) _ _ (λ (v : Verdict). is_refusal v ≡ false) (λ _. refl) (λ _.
    cond_both (nat_le number (suc e.accepted)) _ _ (λ (v : Verdict). is_refusal v ≡ false) (λ _. refl) (λ _. refl))

matched_goes : (window : ℕ) (e : EndState) (life : Life) (binds : Bool) (now : ℕ) (body : Body) → Goes (on_matched window e life binds now body)
unfolding on_matched
matched_goes window e life binds now Hello = refl
matched_goes window e life binds now (Data number count packets) = data_goes window (record (after_acknowledgement e count now) { owes_ack = true }) life number packets.items
matched_goes window e life binds now (Ack count) =
    cond_both (binds || nat_lt e.acknowledged count) _ _ (λ (v : Verdict). is_refusal v ≡ false) (λ _. refl) (λ _. refl)

goes_keeps : (e : EndState) (r : Verdict × EndState) → Goes r → Keeps e r
goes_keeps e r g = λ q. absurd (cc)

life_told_keeps : (e : EndState) (version : Version) (life : ℕ) (body : Body) → Keeps e (on_life_told e version life body)
life_told_keeps e version life Hello =
    cond_both (nat_lt life e.heard) _ _ (Keeps e) (λ _ q. refl) (λ _.
    cond_both (life == e.heard) _ _ (Keeps e) (λ _ q. absurd (cc)) (λ _ q. absurd (cc)))
life_told_keeps e version life (Data number count packets) = λ q. refl
life_told_keeps e version life (Ack count) = λ q. refl

frame_in_keeps : (window : ℕ) (e : EndState) (f : FrameParts) (now : ℕ) (phase : Phase) → Keeps e (on_frame_in window e f now phase)
unfolding on_frame_in
frame_in_keeps window e f now Closed = λ q. refl
frame_in_keeps window e f now (Unbound own) =
    cond_both (f.header.heard == own) _ _ (Keeps e)
    (λ _. cond_both (nat_lt 0 (count_of f.body)) _ _ (Keeps e) (λ _ q. refl) (λ _.
    cond_both (nat_lt f.header.life e.heard) _ _ (Keeps e) (λ _ q. refl) (λ _.
    let life : Life = life_of own f.header.life in
    let bound : EndState = passed (after_bind e life) f.header.version in
    goes_keeps e (on_matched window bound life true now f.body) (matched_goes window bound life true now f.body))))
    (λ _. life_told_keeps e f.header.version f.header.life f.body)
frame_in_keeps window e f now (Bound life) =
    cond_both (nat_lt life.peer f.header.life) _ _ (Keeps e) (λ _ q. absurd (cc)) (λ _.
    cond_both (nat_lt f.header.life life.peer) _ _ (Keeps e) (λ _ q. refl) (λ _.
    cond_both (f.header.heard == life.own) _ _ (Keeps e)
    (λ _. cond_both (nat_lt e.transmitted (count_of f.body)) _ _ (Keeps e) (λ _ q. refl)
    (λ _. goes_keeps e (on_matched window (passed e f.header.version) life false now f.body) (matched_goes window (passed e f.header.version) life false now f.body)))
    (λ _ q. refl)))

frame_keeps : (s : Settings) (e : EndState) (f : FrameParts) (now : ℕ) → Keeps e (on_frame s e f now)
unfolding on_frame
frame_keeps s e f now =
    cond_both (is_foreign s f) _ _ (Keeps e) (λ _ q. refl) (λ _.
    cond_both (is_busy e) _ _ (Keeps e) (λ _ q. refl) (λ _. frame_in_keeps s.window e f now e.phase))

module _ (s : Settings) (e : EndState) (f : FrameParts) (now : ℕ) where
  pub refused_keeps : (v : Verdict) → is_refusal v ≡ true → (on_frame s e f now).0 ≡ v → (on_frame s e f now).1 ≡ e
  refused_keeps v h q = frame_keeps s e f now (cc)
