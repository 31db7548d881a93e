-- Only the opening of an end changes the number of its last session.
use Rattle.std.proofs.Common.{◌≡◌, ℕ, ◌<◌, ◌⊎◌, inl, inr, Option, Some, None, refl, sym, subst}
use Rattle.tora_packet.specs.declared.Packet.{Packet}
use Rattle.tora_frame.specs.FrameParts.{FrameParts}
use Rattle.tora_arq.specs.declared.life.Life.{Life}
use Rattle.tora_arq.specs.Settings.{Settings}
use Rattle.tora_arq.specs.LinkEnd.{EndState, after_frame, after_tick, after_submit, after_cut, after_transmit}
use Rattle.tora_arq.specs.LinkFacts.{EveryCall, OpensWith}
use Rattle.tora_arq.specs.LinkFacts.LinkCall.{Frame, Tick, Submit, Transmit, Cut}
use Rattle.tora_life.specs.LifeRun.{LifeDisk}
use Rattle.tora_seat.specs.declared.cargo.Cargo.{Cargo}
use Rattle.tora_seat.specs.declared.cargo.Cargo.TheVariants as Gives
use Rattle.tora_seat.specs.Between.{after_cargo, after_cut_of_bound}
use Rattle.tora_sim.specs.Files.{IsDrawn}

abbrev pub LastsRise : Type 0
LastsRise = EveryCall (λ s e call after. (after.last_life ≡ e.last_life) ⊎ (OpensWith after.last_life call × (e.last_life < after.last_life)))

abbrev Stays : EndState → EndState → Type 0
Stays e after = after.last_life ≡ e.last_life

pub frame_stays : LastsRise → (s : Settings) (e : EndState) (f : FrameParts) (now : ℕ) → Stays e (after_frame s e f now)
frame_stays law s e f now = elim (law s e (Frame f now) tt) [ inl same ↦ same | inr h ↦ absurd h.0 ]

pub tick_stays : LastsRise → (s : Settings) (e : EndState) (now : ℕ) → Stays e (after_tick s e now)
tick_stays law s e now = elim (law s e (Tick now) tt) [ inl same ↦ same | inr h ↦ absurd h.0 ]

pub transmit_stays : LastsRise → (s : Settings) (e : EndState) (now : ℕ) → Stays e (after_transmit s e now)
transmit_stays law s e now = elim (law s e (Transmit now) tt) [ inl same ↦ same | inr h ↦ absurd h.0 ]

pub submit_stays : LastsRise → (s : Settings) (e : EndState) (life : Life) (packet : Packet) → Stays e (after_submit e life packet)
submit_stays law s e life packet = elim (law s e (Submit life packet) tt) [ inl same ↦ same | inr h ↦ absurd h.0 ]

pub cut_stays : LastsRise → (s : Settings) (e : EndState) (life : Life) → Stays e (after_cut e life)
cut_stays law s e life = elim (law s e (Cut life) tt) [ inl same ↦ same | inr h ↦ absurd h.0 ]

-- the last number of an end stays one that was drawn
pub stays_drawn : (e after : EndState) (new : EndState) (file : LifeDisk) → new ≡ after → Stays e after → IsDrawn e.last_life file → IsDrawn new.last_life file
stays_drawn e after new file is same h =
    subst (λ (x : EndState). IsDrawn x.last_life file) (sym is) (subst (λ n. IsDrawn n file) (sym same) h)

pub cargo_stays : LastsRise → (s : Settings) (e : EndState) (cargo : Cargo) → Stays e (after_cargo e cargo)
cargo_stays law s e (Gives.Packet life packet) = submit_stays law s e life packet
cargo_stays law s e (Gives.Cut life) = cut_stays law s e life

pub bound_stays : LastsRise → (s : Settings) (e : EndState) (bound : Option Life) → Stays e (after_cut_of_bound e bound)
bound_stays law s e None = refl
bound_stays law s e (Some life) = cut_stays law s e life
