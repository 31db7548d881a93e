-- Only an opening changes the number of an end's last session.
use Rattle.std.proofs.Common.{◌≡◌, ◌⊎◌, ℕ, ◌<◌, List, [], ◌∷◌, Option, Some, None, Ok, Err, refl, ◌∙◌, ⊎_elim}
use Rattle.tora_frame.specs.FrameParts.{FrameParts}
use Rattle.tora_arq.specs.Settings.{Settings}
use Rattle.tora_arq.specs.LinkEnd.{EndState, after_tick, after_transmit}
use Rattle.tora_arq.specs.LinkFacts.{LinkCall, EveryCall, OpensWith, IsPossible, after_call}
use Rattle.tora_arq.specs.LinkFacts.LinkCall.{Tick, Submit, Cut, Transmit, Frame}
use Rattle.tora_seat.specs.declared.cargo.Cargo.{Cargo}
use Rattle.tora_seat.specs.declared.cargo.Cargo.TheVariants as Goods
use Rattle.tora_neighbour.specs.Intake.{Reading, after_came}
use Rattle.tora_seat.specs.Between.{after_cargo}
use Rattle.tora_neighbour.specs.Turns.{after_cargoes, after_frames}

-- the law of link ends: a call leaves the number of the last session, or opens the end with a greater number
abbrev pub NumberLaw : Type 0
NumberLaw = EveryCall (λ s e call after. (after.last_life ≡ e.last_life) ⊎ (OpensWith after.last_life call × (e.last_life < after.last_life)))

module _ (law : NumberLaw) (s : Settings) where
  kept_by : (e : EndState) (call : LinkCall) → IsPossible e call → ((n : ℕ) → OpensWith n call → ⊥) → (after_call s e call).last_life ≡ e.last_life
  kept_by e call may not = ⊎_elim (λ same. same) (λ (t : OpensWith (after_call s e call).last_life call × (e.last_life < (after_call s e call).last_life)). absurd (not _ t.0)) (law s e call may)

  pub kept_tick : (e : EndState) (now : ℕ) → (after_tick s e now).last_life ≡ e.last_life
  kept_tick e now = kept_by e (Tick now) tt (λ n no. no)

  kept_cargo : (e : EndState) (cargo : Cargo) → (after_cargo e cargo).last_life ≡ e.last_life
  kept_cargo e (Goods.Packet life packet) = kept_by e (Submit life packet) tt (λ n no. no)
  kept_cargo e (Goods.Cut life) = kept_by e (Cut life) tt (λ n no. no)

  pub kept_cargoes : (e : EndState) (cargoes : List Cargo) → (after_cargoes e cargoes).last_life ≡ e.last_life
  kept_cargoes e [] = refl
  kept_cargoes e (cargo ∷ cargoes) = kept_cargoes (after_cargo e cargo) cargoes ∙ kept_cargo e cargo

  pub kept_transmit : (e : EndState) (now : ℕ) → (after_transmit s e now).last_life ≡ e.last_life
  kept_transmit e now = kept_by e (Transmit now) tt (λ n no. no)

  pub kept_frames : (e : EndState) (now : ℕ) (frames : List FrameParts) → (after_frames s e now frames).last_life ≡ e.last_life
  kept_frames e now [] = refl
  kept_frames e now (frame ∷ frames) = kept_frames (after_transmit s e now) now frames ∙ kept_transmit e now

  pub kept_came : (e : EndState) (now : ℕ) (came : Option Reading) → (after_came s e now came).last_life ≡ e.last_life
  kept_came e now None = refl
  kept_came e now (Some (Ok frame)) = kept_by e (Frame frame now) tt (λ n no. no)
  kept_came e now (Some (Err error)) = refl
