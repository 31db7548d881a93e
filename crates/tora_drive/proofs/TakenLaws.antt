-- The search for a datagram, one number after another.
use Rattle.std.proofs.Common.{◌≡◌, ℕ, zero, suc, ◌-◌, ◌<◌, ◌≤◌, true, false, leb, List, refl, arith}
use Rattle.std.proofs.lemmas.Bool.{le-leb, lt-leb}
use Rattle.tora_world.specs.World.{World}
use Rattle.tora_drive.specs.Taking.{is_sent_at, last_sent}

module _ (w : World) (sender receiver : ℕ) (bytes : List ℕ) (forgotten : ℕ) where
  pub none : (i : ℕ) → i ≤ 0 → last_sent w sender receiver bytes forgotten i ≡ 0
  unfolding last_sent
  none zero h = refl
  none (suc i) h = absurd (omega arith)

  pub gone : (i : ℕ) → i ≤ forgotten → last_sent w sender receiver bytes forgotten i ≡ 0
  unfolding last_sent
  gone zero h = refl
  gone (suc i) h = let b : leb (suc i) forgotten ≡ true = le-leb (suc i) forgotten h in rw b refl

  pub found : (i : ℕ) → 0 < i → forgotten < i → is_sent_at w sender receiver bytes i ≡ true → last_sent w sender receiver bytes forgotten i ≡ i
  unfolding last_sent
  found zero some h e = absurd (omega arith)
  found (suc i) some h e = let b : leb (suc i) forgotten ≡ false = lt-leb (suc i) forgotten h in rw (b, e) refl

  pub on : (i : ℕ) → 0 < i → forgotten < i → is_sent_at w sender receiver bytes i ≡ false → last_sent w sender receiver bytes forgotten i ≡ last_sent w sender receiver bytes forgotten (i - 1)
  unfolding last_sent
  on zero some h e = absurd (omega arith)
  on (suc i) some h e =
      let b : leb (suc i) forgotten ≡ false = lt-leb (suc i) forgotten h in
      let k : suc i - 1 ≡ i = omega arith in
      rw (b, e, k) refl
