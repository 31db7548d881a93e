-- What contracts see of a wire whose calls fail on purpose, and the effect of its calls.
use Rattle.std.specs.Prelude.{◌≡◌, ℕ, Bool, false, MatchBool, List, Option, Result, IsErr}
use Rattle.tora_life.specs.declared.fuse.Fuse.{Fuse}
use Rattle.tora_life.specs.Fuse.{is_blown, after_call}
use Rattle.tora_neighbour.specs.declared.wire.WireError.{WireError}
use Rattle.tora_neighbour.specs.Datagrams.{failures_after}

pub record FuseView (W : Type 0) : Type 0 where
  pub wire : W
  pub fuse : Fuse
  pub told : Bool  -- whether every datagram sent so far was passed to the inner wire
  pub failures : ℕ

-- a call that fails on purpose makes no call of the inner wire, any other makes that call; failed calls are counted
abbrev pub SendsThroughFuse : {W : Type 0} → (W → List ℕ → Result (Unit {0}) WireError → W → Type 0) → FuseView W
    → List ℕ → Result (Unit {0}) WireError → FuseView W → Type 0
SendsThroughFuse send f bytes answer after =
    MatchBool (is_blown f.fuse)
    (IsErr answer × (after ≡ record f {
      fuse = after_call f.fuse;
      told = false;
      failures = failures_after answer f.failures;
    }))
    (send f.wire bytes answer after.wire × (after ≡ record f {
      wire = after.wire;
      fuse = after_call f.fuse;
      failures = failures_after answer f.failures;
    }))

abbrev pub ReceivesThroughFuse : {W : Type 0} → (W → Result (Option ℕ) WireError → List ℕ → W → Type 0) → FuseView W
    → Result (Option ℕ) WireError → List ℕ → FuseView W → Type 0
ReceivesThroughFuse receive f answer buffer after =
    MatchBool (is_blown f.fuse)
    (IsErr answer × (after ≡ record f { fuse = after_call f.fuse; failures = failures_after answer f.failures }))
    (receive f.wire answer buffer after.wire × (after ≡ record f {
      wire = after.wire;
      fuse = after_call f.fuse;
      failures = failures_after answer f.failures;
    }))
