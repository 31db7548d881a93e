-- What contracts see of a disk whose calls fail on purpose, and the effect of its calls.
use Rattle.std.specs.Prelude.{◌≡◌, ℕ, MatchBool, List, Result, IsErr}
use Rattle.tora_life.specs.declared.disk.DiskError.{DiskError}
use Rattle.tora_life.specs.declared.fuse.Fuse.{Fuse}
use Rattle.tora_life.specs.Disk.{failures_after}
use Rattle.tora_life.specs.Fuse.{is_blown, after_call}

pub record FuseView (D : Type 0) : Type 0 where
  pub disk : D
  pub fuse : Fuse
  pub failures : ℕ

-- a call that fails on purpose makes no call of the inner disk, any other makes that call; failed calls are counted
abbrev pub GoesThroughFuse : {D T : Type 0} → (Result T DiskError → D → Type 0) → FuseView D → Result T DiskError
    → FuseView D → Type 0
GoesThroughFuse call f answer after =
    MatchBool (is_blown f.fuse)
    (IsErr answer × (after ≡ record f { fuse = after_call f.fuse; failures = failures_after answer f.failures }))
    (call answer after.disk × (after ≡ record f {
      disk = after.disk;
      fuse = after_call f.fuse;
      failures = failures_after answer f.failures;
    }))

-- a read that fails on purpose leaves the buffer unchanged
abbrev pub ReadsThroughFuse : {D : Type 0} → (D → ℕ → List ℕ → Result ℕ DiskError → List ℕ → D → Type 0) → FuseView D
    → ℕ → List ℕ → Result ℕ DiskError → List ℕ → FuseView D → Type 0
ReadsThroughFuse read f at old answer new after =
    MatchBool (is_blown f.fuse)
    (IsErr answer × (new ≡ old) × (after ≡ record f {
      fuse = after_call f.fuse;
      failures = failures_after answer f.failures;
    }))
    (read f.disk at old answer new after.disk × (after ≡ record f {
      disk = after.disk;
      fuse = after_call f.fuse;
      failures = failures_after answer f.failures;
    }))
