-- Receives of a waking wire: of a datagram that had come before, or after a wait.
use Rattle.std.proofs.Common.{◌≡◌, true, false, refl, Bool, List, ℕ, Option, Result}
use Rattle.std.specs.Prelude.{MatchBool}
use Rattle.std.specs.declared.io.Error.{Error}
use Rattle.std.specs.declared.net.SocketAddr.{SocketAddr}
use Rattle.tora_neighbour.specs.declared.wire.WireError.{WireError}
use Rattle.tora_neighbour.specs.WakingWire.{WireView, Takes, Waits, ReceivesFrom}

when_true : (X Y : Type 0) (b : Bool) → b ≡ true → X → MatchBool b X Y
when_true X Y true e x = x
when_true X Y false e x = absurd cc

when_false : (X Y : Type 0) (b : Bool) → b ≡ false → Y → MatchBool b X Y
when_false X Y true e y = absurd cc
when_false X Y false e y = y

module _ {S : Type 0} (receive : S → List ℕ → Result (ℕ × SocketAddr) Error → List ℕ → S → Type 0) (wait : S → Result Bool Error → S → Type 0) where
  pub took : (wire : WireView S) (answer : Result (Option ℕ) WireError) (new : List ℕ) (after : WireView S) → wire.has_more ≡ true → Takes receive wire answer new after → after.has_more ≡ true → ReceivesFrom receive wait wire answer new after
  took wire answer new after more takes still = when_true _ _ wire.has_more more (answer, new, after, takes, when_true _ _ after.has_more still (refl, refl, refl))

  pub took_and_waited : (wire : WireView S) (first answer : Result (Option ℕ) WireError) (bytes new : List ℕ) (between after : WireView S) → wire.has_more ≡ true → Takes receive wire first bytes between → between.has_more ≡ false
      → Waits receive wait between answer new after → ReceivesFrom receive wait wire answer new after
  took_and_waited wire first answer bytes new between after more takes none waits = when_true _ _ wire.has_more more (first, bytes, between, takes, when_false _ _ between.has_more none waits)

  pub waited : (wire : WireView S) (answer : Result (Option ℕ) WireError) (new : List ℕ) (after : WireView S) → wire.has_more ≡ false → Waits receive wait wire answer new after → ReceivesFrom receive wait wire answer new after
  waited wire answer new after none waits = when_false _ _ wire.has_more none waits
