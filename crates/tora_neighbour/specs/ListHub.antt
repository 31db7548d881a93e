-- What contracts see of a hub over lists, and the effect of its calls.
use Rattle.std.specs.Prelude.{◌≡◌, ◌⊎◌, ℕ, ◌<◌, ◌≤◌, Bool, true, false, List, [], ◌∷◌, ◌++◌, length, Option, Some, None}
use Rattle.std.specs.Prelude.{Result, Ok, Err}
use Rattle.tora_seat.specs.declared.cargo.Cargo.{Cargo}
use Rattle.tora_seat.specs.declared.what.What.{What}
use Rattle.tora_lane.specs.declared.ports.Gone.{Gone}
use Rattle.tora_neighbour.specs.declared.hub.Put.{Put}
use Rattle.tora_neighbour.specs.Puts.{put_of}

pub record ListHubView : Type 0 where
  pub puts : List Put
  pub room : ℕ
  pub takes : List Cargo
  pub cargoes : List Cargo  -- those not taken yet
  pub gone : Bool

-- an item is stored if there is room and no earlier put returned `Gone`; otherwise the put returns `Gone`
abbrev pub PutsInList : ListHubView → ℕ → What → Result (Unit {0}) Gone → ListHubView → Type 0
PutsInList h now what (Ok done) after = (h.gone ≡ false) × (length h.puts < h.room)
    × (after ≡ record h { puts = h.puts ++ put_of now what ∷ [] })
PutsInList h now what (Err gone) after = ((h.gone ≡ true) ⊎ (h.room ≤ length h.puts))
    × (after ≡ record h { gone = true })

-- the first outbound message is taken; none only if all were taken
abbrev pub TakesFromList : ListHubView → Option Cargo → ListHubView → Type 0
TakesFromList h (Some cargo) after = (h.cargoes ≡ cargo ∷ after.cargoes)
    × (after ≡ record h { takes = h.takes ++ cargo ∷ []; cargoes = after.cargoes })
TakesFromList h None after = (h.cargoes ≡ []) × (after ≡ h)
