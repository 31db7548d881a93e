-- A storm: three nodes with links to each other send clears, queries and updates to each other in turns without end.
use Rattle.std.specs.Prelude.{◌≡◌, ℕ, false, true, List, [], ◌∷◌, ◌++◌, fold, None, Some, ℤ, pos, ◌+ℤ◌}
use Rattle.std.specs.List.{cons_option}
use Rattle.tora_height.specs.Height.{Quintuple, quintuple}
use Rattle.tora_core.specs.declared.erasure.Erasure.TheVariants.{Plain}
use Rattle.tora_core.specs.declared.Input.TheVariants as In
use Rattle.tora_core.specs.declared.rows.Row.{Row}
use Rattle.tora_core.specs.declared.destination.Broadcast.{Broadcast}
use Rattle.tora_core.specs.declared.destination.Broadcast.TheVariants as Tell
use Rattle.tora_core.specs.View.{View}
use Rattle.tora_core.specs.Rules.{Outcome, outcome_of, packet_of}

-- ---- a node in the storm

-- all heights are at the reflected level that node 1 defined at tick 1
abbrev pub storm_height : ℤ → ℕ → Quintuple
storm_height delta n = quintuple 1 1 1 delta n

abbrev pub storm_row : ℤ → ℕ → Row
storm_row delta k = record { neighbour = k; entry = Some (storm_height delta k); told = true }

-- node n is one above its neighbours j and k, and has no link to the destination 4
abbrev pub storm_view : ℤ → ℕ → ℕ → ℕ → View
storm_view delta n j k = record {
  me = n;
  destination = 4;
  height = Some (storm_height (delta +ℤ pos 1) n);
  flag = false;
  rows = storm_row delta j ∷ storm_row delta k ∷ [];
  last = 0;
  erasure = Plain;
  erased = None;
}

-- what the node has broadcast before: a clear, a query, an update
abbrev pub told_in_storm : ℤ → ℕ → List Broadcast
told_in_storm delta n = Tell.Clear 1 1 ∷ Tell.Query ∷ Tell.Update (storm_height (delta +ℤ pos 1) n) ∷ []

-- ---- a turn: the node receives the packets of both neighbours

-- a view, and what it has broadcast since the turn began
pub record Turn : Type 0 where
  pub view : View
  pub told : List Broadcast

abbrev pub turn_after : Turn → Outcome → Turn
turn_after t o = record { view = o.view; told = t.told ++ cons_option o.broadcast [] }

abbrev pub after_heard : ℕ → Turn → ℕ × Broadcast → Turn
after_heard now t heard =
    turn_after t (outcome_of t.view (In.Packet heard.0 (packet_of t.view.destination heard.1)) now)

-- the broadcasts of two neighbours, alternating
abbrev pub alternating : ℕ → ℕ → List Broadcast → List Broadcast → List (ℕ × Broadcast)
alternating j k [] ys = []
alternating j k (x ∷ xs) [] = []
alternating j k (x ∷ xs) (y ∷ ys) = (j, x) ∷ (k, y) ∷ alternating j k xs ys

abbrev pub turn_of : ℕ → ℤ → ℕ → ℕ → ℕ → Turn
turn_of now delta n j k = fold (after_heard now) (record { view = storm_view delta n j k; told = [] })
    (alternating j k (told_in_storm delta j) (told_in_storm delta k))

-- after the turn node n is one higher, and has broadcast exactly the inputs of its neighbours' next turn
abbrev pub GoesOn : ℕ → ℤ → ℕ → ℕ → ℕ → Type 0
GoesOn now delta n j k = turn_of now delta n j k ≡ record {
  view = storm_view (delta +ℤ pos 1) n j k;
  told = told_in_storm (delta +ℤ pos 1) n;
}
