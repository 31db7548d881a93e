-- The views of the table of a core; each view has the neighbours for which it has a place.
use Rattle.std.specs.Prelude.{◌≡◌, ℕ, List, map}
use Rattle.std.specs.List.{AllByRecursion}
use Rattle.tora_core.specs.declared.erasure.Erasure.{Erasure}
use Rattle.tora_core.specs.declared.Input.{Input}
use Rattle.tora_core.specs.View.{View, first_view_of}
use Rattle.tora_core.specs.CoreRun.{next_view}

pub record TableView : Type 0 where
  pub view : View
  pub neighbours : List ℕ  -- all neighbours of the node, by ascending number

abbrev pub views_in : List TableView → List View
views_in table = map (λ t. t.view) table

abbrev pub first_in : List ℕ → Erasure → ℕ → ℕ → TableView
first_in neighbours erasure me destination = record {
  view = first_view_of erasure me destination;
  neighbours = neighbours;
}

abbrev pub next_in : Input → ℕ → TableView → TableView
next_in input now t = record t { view = next_view input now t.view }

-- each view has a place for each of these neighbours
abbrev pub HavePlaces : List ℕ → List TableView → Type 0
HavePlaces neighbours table = AllByRecursion (λ (t : TableView). t.neighbours ≡ neighbours) table
