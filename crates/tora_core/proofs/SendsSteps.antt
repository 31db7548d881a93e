-- Steps of a loop that collects the results of some elements.
use Rattle.std.proofs.Common.{◌≡◌, ◌∙◌, ℕ, ◌+◌, ◌<◌, ◌≤◌, List, [], ◌∷◌, ◌++◌, map, take, drop, length, get_or, Option, Some, None, arith}
use Rattle.std.specs.Prelude.{filter_map}
use Rattle.std.specs.List.{cons_option}
use Rattle.std.proofs.lemmas.Grind.{common_steps}
use Rattle.std.proofs.lemmas.List.{append-nil}
use Rattle.std.proofs.lemmas.List.Elements.{filter_map-append}

module _ {X Y : Type 0} (h : X → Option Y) (xs : List X) (i : ℕ) (x : X) (sends : List Y) where
  sends-None : i < length xs → x ≡ get_or xs i x → h x ≡ None → sends ≡ filter_map h (take i xs) → sends ≡ filter_map h (take (i + 1) xs)
  sends-None lt read none so = grind (arith, common_steps, filter_map-append)

  sends-Some : (y : Y) → i < length xs → x ≡ get_or xs i x → h x ≡ Some y → sends ≡ filter_map h (take i xs) → sends ++ y ∷ [] ≡ filter_map h (take (i + 1) xs)
  sends-Some y lt read some so = grind (arith, common_steps, filter_map-append)

  pub sends-next : (o : Option Y) → i < length xs → x ≡ get_or xs i x → h x ≡ o → sends ≡ filter_map h (take i xs) → sends ++ cons_option o [] ≡ filter_map h (take (i + 1) xs)
  sends-next None lt read none so = append-nil sends ∙ sends-None lt read none so
  sends-next (Some y) lt read some so = sends-Some y lt read some so

-- at most one more result
pub one-more : {Y : Type 0} (sends : List Y) (o : Option Y) (i : ℕ) → length sends ≤ i → length (sends ++ cons_option o []) ≤ i + 1
one-more sends None i le = grind (arith, common_steps)
one-more sends (Some y) i le = grind (arith, common_steps)

-- the next element of a list whose first elements were changed
pub read-on : {X : Type 0} (f : X → X) (xs ys : List X) (i : ℕ) (x : X) → i < length xs → ys ≡ map f (take i xs) ++ drop i xs → x ≡ get_or ys i x → x ≡ get_or xs i x
read-on f xs ys i x lt is read = grind (arith, common_steps)
