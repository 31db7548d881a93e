-- Pairs of nodes between which nothing is delivered.
use Rattle.std.specs.Prelude.{ℕ, ◌==◌, ◌&&◌, ◌||◌, Bool, List}
use Rattle.std.specs.List.{list_any}

-- two pairs name the same two nodes, in either order
abbrev pub is_same_pair : ℕ × ℕ → ℕ × ℕ → Bool
is_same_pair p q = ((p.0 == q.0) && (p.1 == q.1)) || ((p.0 == q.1) && (p.1 == q.0))

abbrev pub is_parted : List (ℕ × ℕ) → ℕ → ℕ → Bool
is_parted parted a b = list_any (is_same_pair (a, b)) parted
